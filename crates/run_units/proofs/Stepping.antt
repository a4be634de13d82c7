-- The steps of processes, as a machine makes them, are units of a run.
use Rattle.std.proofs.Common.{◌≡◌, ℕ, ◌*◌, ◌/◌, ◌%◌, Bool, true, false, List, [], ◌∷◌, length, Option, Some, None, Result, Ok, Err, refl, sym, ap, ◌∙◌, subst}
use Rattle.vm_facts.specs.SwapImages.{SwapImage}
use Rattle.vm_facts.specs.Answers.{ByteWrite}
use Rattle.vm_facts.specs.declared.entry.Entry.{Entry}
use Rattle.vm_facts.specs.declared.entry.Entry.TheVariants as entries
use Rattle.vm_facts.specs.declared.regs.Regs.{Regs}
use Rattle.vm_facts.specs.declared.page.Page.{Page}
use Rattle.vm_facts.specs.declared.page.Page.TheVariants as pages
use Rattle.vm_facts.specs.declared.page.PageState.{PageState}
use Rattle.vm_facts.specs.declared.page.PageState.TheVariants.{Unfilled, Valid, Invalid, Coming, Going, OnSwap}
use Rattle.swap_book.specs.Holdings.{Holdings}
use Rattle.swap_book.specs.Placing.{Wanted, place_all}
use Rattle.flat_state.specs.declared.spot.Spot.{Spot}
use Rattle.flat_state.specs.declared.spot.Spot.TheVariants as spots
use Rattle.flat_state.specs.Space.{Space, address_in, spot_at, answers_of, puts}
use Rattle.flat_state.specs.Flat.{Holding, Holds, Lends, Zombie, Process, FlatState, NamedImage, Inputs, process_of}
use Rattle.flat_state.specs.Change.{is_borrower}
use Rattle.flat_state.specs.declared.change.Change.{Change}
use Rattle.flat_state.specs.declared.change.Change.TheVariants as changes
use Rattle.page_model.specs.Pages.{numbered}
use Rattle.page_model.specs.Placement.{Placement, space_number, image_of, slots_of, state_of}
use Rattle.page_model.specs.Place.{facts_of, space_of_holding, data_count, stack_count}
use Rattle.page_model.specs.Swapper.{is_out}
use Rattle.page_model.specs.Moves.{touch}
use Rattle.kernel_model.specs.Kernel.{Kernel, Proc, write_step, write_by_state}
use Rattle.kernel_model.specs.Coupled.{Fits, KeepsRegs}
use Rattle.kernel_model.specs.ChangeStep.{ran_by, change_step, pass_step}
use Rattle.kernel_model.specs.Asks.{asked}
use Rattle.kernel_model.specs.Unit.{has_lender, passing_change, proc_of}
use Rattle.economy_laws.proofs.Borrowed.{borrows_is}
use Rattle.economy_laws.proofs.Swaps.{found_at}
use Rattle.economy_laws.proofs.Shapes.{Shaped, touch_shaped, sizes_kept, image_kept}
use Rattle.fault_fill.specs.UserMemory.{bytes_of, text_len, data_len, stack_len, spot_in, write_page, write_spot, write_in, writes_in}
use Rattle.user_vax.specs.Program.{run}
use Rattle.user_vax.specs.Effects.{Effect}
use Rattle.user_vax.specs.declared.refused.Refused.{Refused}
use Rattle.user_vax.specs.declared.refused.Refused.TheVariants.{Below}
use Rattle.flat_model.specs.Instruction.{instruction_in}
use Rattle.flat_model.specs.declared.calls.Reply.{Reply}
use Rattle.flat_model.specs.declared.calls.SystemCall.{SystemCall}
use Rattle.flat_model.specs.Calls.{or_fault, refused_reply, stack_pages_of}
use Rattle.flat_model.specs.Step.{Step, data_pages_of, pages_down_to, grown_step, reply_asked, replied_step, called_step, step_behind, step_of, step_holding, step_if, flat_step}
use Rattle.flat_model.specs.Run.{step_at, is_refused}
use Rattle.economy_laws.specs.Shown.{IsCallOf}
use Rattle.flat_model.specs.Asked.{or_before, with_pieces, wanted_if, wanted_in, change_wanted}
use Rattle.flat_model.specs.Touched.{page_tested}
use Rattle.economy_laws.proofs.FlatLawsAsking.{own_space, data_counted, stack_counted, change_same}
use Rattle.run_model.specs.State.{State}
use Rattle.economy_laws.specs.Machine.{place_in, frame_written as write_tested, write_byte, write_bytes, write_held, process_written, takes_step, written_step, taken_step, process_step, ran_step, unit_step, Completes}
use Rattle.io_edge.specs.FileHolding.{NamedFile}
use Rattle.aout_image.specs.declared.Image.{Image}
use Rattle.aout_image.specs.Image.{Loaded, loaded}
use Rattle.fault_fill.specs.Sourced.{ImageNamed}
use Rattle.fault_fill.specs.Files.{AreLoaded, AreImages}
use Rattle.fault_fill.specs.Applying.{facts_named}
use Rattle.fault_fill.specs.Made.{Ground}
use Rattle.run_units.specs.Leads.{HasImages, MadeAs}
use Rattle.run_units.specs.Serving.{At}
use Rattle.run_units.specs.Touching.{RunsInSpace, IsReadyFor, IsCalledFor}
use Rattle.run_units.specs.Stepping.{with_holdings, PassesNone, GivesBack, returned, growth_to}
use Rattle.run_units.proofs.Touching.{SameSpots}
use Rattle.run_units.proofs.Instructing.{same_spots}

-- A step with a change.

none_held : (k : Kernel) (h : Holding) → write_held k h [] ≡ k
none_held k (Holds x) = refl
none_held k (Lends sid child) = refl
none_held k (Zombie status) = refl

none_written : (k : Kernel) (o : Option Process) → process_written k o [] ≡ k
none_written k None = refl
none_written k (Some p) = none_held k p.holding

unwritten : (A : Inputs) (s : State) (k : Kernel) (pid : ℕ) (step : Step) → step_at A s.point pid ≡ step → step.writes ≡ [] → written_step A s k pid ≡ k
unwritten A s k pid step e w =
    ap (λ (x : Step). process_written k (process_of s.point.flat pid) x.writes) e ∙ ap (process_written k (process_of s.point.flat pid)) w ∙ none_written k (process_of s.point.flat pid)

module _ (A : Inputs) (s : State) (k : Kernel) (image : SwapImage) (pid : ℕ) where
  pub wanted_is : (now : Bool) (p : Process) (x : Space) (change : Change) → At A s k image → RunsInSpace A s pid now p x
      → wanted_if A.images s.point.flat change (process_of s.point.flat pid) ≡ asked (facts_of A.images) k pid change
  wanted_is now p x change at r =
      let keeps = at.stands.keeps in
      ap (wanted_if A.images s.point.flat change) r.here ∙ ap (wanted_in A.images s.point.flat change) r.holds
      ∙ sym (change_same A.images k s.point.flat pid p x change at.fit keeps.stands.texts keeps.numbered at.run.numbers keeps.coupled.tables r.here r.holds)

  taken : (now : Bool) (p : Process) (x : Space) (step : Step) (found : Holdings) → At A s k image → RunsInSpace A s pid now p x → step_at A s.point pid ≡ step
      → step.writes ≡ [] → place_all A.swap_blocks k.holdings (asked (facts_of A.images) k pid step.change) ≡ Ok found
      → taken_step A s k pid ≡ with_holdings k found
  taken now p x step found at r e w f =
      ap (λ (l : Kernel). takes_step A l (wanted_if A.images s.point.flat (step_at A s.point pid).change (process_of s.point.flat pid))) (unwritten A s k pid step e w)
      ∙ ap (λ (z : Step). takes_step A k (wanted_if A.images s.point.flat z.change (process_of s.point.flat pid))) e
      ∙ ap (takes_step A k) (wanted_is now p x step.change at r)
      ∙ ap (λ (o : Result Holdings ℕ). with_holdings k (or_before k.holdings o)) f

  made_is : (u : Entry) → Completes pid u → unit_step A s k image.bytes [] u ≡ process_step A s k pid u
  made_is (entries.Grew q pages) c = ap (λ (n : ℕ). process_step A s k n (entries.Grew q pages)) c
  made_is (entries.Call q number carry r0 r1) c = ap (λ (n : ℕ). process_step A s k n (entries.Call q number carry r0 r1)) c
  made_is (entries.Sleeps q) c = ap (λ (n : ℕ). process_step A s k n (entries.Sleeps q)) c
  made_is (entries.Ended q status) c = ap (λ (n : ℕ). process_step A s k n (entries.Ended q status)) c
  made_is _ c = absurd c

by_unit : (A : Inputs) (s : State) (k l : Kernel) (image : SwapImage) (pid : ℕ) (u : Entry) → Completes pid u → l ≡ unit_step A s k image.bytes [] u
    → MadeAs A s k image u l (Some image)
by_unit A s k l image pid (entries.Grew q pages) c e = record { read = []; given = tt; made = e; told = refl }
by_unit A s k l image pid (entries.Call q number carry r0 r1) c e = record { read = []; given = tt; made = e; told = refl }
by_unit A s k l image pid (entries.Sleeps q) c e = record { read = []; given = tt; made = e; told = refl }
by_unit A s k l image pid (entries.Ended q status) c e = record { read = []; given = tt; made = e; told = refl }
by_unit A s k l image pid _ c e = absurd c

pub step_made : (A : Inputs) (s : State) (k l : Kernel) (image : SwapImage) (pid : ℕ) (now : Bool) (p : Process) (x : Space) (u : Entry)
    (step : Step) (found : Holdings)
    → At A s k image → RunsInSpace A s pid now p x → Completes pid u → step_at A s.point pid ≡ step → step.writes ≡ []
    → place_all A.swap_blocks k.holdings (asked (facts_of A.images) k pid step.change) ≡ Ok found
    → l ≡ passing_change (has_lender k.processes pid) (facts_of A.images) (with_holdings k found) pid step.regs u step.change
    → MadeAs A s k image u l (Some image)
step_made A s k l image pid now p x u step found at r c e w f m =
    let facts = facts_of A.images in
    let lends : is_borrower s.point.flat.processes pid ≡ has_lender k.processes pid = sym (borrows_is k s.point.flat pid at.stands.keeps.coupled.tables) in
    let whole : process_step A s k pid u ≡ passing_change (has_lender k.processes pid) facts (with_holdings k found) pid step.regs u step.change =
    ap (λ (z : Step). passing_change (is_borrower s.point.flat.processes pid) facts (taken_step A s k pid) pid z.regs u z.change) e
    ∙ ap (λ (b : Bool). passing_change b facts (taken_step A s k pid) pid step.regs u step.change) lends
    ∙ ap (λ (y : Kernel). passing_change (has_lender k.processes pid) facts y pid step.regs u step.change) (taken A s k image pid now p x step found at r e w f) in
    by_unit A s k l image pid u c (m ∙ sym whole ∙ sym (made_is A s k image pid u c))

-- An instruction.

-- a written byte leaves how many pages there are
spots_on : (k : Kernel) (x : Space) (q : Page) (f at byte : ℕ) → SameSpots k x → SameSpots (write_step k q f at byte) x
spots_on k x q f at byte e =
    let shape : Shaped k.place (touch k.place q) = touch_shaped k.place q in
    let size : (w : Page) → bytes_of (touch k.place q) w ≡ bytes_of k.place w = λ w. ap (λ (n : ℕ). 1024 * n) (sizes_kept k.place (touch k.place q) shape w) in
    let image : image_of (touch k.place q) x.sid ≡ image_of k.place x.sid = image_kept k.place (touch k.place q) shape x.sid in
    record {
      image = image ∙ e.image;
      spots = λ a.
          ap (λ (n : ℕ). spot_at (bytes_of (touch k.place q) (pages.Text n 0)) (data_len (touch k.place q) x.sid) (stack_len (touch k.place q) x.sid) a) image
          ∙ ap (λ (n : ℕ). spot_at n (data_len (touch k.place q) x.sid) (stack_len (touch k.place q) x.sid) a) (size (pages.Text (image_of k.place x.sid) 0))
          ∙ ap (λ (n : ℕ). spot_at (text_len k.place x.sid) n (stack_len (touch k.place q) x.sid) a) (size (pages.Data x.sid 0))
          ∙ ap (λ (n : ℕ). spot_at (text_len k.place x.sid) (data_len k.place x.sid) n a) (size (pages.Stack x.sid 0)) ∙ e.spots a;
    }

page_spots : (k : Kernel) (x : Space) (q : Page) (s : PageState) (at byte : ℕ) → SameSpots k x → SameSpots (write_by_state k q s at byte) x
page_spots k x q (Valid f) at byte e = spots_on k x q f at byte e
page_spots k x q Unfilled at byte e = e
page_spots k x q (Invalid f) at byte e = e
page_spots k x q (Coming f) at byte e = e
page_spots k x q (Going f) at byte e = e
page_spots k x q OnSwap at byte e = e

written_spots : (k : Kernel) (x : Space) (spot : Spot) (byte : ℕ) → SameSpots k x → SameSpots (write_spot k x.sid spot byte) x
written_spots k x (spots.Text i) byte e = e
written_spots k x (spots.Data i) byte e = page_spots k x (pages.Data x.sid (i / 1024)) (state_of k.place (pages.Data x.sid (i / 1024))) (i % 1024) byte e
written_spots k x (spots.Stack i) byte e = page_spots k x (pages.Stack x.sid (i / 1024)) (state_of k.place (pages.Stack x.sid (i / 1024))) (i % 1024) byte e
written_spots k x spots.Below byte e = e
written_spots k x spots.Outside byte e = e

same_spot : (k : Kernel) (x : Space) (spot : Spot) (byte : ℕ) → write_spot k x.sid spot byte ≡ write_tested k (page_tested x spot) (place_in spot) byte
same_spot k x (spots.Text i) byte = refl
same_spot k x (spots.Data i) byte = refl
same_spot k x (spots.Stack i) byte = refl
same_spot k x spots.Below byte = refl
same_spot k x spots.Outside byte = refl

same_write : (k : Kernel) (x : Space) (w : ByteWrite) → SameSpots k x → write_in k x.sid w ≡ write_byte k x w
same_write k x w e = ap (λ (spot : Spot). write_spot k x.sid spot w.byte) (e.spots w.address) ∙ same_spot k x (address_in x w.address) w.byte

pub same_writes : (ws : List ByteWrite) (k : Kernel) (x : Space) → SameSpots k x → writes_in k x.sid ws ≡ write_bytes k x ws
same_writes [] k x e = refl
same_writes (w ∷ ws) k x e =
    same_writes ws (write_in k x.sid w) x (written_spots k x (spot_in k.place x.sid w.address) w.byte e) ∙ ap (λ (y : Kernel). write_bytes y x ws) (same_write k x w e)

pub ran_made : (A : Inputs) (s : State) (k l : Kernel) (image : SwapImage) (pid : ℕ) (now : Bool) (p : Process) (x : Space) (step : Step)
    → At A s k image → RunsInSpace A s pid now p x
    → step_at A s.point pid ≡ step → l ≡ ran_by (writes_in k x.sid step.writes) pid step.regs (entries.Ran pid 1)
    → MadeAs A s k image (entries.Ran pid 1) l (Some image)
ran_made A s k l image pid now p x step at r e m =
    let written : written_step A s k pid ≡ writes_in k x.sid step.writes =
    ap (λ (z : Step). process_written k (process_of s.point.flat pid) z.writes) e ∙ ap (λ (o : Option Process). process_written k o step.writes) r.here
    ∙ ap (λ (h : Holding). write_held k h step.writes) r.holds ∙ sym (same_writes step.writes k x (same_spots A s k image pid p x at r.here r.holds)) in
    let whole : ran_step A s k pid 1 ≡ ran_by (writes_in k x.sid step.writes) pid step.regs (entries.Ran pid 1) =
    ap (λ (z : Step). ran_by (written_step A s k pid) pid z.regs (entries.Ran pid 1)) e ∙ ap (λ (y : Kernel). ran_by y pid step.regs (entries.Ran pid 1)) written in
    record { read = []; given = tt; made = m ∙ sym whole; told = refl }

-- The step that comes.

held : (A : Inputs) (s : State) (pid : ℕ) (p : Process) (x : Space) (r : Result Effect Refused) → process_of s.point.flat pid ≡ Some p
    → p.holding ≡ Holds x → instruction_in x p.regs ≡ r
    → step_at A s.point pid ≡ step_of A.images s.point.flat p x (is_refused s.point.last pid) r
unfolding flat_step
held A s pid p x r here holds same =
    let refused : Bool = is_refused s.point.last pid in
    ap (step_if A.images s.point.flat refused) here ∙ ap (step_holding A.images s.point.flat p refused) holds ∙ ap (step_of A.images s.point.flat p x refused) same

pub step_known : (A : Inputs) (s : State) (pid : ℕ) (now : Bool) (p : Process) (x : Space) (r : Result Effect Refused) → RunsInSpace A s pid now p x
    → IsReadyFor A s p x r
    → step_at A s.point pid ≡ step_of A.images s.point.flat p x (is_refused s.point.last pid) r
step_known A s pid now p x r i h = held A s pid p x r i.here i.holds h.same

pub call_known : (A : Inputs) (s : State) (pid : ℕ) (now : Bool) (p : Process) (x : Space) (effect : Effect) (call : SystemCall) (r : Result Reply Refused)
    → RunsInSpace A s pid now p x
    → IsCallOf effect call → IsCalledFor A s p x call effect r
    → step_at A s.point pid ≡ replied_step A.images s.point.flat p call effect (refused_reply (is_refused s.point.last pid) (or_fault r))
call_known A s pid now p x effect call r i c h =
    let F : FlatState = s.point.flat in
    let refused : Bool = is_refused s.point.last pid in
    held A s pid p x (Ok effect) i.here i.holds h.same ∙ ap (step_behind A.images F p x refused effect) c.is_number ∙ ap (called_step A.images F p x refused effect) c.names
    ∙ ap (λ (ws : List ByteWrite). replied_step A.images F p call effect (refused_reply refused (or_fault (run (answers_of (puts x ws)) (reply_asked A.images F p x call effect))))) h.writes
    ∙ ap (λ (z : Result Reply Refused). replied_step A.images F p call effect (refused_reply refused (or_fault z))) h.replies

pub record_registers : (A : Inputs) (s : State) (k : Kernel) (image : SwapImage) (pid : ℕ) (now : Bool) (p : Process) (x : Space) (kept : Proc) → At A s k image
    → RunsInSpace A s pid now p x → proc_of k pid ≡ Some kept → kept.regs ≡ p.regs
record_registers A s k image pid now p x kept at i e =
    let number : p.pid ≡ pid = (found_at s.point.flat pid p i.here).0 in
    let resident : is_out k.place p.pid ≡ false = ap (is_out k.place) number ∙ ap (λ (y : Placement). is_out y pid) at.stands.place ∙ i.runs.resident in
    let regs = at.stands.keeps.coupled.regs p kept (ap (process_of s.point.flat) number ∙ i.here) (ap (proc_of k) number ∙ e) in
    subst (λ (b : Bool). KeepsRegs k image.bytes b p kept.regs (space_of_holding p.holding)) resident regs

-- A change with which no space passes.

plain_change : (b : Bool) (images : List Image) (k : Kernel) (pid : ℕ) (regs : Regs) (e : Entry) (change : Change) → PassesNone change
    → change_step images k pid regs e change ≡ passing_change b images k pid regs e change
plain_change true images k pid regs e changes.Keep h = refl
plain_change false images k pid regs e changes.Keep h = refl
plain_change true images k pid regs e (changes.Resize d t) h = refl
plain_change false images k pid regs e (changes.Resize d t) h = refl
plain_change true images k pid regs e (changes.Fork child) h = refl
plain_change false images k pid regs e (changes.Fork child) h = refl
plain_change true images k pid regs e (changes.Reap child) h = refl
plain_change false images k pid regs e (changes.Reap child) h = refl
plain_change true images k pid regs e changes.Sleep h = refl
plain_change false images k pid regs e changes.Sleep h = refl
plain_change b images k pid regs e _ h = absurd h

pub plain_made : (A : Inputs) (s : State) (k l : Kernel) (image : SwapImage) (pid : ℕ) (now : Bool) (p : Process) (x : Space) (u : Entry)
    (step : Step) (found : Holdings)
    → At A s k image → RunsInSpace A s pid now p x → Completes pid u → step_at A s.point pid ≡ step → step.writes ≡ [] → PassesNone step.change
    → place_all A.swap_blocks k.holdings (asked (facts_of A.images) k pid step.change) ≡ Ok found
    → l ≡ change_step (facts_of A.images) (with_holdings k found) pid step.regs u step.change → MadeAs A s k image u l (Some image)
plain_made A s k l image pid now p x u step found at r c e w n f m =
    step_made A s k l image pid now p x u step found at r c e w f
    (m ∙ plain_change (has_lender k.processes pid) (facts_of A.images) (with_holdings k found) pid step.regs u step.change n)

-- A change before which a borrowed space goes back.

back_change : (b : Bool) (images : List Image) (k : Kernel) (found : Holdings) (pid : ℕ) (regs : Regs) (e : Entry) (change : Change) → GivesBack change
    → change_step images (with_holdings (returned b k pid) found) pid regs e change ≡ passing_change b images (with_holdings k found) pid regs e change
back_change true images k found pid regs e (changes.Exec number top) h = refl
back_change false images k found pid regs e (changes.Exec number top) h = refl
back_change true images k found pid regs e (changes.End status) h = refl
back_change false images k found pid regs e (changes.End status) h = refl
back_change b images k found pid regs e _ h = absurd h

pub returning_made : (A : Inputs) (s : State) (k l : Kernel) (image : SwapImage) (pid : ℕ) (now : Bool) (p : Process) (x : Space) (u : Entry)
    (step : Step) (found : Holdings)
    → At A s k image → RunsInSpace A s pid now p x → Completes pid u → step_at A s.point pid ≡ step → step.writes ≡ [] → GivesBack step.change
    → place_all A.swap_blocks k.holdings (asked (facts_of A.images) k pid step.change) ≡ Ok found
    → l ≡ change_step (facts_of A.images) (with_holdings (returned (has_lender k.processes pid) k pid) found) pid step.regs u step.change
    → MadeAs A s k image u l (Some image)
returning_made A s k l image pid now p x u step found at r c e w n f m =
    step_made A s k l image pid now p x u step found at r c e w f
    (m ∙ back_change (has_lender k.processes pid) (facts_of A.images) k found pid step.regs u step.change n)

-- A change behind which a space is lent.

lent_change : (b : Bool) (images : List Image) (k : Kernel) (pid : ℕ) (regs : Regs) (e : Entry) (child : ℕ)
    → pass_step (change_step images k pid regs e (changes.Lend child)) pid child ≡ passing_change b images k pid regs e (changes.Lend child)
lent_change true images k pid regs e child = refl
lent_change false images k pid regs e child = refl

pub lending_made : (A : Inputs) (s : State) (k l : Kernel) (image : SwapImage) (pid : ℕ) (now : Bool) (p : Process) (x : Space) (u : Entry) (step : Step)
    (found : Holdings) (child : ℕ)
    → At A s k image → RunsInSpace A s pid now p x → Completes pid u → step_at A s.point pid ≡ step → step.writes ≡ [] → step.change ≡ changes.Lend child
    → place_all A.swap_blocks k.holdings (asked (facts_of A.images) k pid step.change) ≡ Ok found
    → l ≡ pass_step (change_step (facts_of A.images) (with_holdings k found) pid step.regs u (changes.Lend child)) pid child
    → MadeAs A s k image u l (Some image)
lending_made A s k l image pid now p x u step found child at r c e w n f m =
    step_made A s k l image pid now p x u step found at r c e w f
    (m ∙ lent_change (has_lender k.processes pid) (facts_of A.images) (with_holdings k found) pid step.regs u child
    ∙ ap (passing_change (has_lender k.processes pid) (facts_of A.images) (with_holdings k found) pid step.regs u) (sym n))

pub none_asked : (size : ℕ) (k : Kernel) → (place_all size k.holdings [] ≡ Ok k.holdings) × (with_holdings k k.holdings ≡ k)
unfolding place_all
none_asked size k = (refl, refl)

loaded_facts : (ns : List ImageNamed) (files : List NamedFile) (images : List NamedImage) → AreLoaded ns files images → facts_named ns ≡ facts_of images
unfolding loaded
loaded_facts [] files [] h = refl
loaded_facts [] files (y ∷ ys) h = absurd h
loaded_facts (n ∷ ns) files [] h = absurd h
loaded_facts (n ∷ ns) files (y ∷ ys) h =
    ap (λ (fs : List Image). n.facts ∷ fs) (loaded_facts ns files ys h.1) ∙ ap (λ (z : Loaded). z.facts ∷ facts_of ys) (sym h.0)

pub headers_agree : (A : Inputs) (g : Ground) → HasImages g A → facts_named g.from.images ≡ facts_of A.images
headers_agree A g h = go g.from.files A.images h.0
  where
    go : (o : Option (List NamedFile)) (images : List NamedImage) → AreImages g.from.images o images → facts_named g.from.images ≡ facts_of images
    go None images x = absurd x
    go (Some files) images x = loaded_facts g.from.images files images x

pub growth_counts : (A : Inputs) (s : State) (k : Kernel) (image : SwapImage) (pid : ℕ) (now : Bool) (p : Process) (x : Space) → At A s k image
    → RunsInSpace A s pid now p x
    → (data_count k.place x.sid ≡ data_pages_of x) × (stack_count k.place x.sid ≡ stack_pages_of x)
growth_counts A s k image pid now p x at r =
    let own = own_space s.point.flat pid p x at.run.numbers r.here r.holds in
    let fits : Fits (Some x) (numbered space_number x.sid k.place.spaces) =
    subst (λ (o : Option Space). Fits o (numbered space_number x.sid k.place.spaces)) own (at.stands.keeps.coupled.tables.spaces x.sid) in
    (data_counted x (numbered space_number x.sid k.place.spaces) fits, stack_counted x (numbered space_number x.sid k.place.spaces) fits)

pub growth_made : (A : Inputs) (s : State) (k l : Kernel) (image : SwapImage) (pid : ℕ) (now : Bool) (p : Process) (x : Space) (address : ℕ)
    (kept : Proc) (found : Holdings)
    → At A s k image → RunsInSpace A s pid now p x → IsReadyFor A s p x (Err (Below address)) → is_refused s.point.last pid ≡ false → proc_of k pid ≡ Some kept
    → place_all A.swap_blocks k.holdings (asked (facts_of A.images) k pid (growth_to k x address)) ≡ Ok found
    → l ≡ change_step (facts_of A.images) (with_holdings k found) pid kept.regs (entries.Grew pid (pages_down_to address)) (growth_to k x address)
    → MadeAs A s k image (entries.Grew pid (pages_down_to address)) l (Some image)
growth_made A s k l image pid now p x address kept found at r ready unrefused there f m =
    let u : Entry = entries.Grew pid (pages_down_to address) in
    let step : Step = grown_step A.images s.point.flat p x address in
    let is : step_at A s.point pid ≡ step =
    step_known A s pid now p x (Err (Below address)) r ready ∙ ap (λ (b : Bool). step_of A.images s.point.flat p x b (Err (Below address))) unrefused in
    let same : growth_to k x address ≡ step.change =
    ap (λ (n : ℕ). let c : Change = changes.Resize n (pages_down_to address) in c) (growth_counts A s k image pid now p x at r).0 in
    let regs : kept.regs ≡ p.regs = record_registers A s k image pid now p x kept at r there in
    plain_made A s k l image pid now p x u step found at r refl is refl tt
    (subst (λ (c : Change). place_all A.swap_blocks k.holdings (asked (facts_of A.images) k pid c) ≡ Ok found) same f)
    (m ∙ ap (λ (g : Regs). change_step (facts_of A.images) (with_holdings k found) pid g u (growth_to k x address)) regs
    ∙ ap (change_step (facts_of A.images) (with_holdings k found) pid p.regs u) same)
