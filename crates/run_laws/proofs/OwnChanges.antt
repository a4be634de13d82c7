-- A change of a process that holds its own space, or doesn't give it up, leaves what stands.
use Rattle.std.proofs.Common.{◌≡◌, ◌≢◌, ℕ, Bool, true, false, List, [], length, Option, Some, None, Ok, refl, sym, ap, ◌∙◌, subst}
use Rattle.flat_state.specs.Space.{Space}
use Rattle.flat_state.specs.Flat.{Holds, Process, FlatState, Inputs, process_of}
use Rattle.vm_facts.specs.declared.regs.Regs.{Regs}
use Rattle.vm_facts.specs.declared.entry.Entry.{Entry}
use Rattle.swap_book.specs.Holdings.{Holdings}
use Rattle.swap_book.specs.Placing.{place_all}
use Rattle.flat_state.specs.declared.change.Change.{Change}
use Rattle.flat_state.specs.declared.change.Change.TheVariants.{Keep, Resize, Fork, Lend, Exec, Reap, Sleep, End}
use Rattle.flat_state.specs.Change.{apply_change, NamesChild, is_borrower}
use Rattle.flat_state.specs.Journal.{append}
use Rattle.page_model.specs.Pages.{SpacePages, numbered}
use Rattle.page_model.specs.Placement.{Placement, space_number, image_of, sharers}
use Rattle.page_model.specs.Place.{Changing, place_change, facts_of}
use Rattle.page_model.specs.Dues.{DueStand}
use Rattle.page_model.specs.Conditions.{HaveParts, CanChange, ApartFrom}
use Rattle.page_model.specs.Swapper.{is_out}
use Rattle.page_model.specs.Ownership.{OneOwner}
use Rattle.kernel_model.specs.Kernel.{Kernel, Life, HoldsSpace}
use Rattle.kernel_model.specs.Coupled.{Fits, SameTables}
use Rattle.kernel_model.specs.Sound.{Sound, lives}
use Rattle.kernel_model.specs.ChangeStep.{change_step, holdings_after, space_of_life, gave_back, life_of_proc}
use Rattle.kernel_model.specs.Asks.{asked}
use Rattle.kernel_model.specs.Numbers.{Numbered, SettlesFor, ReadyFor}
use Rattle.kernel_model.specs.Start.{ImageFits, ImagesFit}
use Rattle.flat_state.specs.Numbers.{IsNumbered}
use Rattle.kernel_model.specs.Stands.{Stands}
use Rattle.kernel_laws.proofs.Sound.Steps.{pass_sound}
use Rattle.kernel_laws.proofs.Sound.NumbersApart.{flat_numbered, pass_numbered}
use Rattle.kernel_laws.proofs.Sound.Allowed.{ready_sound, may_change}
use Rattle.kernel_laws.proofs.Machine.Ready.{coupled_ready}
use Rattle.kernel_laws.proofs.Sound.Changes.{Unhanded, change_unhanded}
use Rattle.page_laws.proofs.Ends.Hands.{SameHands}
use Rattle.page_laws.proofs.Due.Changes.{change_due}
use Rattle.kernel_laws.proofs.Machine.Forks.{fit_image, next_new}
use Rattle.kernel_laws.proofs.Machine.Processes.{changing_with, Stepping, stepping, by_life, step_is}
use Rattle.kernel_laws.proofs.Machine.Through.{keep_tables, sleep_tables, reap_tables, resize_tables, fork_tables, lend_tables, exec_tables, end_tables}
use Rattle.kernel_laws.proofs.Stands.Changes.{keep_stands, sleep_stands, reap_stands, resize_stands, fork_stands, lend_stands, exec_stands, end_stands}
use Rattle.flat_laws.proofs.Asking.{own_space, shared_same, no_sharers, some_sharers, change_same}
use Rattle.flat_model.specs.Asked.{is_shared, given_up, change_wanted}
use Rattle.kernel_laws.proofs.Kept.Changes.{takes_next, may_reap, lend_lives, enters_own, ends_own}
use Rattle.run_laws.specs.Standing.{machine_of, EachOnce, Placed, Own}
use Rattle.kernel_model.specs.Invariant.{EntersImage}
use Rattle.kernel_model.specs.Unit.{passing_change}
use Rattle.run_laws.proofs.Bridge.{from_machine}
use Rattle.run_laws.proofs.Changes.{given_same, change_once}

-- Who keeps a space does with it what the owner does.

pub keeps_place : (c : Changing) (p : Placement) (change : Change) → Own c.borrowed change
    → place_change (record c { borrowed = false }) p change ≡ place_change c p change
keeps_place c p (Exec image top) o = ap (λ (b : Bool). place_change (record c { borrowed = b }) p (Exec image top)) (sym (enters_own c.borrowed image top o))
keeps_place c p (End status) o = ap (λ (b : Bool). place_change (record c { borrowed = b }) p (End status)) (sym (ends_own c.borrowed status o))
keeps_place c p _ o = refl

pub keeps_holdings : (c : Changing) (hs : Holdings) (p q : Placement) (change : Change) → Own c.borrowed change
    → holdings_after c hs p q change ≡ holdings_after (record c { borrowed = false }) hs p q change
keeps_holdings c hs p q (Exec image top) o = ap (λ (b : Bool). holdings_after (record c { borrowed = b }) hs p q (Exec image top)) (enters_own c.borrowed image top o)
keeps_holdings c hs p q (End status) o = ap (λ (b : Bool). holdings_after (record c { borrowed = b }) hs p q (End status)) (ends_own c.borrowed status o)
keeps_holdings c hs p q _ o = refl

-- Tables, and what stands beside them.
pub record Told (A : Inputs) (l : Kernel) (after : FlatState) : Type 0 where
  pub tables : SameTables l after
  pub stands : Stands A.images l after

pub own_told : (A : Inputs) (k : Kernel) (flat : FlatState) (pid : ℕ) (regs : Regs) (e : Entry) (q : Process) (s : Space) (b : Bool) (change : Change)
    → ImagesFit A.images → IsNumbered flat
    → process_of flat pid ≡ Some q → q.holding ≡ Holds s → is_borrower flat.processes pid ≡ b → Own b change
    → is_out k.place pid ≡ false → k.place.due ≡ [] → NamesChild flat change → EntersImage A.images change → SameTables k flat → Stands A.images k flat
    → Told A (passing_change false (facts_of A.images) k pid regs e change) (apply_change A.images flat pid regs change)
own_told A k flat pid regs e q s b Keep fit nums f h w o out due m x t st =
    record { tables = keep_tables k A.images flat pid regs e q s nums f h t; stands = keep_stands A.images k flat pid regs e q s t f h out st }
own_told A k flat pid regs e q s b (Resize d r) fit nums f h w o out due m x t st =
    record { tables = resize_tables k A.images flat pid regs e d r q s nums f h t; stands = resize_stands A.images k flat pid regs e d r q s t f h out st }
own_told A k flat pid regs e q s b (Fork child) fit nums f h w o out due m x t st =
    subst (λ (c : ℕ). Told A (passing_change false (facts_of A.images) k pid regs e (Fork c)) (apply_change A.images flat pid regs (Fork c))) (sym m)
    (record { tables = fork_tables k A.images flat pid regs e q s nums f h t; stands = fork_stands A.images k flat pid regs e q s t due f h out st })
own_told A k flat pid regs e q s b (Lend child) fit nums f h w o out due m x t st =
    subst (λ (c : ℕ). Told A (passing_change false (facts_of A.images) k pid regs e (Lend c)) (apply_change A.images flat pid regs (Lend c))) (sym m)
    (record { tables = lend_tables k A.images flat pid regs e q s nums f h t; stands = lend_stands A.images k flat pid regs e q s t f h out st })
own_told A k flat pid regs e q s b (Exec number top) fit nums f h w o out due m (named, im, whole) t st =
    let i : ImageFits named = fit number named im in
    record {
      tables = exec_tables k A.images flat pid regs e number top named q s nums f h (w ∙ enters_own b number top o) im i.«data» whole t;
      stands = exec_stands A.images k flat pid regs e number top named q s t due f h out im st;
    }
own_told A k flat pid regs e q s b (Reap child) fit nums f h w o out due (z, status, fz, hz) x t st =
    record { tables = reap_tables k A.images flat pid regs e child status q z s nums f h fz hz t; stands = reap_stands A.images k flat pid regs e child status q z s t f h out fz hz st }
own_told A k flat pid regs e q s b Sleep fit nums f h w o out due m x t st =
    record { tables = sleep_tables k A.images flat pid regs e q s nums f h t; stands = sleep_stands A.images k flat pid regs e q s t f h out st }
own_told A k flat pid regs e q s b (End status) fit nums f h w o out due m x t st =
    record { tables = end_tables k A.images flat pid regs e status q s nums f h (w ∙ ends_own b status o) t; stands = end_stands A.images k flat pid regs e status q s t f h st }

-- What a process asks of its machine.

-- sound and numbered after the change
pub record Kept (A : Inputs) (l : Kernel) : Type 0 where
  pub sound : Sound A.swap_blocks l
  pub numbered : Numbered l

pub own_kept : (A : Inputs) (k : Kernel) (flat : FlatState) (pid : ℕ) (regs : Regs) (e : Entry) (q : Process) (s : Space) (change : Change)
    → IsNumbered flat → process_of flat pid ≡ Some q
    → q.holding ≡ Holds s → SameTables k flat → NamesChild flat change
    → Sound A.swap_blocks (change_step (facts_of A.images) k pid regs e change) → Numbered (change_step (facts_of A.images) k pid regs e change)
    → Kept A (passing_change false (facts_of A.images) k pid regs e change)
own_kept A k flat pid regs e q s (Lend child) nums f h t m so n =
    let l = subst (λ (c : ℕ). (lives (change_step (facts_of A.images) k pid regs e (Lend c)).processes pid ≡ true) × (lives (change_step (facts_of A.images) k pid regs e (Lend c)).processes c ≡ true))
    (sym m) (lend_lives A.images k flat pid regs e q s nums f h t) in
    record {
      sound = pass_sound A.swap_blocks (change_step (facts_of A.images) k pid regs e (Lend child)) pid child l.0 l.1 so;
      numbered = pass_numbered (change_step (facts_of A.images) k pid regs e (Lend child)) pid child l.0 l.1 n;
    }
own_kept A k flat pid regs e q s _ nums f h t m so n = record { sound = so; numbered = n }

-- the placement and the holdings after it
pub record Lands (A : Inputs) (k : Kernel) (pid sid : ℕ) (e : Entry) (change : Change) (l : Kernel) : Type 0 where
  pub place : l.place ≡ place_change (changing_with (facts_of A.images) k pid sid false e) k.place change
  pub holdings : l.holdings ≡ holdings_after (changing_with (facts_of A.images) k pid sid false e) k.holdings k.place l.place change
  pub journal : l.journal ≡ append k.journal e

pub next_lands : (A : Inputs) (k : Kernel) (pid sid : ℕ) (regs : Regs) (e : Entry) (change : Change)
    → Lands A k pid sid e change (change_step (facts_of A.images) k pid regs e change)
    → Lands A k pid sid e change (passing_change false (facts_of A.images) k pid regs e change)
next_lands A k pid sid regs e (Lend child) l = record { place = l.place; holdings = l.holdings; journal = l.journal }
next_lands A k pid sid regs e _ l = l

pub own_lands : (A : Inputs) (k : Kernel) (flat : FlatState) (pid : ℕ) (regs : Regs) (e : Entry) (q : Process) (s : Space) (change : Change)
    → process_of flat pid ≡ Some q → q.holding ≡ Holds s
    → SameTables k flat → Lands A k pid s.sid e change (passing_change false (facts_of A.images) k pid regs e change)
own_lands A k flat pid regs e q s change f h t =
    let g : Stepping k flat pid q s = stepping k flat pid q s t f h in
    next_lands A k pid s.sid regs e change
    (subst (Lands A k pid s.sid e change) (sym (step_is (facts_of A.images) k pid regs e change g.proc (HoldsSpace s.sid) g.kept g.life))
    (subst (λ (n : ℕ). Lands A k n s.sid e change (by_life (facts_of A.images) k (record g.proc { regs = regs }) (HoldsSpace s.sid) e change)) g.pid_is
    (record { place = refl; holdings = refl; journal = refl })))

-- All of it.

-- what is known of a change and of the process that makes it
pub record ReadyChange (A : Inputs) (flat : FlatState) (p : Placement) (hs found : Holdings) (pid : ℕ) (q : Process) (s : Space)
    (change : Change) : Type 0 where
  pub images : ImagesFit A.images
  pub numbers : IsNumbered flat
  pub found_process : process_of flat pid ≡ Some q
  pub holds : q.holding ≡ Holds s
  pub resident : is_out p pid ≡ false
  pub clear : p.due ≡ []
  pub may : NamesChild flat change
  pub execs : EntersImage A.images change
  pub pieces : place_all A.swap_blocks hs (change_wanted A.images flat s change) ≡ Ok found

abbrev pub with_found : FlatState → Placement → Holdings → List Entry → Kernel
with_found flat p found j = record (machine_of flat p found) { journal = j }

pub fit_some : (s : Space) (o : Option SpacePages) → Fits (Some s) o → o ≡ None → ⊥
fit_some s None f e = f
fit_some s (Some x) f e = absurd cc

pub own_change : (A : Inputs) (flat : FlatState) (p : Placement) (hs found : Holdings) (pid : ℕ) (regs : Regs) (j : List Entry) (e : Entry) (q : Process)
    (s : Space) (b : Bool) (change : Change)
    → ReadyChange A flat p hs found pid q s change → is_borrower flat.processes pid ≡ b → Own b change
    → SettlesFor p s.sid change → Placed A flat p hs
    → Placed A (apply_change A.images flat pid regs change)
    (place_change (changing_with (facts_of A.images) (with_found flat p found j) pid s.sid b e) p change)
    (given_up flat (apply_change A.images flat pid regs change) pid s change found)
own_change A flat p hs found pid regs j e q s b change c w o settles st =
    let after : FlatState = apply_change A.images flat pid regs change in
    let k : Kernel = with_found flat p found j in
    let who : Changing = changing_with (facts_of A.images) k pid s.sid b e in
    let so : Sound A.swap_blocks (machine_of flat p hs) = st.sound in
    let before : Sound A.swap_blocks (record k { holdings = hs }) = record { owner = so.owner; tokens = so.tokens; hands = so.hands; few_transfers = so.few_transfers } in
    let nb : Numbered (machine_of flat p hs) = st.numbered in
    let n : Numbered k = record { spaces_differ = nb.spaces_differ; spaces_below = nb.spaces_below; pids_differ = nb.pids_differ; pids_below = nb.pids_below; residents = nb.residents } in
    let t : SameTables k flat = record { processes = tb.processes; next_pid = refl; next_sid = refl; spaces = tb.spaces } in
    let sb : Stands A.images (machine_of flat p hs) flat = st.stands in
    let stands : Stands A.images k flat = record { starts = λ x h. refl; texts = sb.texts; out = sb.out } in
    let ready : ReadyFor k pid change = coupled_ready k flat pid q s change t c.found_process c.holds (takes_next k flat change t c.may) (may_reap k flat change t c.may) settles in
    let pieces : place_all A.swap_blocks hs (asked (facts_of A.images) k pid change) ≡ Ok found =
    ap (place_all A.swap_blocks hs) (change_same A.images k flat pid q s change c.images sb.texts n c.numbers t c.found_process c.holds) ∙ c.pieces in
    let l : Kernel = passing_change false (facts_of A.images) k pid regs e change in
    let kept : Kept A l =
    own_kept A k flat pid regs e q s change c.numbers c.found_process c.holds t c.may (ready_sound A.swap_blocks (facts_of A.images) k hs pid regs e change before n ready pieces)
    (flat_numbered (facts_of A.images) k pid regs e change (takes_next k flat change t c.may) ready.alive n) in
    let told : Told A l after = own_told A k flat pid regs e q s b change c.images c.numbers c.found_process c.holds w o c.resident c.clear c.may c.execs t stands in
    let lands : Lands A k pid s.sid e change l = own_lands A k flat pid regs e q s change c.found_process c.holds t in
    let g : Stepping k flat pid q s = stepping k flat pid q s t c.found_process c.holds in
    let ow : OneOwner A.swap_blocks (lives k.processes) p hs = so.owner in
    let can : CanChange p s.sid false flat.next_sid change =
    subst (λ (x : Life). CanChange p (space_of_life x) (gave_back x) flat.next_sid change) (ap life_of_proc g.kept ∙ g.life) (may_change (facts_of A.images) k pid change ow.frames n ready).can in
    let un : Unhanded p (place_change (record who { borrowed = false }) p change) = change_unhanded (record who { borrowed = false }) p change in
    let hands : SameHands p (place_change (record who { borrowed = false }) p change) = un.hands in
    let dues : DueStand l.place = subst DueStand (sym lands.place) (change_due (record who { borrowed = false }) p change c.clear can (is_apart change)) in
    let once : EachOnce l.place.due = subst (λ (x : Placement). EachOnce x.due) (sym lands.place) (change_once (record who { borrowed = false }) p change c.clear) in
    let parts : HaveParts l.place.transfers = subst (λ (x : Placement). HaveParts x.transfers) (sym lands.place) (subst HaveParts (sym un.transfers) st.parts) in
    let frames : length l.place.holds ≡ A.frames = subst (λ (x : Placement). length x.holds ≡ A.frames) (sym lands.place) (hands.frames ∙ st.frames) in
    let numbers : IsNumbered after = Rattle.kernel_laws.proofs.Flat.Numbers.changes_numbered A.images flat pid regs change q s c.found_process c.holds c.may c.numbers in
    let shared : Rattle.flat_model.specs.Asked.is_shared after s.image
    ≡ Rattle.flat_laws.proofs.Asking.is_some_of Rattle.flat_laws.proofs.Asking.image_of_pages s.image l.place.spaces =
    shared_same l after s.image kept.numbered numbers told.tables in
    let back : given_up flat after pid s change found ≡ holdings_after (record who { borrowed = false }) found p l.place change = given_same flat after pid s change who found p l.place b w image
    (λ z. ((λ i. shared ∙ no_sharers s.image l.place.spaces (ap (sharers l.place) (sym image) ∙ i)), (λ m i. shared ∙ some_sharers s.image m l.place.spaces (ap (sharers l.place) (sym image) ∙ i))))
    ∙ keeps_holdings who found p l.place change o in
    subst (Placed A after (place_change who p change)) (sym back)
    (subst (λ (x : Placement). Placed A after x (holdings_after (record who { borrowed = false }) found p l.place change)) (lands.place ∙ keeps_place who p change o)
    (subst (Placed A after l.place) lands.holdings
    (from_machine A after l kept.sound kept.numbered told.tables told.stands dues once parts frames)))
  where
    tb : SameTables (machine_of flat p hs) flat
    tb = st.tables

    fits : Fits (Some s) (numbered space_number s.sid p.spaces)
    fits = subst (λ (x : Option Space). Fits x (numbered space_number s.sid p.spaces)) (own_space flat pid q s c.numbers c.found_process c.holds) (tb.spaces s.sid)

    apart : flat.next_sid ≢ s.sid
    apart i = fit_some s (numbered space_number s.sid p.spaces) fits (ap (λ (m : ℕ). numbered space_number m p.spaces) (sym i) ∙ next_new flat p c.numbers tb.spaces)

    is_apart : (x : Change) → ApartFrom s.sid false flat.next_sid x
    is_apart Keep = tt
    is_apart (Resize d r) = tt
    is_apart (Fork child) = tt
    is_apart (Lend child) = tt
    is_apart (Exec image top) = λ z. apart
    is_apart (Reap child) = tt
    is_apart Sleep = tt
    is_apart (End status) = tt

    image : image_of p s.sid ≡ s.image
    image = fit_image s (numbered space_number s.sid p.spaces) fits
