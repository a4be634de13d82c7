-- What a call that makes a process asks of the machine, and what is so after its entry.
use Rattle.std.proofs.Common.{◌≡◌, ◌≢◌, inr, ℕ, ◌<◌, nat_lt, Bool, true, false, List, [], ◌∷◌, ◌++◌, length, map, Option, Some, None, refl, sym, ap, ◌∙◌, subst}
use Rattle.std.specs.Prelude.{Result, Ok, Err, IfOk, OnOk, IfErr, is_ok}
use Rattle.std.proofs.lemmas.Bool.{ltb-true}
use Rattle.std.proofs.lemmas.List.{append-nil}
use Rattle.vm_facts.specs.declared.regs.Regs.{Regs}
use Rattle.vm_facts.specs.declared.entry.Entry.{Entry}
use Rattle.vm_facts.specs.declared.stop.Stop.{Stop}
use Rattle.aout_image.specs.declared.Image.{Image}
use Rattle.swap_book.specs.declared.Owner.TheVariants as owners
use Rattle.swap_book.specs.Owners.{u_pieces}
use Rattle.swap_book.specs.Holdings.{Holdings, lengths}
use Rattle.swap_book.specs.Placing.{Wanted, wanted, more_pieces, place_all}
use Rattle.flat_state.specs.declared.change.Change.{Change}
use Rattle.flat_state.specs.declared.change.Change.TheVariants.{Keep, Lend}
use Rattle.flat_model.specs.declared.calls.Reply.TheVariants.{Fails}
use Rattle.flat_model.specs.declared.calls.SystemCall.{SystemCall}
use Rattle.flat_model.specs.declared.calls.SystemCall.TheVariants.{Vfork}
use Rattle.flat_model.specs.Calls.{no_memory, replied, replied_both}
use Rattle.flat_model.specs.Step.{call_entry}
use Rattle.page_model.specs.Pages.{numbered}
use Rattle.page_model.specs.Ownership.{u_blocks}
use Rattle.kernel_model.specs.Kernel.{Life, New, HoldsSpace, Proc, Kernel}
use Rattle.kernel_model.specs.Sound.{Sound, lives_in, lives}
use Rattle.kernel_model.specs.Numbers.{Numbered}
use Rattle.kernel_model.specs.ChangeStep.{with_proc, child_proc, life_of_proc, change_if, change_step, pass_step}
use Rattle.kernel_model.specs.Asks.{asked}
use Rattle.kernel_model.specs.Unit.{proc_of}
use Rattle.machine_state.proofs.Numbered.{has_number, absent_none, below_absent, pushed_new, pushed_found}
use Rattle.machine_state.proofs.KernelLawsMachineProcesses.{with_at, with_not}
use Rattle.machine_state.specs.Want.{Want}
use Rattle.machine_state.specs.Wants.{wanted_of, found_for, fits_for}
use Rattle.machine_state.specs.Calls.{life_in}
use Rattle.machine_state.specs.Machine.{Standing, processes_of}
use Rattle.machine_state.specs.Alike.{AreRecords}
use Rattle.machine_state.specs.Going.{CanGoOn}
use Rattle.machine_state.specs.Applying.{CanApply, MayAct, facts_named}
use Rattle.machine_state.specs.Conditions.{KeepsFlat}
use Rattle.machine_state.specs.Performing.{IsAtBound, StopsForRoom}
use Rattle.machine_state.specs.UserMemory.{CanLend}
use Rattle.machine_state.proofs.Lives.{pid_of}
use Rattle.proc_table.specs.declared.process.Proc.{Proc as Record}
use Rattle.machine_state.proofs.FirstPieces.{all_more}
use Rattle.vfork_pass.specs.Passed.{IsHolder, HasLent}
use Rattle.fault_fill.specs.Growth.{with_pieces}
use Rattle.proc_calls.specs.Callers.{IsCaller}
use Rattle.proc_calls.specs.declared.replying.Called.{Called}
use Rattle.proc_calls.specs.Answered.{Answered, Replied}
use Rattle.proc_calls.specs.Making.{is_below_limit, finds_pieces, without_pieces, HasChild, MakesChildBy, MakesChild, HasLentSpace, Vforked, StopsMaking}
use Rattle.proc_calls.proofs.Callers.{caller_lives, sound_now}
use Rattle.proc_calls.proofs.Crowded.{crowd}
use Rattle.proc_calls.proofs.Stopping.{stops_before}

-- There are as many processes as records.

pub below_limit : (k : Kernel) (ps : List Record) → k.processes ≡ processes_of ps k.next_pid → AreRecords ps k.next_pid
    → nat_lt (length ps) 64 ≡ is_below_limit k
below_limit k ps e h = ap (λ (n : ℕ). nat_lt n 64) (sym (crowd ps k.next_pid h.table.apart h.known) ∙ sym (ap (λ (qs : List Proc). length qs) e))

-- The next process has no number yet, and no pieces.

pub no_child : (k : Kernel) → Numbered k → proc_of k k.next_pid ≡ None
no_child k n = absent_none (λ (p : Proc). p.pid) k.next_pid k.processes (below_absent k.next_pid (map (λ (p : Proc). p.pid) k.processes) n.pids_below)

pub no_u_page : (size : ℕ) (k : Kernel) (hs : Holdings) → Sound size (record k { holdings = hs }) → Numbered k → lengths (owners.U k.next_pid) hs ≡ []
no_u_page size k hs s n = s.owner.blocks.u_held k.next_pid ∙ ap (λ (b : Bool). u_pieces (u_blocks b)) (ap lives_in (no_child k n))

abbrev pub u_want : ℕ → Want
u_want child = record { owner = owners.U child; blocks = 2 }

pub u_asked : (hs : Holdings) (child : ℕ) → lengths (owners.U child) hs ≡ [] → wanted_of hs (u_want child ∷ []) ≡ wanted (owners.U child) (u_pieces 2)
u_asked hs child e = append-nil (more_pieces hs (owners.U child) 2) ∙ all_more hs (owners.U child) 2 e

-- The entry.

pub can_vfork : (m : Standing) (pid : ℕ) (call : SystemCall) (regs : Regs) (hs : Holdings) → IsCaller m pid → length m.kernel.processes < 64
    → place_all m.params.swap_blocks m.kernel.holdings (wanted (owners.U m.kernel.next_pid) (u_pieces 2)) ≡ Ok hs
    → CanApply (with_pieces m hs) pid (call_entry pid call regs) (Lend m.kernel.next_pid)
can_vfork m pid call regs hs c few e = record {
  clear = c.clear;
  ready = record { alive = caller_lives m.kernel pid c.lends; next = refl; reaps = tt; space = tt };
  acts = subst (λ (l : Life). MayAct l (Lend m.kernel.next_pid)) (sym c.lends.holds) tt;
  resident = c.lends.resident;
  returned = λ t. absurd (let z : false ≡ true = t in cc);
  entry = (refl, tt);
  whole = tt;
  few = λ t. few;
  found = ap (λ (h : Holdings). place_all m.params.swap_blocks h (wanted (owners.U m.kernel.next_pid) (u_pieces 2))) c.ready.whole ∙ e;
}

-- After the entry the process holds its space, and the child is there and has none.

module _ (images : List Image) (k : Kernel) (pid : ℕ) (regs : Regs) (e : Entry) where
  abbrev next : ℕ
  next = k.next_pid

  abbrev pub behind : Kernel
  behind = change_step images k pid regs e (Lend next)

  abbrev with_child : Proc → List Proc
  with_child p = with_proc k.processes (record p { regs = regs }) ++ child_proc (record p { regs = regs }) next New ∷ []

  come : (p : Proc) → proc_of k pid ≡ Some p → behind.processes ≡ with_child p
  come p f = ap (λ (o : Option Proc). (change_if images k regs e (Lend next) o).processes) f

  its_number : (p : Proc) → proc_of k pid ≡ Some p → p.pid ≡ pid
  its_number p f = has_number pid_of pid k.processes p f

  parent_there : (p : Proc) → proc_of k pid ≡ Some p → proc_of behind pid ≡ Some (record p { regs = regs })
  parent_there p f =
      let there : numbered pid_of p.pid k.processes ≡ Some p = ap (λ (n : ℕ). numbered pid_of n k.processes) (its_number p f) ∙ f in
      ap (λ (ps : List Proc). numbered pid_of pid ps) (come p f)
      ∙ pushed_found pid_of pid (with_proc k.processes (record p { regs = regs })) (child_proc (record p { regs = regs }) next New) (record p { regs = regs })
      (ap (λ (n : ℕ). numbered pid_of n (with_proc k.processes (record p { regs = regs }))) (sym (its_number p f)) ∙ with_at k.processes (record p { regs = regs }) p there)

  child_there : (p : Proc) → proc_of k pid ≡ Some p → proc_of k next ≡ None → proc_of behind next ≡ Some (child_proc (record p { regs = regs }) next New)
  child_there p f none =
      let other : next ≢ p.pid = λ i. absurd (let z : Some p ≡ None = sym f ∙ ap (proc_of k) (sym (i ∙ its_number p f)) ∙ none in cc) in
      ap (λ (ps : List Proc). numbered pid_of next ps) (come p f)
      ∙ pushed_new pid_of next (with_proc k.processes (record p { regs = regs })) (child_proc (record p { regs = regs }) next New)
      (with_not k.processes (record p { regs = regs }) next other ∙ none) refl

  pub record IsBehind : Type 0 where
    pub holds : IsHolder (life_in behind pid)
    pub there : lives behind.processes next ≡ true
    pub fresh : life_in behind next ≡ New

  behind_by : (sid : ℕ) (o : Option Proc) → proc_of k pid ≡ o → life_of_proc o ≡ HoldsSpace sid → proc_of k next ≡ None → IsBehind
  behind_by sid None f h none = absurd cc
  behind_by sid (Some p) f h none = record {
    holds = subst IsHolder (sym (ap life_of_proc (parent_there p f) ∙ h)) tt;
    there = ap lives_in (child_there p f none);
    fresh = ap life_of_proc (child_there p f none);
  }

pub is_behind : (k : Kernel) (images : List Image) (pid : ℕ) (regs : Regs) (e : Entry) → CanLend k pid → Numbered k → IsBehind images k pid regs e
is_behind k images pid regs e c n = behind_by images k pid regs e c.sid (proc_of k pid) refl c.holds (no_child k n)

-- so it is of a machine whose pieces were found before
pub behind_found : (m asked new : Standing) (pid : ℕ) (regs : Regs) (e : Entry) (hs : Holdings) → asked ≡ with_pieces m hs → IsCaller m pid
    → (child : ℕ) → child ≡ m.kernel.next_pid → new.kernel ≡ change_step (facts_named asked.images) asked.kernel pid regs e (Lend child)
    → IsHolder (life_in new.kernel pid) × (lives new.kernel.processes child ≡ true) × (life_in new.kernel child ≡ New)
behind_found m asked new pid regs e hs is c child named step =
    let b : IsBehind (facts_named m.images) m.kernel pid regs e = is_behind m.kernel (facts_named m.images) pid regs e c.lends c.ready.running.numbered in
    let k : Kernel = change_step (facts_named m.images) (with_pieces m hs).kernel pid regs e (Lend m.kernel.next_pid) in
    let same : new.kernel ≡ k = step ∙ ap (λ (i : ℕ). change_step (facts_named asked.images) asked.kernel pid regs e (Lend i)) named
    ∙ ap (λ (s : Standing). change_step (facts_named s.images) s.kernel pid regs e (Lend m.kernel.next_pid)) is in
    let list : k.processes ≡ (behind (facts_named m.images) m.kernel pid regs e).processes = same_processes m.kernel (facts_named m.images) pid regs e hs in
    let all : new.kernel.processes ≡ (behind (facts_named m.images) m.kernel pid regs e).processes = ap (λ (x : Kernel). x.processes) same ∙ list in (
      subst (λ (ps : List Proc). IsHolder (life_of_proc (numbered pid_of pid ps))) (sym all) b.holds,
      ap (lives new.kernel.processes) named ∙ ap (λ (ps : List Proc). lives ps m.kernel.next_pid) all ∙ b.there,
      ap (life_in new.kernel) named ∙ ap (λ (ps : List Proc). life_of_proc (numbered pid_of m.kernel.next_pid ps)) all ∙ b.fresh,
    )
  where
    by : (k : Kernel) (images : List Image) (regs : Regs) (e : Entry) (hs : Holdings) (o : Option Proc)
        → (change_if images (record k { holdings = hs }) regs e (Lend k.next_pid) o).processes ≡ (change_if images k regs e (Lend k.next_pid) o).processes
    by k images regs e hs None = refl
    by k images regs e hs (Some p) = refl

    same_processes : (k : Kernel) (images : List Image) (pid : ℕ) (regs : Regs) (e : Entry) (hs : Holdings)
        → (change_step images (record k { holdings = hs }) pid regs e (Lend k.next_pid)).processes ≡ (change_step images k pid regs e (Lend k.next_pid)).processes
    same_processes k images pid regs e hs = by k images regs e hs (numbered (λ (p : Proc). p.pid) pid k.processes)

-- What is found for the u page.

-- the pieces that are looked for are those that the change asks for
pub u_pieces_asked : (m : Standing) (pid : ℕ) → CanGoOn m
    → wanted_of m.kernel.holdings (u_want m.kernel.next_pid ∷ []) ≡ asked (facts_named m.images) m.kernel pid (Lend m.kernel.next_pid)
u_pieces_asked m pid on =
    u_asked m.kernel.holdings m.kernel.next_pid (no_u_page m.params.swap_blocks m.kernel m.kernel.holdings (sound_now m on) on.running.numbered)

-- so they are where the number of the child was told
pub vfork_asks : (m : Standing) (pid child : ℕ) (w : Want) → w ≡ u_want child → child ≡ m.kernel.next_pid → CanGoOn m
    → wanted_of m.kernel.holdings (w ∷ []) ≡ asked (facts_named m.images) m.kernel pid (Lend child)
vfork_asks m pid child w wants named on =
    ap (λ (x : Want). wanted_of m.kernel.holdings (x ∷ [])) (wants ∙ ap u_want named) ∙ u_pieces_asked m pid on
    ∙ ap (λ (i : ℕ). asked (facts_named m.images) m.kernel pid (Lend i)) (sym named)

-- What an answer of `ask` says of the pieces that a change asks for.

pub asked_found : (m : Standing) (pid : ℕ) (change : Change) (ws : List Want) (hs : Holdings)
    → wanted_of m.kernel.holdings ws ≡ asked (facts_named m.images) m.kernel pid change
    → found_for m.params.swap_blocks m.kernel.holdings ws ≡ Ok hs
    → place_all m.params.swap_blocks m.kernel.holdings (asked (facts_named m.images) m.kernel pid change) ≡ Ok hs
asked_found m pid change ws hs asks e = ap (λ (xs : List Wanted). place_all m.params.swap_blocks m.kernel.holdings xs) (sym asks) ∙ e

pub asked_fits : (m : Standing) (pid : ℕ) (change : Change) (ws : List Want) (fits : Bool)
    → wanted_of m.kernel.holdings ws ≡ asked (facts_named m.images) m.kernel pid change
    → fits ≡ fits_for m.params.swap_blocks m.kernel.holdings ws → finds_pieces m pid change ≡ fits
asked_fits m pid change ws fits asks e = ap (λ (xs : List Wanted). is_ok (place_all m.params.swap_blocks m.kernel.holdings xs)) (sym asks) ∙ sym e

-- The call.

module _ (old new : Standing) (pid : ℕ) (call : SystemCall) (regs : Regs) (change : Change) (Then : Type 0) where
  abbrev made_as : Bool → Bool → Type 0
  made_as fewer finds = MakesChildBy fewer finds old new pid call regs Then

  pub no_place : (between : Standing) → between ≡ without_pieces old pid → KeepsFlat old.kernel between.kernel → is_below_limit old.kernel ≡ true → finds_pieces old pid change ≡ false
      → Answered between new pid call (replied regs true no_memory) Keep → MakesChild old new pid call regs change Then
  no_place between is keeps few none answer =
      subst (λ (b : Bool). made_as b (finds_pieces old pid change)) (sym few)
      (subst (made_as true) (sym none) (record {
        keeps = subst (λ (s : Standing). KeepsFlat old.kernel s.kernel) is keeps;
        answer = subst (λ (s : Standing). Answered s new pid call (replied regs true no_memory) Keep) is answer;
      }))

  pub goes_on : is_below_limit old.kernel ≡ true → finds_pieces old pid change ≡ true → Then → MakesChild old new pid call regs change Then
  goes_on few finds then = subst (λ (b : Bool). made_as b (finds_pieces old pid change)) (sym few) (subst (made_as true) (sym finds) then)

pub has_child : (old asks new : Standing) (pid child : ℕ) (call : SystemCall) (regs after : Regs) (change : Change) (hs : Holdings) → asks ≡ with_pieces old hs
    → after ≡ replied_both regs child 0 → place_all old.params.swap_blocks old.kernel.holdings (asked (facts_named old.images) old.kernel pid change) ≡ Ok hs
    → Answered asks new pid call after change → HasChild old new pid call regs child change
has_child old asks new pid child call regs after change hs is reply found answer = record {
  found = hs;
  pieces = found;
  answer = subst (λ (s : Standing). Answered s new pid call (replied_both regs child 0) change) is (subst (λ (x : Regs). Answered asks new pid call x change) reply answer);
}

abbrev lends_as : Standing → Standing → ℕ → Regs → ℕ → Type 0
lends_as old new pid regs child = MakesChild old new pid Vfork regs (Lend child) (HasLentSpace old new pid regs child)

pub refused_ok : (r : Result Called Stop) (old between new : Standing) (pid child : ℕ) (regs : Regs) → between ≡ without_pieces old pid
    → KeepsFlat old.kernel between.kernel
    → child ≡ old.kernel.next_pid → is_below_limit old.kernel ≡ true → finds_pieces old pid (Lend child) ≡ false
    → IfOk r (Replied between new pid Vfork regs (Fails no_memory)) → OnOk r (Vforked old new pid regs)
refused_ok (Ok called) old between new pid child regs is keeps named few none h =
    subst (lends_as old new pid regs) named
    (no_place old new pid Vfork regs (Lend child) (HasLentSpace old new pid regs child) between is keeps few none h.1)
refused_ok (Err stop) old between new pid child regs is keeps named few none h = tt

-- the run stops after the entry that says so
pub stops_refused : (r : Result Called Stop) (old between new : Standing) (pid child : ℕ) (change : ℕ → Change) → between ≡ without_pieces old pid
    → child ≡ old.kernel.next_pid
    → is_below_limit old.kernel ≡ true → finds_pieces old pid (change child) ≡ false → between.before ≡ between.kernel.holdings
    → StopsForRoom (IsAtBound between) r between new → IfErr r (StopsMaking old new pid (change old.kernel.next_pid))
stops_refused (Ok called) old between new pid child change is named few none whole s = tt
stops_refused (Err stop) old between new pid child change is named few none whole s =
    record {
      reached = between;
      far = inr (record { below = few; none = subst (λ (n : ℕ). finds_pieces old pid (change n) ≡ false) named none; refused = is });
      stops = stops_before {A = Called} between new stop whole s.stop s.cause s.full.0;
    }

pub lent_ok : (old between new : Standing) (pid child : ℕ) (regs : Regs) → child ≡ old.kernel.next_pid → is_below_limit old.kernel ≡ true
    → HasChild old between pid Vfork regs child (Lend child) → new ≡ record between { kernel = pass_step between.kernel pid child }
    → HasLent between.kernel new.kernel pid child → Vforked old new pid regs
lent_ok old between new pid child regs named few made passed lent =
    subst (lends_as old new pid regs) named
    (goes_on old new pid Vfork regs (Lend child) (HasLentSpace old new pid regs child) few (ap (λ (r : Result Holdings ℕ). is_ok r) made.pieces)
    (record { between = between; made = made; passed = passed; lent = lent }))

pub may_apply : (m asks : Standing) (pid child : ℕ) (call : SystemCall) (regs : Regs) (hs : Holdings) → asks ≡ with_pieces m hs → child ≡ m.kernel.next_pid
    → is_below_limit m.kernel ≡ true → IsCaller m pid
    → place_all m.params.swap_blocks m.kernel.holdings (asked (facts_named m.images) m.kernel pid (Lend child)) ≡ Ok hs
    → CanApply asks pid (call_entry pid call regs) (Lend child)
may_apply m asks pid child call regs hs is named few c found =
    subst (λ (n : ℕ). CanApply asks pid (call_entry pid call regs) (Lend n)) (sym named)
    (subst (λ (s : Standing). CanApply s pid (call_entry pid call regs) (Lend m.kernel.next_pid)) (sym is)
    (can_vfork m pid call regs hs c (ltb-true (length m.kernel.processes) 64 few)
    (ap (λ (n : ℕ). place_all m.params.swap_blocks m.kernel.holdings (asked (facts_named m.images) m.kernel pid (Lend n))) (sym named) ∙ found)))
