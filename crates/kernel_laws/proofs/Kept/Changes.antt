-- Each change of a process keeps the invariant: of one that keeps its space, or has one of its own, and of one that gives
-- the space back that it borrowed.
use Rattle.std.proofs.Common.{◌≡◌, ◌≢◌, ℕ, ◌*◌, ◌≤◌, Bool, true, false, List, [], ◌∷◌, ◌++◌, map, Option, Some, None, Ok, refl, sym, ap, ◌∙◌, subst}
use Rattle.vm_facts.specs.declared.entry.Entry.{Entry}
use Rattle.vm_facts.specs.declared.regs.Regs.{Regs}
use Rattle.swap_book.specs.Holdings.{Holdings}
use Rattle.swap_book.specs.Placing.{place_all}
use Rattle.flat_state.specs.Space.{Space}
use Rattle.flat_state.specs.Flat.{Holds, Process, FlatState, NamedImage, process_of}
use Rattle.flat_state.specs.Numbers.{IsNumbered}
use Rattle.flat_state.specs.Lenders.{IsLender}
use Rattle.flat_state.specs.Change.{apply_change, NamesChild, is_borrower}
use Rattle.flat_state.specs.declared.change.Change.{Change}
use Rattle.flat_state.specs.declared.change.Change.TheVariants.{Keep, Resize, Fork, Lend, Exec, Reap, Sleep, End}
use Rattle.page_model.specs.Pages.{numbered}
use Rattle.page_model.specs.Placement.{Placement}
use Rattle.page_model.specs.Place.{place_change, facts_of}
use Rattle.page_model.specs.Conditions.{HaveParts, CanChange, MayForget, ApartFrom}
use Rattle.page_model.specs.Dues.{DueStand}
use Rattle.page_model.specs.Ownership.{OneOwner}
use Rattle.kernel_model.specs.Kernel.{Kernel, Proc, Life, New, HoldsSpace}
use Rattle.kernel_model.specs.Coupled.{SameTables, Coupled}
use Rattle.kernel_model.specs.Sound.{Sound, lives, lives_in, has_life}
use Rattle.kernel_model.specs.Stands.{Stands}
use Rattle.kernel_model.specs.ChangeStep.{change_step, pass_step, space_of_life, gave_back, life_of_proc, with_proc, child_proc}
use Rattle.kernel_model.specs.Taken.{MayReap, MayChange}
use Rattle.kernel_model.specs.Asks.{asked, MayAsk, WantsThese}
use Rattle.kernel_model.specs.Numbers.{Numbered, TakesNext, ReadySpace, ReadyBy, ReadyFor, SettlesFor}
use Rattle.kernel_model.specs.Start.{ImageFits, ImagesFit}
use Rattle.kernel_model.specs.Unit.{KernelState, ChangeUnit, lender_among, has_lender, passing_change, with_found, kernel_after}
use Rattle.kernel_model.specs.Invariant.{WereFound, Invariant, Acts, EntersImage, MayComplete}
use Rattle.page_laws.proofs.Lists.Local.{none_some}
use Rattle.page_laws.proofs.Bytes.Others.{settled_rests}
use Rattle.page_laws.proofs.Due.Changes.{change_due}
use Rattle.kernel_laws.proofs.Flat.Numbered.{pushed_new, pushed_found}
use Rattle.kernel_laws.proofs.Flat.Lists.{pid_of}
use Rattle.kernel_laws.proofs.Flat.Numbers.{changes_numbered}
use Rattle.kernel_laws.proofs.Flat.Lenders.{changes_lent, lender_found}
use Rattle.kernel_laws.proofs.Sound.Steps.{pass_sound}
use Rattle.kernel_laws.proofs.Sound.NumbersApart.{flat_numbered, pass_numbered}
use Rattle.kernel_laws.proofs.Sound.Allowed.{ready_sound, may_change, wants_these}
use Rattle.kernel_laws.proofs.Sound.Changes.{Unhanded, change_unhanded}
use Rattle.kernel_laws.proofs.Machine.Tables.{kept_pid}
use Rattle.kernel_laws.proofs.Machine.Ready.{coupled_ready, coupled_reaps}
use Rattle.kernel_laws.proofs.Machine.Takes.{takes_coupled}
use Rattle.kernel_laws.proofs.Machine.Processes.{changing_with, Stepping, stepping, by_life, step_is, with_at, with_not}
use Rattle.kernel_laws.proofs.Machine.Forks.{fork_coupled_step, next_pid_none, kept_none}
use Rattle.kernel_laws.proofs.Machine.Still.{keep_coupled, sleep_coupled, reap_coupled}
use Rattle.kernel_laws.proofs.Machine.Breaks.{resize_coupled_step}
use Rattle.kernel_laws.proofs.Machine.Lends.{lend_coupled_step}
use Rattle.kernel_laws.proofs.Machine.Execs.{exec_coupled_step}
use Rattle.kernel_laws.proofs.Machine.Ends.{end_coupled_step}
use Rattle.kernel_laws.proofs.Machine.Returns.{passes, Borrowing, borrowing, back_kernel, back_proc, exec_back, end_back}
use Rattle.kernel_laws.proofs.Stands.Changes.{keep_stands, sleep_stands, reap_stands, resize_stands, fork_stands, lend_stands, exec_stands, exec_back_stands, end_stands, end_back_stands}
use Rattle.kernel_laws.proofs.Kept.Borrowed.{borrows_is, lender_is}

-- What is known before a change.

-- a machine with the pieces that a change takes, and its swap image, stand for a flat state; with the holdings from
-- before these were found each block has one owner
record Prepared (size : ℕ) (images : List NamedImage) (k : Kernel) (before : Holdings) (image : List ℕ) (flat : FlatState) : Type 0 where
  pub fits : ImagesFit images
  pub sound : Sound size (record k { holdings = before })
  pub numbered : Numbered k
  pub coupled : Coupled k images image flat
  pub stands : Stands images k flat
  pub numbers : IsNumbered flat
  pub clear : k.place.due ≡ []

-- what the change names is as it must be, and its pieces were found
record Names (size : ℕ) (images : List NamedImage) (k : Kernel) (before : Holdings) (flat : FlatState) (pid : ℕ) (change : Change) : Type 0 where
  pub child : NamesChild flat change
  pub enters : EntersImage images change
  pub pieces : place_all size before (asked (facts_of images) k pid change) ≡ Ok k.holdings

-- by whether the process borrowed its space: it doesn't give it back
abbrev pub KeepsSpace : Bool → Change → Type 0
KeepsSpace true (Exec image top) = ⊥
KeepsSpace true (End status) = ⊥
KeepsSpace borrowed _ = Unit {0}

-- a change by which a borrower gives its space back
abbrev pub GivesBack : Change → Type 0
GivesBack (Exec image top) = Unit {0}
GivesBack (End status) = Unit {0}
GivesBack _ = ⊥

pub enters_own : (b : Bool) (image : ℕ) (top : List ℕ) → KeepsSpace b (Exec image top) → b ≡ false
enters_own true image top o = absurd o
enters_own false image top o = refl

pub ends_own : (b : Bool) (status : ℕ) → KeepsSpace b (End status) → b ≡ false
ends_own true status o = absurd o
ends_own false status o = refl

settles : (p : Placement) (sid : ℕ) (b : Bool) (change : Change) → KeepsSpace b change → ReadySpace p sid b change → SettlesFor p sid change
settles p sid b (Resize d s) o r = r.1
settles p sid b (Exec image top) o r = (r (enters_own b image top o)).1
settles p sid b (End status) o r = (r (ends_own b status o)).1
settles p sid b _ o r = tt

pub takes_next : (k : Kernel) (flat : FlatState) (change : Change) → SameTables k flat → NamesChild flat change → TakesNext k change
takes_next k flat (Fork child) t m = m ∙ sym t.next_pid
takes_next k flat (Lend child) t m = m ∙ sym t.next_pid
takes_next k flat _ t m = tt

pub may_reap : (k : Kernel) (flat : FlatState) (change : Change) → SameTables k flat → NamesChild flat change → MayReap k.processes change
may_reap k flat Keep t m = tt
may_reap k flat (Resize d s) t m = tt
may_reap k flat (Fork child) t m = tt
may_reap k flat (Lend child) t m = tt
may_reap k flat (Exec image top) t m = tt
may_reap k flat (Reap child) t (z, status, fz, hz) = coupled_reaps k flat child status z t fz hz
may_reap k flat Sleep t m = tt
may_reap k flat (End status) t m = tt

-- a new space isn't the one that goes
apart_from : (p : Placement) (ps : List Proc) (sid : ℕ) (b : Bool) (next : ℕ) (change : Change) → MayAsk p ps sid b next change → ApartFrom sid b next change
apart_from p ps sid b next (Exec image top) m = m
apart_from p ps sid b next _ m = tt

none_found : (size : ℕ) (hs found : Holdings) → place_all size hs [] ≡ Ok found → hs ≡ found
unfolding place_all
none_found size hs found e =
    let go : (let x : Rattle.std.proofs.Common.Result Holdings ℕ = Ok hs in x) ≡ Ok found → hs ≡ found = λ e. cc in
    go e

-- What is due, and each transfer's pages.

-- where a change lands in the placement
record LandsAt (images : List NamedImage) (k : Kernel) (pid sid : ℕ) (b : Bool) (e : Entry) (change : Change) (l : Kernel) : Type 0 where
  pub place : l.place ≡ place_change (changing_with (facts_of images) k pid sid b e) k.place change

record Rests (p : Placement) : Type 0 where
  pub dues : DueStand p
  pub parts : HaveParts p.transfers

rests : (images : List NamedImage) (k l : Kernel) (pid sid : ℕ) (b : Bool) (e : Entry) (change : Change) → LandsAt images k pid sid b e change l
    → k.place.due ≡ [] → HaveParts k.place.transfers
    → CanChange k.place sid b k.next_sid change → ApartFrom sid b k.next_sid change → Rests l.place
rests images k l pid sid b e change at clear parts can apart = subst Rests (sym at.place) (
    let u : Unhanded k.place (place_change (changing_with (facts_of images) k pid sid b e) k.place change) = change_unhanded (changing_with (facts_of images) k pid sid b e) k.place change in
    record {
      dues = change_due (changing_with (facts_of images) k pid sid b e) k.place change clear can apart;
      parts = subst HaveParts (sym u.transfers) parts;
    })

-- Who keeps its space, or has one of its own.

own_stands : (images : List NamedImage) (k : Kernel) (flat : FlatState) (pid : ℕ) (regs : Regs) (e : Entry) (q : Process) (s : Space) (change : Change)
    → Acts k flat pid q s → k.place.due ≡ []
    → NamesChild flat change → EntersImage images change → SameTables k flat → Stands images k flat
    → Stands images (passing_change false (facts_of images) k pid regs e change) (apply_change images flat pid regs change)
own_stands images k flat pid regs e q s Keep a due m x t st = keep_stands images k flat pid regs e q s t a.here a.holds a.resident st
own_stands images k flat pid regs e q s (Resize d r) a due m x t st = resize_stands images k flat pid regs e d r q s t a.here a.holds a.resident st
own_stands images k flat pid regs e q s (Fork child) a due m x t st =
    subst (λ (c : ℕ). Stands images (passing_change false (facts_of images) k pid regs e (Fork c)) (apply_change images flat pid regs (Fork c))) (sym m)
    (fork_stands images k flat pid regs e q s t due a.here a.holds a.resident st)
own_stands images k flat pid regs e q s (Lend child) a due m x t st =
    subst (λ (c : ℕ). Stands images (passing_change false (facts_of images) k pid regs e (Lend c)) (apply_change images flat pid regs (Lend c))) (sym m)
    (lend_stands images k flat pid regs e q s t a.here a.holds a.resident st)
own_stands images k flat pid regs e q s (Exec number top) a due m (named, im, whole) t st = exec_stands images k flat pid regs e number top named q s t due a.here a.holds a.resident im st
own_stands images k flat pid regs e q s (Reap child) a due (z, status, fz, hz) x t st = reap_stands images k flat pid regs e child status q z s t a.here a.holds a.resident fz hz st
own_stands images k flat pid regs e q s Sleep a due m x t st = sleep_stands images k flat pid regs e q s t a.here a.holds a.resident st
own_stands images k flat pid regs e q s (End status) a due m x t st = end_stands images k flat pid regs e status q s t a.here a.holds st

own_coupled : (size : ℕ) (images : List NamedImage) (k : Kernel) (before : Holdings) (image : List ℕ) (flat : FlatState) (pid : ℕ) (regs : Regs) (e : Entry)
    (q : Process) (s : Space) (b : Bool) (change : Change)
    → is_borrower flat.processes pid ≡ b → KeepsSpace b change
    → Prepared size images k before image flat → Names size images k before flat pid change → Acts k flat pid q s → SettlesFor k.place s.sid change
    → MayForget (facts_of images) k.place s.sid false k.next_sid change
    → Coupled (passing_change false (facts_of images) k pid regs e change) images image (apply_change images flat pid regs change)
own_coupled size images k before image flat pid regs e q s b Keep w o x n a z y = keep_coupled k images image flat pid regs e q s x.numbers a.here a.holds a.resident x.coupled
own_coupled size images k before image flat pid regs e q s b (Resize d r) w o x n a z y = let st : Stands images k flat = x.stands in
    resize_coupled_step k images image flat pid regs e d r q s x.numbers st.out x.clear a.here a.holds a.resident x.coupled
own_coupled size images k before image flat pid regs e q s b (Fork child) w o x n a z y = let st : Stands images k flat = x.stands in
    subst (λ (c : ℕ). Coupled (passing_change false (facts_of images) k pid regs e (Fork c)) images image (apply_change images flat pid regs (Fork c))) (sym n.child)
    (fork_coupled_step k images image flat pid regs e q s x.numbers st.out x.clear a.here a.holds a.resident x.coupled)
own_coupled size images k before image flat pid regs e q s b (Lend child) w o x n a z y = let st : Stands images k flat = x.stands in
    subst (λ (c : ℕ). Coupled (passing_change false (facts_of images) k pid regs e (Lend c)) images image (apply_change images flat pid regs (Lend c))) (sym n.child)
    (lend_coupled_step k images image flat pid regs e q s x.numbers st.out a.here a.holds a.resident x.coupled)
own_coupled size images k before image flat pid regs e q s b (Exec number top) w o x n a z y =
    let st : Stands images k flat = x.stands in
    let so : Sound size (record k { holdings = before }) = x.sound in
    let ow : OneOwner size (lives k.processes) k.place before = so.owner in
    let i : ImageFits n.enters.0 = x.fits number n.enters.0 n.enters.1 in
    exec_coupled_step size before k images image flat pid regs e number top n.enters.0 q s so x.numbers st.out x.clear st.starts a.here a.holds (w ∙ enters_own b number top o) a.resident
    (settled_rests k.place s.sid ow.frames z) y n.enters.1 i.«data» n.enters.2 x.coupled
own_coupled size images k before image flat pid regs e q s b (Reap child) w o x n a z y =
    reap_coupled k images image flat pid regs e child n.child.1 q n.child.0 s x.numbers a.here a.holds a.resident n.child.2 n.child.3 x.coupled
own_coupled size images k before image flat pid regs e q s b Sleep w o x n a z y = sleep_coupled k images image flat pid regs e q s x.numbers a.here a.holds a.resident x.coupled
own_coupled size images k before image flat pid regs e q s b (End status) w o x n a z y =
    let st : Stands images k flat = x.stands in
    let so : Sound size k = subst (λ (hs : Holdings). Sound size (record k { holdings = hs })) (none_found size before k.holdings n.pieces) x.sound in
    let ow : OneOwner size (lives k.processes) k.place k.holdings = so.owner in
    end_coupled_step size k images image flat pid regs e status q s so x.numbers st.out x.clear a.here a.holds (w ∙ ends_own b status o) (settled_rests k.place s.sid ow.frames z) y x.coupled

-- parent and child live before the space passes
pub lend_lives : (images : List NamedImage) (k : Kernel) (flat : FlatState) (pid : ℕ) (regs : Regs) (e : Entry) (q : Process) (s : Space)
    → IsNumbered flat → process_of flat pid ≡ Some q → q.holding ≡ Holds s → SameTables k flat
    → (lives (change_step (facts_of images) k pid regs e (Lend flat.next_pid)).processes pid ≡ true)
    × (lives (change_step (facts_of images) k pid regs e (Lend flat.next_pid)).processes flat.next_pid ≡ true)
lend_lives images k flat pid regs e q s nums f h t =
    let g : Stepping k flat pid q s = stepping k flat pid q s t f h in
    let kp : Proc = record g.proc { regs = regs } in
    let kn : Proc = child_proc kp flat.next_pid New in
    let kept_found : numbered kept_pid kp.pid k.processes ≡ Some g.proc = ap (λ (m : ℕ). numbered kept_pid m k.processes) g.pid_is ∙ g.kept in
    let child_other : flat.next_pid ≢ kp.pid = λ i. none_some q (sym (next_pid_none flat nums) ∙ ap (λ (m : ℕ). numbered pid_of m flat.processes) (i ∙ g.pid_is) ∙ g.found) in
    let parent_kept : numbered kept_pid pid (with_proc k.processes kp ++ kn ∷ []) ≡ Some kp =
    pushed_found kept_pid pid (with_proc k.processes kp) kn kp (ap (λ (m : ℕ). numbered kept_pid m (with_proc k.processes kp)) (sym g.pid_is) ∙ with_at k.processes kp g.proc kept_found) in
    let child_kept : numbered kept_pid flat.next_pid (with_proc k.processes kp ++ kn ∷ []) ≡ Some kn =
    pushed_new kept_pid flat.next_pid (with_proc k.processes kp) kn (with_not k.processes kp flat.next_pid child_other ∙ kept_none k flat flat.next_pid t.processes (next_pid_none flat nums)) refl in
    subst (λ (x : Kernel). (lives x.processes pid ≡ true) × (lives x.processes flat.next_pid ≡ true))
    (sym (step_is (facts_of images) k pid regs e (Lend flat.next_pid) g.proc (HoldsSpace s.sid) g.kept g.life))
    (ap lives_in parent_kept ∙ ap has_life g.life, ap lives_in child_kept)

-- sound and numbered after the change, with the space that passes
record Passed (size : ℕ) (images : List NamedImage) (k : Kernel) (pid sid : ℕ) (b : Bool) (e : Entry) (change : Change) (l : Kernel) : Type 0 where
  pub sound : Sound size l
  pub numbered : Numbered l
  pub lands : LandsAt images k pid sid b e change l

own_passed : (size : ℕ) (images : List NamedImage) (k : Kernel) (flat : FlatState) (pid : ℕ) (regs : Regs) (e : Entry) (q : Process)
    (s : Space) (change : Change)
    → IsNumbered flat
    → process_of flat pid ≡ Some q → q.holding ≡ Holds s → SameTables k flat → NamesChild flat change
    → Passed size images k pid s.sid false e change (change_step (facts_of images) k pid regs e change)
    → Passed size images k pid s.sid false e change (passing_change false (facts_of images) k pid regs e change)
own_passed size images k flat pid regs e q s (Lend child) nums f h t m x =
    let l = subst (λ (c : ℕ). (lives (change_step (facts_of images) k pid regs e (Lend c)).processes pid ≡ true) × (lives (change_step (facts_of images) k pid regs e (Lend c)).processes c ≡ true))
    (sym m) (lend_lives images k flat pid regs e q s nums f h t) in
    let at : LandsAt images k pid s.sid false e (Lend child) (change_step (facts_of images) k pid regs e (Lend child)) = x.lands in
    record {
      sound = pass_sound size (change_step (facts_of images) k pid regs e (Lend child)) pid child l.0 l.1 x.sound;
      numbered = pass_numbered (change_step (facts_of images) k pid regs e (Lend child)) pid child l.0 l.1 x.numbered;
      lands = record { place = at.place };
    }
own_passed size images k flat pid regs e q s _ nums f h t m x = x

own_lands : (images : List NamedImage) (k : Kernel) (flat : FlatState) (pid : ℕ) (regs : Regs) (e : Entry) (q : Process) (s : Space) (change : Change)
    → Stepping k flat pid q s
    → LandsAt images k pid s.sid false e change (change_step (facts_of images) k pid regs e change)
own_lands images k flat pid regs e q s change g =
    subst (LandsAt images k pid s.sid false e change) (sym (step_is (facts_of images) k pid regs e change g.proc (HoldsSpace s.sid) g.kept g.life))
    (subst (λ (n : ℕ). LandsAt images k n s.sid false e change (by_life (facts_of images) k (record g.proc { regs = regs }) (HoldsSpace s.sid) e change)) g.pid_is (record { place = refl }))

-- all that is so after a change
record Stood (size : ℕ) (images : List NamedImage) (image : List ℕ) (after : FlatState) (l : Kernel) : Type 0 where
  pub sound : Sound size l
  pub numbered : Numbered l
  pub coupled : Coupled l images image after
  pub stands : Stands images l after
  pub rests : Rests l.place

-- what the placement allows of a process with a space of its own
record OwnAllows (images : List NamedImage) (k : Kernel) (sid : ℕ) (change : Change) : Type 0 where
  pub can : CanChange k.place sid false k.next_sid change
  pub forgets : MayForget (facts_of images) k.place sid false k.next_sid change
  pub apart : ApartFrom sid false k.next_sid change

own_stood : (size : ℕ) (images : List NamedImage) (k : Kernel) (before : Holdings) (image : List ℕ) (flat : FlatState) (pid : ℕ) (regs : Regs) (e : Entry)
    (q : Process) (s : Space) (b : Bool) (change : Change)
    → is_borrower flat.processes pid ≡ b → KeepsSpace b change
    → Prepared size images k before image flat → Names size images k before flat pid change → Acts k flat pid q s → ReadySpace k.place s.sid b change
    → HaveParts k.place.transfers
    → Stood size images image (apply_change images flat pid regs change) (passing_change false (facts_of images) k pid regs e change)
own_stood size images k before image flat pid regs e q s b change w o x n a ready parts =
    let c : Coupled k images image flat = x.coupled in
    let t : SameTables k flat = c.tables in
    let settled : SettlesFor k.place s.sid change = settles k.place s.sid b change o ready in
    let is_ready : ReadyFor k pid change = coupled_ready k flat pid q s change t a.here a.holds (takes_next k flat change t n.child) (may_reap k flat change t n.child) settled in
    let g : Stepping k flat pid q s = stepping k flat pid q s t a.here a.holds in
    let so : Sound size (record k { holdings = before }) = x.sound in
    let ow : OneOwner size (lives k.processes) k.place before = so.owner in
    let passed : Passed size images k pid s.sid false e change (passing_change false (facts_of images) k pid regs e change) =
    own_passed size images k flat pid regs e q s change x.numbers a.here a.holds t n.child (record {
      sound = ready_sound size (facts_of images) k before pid regs e change so x.numbered is_ready n.pieces;
      numbered = flat_numbered (facts_of images) k pid regs e change (takes_next k flat change t n.child) is_ready.alive x.numbered;
      lands = own_lands images k flat pid regs e q s change g;
    }) in
    let may : MayChange (facts_of images) k pid change = may_change (facts_of images) k pid change ow.frames x.numbered is_ready in
    let wants : WantsThese k pid change = wants_these k pid change x.numbered is_ready in
    let life : life_of_proc (numbered (λ (p : Proc). p.pid) pid k.processes) ≡ HoldsSpace s.sid = ap life_of_proc g.kept ∙ g.life in
    let held : OwnAllows images k s.sid change = record {
      can = subst (λ (y : Life). CanChange k.place (space_of_life y) (gave_back y) k.next_sid change) life may.can;
      forgets = subst (λ (y : Life). MayForget (facts_of images) k.place (space_of_life y) (gave_back y) k.next_sid change) life may.forgets;
      apart = apart_from k.place k.processes s.sid false k.next_sid change (subst (λ (y : Life). MayAsk k.place k.processes (space_of_life y) (gave_back y) k.next_sid change) life wants.may);
    } in
    record {
      sound = passed.sound;
      numbered = passed.numbered;
      coupled = own_coupled size images k before image flat pid regs e q s b change w o x n a settled held.forgets;
      stands = own_stands images k flat pid regs e q s change a x.clear n.child n.enters t x.stands;
      rests = rests images k (passing_change false (facts_of images) k pid regs e change) pid s.sid false e change passed.lands x.clear parts held.can held.apart;
    }

-- Who gives its space back.

pub takes_none : (k : Kernel) (change : Change) → GivesBack change → TakesNext k change
takes_none k (Exec image top) gb = tt
takes_none k (End status) gb = tt
takes_none k _ gb = absurd gb

pub back_ready : (k : Kernel) (flat : FlatState) (pid : ℕ) (q m : Process) (s : Space) (change : Change) → (a : Borrowing k flat pid q m s)
    → GivesBack change → ReadyFor (pass_step k pid m.pid) pid change
back_ready k flat pid q m s change a gb =
    subst (λ (x : Kernel). ReadyFor x pid change) (sym (back_kernel k flat pid q m s a))
    (subst (λ (o : Option Proc). ReadyBy k1 pid (life_of_proc o) change) (sym (back_proc k flat pid q m s a)) (by change gb))
  where
    k1 : Kernel
    k1 = record k { processes = map (passes s.sid pid m.pid) k.processes }

    alive : lives k1.processes pid ≡ true
    alive = ap lives_in (back_proc k flat pid q m s a)

    by : (x : Change) → GivesBack x → ReadyBy k1 pid New x
    by (Exec image top) gb = record { alive = alive; next = tt; reaps = tt; space = λ z. absurd cc }
    by (End status) gb = record { alive = alive; next = tt; reaps = tt; space = λ z. absurd cc }
    by _ gb = absurd gb

asks_same : (images : List NamedImage) (k : Kernel) (pid from to : ℕ) (change : Change) → GivesBack change
    → asked (facts_of images) (pass_step k from to) pid change ≡ asked (facts_of images) k pid change
asks_same images k pid from to (Exec image top) gb = refl
asks_same images k pid from to (End status) gb = refl
asks_same images k pid from to _ gb = absurd gb

back_stands : (images : List NamedImage) (k : Kernel) (flat : FlatState) (pid : ℕ) (regs : Regs) (e : Entry) (q m : Process) (s : Space) (change : Change)
    → GivesBack change → Acts k flat pid q s
    → IsLender flat pid s.sid m → k.place.due ≡ [] → EntersImage images change → SameTables k flat → Stands images k flat
    → Stands images (change_step (facts_of images) (pass_step k pid m.pid) pid regs e change) (apply_change images flat pid regs change)
back_stands images k flat pid regs e q m s (Exec number top) gb a is due (named, im, whole) t st =
    exec_back_stands images k flat pid regs e number top named q m s t due a.here a.holds is a.resident im st
back_stands images k flat pid regs e q m s (End status) gb a is due x t st = end_back_stands images k flat pid regs e status q m s t a.here a.holds is st
back_stands images k flat pid regs e q m s _ gb a is due x t st = absurd gb

back_coupled : (size : ℕ) (images : List NamedImage) (k : Kernel) (before : Holdings) (image : List ℕ) (flat : FlatState) (pid : ℕ) (regs : Regs) (e : Entry)
    (q m : Process) (s : Space) (change : Change)
    → GivesBack change → IsLender flat pid s.sid m
    → Prepared size images k before image flat → Names size images k before flat pid change → Acts k flat pid q s
    → Coupled (change_step (facts_of images) (pass_step k pid m.pid) pid regs e change) images image (apply_change images flat pid regs change)
back_coupled size images k before image flat pid regs e q m s (Exec number top) gb is x n a =
    let st : Stands images k flat = x.stands in
    let i : ImageFits n.enters.0 = x.fits number n.enters.0 n.enters.1 in
    exec_back size before k images image flat pid regs e number top n.enters.0 q m s x.sound x.numbers st.out x.clear st.starts a.here a.holds is a.resident n.enters.1 i.«data» n.enters.2 x.coupled
back_coupled size images k before image flat pid regs e q m s (End status) gb is x n a =
    let st : Stands images k flat = x.stands in
    let so : Sound size k = subst (λ (hs : Holdings). Sound size (record k { holdings = hs })) (none_found size before k.holdings n.pieces) x.sound in
    end_back size k images image flat pid regs e status q m s so x.numbers st.out x.clear a.here a.holds is x.coupled
back_coupled size images k before image flat pid regs e q m s _ gb is x n a = absurd gb

back_is : (images : List NamedImage) (k : Kernel) (pid n : ℕ) (regs : Regs) (e : Entry) (change : Change) → GivesBack change → lender_among k.processes pid ≡ n
    → passing_change true (facts_of images) k pid regs e change ≡ change_step (facts_of images) (pass_step k pid n) pid regs e change
back_is images k pid n regs e (Exec number top) gb i = ap (λ (m : ℕ). change_step (facts_of images) (pass_step k pid m) pid regs e (Exec number top)) i
back_is images k pid n regs e (End status) gb i = ap (λ (m : ℕ). change_step (facts_of images) (pass_step k pid m) pid regs e (End status)) i
back_is images k pid n regs e _ gb i = absurd gb

-- with any number of a space, which is not looked at
lands_any : (images : List NamedImage) (k : Kernel) (pid sid : ℕ) (e : Entry) (change : Change) (l : Kernel) → GivesBack change
    → LandsAt images k pid 0 true e change l → LandsAt images k pid sid true e change l
lands_any images k pid sid e (Exec image top) l gb x = record { place = x.place }
lands_any images k pid sid e (End status) l gb x = record { place = x.place }
lands_any images k pid sid e _ l gb x = absurd gb

back_lands : (images : List NamedImage) (k : Kernel) (flat : FlatState) (pid : ℕ) (regs : Regs) (e : Entry) (q m : Process) (s : Space) (change : Change)
    (a : Borrowing k flat pid q m s)
    → GivesBack change → LandsAt images k pid s.sid true e change (change_step (facts_of images) (pass_step k pid m.pid) pid regs e change)
back_lands images k flat pid regs e q m s change a gb =
    let g : Stepping k flat pid q s = a.step in
    let k1 : Kernel = record k { processes = map (passes s.sid pid m.pid) k.processes } in
    lands_any images k pid s.sid e change (change_step (facts_of images) (pass_step k pid m.pid) pid regs e change) gb
    (subst (λ (x : Kernel). LandsAt images k pid 0 true e change (change_step (facts_of images) x pid regs e change)) (sym (back_kernel k flat pid q m s a))
    (subst (LandsAt images k pid 0 true e change) (sym (step_is (facts_of images) k1 pid regs e change (record g.proc { life = New }) New (back_proc k flat pid q m s a) refl))
    (subst (λ (n : ℕ). LandsAt images k n 0 true e change (by_life (facts_of images) k1 (record g.proc { regs = regs; life = New }) New e change)) g.pid_is (record { place = refl }))))

back_stood : (size : ℕ) (images : List NamedImage) (k : Kernel) (before : Holdings) (image : List ℕ) (flat : FlatState) (pid : ℕ) (regs : Regs) (e : Entry)
    (q m : Process) (s : Space) (change : Change)
    → GivesBack change → IsLender flat pid s.sid m
    → Prepared size images k before image flat → Names size images k before flat pid change → Acts k flat pid q s → HaveParts k.place.transfers
    → Stood size images image (apply_change images flat pid regs change) (passing_change true (facts_of images) k pid regs e change)
back_stood size images k before image flat pid regs e q m s change gb is x n a parts =
    let c : Coupled k images image flat = x.coupled in
    let t : SameTables k flat = c.tables in
    let b : Borrowing k flat pid q m s = borrowing k flat pid q m s t a.here a.holds is in
    let g : Stepping k flat pid q s = b.step in
    let k1 : Kernel = pass_step k pid m.pid in
    let sound1 : Sound size (record k1 { holdings = before }) =
    pass_sound size (record k { holdings = before }) pid m.pid (ap lives_in g.kept ∙ ap has_life g.life) (ap lives_in b.kept ∙ ap has_life b.life) x.sound in
    let n1 : Numbered k1 = pass_numbered k pid m.pid (ap lives_in g.kept ∙ ap has_life g.life) (ap lives_in b.kept ∙ ap has_life b.life) x.numbered in
    let ready : ReadyFor k1 pid change = back_ready k flat pid q m s change b gb in
    let pieces : place_all size before (asked (facts_of images) k1 pid change) ≡ Ok k.holdings = ap (place_all size before) (asks_same images k pid pid m.pid change gb) ∙ n.pieces in
    let so : Sound size (record k1 { holdings = before }) = sound1 in
    let ow : OneOwner size (lives k1.processes) k.place before = so.owner in
    let may : MayChange (facts_of images) k1 pid change = may_change (facts_of images) k1 pid change ow.frames n1 ready in
    let life : life_of_proc (numbered (λ (p : Proc). p.pid) pid k1.processes) ≡ New =
    ap (λ (y : Kernel). life_of_proc (numbered (λ (p : Proc). p.pid) pid y.processes)) (back_kernel k flat pid q m s b) ∙ ap life_of_proc (back_proc k flat pid q m s b) in
    let can0 : CanChange k.place 0 true k.next_sid change = subst (λ (y : Life). CanChange k.place (space_of_life y) (gave_back y) k.next_sid change) life may.can in
    subst (Stood size images image (apply_change images flat pid regs change)) (sym (back_is images k pid m.pid regs e change gb (lender_is k flat pid s.sid m t x.numbers is))) (record {
      sound = ready_sound size (facts_of images) k1 before pid regs e change sound1 n1 ready pieces;
      numbered = flat_numbered (facts_of images) k1 pid regs e change (takes_none k1 change gb) ready.alive n1;
      coupled = back_coupled size images k before image flat pid regs e q m s change gb is x n a;
      stands = back_stands images k flat pid regs e q m s change gb a is x.clear n.enters t x.stands;
      rests = rests images k (change_step (facts_of images) k1 pid regs e change) pid s.sid true e change (back_lands images k flat pid regs e q m s change b gb) x.clear parts
          (can change gb can0) (apart change gb);
    })
  where
    can : (y : Change) → GivesBack y → CanChange k.place 0 true k.next_sid y → CanChange k.place s.sid true k.next_sid y
    can (Exec image top) gb z = (z.0, λ w. absurd cc)
    can (End status) gb z = λ w. absurd cc
    can _ gb z = absurd gb

    apart : (y : Change) → GivesBack y → ApartFrom s.sid true k.next_sid y
    apart (Exec image top) gb = λ z. absurd cc
    apart (End status) gb = tt
    apart _ gb = absurd gb

-- Either.

either_stood : (size : ℕ) (images : List NamedImage) (k : Kernel) (before : Holdings) (image : List ℕ) (flat : FlatState) (pid : ℕ) (regs : Regs) (e : Entry)
    (q : Process) (s : Space) (b : Bool) (change : Change)
    → is_borrower flat.processes pid ≡ b → (b ≡ true → (m : Process) × IsLender flat pid s.sid m)
    → Prepared size images k before image flat → Names size images k before flat pid change → Acts k flat pid q s → ReadySpace k.place s.sid b change
    → HaveParts k.place.transfers
    → Stood size images image (apply_change images flat pid regs change) (passing_change b (facts_of images) k pid regs e change)
either_stood size images k before image flat pid regs e q s false change w lend x n a ready parts =
    own_stood size images k before image flat pid regs e q s false change w (own change) x n a ready parts
  where
    own : (y : Change) → KeepsSpace false y
    own Keep = tt
    own (Resize d t) = tt
    own (Fork child) = tt
    own (Lend child) = tt
    own (Exec number top) = tt
    own (Reap child) = tt
    own Sleep = tt
    own (End status) = tt
either_stood size images k before image flat pid regs e q s true (Exec number top) w lend x n a ready parts =
    back_stood size images k before image flat pid regs e q (lend refl).0 s (Exec number top) tt (lend refl).1 x n a parts
either_stood size images k before image flat pid regs e q s true (End status) w lend x n a ready parts =
    back_stood size images k before image flat pid regs e q (lend refl).0 s (End status) tt (lend refl).1 x n a parts
either_stood size images k before image flat pid regs e q s true Keep w lend x n a ready parts = own_stood size images k before image flat pid regs e q s true Keep w tt x n a ready parts
either_stood size images k before image flat pid regs e q s true (Resize d r) w lend x n a ready parts =
    own_stood size images k before image flat pid regs e q s true (Resize d r) w tt x n a ready parts
either_stood size images k before image flat pid regs e q s true (Fork child) w lend x n a ready parts =
    own_stood size images k before image flat pid regs e q s true (Fork child) w tt x n a ready parts
either_stood size images k before image flat pid regs e q s true (Lend child) w lend x n a ready parts =
    own_stood size images k before image flat pid regs e q s true (Lend child) w tt x n a ready parts
either_stood size images k before image flat pid regs e q s true (Reap child) w lend x n a ready parts =
    own_stood size images k before image flat pid regs e q s true (Reap child) w tt x n a ready parts
either_stood size images k before image flat pid regs e q s true Sleep w lend x n a ready parts = own_stood size images k before image flat pid regs e q s true Sleep w tt x n a ready parts

pub no_pieces : (size : ℕ) (hs : Holdings) → WereFound size hs hs
unfolding place_all
no_pieces size hs = record { pieces = []; placed = refl }

pub change_kept : (size : ℕ) (images : List NamedImage) (m : KernelState) (pid : ℕ) (regs : Regs) (e : Entry) (change : Change) → ImagesFit images
    → Invariant size images m
    → MayComplete size images m pid change → Invariant size images (kernel_after images m (ChangeUnit pid regs e change))
change_kept size images m pid regs e change fits i may =
    let k : Kernel = with_found m in
    let acts : Acts m.kernel m.flat pid may.process may.space = may.acts in
    let acts_now : Acts k m.flat pid may.process may.space = record { here = acts.here; holds = acts.holds; resident = acts.resident } in
    let so : Sound size m.kernel = i.sound in
    let nb : Numbered m.kernel = i.numbered in
    let st : Stands images m.kernel m.flat = i.stands in
    let c : Coupled m.kernel images m.image m.flat = i.coupled in
    let found : WereFound size m.kernel.holdings m.found = i.found in
    let x : Prepared size images k m.kernel.holdings m.image m.flat = record {
      fits = fits;
      sound = record { owner = so.owner; tokens = so.tokens; hands = so.hands; few_transfers = so.few_transfers };
      numbered = record { spaces_differ = nb.spaces_differ; spaces_below = nb.spaces_below; pids_differ = nb.pids_differ; pids_below = nb.pids_below; residents = nb.residents };
      coupled = takes_coupled size m.kernel images m.image m.flat found.pieces m.found st.texts found.placed i.coupled;
      stands = record { starts = st.starts; texts = st.texts; out = st.out };
      numbers = i.numbers;
      clear = may.clear;
    } in
    let b : Bool = has_lender m.kernel.processes pid in
    let borrows : is_borrower m.flat.processes pid ≡ b = sym (borrows_is m.kernel m.flat pid c.tables) in
    let l : Kernel = passing_change b (facts_of images) k pid regs e change in
    let stood : Stood size images m.image (apply_change images m.flat pid regs change) l =
    either_stood size images k m.kernel.holdings m.image m.flat pid regs e may.process may.space b change borrows
    (λ y. lender_found m.flat pid may.process may.space acts.here acts.holds (borrows ∙ y) i.numbers i.lenders)
    x (record { child = may.child; enters = may.enters; pieces = may.pieces }) acts_now may.ready i.parts in
    record {
      sound = stood.sound;
      numbered = stood.numbered;
      coupled = stood.coupled;
      stands = stood.stands;
      dues = (stood.rests).dues;
      parts = (stood.rests).parts;
      numbers = changes_numbered images m.flat pid regs change may.process may.space acts.here acts.holds may.child i.numbers;
      lenders = changes_lent images m.flat pid regs change may.process may.space acts.here acts.holds may.child i.numbers i.lenders;
      room = i.room;
      found = no_pieces size l.holdings;
    }
