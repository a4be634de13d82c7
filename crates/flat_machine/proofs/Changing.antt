-- The changes of a process that has its registers already.
use Rattle.std.proofs.Common.{◌≡◌, ℕ, cond, nat_lt, ◌+◌, ◌==◌, Bool, true, false, not, List, [], ◌∷◌, length, filter, get_or, set, Option, Some, None, IsTrue, refl, sym, ap, ◌∙◌, subst, arith}
use Rattle.std.specs.Prelude.{position, IsSome}
use Rattle.flat_state.specs.Space.{Space}
use Rattle.flat_state.specs.Flat.{Holding, Holds, Lends, Zombie, Process, FlatState, NamedImage, image_numbered, holds_space, space_with}
use Rattle.vm_facts.specs.declared.regs.Regs.{Regs}
use Rattle.std.proofs.lemmas.Bool.Decides.{nat_tests}
use Rattle.flat_state.specs.Change.{replaced, with_process, without_process, changed, changed_if, changed_by, apply_change, entered, resized, with_child, child_of, given_back, orphaned, left}
use Rattle.flat_state.specs.declared.change.Change.{Change}
use Rattle.flat_state.specs.declared.change.Change.TheVariants.{Keep, Resize, Fork, Lend, Exec, Reap, Sleep, End}
use Rattle.flat_process.specs.Images.{CanChange}
use Rattle.flat_process.specs.Holdings.{no_process, space_in}
use Rattle.flat_machine.specs.Machine.{process_at, space_at, IsPlace}
use Rattle.std.specs.List.{position_or_len}
use Rattle.std.proofs.lemmas.List.{get_or-set_same, length-set}
use Rattle.std.proofs.lemmas.List.Folds.{position_or_len-set}
use Rattle.flat_state.proofs.Processes.{replaced_twice}
use Rattle.flat_machine.proofs.Lists.{with_at, process_found, with_same}

pub with_twice : (F : FlatState) (p q : Process) → p.pid ≡ q.pid → with_process (with_process F p) q ≡ with_process F q
with_twice F p q same = ap (λ (xs : List Process). record F { processes = xs }) (replaced_twice F.processes p q same)

-- who isn't there takes no place
replaced_absent : (xs : List Process) (p : Process) (pid : ℕ) → p.pid ≡ pid
    → replaced (filter (λ (q : Process). not (q.pid == pid)) xs) p ≡ filter (λ (q : Process). not (q.pid == pid)) xs
unfolding replaced
replaced_absent [] p pid same = refl
replaced_absent (x ∷ xs) p pid same = go (x.pid == pid) refl (replaced_absent xs p pid same)
  where
    go : (b : Bool) → (x.pid == pid) ≡ b → replaced (filter (λ (q : Process). not (q.pid == pid)) xs) p ≡ filter (λ (q : Process). not (q.pid == pid)) xs
        → replaced (filter (λ (q : Process). not (q.pid == pid)) (x ∷ xs)) p ≡ filter (λ (q : Process). not (q.pid == pid)) (x ∷ xs)
    go true e more = rw e more
    go false e more =
        let other : (x.pid == p.pid) ≡ false = grind (arith, nat_tests) in
        rw (e, other) (ap (λ (ys : List Process). x ∷ ys) more)

replaced_filter : (xs : List Process) (p : Process) (pid : ℕ)
    → replaced (filter (λ (q : Process). not (q.pid == pid)) xs) p ≡ filter (λ (q : Process). not (q.pid == pid)) (replaced xs p)
unfolding replaced
replaced_filter [] p pid = refl
replaced_filter (x ∷ xs) p pid = go (x.pid == p.pid) (x.pid == pid) refl refl (replaced_filter xs p pid)
  where
    go : (b c : Bool) → (x.pid == p.pid) ≡ b → (x.pid == pid) ≡ c → replaced (filter (λ (q : Process). not (q.pid == pid)) xs) p ≡ filter (λ (q : Process). not (q.pid == pid)) (replaced xs p)
        → replaced (filter (λ (q : Process). not (q.pid == pid)) (x ∷ xs)) p ≡ filter (λ (q : Process). not (q.pid == pid)) (replaced (x ∷ xs) p)
    go true true e f more =
        let same : (p.pid == pid) ≡ true = grind (arith, nat_tests) in
        let is : p.pid ≡ pid = grind (arith, nat_tests) in
        rw (e, f, same) (replaced_absent xs p pid is)
    go true false e f more =
        let other : (p.pid == pid) ≡ false = grind (arith, nat_tests) in
        rw (e, f, e, other) refl
    go false true e f more = rw (e, f) more
    go false false e f more = rw (e, f, e) (ap (λ (ys : List Process). x ∷ ys) more)

without_with : (F : FlatState) (p : Process) (pid : ℕ) → with_process (without_process F pid) p ≡ without_process (with_process F p) pid
without_with F p pid = ap (λ (xs : List Process). record F { processes = xs }) (replaced_filter F.processes p pid)

-- what a process does that has its registers already is what it does when it gets them
changed_twice : (images : List NamedImage) (F : FlatState) (p : Process) (s : Space) (change : Change) → CanChange images change
    → changed images (with_process F p) p s change ≡ changed images F p s change
changed_twice images F p s Keep can = with_twice F p p refl
changed_twice images F p s (Resize data_pages stack_pages) can = with_twice F p (record p { holding = Holds (resized s data_pages stack_pages) }) refl
changed_twice images F p s (Fork child) can =
    ap (λ (G : FlatState). record (with_child G (child_of p child (record s { sid = F.next_sid }))) { next_sid = F.next_sid + 1 }) (with_twice F p p refl)
changed_twice images F p s (Lend child) can =
    ap (λ (G : FlatState). with_child G (child_of p child s)) (with_twice F p (record p { holding = Lends s.sid child }) refl)
changed_twice images F p s (Exec image top) can = go (image_numbered images image) can.0
  where
    go : (o : Option NamedImage) → IsSome o → entered (with_process F p) p s image o top ≡ entered F p s image o top
    go None is = absurd cc
    go (Some named) is =
        ap (λ (G : FlatState). record (given_back G p.pid s) { next_sid = F.next_sid + 1 })
        (with_twice F p (record p { holding = Holds (space_with F.next_sid image named.image top) }) refl)
changed_twice images F p s (Reap child) can =
    ap (λ (G : FlatState). with_process G p) (sym (without_with F p child)) ∙ with_twice (without_process F child) p p refl
changed_twice images F p s Sleep can = with_twice F p (record p { asleep = true }) refl
changed_twice images F p s (End status) can =
    ap (λ (G : FlatState). left (p.parent == 0) (orphaned (given_back G p.pid s) p.pid) p.pid p.parent)
    (with_twice F p (record p { holding = Zombie status }) refl)

-- A process in its place.

pub at_kept : (F : FlatState) (place : ℕ) (p : Process) → IsPlace F place → p.pid ≡ (process_at F place).pid → process_at (with_process F p) place ≡ p
at_kept F place p at same =
    ap (λ (G : FlatState). process_at G place) (with_at F place p at same) ∙ get_or-set_same F.processes place p no_process at.within

position_kept : (test : Process → Bool) (xs : List Process) (i : ℕ) (p : Process) → test p ≡ test (get_or xs i no_process)
    → position test (set xs i p) ≡ position test xs
position_kept test xs i p same =
    ap (λ (n : ℕ). cond (nat_lt n (length (set xs i p))) (Some n) None) (position_or_len-set test xs i p no_process same)
    ∙ ap (λ (n : ℕ). cond (nat_lt (position_or_len test xs) n) (Some (position_or_len test xs)) None) (length-set xs i p)

set_place : (F : FlatState) (place : ℕ) (p : Process) → IsPlace F place → p.pid ≡ (process_at F place).pid → IsTrue (holds_space p.holding)
    → IsPlace (record F { processes = set F.processes place p }) place
set_place F place p at same holds =
    let got : get_or (set F.processes place p) place no_process ≡ p = get_or-set_same F.processes place p no_process at.within in
    record {
      within = let long = length-set F.processes place p in let w = at.within in omega arith;
      first =
          subst (λ (x : Process). position (λ (q : Process). q.pid == x.pid) (set F.processes place p) ≡ Some place) (sym got)
          (position_kept (λ (q : Process). q.pid == p.pid) F.processes place p (ap (λ (n : ℕ). n == p.pid) same)
          ∙ ap (λ (n : ℕ). position (λ (q : Process). q.pid == n) F.processes) same ∙ at.first);
      holds = subst (λ (x : Process). IsTrue (holds_space x.holding)) (sym got) holds;
    }

pub place_kept : (F : FlatState) (place : ℕ) (p : Process) → IsPlace F place → p.pid ≡ (process_at F place).pid → IsTrue (holds_space p.holding)
    → IsPlace (with_process F p) place
place_kept F place p at same holds = subst (λ (G : FlatState). IsPlace G place) (sym (with_at F place p at same)) (set_place F place p at same holds)

-- Changes at a place.

pub held : (h : Holding) → IsTrue (holds_space h) → h ≡ Holds (space_in h)
held (Holds s) t = refl
held (Lends sid child) t = absurd cc
held (Zombie status) t = absurd cc

-- a change of the process at a place is what it does once it has its registers
pub applied_at : (images : List NamedImage) (F G : FlatState) (place : ℕ) (regs : Regs) (change : Change) → IsPlace F place → CanChange images change
    → G ≡ with_process F (record (process_at F place) { regs = regs })
    → apply_change images F (process_at F place).pid regs change ≡ changed images G (process_at G place) (space_at G place) change
unfolding apply_change
applied_at images F G place regs change at can is =
    let p : Process = record (process_at F place) { regs = regs } in
    let there : process_at G place ≡ p = ap (λ (H : FlatState). process_at H place) is ∙ at_kept F place p at refl in
    ap (changed_if images F regs change) (process_found F place at)
    ∙ ap (changed_by images F p change) (held (process_at F place).holding at.holds)
    ∙ sym (changed_twice images F p (space_at F place) change can)
    ∙ ap (λ (H : FlatState). changed images H p (space_at F place) change) (sym is)
    ∙ ap (λ (q : Process). changed images G q (space_in q.holding) change) (sym there)

-- a child that goes is gone before or after its parent has its registers
pub reaped_at : (G : FlatState) (place child : ℕ) → IsPlace G place → with_process (without_process G child) (process_at G place) ≡ without_process G child
reaped_at G place child at =
    without_with G (process_at G place) child ∙ ap (λ (H : FlatState). without_process H child) (with_same G place at)
