-- Where each process has one number and no parent, that stays so after a change by which no process comes; and after its end no
-- process is left.
use Rattle.std.proofs.Common.{◌≡◌, ℕ, ◌==◌, Bool, true, false, not, cond, List, [], ◌∷◌, ◌++◌, map, filter, find, Option, Some, None, refl, ap, ◌∙◌, sym, subst, if◌then◌else◌, eq-eqb}
use Rattle.std.proofs.lemmas.Option.{same_Some}
use Rattle.vm_facts.specs.Answers.{ByteWrite}
use Rattle.flat_state.specs.Space.{Space, puts}
use Rattle.flat_state.specs.Flat.{Holding, Holds, Lends, Zombie, Process, FlatState, NamedImage, image_numbered, holds_space, ready_if, process_of, can_step, space_with, start_if, start_processes}
use Rattle.vm_facts.specs.declared.regs.Regs.{Regs}
use Rattle.flat_state.specs.Change.{replaced_by, replaced, with_process, without_process, lends_to, returned_by, returned, given_back, entered, is_zombie_child, without_parent, orphaned, awake, left, ended, resized, changed, changed_by, changed_if, apply_change, wrote_by, wrote_if, apply_writes}
use Rattle.flat_state.specs.declared.change.Change.{Change}
use Rattle.flat_state.specs.declared.change.Change.TheVariants.{Keep, Resize, Fork, Lend, Exec, Reap, Sleep, End}

-- the process has this number, and no parent
abbrev pub IsSole : ℕ → Process → Type 0
IsSole n q = (q.pid ≡ n) × (q.parent ≡ 0)

-- so it is of each process
abbrev pub Only : ℕ → List Process → Type 0
Only n [] = Unit {0}
Only n (q ∷ qs) = IsSole n q × Only n qs

-- no process comes by the change
abbrev pub BringsNone : Change → Type 0
BringsNone (Fork child) = ⊥
BringsNone (Lend child) = ⊥
BringsNone _ = Unit {0}

only_replaced : (n : ℕ) (qs : List Process) (p : Process) → IsSole n p → Only n qs → Only n (replaced qs p)
unfolding replaced
only_replaced n [] p h k = tt
only_replaced n (q ∷ qs) p h k = go (q.pid == p.pid) (only_replaced n qs p h k.1)
  where
    go : (b : Bool) → Only n (replaced qs p) → Only n (replaced_by b p q qs (replaced qs p))
    go true later = (h, k.1)
    go false later = (k.0, later)

only_returned : (n of : ℕ) (s : Space) (qs : List Process) → Only n qs → Only n (returned of s qs)
unfolding returned
only_returned n of s [] k = tt
only_returned n of s (q ∷ qs) k = go (lends_to of q.holding) (only_returned n of s qs k.1)
  where
    go : (b : Bool) → Only n (returned of s qs) → Only n (returned_by b s q qs (returned of s qs))
    go true later = k
    go false later = (k.0, later)

only_filtered : (n : ℕ) (test : Process → Bool) (qs : List Process) → Only n qs → Only n (filter test qs)
only_filtered n test [] k = tt
only_filtered n test (q ∷ qs) k = go (test q) (only_filtered n test qs k.1)
  where
    go : (b : Bool) → Only n (filter test qs) → Only n (cond b (q ∷ filter test qs) (filter test qs))
    go true later = (k.0, later)
    go false later = later

only_mapped : (n : ℕ) (f : Process → Process) (qs : List Process) → ((q : Process) → IsSole n q → IsSole n (f q)) → Only n qs → Only n (map f qs)
only_mapped n f [] h k = tt
only_mapped n f (q ∷ qs) h k = (h q k.0, only_mapped n f qs h k.1)

pub only_found : (n : ℕ) (test : Process → Bool) (qs : List Process) (p : Process) → find test qs ≡ Some p → Only n qs → IsSole n p
only_found n test [] p h k = absurd cc
only_found n test (q ∷ qs) p h k = go (test q) (λ l. only_found n test qs p l k.1) h
  where
    go : (b : Bool) → (find test qs ≡ Some p → IsSole n p) → cond b (Some q) (find test qs) ≡ Some p → IsSole n p
    go true later l = let same : q ≡ p = same_Some q p l in subst (λ (r : Process). IsSole n r) same k.0
    go false later l = later l

only_entered : (n : ℕ) (F : FlatState) (p : Process) (s : Space) (image : ℕ) (named : Option NamedImage) (top : List ℕ) → IsSole n p → Only n F.processes
    → Only n (entered F p s image named top).processes
only_entered n F p s image None top h k = k
only_entered n F p s image (Some named) top h k =
    only_returned n p.pid s (with_process F record p { holding = Holds (space_with F.next_sid image named.image top) }).processes
    (only_replaced n F.processes (record p { holding = Holds (space_with F.next_sid image named.image top) }) h k)

only_left : (n : ℕ) (b : Bool) (F : FlatState) (pid parent : ℕ) → Only n F.processes → Only n (left b F pid parent).processes
only_left n true F pid parent k = only_filtered n (λ q. not (q.pid == pid)) F.processes k
only_left n false F pid parent k = only_mapped n (awake parent) F.processes (λ q h. h) k

sole_orphan : (n pid : ℕ) (q : Process) → IsSole n q → IsSole n (without_parent pid q)
sole_orphan n pid q h = (h.0, go (q.parent == pid))
  where
    go : (b : Bool) → (if b then 0 else q.parent) ≡ 0
    go true = refl
    go false = h.1

only_orphaned : (n : ℕ) (F : FlatState) (p : Process) (s : Space) (status : ℕ) → IsSole n p → Only n F.processes
    → Only n (orphaned (given_back (with_process F record p { holding = Zombie status }) p.pid s) p.pid).processes
only_orphaned n F p s status h k =
    let zombie : Process = record p { holding = Zombie status } in
    let back : Only n (returned p.pid s (replaced F.processes zombie)) = only_returned n p.pid s (replaced F.processes zombie) (only_replaced n F.processes zombie h k) in
    only_mapped n (without_parent p.pid) (filter (λ q. not (is_zombie_child p.pid q)) (returned p.pid s (replaced F.processes zombie))) (sole_orphan n p.pid)
    (only_filtered n (λ q. not (is_zombie_child p.pid q)) (returned p.pid s (replaced F.processes zombie)) back)

only_ended : (n : ℕ) (F : FlatState) (p : Process) (s : Space) (status : ℕ) → IsSole n p → Only n F.processes → Only n (ended F p s status).processes
only_ended n F p s status h k =
    only_left n (p.parent == 0) (orphaned (given_back (with_process F record p { holding = Zombie status }) p.pid s) p.pid) p.pid p.parent
    (only_orphaned n F p s status h k)

only_changed : (n : ℕ) (images : List NamedImage) (F : FlatState) (p : Process) (s : Space) (change : Change) → BringsNone change
    → IsSole n p → Only n F.processes
    → Only n (changed images F p s change).processes
only_changed n images F p s Keep none h k = only_replaced n F.processes p h k
only_changed n images F p s (Resize data_pages stack_pages) none h k = only_replaced n F.processes (record p { holding = Holds (resized s data_pages stack_pages) }) h k
only_changed n images F p s (Exec image top) none h k = only_entered n F p s image (image_numbered images image) top h k
only_changed n images F p s (Reap child) none h k =
    only_replaced n (without_process F child).processes p h (only_filtered n (λ q. not (q.pid == child)) F.processes k)
only_changed n images F p s Sleep none h k = only_replaced n F.processes (record p { asleep = true }) h k
only_changed n images F p s (End status) none h k = only_ended n F p s status h k
only_changed n images F p s _ none h k = absurd none

pub only_applied : (n : ℕ) (images : List NamedImage) (F : FlatState) (pid : ℕ) (regs : Regs) (change : Change) → BringsNone change → Only n F.processes
    → Only n (apply_change images F pid regs change).processes
unfolding apply_change
only_applied n images F pid regs change none k = go (process_of F pid) refl
  where
    by : (p : Process) → IsSole n p → (held : Holding) → Only n (changed_by images F (record p { regs = regs }) change held).processes
    by p h (Holds s) = only_changed n images F (record p { regs = regs }) s change none h k
    by p h (Lends sid child) = k
    by p h (Zombie status) = k

    go : (o : Option Process) → process_of F pid ≡ o → Only n (changed_if images F regs change o).processes
    go None e = k
    go (Some p) e = by p (only_found n (λ q. q.pid == pid) F.processes p e k) p.holding

pub only_written : (n : ℕ) (F : FlatState) (pid : ℕ) (ws : List ByteWrite) → Only n F.processes → Only n (apply_writes F pid ws).processes
unfolding apply_writes
only_written n F pid ws k = go (process_of F pid) refl
  where
    by : (p : Process) → IsSole n p → (held : Holding) → Only n (wrote_by F p ws held).processes
    by p h (Holds s) = only_replaced n F.processes (record p { holding = Holds (puts s ws) }) h k
    by p h (Lends sid child) = k
    by p h (Zombie status) = k

    go : (o : Option Process) → process_of F pid ≡ o → Only n (wrote_if F ws o).processes
    go None e = k
    go (Some p) e = by p (only_found n (λ q. q.pid == pid) F.processes p e k) p.holding

-- one image is started as process 1
pub only_started : (images : List NamedImage) (first : List ℕ) (image : ℕ) → first ≡ image ∷ [] → Only 1 (start_processes images 1 first)
only_started images first image e = subst (λ (ns : List ℕ). Only 1 (start_processes images 1 ns)) (sym e) (go (image_numbered images image))
  where
    go : (o : Option NamedImage) → Only 1 (start_if 1 image o ++ [])
    go None = tt
    go (Some named) = ((refl, refl), tt)

-- The end of the process.

none_left : (n pid : ℕ) (qs : List Process) → pid ≡ n → Only n qs → filter (λ q. not (q.pid == pid)) qs ≡ []
none_left n pid [] same k = refl
none_left n pid (q ∷ qs) same k =
    let it : (q.pid == pid) ≡ true = eq-eqb q.pid pid (k.0.0 ∙ sym same) in
    ap (λ (b : Bool). cond (not b) (q ∷ filter (λ r. not (r.pid == pid)) qs) (filter (λ r. not (r.pid == pid)) qs)) it ∙ none_left n pid qs same k.1

left_none : (n parent pid : ℕ) (F : FlatState) → parent ≡ 0 → pid ≡ n → Only n F.processes → (left (parent == 0) F pid parent).processes ≡ []
left_none n parent pid F none same k =
    ap (λ (m : ℕ). (left (m == 0) F pid m).processes) none ∙ none_left n pid F.processes same k

-- no process is left behind the end of the only one
ended_none : (n : ℕ) (F : FlatState) (p : Process) (s : Space) (status : ℕ) → IsSole n p → Only n F.processes → (ended F p s status).processes ≡ []
ended_none n F p s status h k =
    left_none n p.parent p.pid (orphaned (given_back (with_process F record p { holding = Zombie status }) p.pid s) p.pid) h.1 h.0 (only_orphaned n F p s status h k)

none_steps : (F : FlatState) (pid : ℕ) → F.processes ≡ [] → can_step F pid ≡ false
none_steps F pid none = ap (λ (qs : List Process). ready_if (find (λ q. q.pid == pid) qs)) none

-- after its end the process can't step
pub end_applied : (n : ℕ) (images : List NamedImage) (F : FlatState) (pid : ℕ) (regs : Regs) (status : ℕ) → Only n F.processes
    → can_step (apply_change images F pid regs (End status)) pid ≡ false
unfolding apply_change
end_applied n images F pid regs status k = go (process_of F pid) refl
  where
    idle : (b : Bool) → (if b then false else false) ≡ false
    idle true = refl
    idle false = refl

    by : (p : Process) → process_of F pid ≡ Some p → (held : Holding) → p.holding ≡ held → can_step (changed_by images F (record p { regs = regs }) (End status) held) pid ≡ false
    by p e (Holds s) holds =
        none_steps (ended F (record p { regs = regs }) s status) pid
        (ended_none n F (record p { regs = regs }) s status (only_found n (λ q. q.pid == pid) F.processes p e k) k)
    by p e (Lends sid child) holds = ap ready_if e ∙ ap (λ (h : Holding). if p.asleep then false else holds_space h) holds ∙ idle p.asleep
    by p e (Zombie code) holds = ap ready_if e ∙ ap (λ (h : Holding). if p.asleep then false else holds_space h) holds ∙ idle p.asleep

    go : (o : Option Process) → process_of F pid ≡ o → can_step (changed_if images F regs (End status) o) pid ≡ false
    go None e = ap ready_if e
    go (Some p) e = by p e p.holding refl
