-- Another process keeps its registers, where the list of processes changes.
use Rattle.std.proofs.Common.{◌≡◌, ◌≢◌, ℕ, ◌==◌, Bool, true, false, cond, List, [], ◌∷◌, ◌++◌, not, map, filter, find, Option, Some, None, refl, sym, ap, ◌∙◌, arith}
use Rattle.std.proofs.lemmas.Bool.Decides.{nat_tests}
use Rattle.std.proofs.lemmas.Bool.{eqb-true}
use Rattle.flat_state.specs.Space.{Space, puts}
use Rattle.flat_state.specs.Flat.{Holding, Holds, Lends, Zombie, Process, FlatState, NamedImage, image_numbered, process_of, space_with}
use Rattle.vm_facts.specs.declared.regs.Regs.{Regs}
use Rattle.flat_state.specs.Change.{replaced_by, replaced, returned_by, returned, lends_to, is_zombie_child, changed, changed_by, changed_if, apply_change, apply_writes, wrote_by, wrote_if, with_process, without_process, given_back, orphaned, left, entered, child_of, resized, without_parent, awake, NamesChild}
use Rattle.flat_state.specs.declared.change.Change.{Change}
use Rattle.flat_state.specs.declared.change.Change.TheVariants.{Keep, Resize, Fork, Lend, Exec, Reap, Sleep, End}
use Rattle.vm_facts.specs.Answers.{ByteWrite}
use Rattle.flat_laws.proofs.Finding.{holder_is_none}
use Rattle.flat_laws.proofs.Others.{number_of_found}

-- the process of this number in a list holds this space
pub record FoundRegs (qs : List Process) (pid : ℕ) (s : Space) (g : Regs) : Type 0 where
  pub process : Process
  pub here : find (λ q. q.pid == pid) qs ≡ Some process
  pub holds : process.holding ≡ Holds s
  pub regs : process.regs ≡ g

-- the first process, or one after it
data First (q : Process) (qs : List Process) (pid : ℕ) (s : Space) (g : Regs) : Type 0 where
  Here : (q.pid == pid) ≡ true → q.holding ≡ Holds s → q.regs ≡ g → First q qs pid s g
  Behind : (q.pid == pid) ≡ false → FoundRegs qs pid s g → First q qs pid s g

module _ (q : Process) (qs : List Process) (pid : ℕ) (s : Space) (g : Regs) where
  first_of : FoundRegs (q ∷ qs) pid s g → First q qs pid s g
  first_of h = go (q.pid == pid) refl h.here
    where
      go : (b : Bool) → (q.pid == pid) ≡ b → cond b (Some q) (find (λ r. r.pid == pid) qs) ≡ Some h.process → First q qs pid s g
      go true e k = let same : q ≡ h.process = cc in Here e (ap (λ (r : Process). r.holding) same ∙ h.holds) (ap (λ (r : Process). r.regs) same ∙ h.regs)
      go false e k = Behind e record { process = h.process; here = k; holds = h.holds; regs = h.regs }

  found_here : (q.pid == pid) ≡ true → q.holding ≡ Holds s → q.regs ≡ g → FoundRegs (q ∷ qs) pid s g
  found_here e h x = record { process = q; here = ap (λ (b : Bool). cond b (Some q) (find (λ r. r.pid == pid) qs)) e; holds = h; regs = x }

  found_behind : (q.pid == pid) ≡ false → FoundRegs qs pid s g → FoundRegs (q ∷ qs) pid s g
  found_behind e h = record { process = h.process; here = ap (λ (b : Bool). cond b (Some q) (find (λ r. r.pid == pid) qs)) e ∙ h.here; holds = h.holds; regs = h.regs }

-- another process in place of one of its number
pub found_replaced : (qs : List Process) (p : Process) (pid : ℕ) (s : Space) (g : Regs) → p.pid ≢ pid → FoundRegs qs pid s g → FoundRegs (replaced qs p) pid s g
unfolding replaced
found_replaced [] p pid s g other h = absurd (let k = h.here in cc)
found_replaced (q ∷ qs) p pid s g other h = go (λ k. found_replaced qs p pid s g other k) (q.pid == p.pid) refl (first_of q qs pid s g h)
  where
    go : (FoundRegs qs pid s g → FoundRegs (replaced qs p) pid s g) → (b : Bool) → (q.pid == p.pid) ≡ b → First q qs pid s g → FoundRegs (replaced_by b p q qs (replaced qs p)) pid s g
    go later true e (Here k holds regs) = absurd (other (sym (eqb-true q.pid p.pid e) ∙ eqb-true q.pid pid k))
    go later true e (Behind k found) = found_behind p qs pid s g (let apart : (p.pid == pid) ≡ false = grind (arith, nat_tests) in apart) found
    go later false e (Here k holds regs) = found_here q (replaced qs p) pid s g k holds regs
    go later false e (Behind k found) = found_behind q (replaced qs p) pid s g k (later found)

-- a space that goes back to its lender
pub found_returned : (of : ℕ) (given : Space) (qs : List Process) (pid : ℕ) (s : Space) (g : Regs) → FoundRegs qs pid s g
    → FoundRegs (returned of given qs) pid s g
unfolding returned
found_returned of given [] pid s g h = absurd (let k = h.here in cc)
found_returned of given (q ∷ qs) pid s g h = go (λ k. found_returned of given qs pid s g k) (lends_to of q.holding) refl (first_of q qs pid s g h)
  where
    go : (FoundRegs qs pid s g → FoundRegs (returned of given qs) pid s g) → (b : Bool) → lends_to of q.holding ≡ b → First q qs pid s g
        → FoundRegs (returned_by b given q qs (returned of given qs)) pid s g
    go later true e (Here k holds regs) = absurd (let lends : false ≡ true = sym (ap (lends_to of) holds) ∙ e in cc)
    go later true e (Behind k found) = found_behind (record q { holding = Holds given }) qs pid s g k found
    go later false e (Here k holds regs) = found_here q (returned of given qs) pid s g k holds regs
    go later false e (Behind k found) = found_behind q (returned of given qs) pid s g k (later found)

-- processes that a test leaves out, of which this one is none
pub found_filtered : (test : Process → Bool) (qs : List Process) (pid : ℕ) (s : Space) (g : Regs)
    → ((q : Process) → q.holding ≡ Holds s → (q.pid == pid) ≡ true → test q ≡ true) → FoundRegs qs pid s g → FoundRegs (filter test qs) pid s g
found_filtered test [] pid s g stays h = absurd (let k = h.here in cc)
found_filtered test (q ∷ qs) pid s g stays h = go (λ k. found_filtered test qs pid s g stays k) (test q) refl (first_of q qs pid s g h)
  where
    go : (FoundRegs qs pid s g → FoundRegs (filter test qs) pid s g) → (b : Bool) → test q ≡ b → First q qs pid s g → FoundRegs (cond b (q ∷ filter test qs) (filter test qs)) pid s g
    go later true e (Here k holds regs) = found_here q (filter test qs) pid s g k holds regs
    go later true e (Behind k found) = found_behind q (filter test qs) pid s g k (later found)
    go later false e (Here k holds regs) = absurd (let kept = stays q holds k in cc)
    go later false e (Behind k found) = later found

-- what each process has, but its number and what it holds
pub found_mapped : (f : Process → Process) (qs : List Process) (pid : ℕ) (s : Space) (g : Regs) → ((q : Process) → (f q).pid ≡ q.pid)
    → ((q : Process) → (f q).holding ≡ q.holding)
    → ((q : Process) → (f q).regs ≡ q.regs) → FoundRegs qs pid s g → FoundRegs (map f qs) pid s g
found_mapped f [] pid s g number holding same h = absurd (let k = h.here in cc)
found_mapped f (q ∷ qs) pid s g number holding same h = go (λ k. found_mapped f qs pid s g number holding same k) (first_of q qs pid s g h)
  where
    go : (FoundRegs qs pid s g → FoundRegs (map f qs) pid s g) → First q qs pid s g → FoundRegs (f q ∷ map f qs) pid s g
    go later (Here k holds regs) = found_here (f q) (map f qs) pid s g (ap (λ (n : ℕ). n == pid) (number q) ∙ k) (holding q ∙ holds) (same q ∙ regs)
    go later (Behind k found) = found_behind (f q) (map f qs) pid s g (ap (λ (n : ℕ). n == pid) (number q) ∙ k) (later found)

pub found_front : (qs : List Process) (p : Process) (pid : ℕ) (s : Space) (g : Regs) → FoundRegs qs pid s g → FoundRegs (qs ++ p ∷ []) pid s g
found_front [] p pid s g h = absurd (let k = h.here in cc)
found_front (q ∷ qs) p pid s g h = go (λ k. found_front qs p pid s g k) (first_of q qs pid s g h)
  where
    go : (FoundRegs qs pid s g → FoundRegs (qs ++ p ∷ []) pid s g) → First q qs pid s g → FoundRegs (q ∷ (qs ++ p ∷ [])) pid s g
    go later (Here k holds regs) = found_here q (qs ++ p ∷ []) pid s g k holds regs
    go later (Behind k found) = found_behind q (qs ++ p ∷ []) pid s g k (later found)

-- all but the processes of another number
pub without_stays : (qs : List Process) (of pid : ℕ) (s : Space) (g : Regs) → of ≢ pid → FoundRegs qs pid s g
    → FoundRegs (Rattle.std.specs.Prelude.filter (λ q. not (q.pid == of)) qs) pid s g
without_stays qs of pid s g other h =
    found_filtered (λ q. not (q.pid == of)) qs pid s g (λ q holds k. let apart : (q.pid == of) ≡ false = (let is : q.pid ≡ pid = eqb-true q.pid pid k in grind (arith, nat_tests)) in ap not apart) h

-- Changes.

-- a zombie isn't one that holds a space
zombie_apart : (F : FlatState) (child pid : ℕ) (s : Space) (g : Regs) → NamesChild F (Reap child) → FoundRegs F.processes pid s g → child ≢ pid
zombie_apart F child pid s g may found = λ same.
    let one : Some may.0 ≡ Some found.process = sym may.2 ∙ ap (λ (n : ℕ). process_of F n) same ∙ found.here in
    let it : may.0 ≡ found.process = cc in
    let held : Zombie may.1 ≡ Holds s = sym may.3 ∙ ap (λ (r : Process). r.holding) it ∙ found.holds in
    absurd cc

left_stays : (b : Bool) (F : FlatState) (of parent pid : ℕ) (s : Space) (g : Regs) → of ≢ pid → FoundRegs F.processes pid s g
    → FoundRegs (left b F of parent).processes pid s g
left_stays true F of parent pid s g other h = without_stays F.processes of pid s g other h
left_stays false F of parent pid s g other h = found_mapped (awake parent) F.processes pid s g (λ q. refl) (λ q. refl) (λ q. refl) h

orphaned_stays : (F : FlatState) (of pid : ℕ) (s : Space) (g : Regs) → FoundRegs F.processes pid s g → FoundRegs (orphaned F of).processes pid s g
orphaned_stays F of pid s g h =
    found_mapped (without_parent of) (Rattle.std.specs.Prelude.filter (λ q. not (is_zombie_child of q)) F.processes) pid s g (λ q. refl) (λ q. refl) (λ q. refl)
    (found_filtered (λ q. not (is_zombie_child of q)) F.processes pid s g (λ q holds k. ap not (holder_is_none of q s holds)) h)

entered_stays : (F : FlatState) (p : Process) (t : Space) (image : ℕ) (named : Option NamedImage) (top : List ℕ) (pid : ℕ) (s : Space) (g : Regs)
    → p.pid ≢ pid → FoundRegs F.processes pid s g
    → FoundRegs (entered F p t image named top).processes pid s g
entered_stays F p t image None top pid s g other h = h
entered_stays F p t image (Some named) top pid s g other h =
    found_returned p.pid t (with_process F record p { holding = Holds (space_with F.next_sid image named.image top) }).processes pid s g
    (found_replaced F.processes (record p { holding = Holds (space_with F.next_sid image named.image top) }) pid s g other h)

changed_stays : (images : List NamedImage) (F : FlatState) (p : Process) (t : Space) (change : Change) (pid : ℕ) (s : Space) (g : Regs)
    → NamesChild F change → p.pid ≢ pid
    → FoundRegs F.processes pid s g → FoundRegs (changed images F p t change).processes pid s g
changed_stays images F p t Keep pid s g fits other h = found_replaced F.processes p pid s g other h
changed_stays images F p t (Resize a b) pid s g fits other h = found_replaced F.processes (record p { holding = Holds (resized t a b) }) pid s g other h
changed_stays images F p t (Fork child) pid s g fits other h =
    found_front (with_process F p).processes (child_of p child (record t { sid = F.next_sid })) pid s g (found_replaced F.processes p pid s g other h)
changed_stays images F p t (Lend child) pid s g fits other h =
    found_front (with_process F record p { holding = Lends t.sid child }).processes (child_of p child t) pid s g
    (found_replaced F.processes (record p { holding = Lends t.sid child }) pid s g other h)
changed_stays images F p t (Exec image top) pid s g fits other h = entered_stays F p t image (image_numbered images image) top pid s g other h
changed_stays images F p t (Reap child) pid s g fits other h =
    found_replaced (without_process F child).processes p pid s g other (without_stays F.processes child pid s g (zombie_apart F child pid s g fits h) h)
changed_stays images F p t Sleep pid s g fits other h = found_replaced F.processes (record p { asleep = true }) pid s g other h
changed_stays images F p t (End status) pid s g fits other h =
    let dead : Process = record p { holding = Zombie status } in
    left_stays (p.parent == 0) (orphaned (given_back (with_process F dead) p.pid t) p.pid) p.pid p.parent pid s g other
    (orphaned_stays (given_back (with_process F dead) p.pid t) p.pid pid s g
    (found_returned p.pid t (with_process F dead).processes pid s g (found_replaced F.processes dead pid s g other h)))

pub change_stays : (images : List NamedImage) (F : FlatState) (of : ℕ) (regs : Regs) (change : Change) (pid : ℕ) (s : Space) (g : Regs)
    → NamesChild F change → of ≢ pid → FoundRegs F.processes pid s g
    → FoundRegs (apply_change images F of regs change).processes pid s g
unfolding apply_change
change_stays images F of regs change pid s g fits other h = go (process_of F of) refl
  where
    by : (p : Process) (held : Holding) → p.pid ≢ pid → FoundRegs (changed_by images F p change held).processes pid s g
    by p (Holds t) apart = changed_stays images F p t change pid s g fits apart h
    by p (Lends sid child) apart = h
    by p (Zombie status) apart = h

    go : (o : Option Process) → process_of F of ≡ o → FoundRegs (changed_if images F regs change o).processes pid s g
    go None e = h
    go (Some p) e = by (record p { regs = regs }) p.holding (λ k. other (sym (number_of_found F.processes of p e) ∙ k))

-- Writes.

pub writes_stay : (F : FlatState) (of : ℕ) (ws : List ByteWrite) (pid : ℕ) (s : Space) (g : Regs) → of ≢ pid → FoundRegs F.processes pid s g
    → FoundRegs (apply_writes F of ws).processes pid s g
unfolding apply_writes
writes_stay F of ws pid s g other h = go (process_of F of) refl
  where
    by : (p : Process) (held : Holding) → p.pid ≢ pid → FoundRegs (wrote_by F p ws held).processes pid s g
    by p (Holds t) apart = found_replaced F.processes (record p { holding = Holds (puts t ws) }) pid s g apart h
    by p (Lends sid child) apart = h
    by p (Zombie status) apart = h

    go : (o : Option Process) → process_of F of ≡ o → FoundRegs (wrote_if F ws o).processes pid s g
    go None e = h
    go (Some p) e = by p p.holding (λ k. other (sym (number_of_found F.processes of p e) ∙ k))
