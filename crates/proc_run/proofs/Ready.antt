-- What the records of the processes say of who can step is what the kernel's processes say, and the flat machine's.
use Rattle.std.proofs.Common.{◌≡◌, ℕ, ◌-◌, ◌<◌, nat_lt, Bool, true, false, ◌&&◌, not, List, [], ◌∷◌, map, Option, Some, None, refl, sym, ap, ap₂, ◌∙◌, subst, arith}
use Rattle.std.specs.Prelude.{find, cond, if◌then◌else◌}
use Rattle.std.specs.List.{range_with_len}
use Rattle.std.proofs.lemmas.Bool.Decides.{nat_tests}
use Rattle.std.proofs.lemmas.Option.{same_Some}
use Rattle.proc_table.specs.declared.process.Proc.{Proc as Record}
use Rattle.proc_table.specs.Records.{find as find_record}
use Rattle.flat_state.specs.Flat.{Holding, Holds, Lends, Zombie, Process, FlatState, is_ready, holds_space as flat_holds}
use Rattle.kernel_model.specs.Kernel.{Kernel, Proc, life_of}
use Rattle.kernel_model.specs.Coupled.{Outline, outline_of, outline_kept, SameTables}
use Rattle.machine_state.specs.Alike.{AreRecords}
use Rattle.machine_state.specs.Machine.{proc_shown, proc_of_record, processes_of}
use Rattle.machine_state.proofs.Records.{found_pid}
use Rattle.step_units.proofs.Waits.{none_over, first_over}
use Rattle.run_model.specs.Next.{or_else, pid_if as flat_pid_if, next_ready as flat_ready, next_turned as flat_turned}
use Rattle.proc_run.specs.Choosing.{is_space_holder, can_run, pid_of_record, next_runner, turn_after, IsReadyRecord, FoundReady}

-- Of the records.

abbrev test : ℕ → Proc → Bool
test above p = can_run p && nat_lt above p.pid

above_no : (above : ℕ) (p : Proc) → (can_run p ≡ true → above < p.pid → ⊥) → test above p ≡ false
above_no above p h = go (can_run p) (nat_lt above p.pid) refl refl
  where
    less : nat_lt above p.pid ≡ true → above < p.pid
    less e = grind (arith, nat_tests)

    go : (a b : Bool) → can_run p ≡ a → nat_lt above p.pid ≡ b → (a && b) ≡ false
    go false b x y = refl
    go true false x y = refl
    go true true x y = absurd (h x (less y))

above_yes : (above : ℕ) (p : Proc) → can_run p ≡ true → above < p.pid → test above p ≡ true
above_yes above p h l = ap (λ (b : Bool). b && nat_lt above p.pid) h ∙ (let e : nat_lt above p.pid ≡ true = grind (arith, nat_tests) in e)

module _ (ps : List Record) (next : ℕ) (known : AreRecords ps next) (above : ℕ) where
  shown_no : (n : ℕ) (x : Proc) → ((p : Record) → find_record n ps ≡ Some p → test above (proc_shown p) ≡ false) → proc_of_record (find_record n ps) ≡ Some x → test above x ≡ false
  shown_no n x h e = go (find_record n ps) refl e
    where
      go : (o : Option Record) → find_record n ps ≡ o → proc_of_record o ≡ Some x → test above x ≡ false
      go None k e = absurd cc
      go (Some p) k e = sym (ap (test above) (same_Some (proc_shown p) x e)) ∙ h p k

  -- a record has the number at which it is found
  numbered_so : (P : ℕ → Type 0) (n : ℕ) (p : Record) → find_record n ps ≡ Some p → P p.pid → P n
  numbered_so P n p f h = subst P (found_pid n ps p f) h

  one_no : (n : ℕ) (p : Record) → find_record n ps ≡ Some p → (above < n → can_run (proc_shown p) ≡ false) → test above (proc_shown p) ≡ false
  one_no n p f h = above_no above (proc_shown p) (λ t l. absurd (let b : false ≡ true = sym (h (numbered_so (λ m. above < m) n p f l)) ∙ t in cc))

  pub ready_is : (o : Option ℕ) → FoundReady ps above o → o ≡ pid_of_record (find (test above) (processes_of ps next))
  ready_is None h =
      sym (ap pid_of_record (none_over (test above) (λ n. proc_of_record (find_record n ps)) (range_with_len 1 (next - 1)) (λ n x e. shown_no n x (λ p k. one_no n p k (λ l. h n p l k)) e)))
  ready_is (Some n) h =
      let r : IsReadyRecord ps n = h.0 in
      let b = known.known n r.there r.found in
      let is : r.there.pid ≡ n = found_pid n ps r.there r.found in
      sym (ap pid_of_record
      (first_over (test above) (λ m. proc_of_record (find_record m ps)) (next - 1) 1 n (proc_shown r.there) b.0 (omega (arith, b.0, b.1)) (ap proc_of_record r.found)
      (above_yes above (proc_shown r.there) r.ready (subst (λ (m : ℕ). above < m) (sym is) h.1))
      (λ m y l e. shown_no m y (λ p k. one_no m p k (λ a. h.2 m p (a, l) k)) e))
      ∙ ap (λ (m : ℕ). Some m) is)

pub ready_of : (k : Kernel) (ps : List Record) (above : ℕ) (o : Option ℕ) → k.processes ≡ processes_of ps k.next_pid → AreRecords ps k.next_pid
    → FoundReady ps above o → o ≡ next_runner k above
ready_of k ps above o e known h = ready_is ps k.next_pid known above o h ∙ ap (λ (qs : List Proc). pid_of_record (find (test above) qs)) (sym e)

-- Of the flat machine.

abbrev outlined : ℕ → Outline → Bool
outlined above o = (is_space_holder o.life && not o.asleep) && nat_lt above o.pid

abbrev outline_pid : Option Outline → Option ℕ
outline_pid None = None
outline_pid (Some o) = Some o.pid

kept_first : (above : ℕ) (ps : List Proc) → pid_of_record (find (test above) ps) ≡ outline_pid (find (outlined above) (map outline_kept ps))
kept_first above [] = refl
kept_first above (p ∷ ps) = go (test above p) (kept_first above ps)
  where
    go : (b : Bool) → pid_of_record (find (test above) ps) ≡ outline_pid (find (outlined above) (map outline_kept ps))
        → pid_of_record (cond b (Some p) (find (test above) ps)) ≡ outline_pid (cond b (Some (outline_kept p)) (find (outlined above) (map outline_kept ps)))
    go true e = refl
    go false e = e

pub ready_one : (a : Bool) (h : Holding) → (if a then false else flat_holds h) ≡ (is_space_holder (life_of h) && not a)
ready_one true (Holds x) = refl
ready_one true (Lends sid child) = refl
ready_one true (Zombie status) = refl
ready_one false (Holds x) = refl
ready_one false (Lends sid child) = refl
ready_one false (Zombie status) = refl

flat_test : (above : ℕ) (q : Process) → (is_ready q && nat_lt above q.pid) ≡ outlined above (outline_of q)
flat_test above q = ap (λ (b : Bool). b && nat_lt above q.pid) (ready_one q.asleep q.holding)

flat_first : (above : ℕ) (qs : List Process)
    → flat_pid_if (find (λ q. is_ready q && nat_lt above q.pid) qs) ≡ outline_pid (find (outlined above) (map outline_of qs))
flat_first above [] = refl
flat_first above (q ∷ qs) =
    ap (λ (b : Bool). flat_pid_if (cond b (Some q) (find (λ x. is_ready x && nat_lt above x.pid) qs))) (flat_test above q) ∙ go (outlined above (outline_of q)) (flat_first above qs)
  where
    go : (b : Bool) → flat_pid_if (find (λ x. is_ready x && nat_lt above x.pid) qs) ≡ outline_pid (find (outlined above) (map outline_of qs))
        → flat_pid_if (cond b (Some q) (find (λ x. is_ready x && nat_lt above x.pid) qs)) ≡ outline_pid (cond b (Some (outline_of q)) (find (outlined above) (map outline_of qs)))
    go true e = refl
    go false e = e

ready_same : (k : Kernel) (F : FlatState) (above : ℕ) → SameTables k F → next_runner k above ≡ flat_ready F above
ready_same k F above t = kept_first above k.processes ∙ ap (λ (os : List Outline). outline_pid (find (outlined above) os)) t.processes ∙ sym (flat_first above F.processes)

pub turned_same : (k : Kernel) (F : FlatState) (last : ℕ) → SameTables k F → turn_after k last ≡ flat_turned F last
turned_same k F last t = ap₂ or_else (ready_same k F last t) (ready_same k F 0 t)
