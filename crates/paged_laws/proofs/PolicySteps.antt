-- The entries of processes by the policy: any policy may take them.
use Rattle.std.proofs.Common.{◌≡◌, ℕ, ◌+◌, ◌<◌, ◌≤◌, ◌==◌, max, nat_le, Bool, true, not, ◌&&◌, [], bytes_eq, Option, Some, None, refl, sym, ap, ◌∙◌, subst, arith}
use Rattle.std.proofs.lemmas.Bool.Decides.{nat_tests}
use Rattle.std.proofs.lemmas.Option.{same_Some}
use Rattle.std.proofs.lemmas.Slice.Eq.{bytes_eq-Decides}
use Rattle.vm_facts.proofs.Tests.{eq_self}
use Rattle.vm_facts.specs.declared.entry.Entry.{Entry}
use Rattle.vm_facts.specs.declared.entry.Entry.TheVariants as entries
use Rattle.flat_state.specs.Flat.{Process, Inputs, process_of, can_step, ready_if}
use Rattle.flat_state.specs.Journal.{counted, IsUnit}
use Rattle.page_model.specs.Swapper.{is_out}
use Rattle.flat_model.specs.Run.{same_carry, process_of_entry}
use Rattle.flat_model.specs.Touched.{touched}
use Rattle.run_model.specs.declared.mark.Mark.{Mark}
use Rattle.run_model.specs.State.{State}
use Rattle.run_model.specs.Wanted.{running}
use Rattle.run_model.specs.Act.{act}
use Rattle.run_model.specs.Next.{next_unit}
use Rattle.run_model.specs.Kinds.{ProcessRuns}
use Rattle.run_model.proofs.Acting.{carry_self}
use Rattle.run_model.proofs.Wanting.{all_present}
use Rattle.run_laws.specs.Flowing.{Awaits, WaitsBy, Flows}
use Rattle.run_laws.specs.Running.{IsRun, ReadyToStep}
use Rattle.run_laws.proofs.Flows.{Acted, Settles, Refuses, Steps, acted, on_running, steps_own}
use Rattle.run_laws.proofs.Lawful.{next_is_unit}
use Rattle.run_laws.proofs.Settling.{settles}
use Rattle.run_laws.proofs.Wholes.{unit_ready}
use Rattle.paged_model.specs.declared.reason.Reason.TheVariants as reasons
use Rattle.paged_model.specs.Reasons.{unless, or_reason}
use Rattle.paged_model.specs.Moves.{due_first}
use Rattle.paged_model.specs.Steps.{other_begun, stuck_if, stuck, away_by, page_away, is_same, other_act, step_reason}
use Rattle.paged_model.specs.Runs.{unit_reason}
use Rattle.paged_model.proofs.Reasoned.{none_or, none_unless}
use Rattle.paged_laws.proofs.Agreeing.{Agrees}
use Rattle.paged_laws.proofs.Marked.{acts_goes}
use Rattle.paged_laws.proofs.Virtual.{both, act_same}
use Rattle.paged_laws.proofs.PolicyPages.{seen_as, IsHands, Fine, done_fine}

-- An entry is the same as itself.

same_self : (u : Entry) (pid : ℕ) → process_of_entry u ≡ Some pid → is_same u u ≡ true
same_self (entries.Ran p n) pid e = both (p == p) (n == n) (eq_self p) (eq_self n)
same_self (entries.Out p bytes) pid e = both (p == p) (bytes_eq bytes bytes) (eq_self p) ((bytes_eq-Decides bytes bytes).1 refl)
same_self (entries.Grew p n) pid e = both (p == p) (n == n) (eq_self p) (eq_self n)
same_self (entries.Call p n c x y) pid e =
    both (p == p) (n == n && (same_carry c c && (x == x && y == y))) (eq_self p)
    (both (n == n) (same_carry c c && (x == x && y == y)) (eq_self n)
    (both (same_carry c c) (x == x && y == y) (carry_self c) (both (x == x) (y == y) (eq_self x) (eq_self y))))
same_self (entries.Refused p) pid e = eq_self p
same_self (entries.Sleeps p) pid e = eq_self p
same_self (entries.Ended p n) pid e = both (p == p) (n == n) (eq_self p) (eq_self n)
same_self _ pid e = absurd cc

pub act_self : (u : Entry) (pid : ℕ) → process_of_entry u ≡ Some pid → other_act pid u (Some u) ≡ None
act_self (entries.Ran p n) pid e = none_unless (is_same (entries.Ran p n) (entries.Ran p n)) (reasons.Comes (entries.Ran p n)) (same_self (entries.Ran p n) pid e)
act_self (entries.Out p bytes) pid e =
    none_unless (is_same (entries.Out p bytes) (entries.Out p bytes)) (reasons.Comes (entries.Out p bytes)) (same_self (entries.Out p bytes) pid e)
act_self (entries.Grew p n) pid e =
    none_unless (is_same (entries.Grew p n) (entries.Grew p n)) (reasons.Comes (entries.Grew p n)) (same_self (entries.Grew p n) pid e)
act_self (entries.Call p n c x y) pid e =
    none_unless (is_same (entries.Call p n c x y) (entries.Call p n c x y)) (reasons.Comes (entries.Call p n c x y)) (same_self (entries.Call p n c x y) pid e)
act_self (entries.Refused p) pid e =
    none_unless (is_same (entries.Refused p) (entries.Refused p)) (reasons.Comes (entries.Refused p)) (same_self (entries.Refused p) pid e)
act_self (entries.Sleeps p) pid e = none_unless (is_same (entries.Sleeps p) (entries.Sleeps p)) (reasons.Comes (entries.Sleeps p)) (same_self (entries.Sleeps p) pid e)
act_self (entries.Ended p n) pid e =
    none_unless (is_same (entries.Ended p n) (entries.Ended p n)) (reasons.Comes (entries.Ended p n)) (same_self (entries.Ended p n) pid e)
act_self _ pid e = absurd cc

-- What a step asks.

pub one_counted : (u : Entry) → IsUnit u → max 1 (counted u) ≡ 1
one_counted (entries.Ran p n) k = ap (max 1) k
one_counted _ k = refl

pub can_none : (A : Inputs) (s : State) (pid : ℕ) → can_step s.point.flat pid ≡ true → stuck A s pid ≡ None
can_none A s pid c = go (process_of s.point.flat pid) c
  where
    go : (o : Option Process) → ready_if o ≡ true → stuck_if A s pid o ≡ None
    go None e = absurd cc
    go (Some q) e = none_unless (can_step s.point.flat pid) (reasons.CannotStep pid) c

other_none : (A : Inputs) (s : State) (pid : ℕ) → running s.mark ≡ Some pid → WaitsBy A s s.point.last → other_begun s.point.last pid ≡ None
other_none A s pid i w = go s.point.last w
  where
    one : (p : ℕ) → Awaits A s p → (p == pid) ≡ true
    one p v =
        let q : ProcessRuns A s p v.now = v.runs in
        ap (λ (x : ℕ). x == pid) (same_Some p pid (sym (on_running A s s.mark p v.now q.on) ∙ i)) ∙ eq_self pid

    go : (o : Option Entry) → WaitsBy A s o → other_begun o pid ≡ None
    go (Some (entries.Refused p)) v = none_unless (p == pid) (reasons.Begun p) (one p v)
    go (Some (entries.Out p bytes)) v = none_unless (p == pid) (reasons.Begun p) (one p v)
    go _ v = refl

step_none : (A : Inputs) (s : State) (m : Mark) (pid : ℕ) (u : Entry) → WaitsBy A s s.point.last → next_unit A s ≡ Some u → act A s pid ≡ Some u
    → process_of_entry u ≡ Some pid → step_reason A (seen_as s m) pid u ≡ None
step_none A s m pid u w h a e =
    let x : ReadyToStep A s pid = unit_ready A s u pid h e in
    let v : State = seen_as s m in
    none_or (unless (nat_le (s.count + max 1 (counted u)) A.limit) reasons.TooMany)
    (or_reason (stuck A v pid) (or_reason (other_begun s.point.last pid) (or_reason (due_first s.place.due)
    (or_reason (unless (not (is_out s.place pid)) (reasons.IsOut pid)) (or_reason (page_away A v pid) (other_act pid u (act A v pid)))))))
    (none_unless (nat_le (s.count + max 1 (counted u)) A.limit) reasons.TooMany
    (ap (λ (n : ℕ). nat_le (s.count + n) A.limit) (one_counted u (next_is_unit A s u h)) ∙ (let l : s.count < A.limit = x.below in grind (arith, nat_tests))))
    (none_or (stuck A v pid) (or_reason (other_begun s.point.last pid) (or_reason (due_first s.place.due)
    (or_reason (unless (not (is_out s.place pid)) (reasons.IsOut pid)) (or_reason (page_away A v pid) (other_act pid u (act A v pid))))))
    (can_none A v pid x.steps)
    (none_or (other_begun s.point.last pid) (or_reason (due_first s.place.due)
    (or_reason (unless (not (is_out s.place pid)) (reasons.IsOut pid)) (or_reason (page_away A v pid) (other_act pid u (act A v pid)))))
    (other_none A s pid x.runs w)
    (none_or (due_first s.place.due)
    (or_reason (unless (not (is_out s.place pid)) (reasons.IsOut pid)) (or_reason (page_away A v pid) (other_act pid u (act A v pid))))
    (ap due_first x.clear)
    (none_or (unless (not (is_out s.place pid)) (reasons.IsOut pid)) (or_reason (page_away A v pid) (other_act pid u (act A v pid)))
    (none_unless (not (is_out s.place pid)) (reasons.IsOut pid) (ap not x.resident))
    (none_or (page_away A v pid) (other_act pid u (act A v pid))
    (ap (away_by s.place) (all_present s.place (touched A s.point.flat pid) x.pages))
    (ap (other_act pid u) (act_same A s m pid ∙ a) ∙ act_self u pid e))))))

process_none : (A : Inputs) (s : State) (u : Entry) (pid : ℕ) → process_of_entry u ≡ Some pid → step_reason A s pid u ≡ None → unit_reason A s u ≡ None
unfolding unit_reason
process_none A s (entries.Ran p n) pid e k = subst (λ (x : ℕ). step_reason A s x (entries.Ran p n) ≡ None) (sym (same_Some p pid e)) k
process_none A s (entries.Out p bytes) pid e k = subst (λ (x : ℕ). step_reason A s x (entries.Out p bytes) ≡ None) (sym (same_Some p pid e)) k
process_none A s (entries.Grew p n) pid e k = subst (λ (x : ℕ). step_reason A s x (entries.Grew p n) ≡ None) (sym (same_Some p pid e)) k
process_none A s (entries.Call p n c y z) pid e k = subst (λ (x : ℕ). step_reason A s x (entries.Call p n c y z) ≡ None) (sym (same_Some p pid e)) k
process_none A s (entries.Refused p) pid e k = subst (λ (x : ℕ). step_reason A s x (entries.Refused p) ≡ None) (sym (same_Some p pid e)) k
process_none A s (entries.Sleeps p) pid e k = subst (λ (x : ℕ). step_reason A s x (entries.Sleeps p) ≡ None) (sym (same_Some p pid e)) k
process_none A s (entries.Ended p n) pid e k = subst (λ (x : ℕ). step_reason A s x (entries.Ended p n) ≡ None) (sym (same_Some p pid e)) k
process_none A s _ pid e k = absurd cc

no_hands : (u : Entry) (pid : ℕ) → process_of_entry u ≡ Some pid → IsHands u → ⊥
no_hands (entries.Hands n) pid e k = absurd cc
no_hands _ pid e k = k

module _ (A : Inputs) (s : State) (m : Mark) (u : Entry) (h : next_unit A s ≡ Some u) (r : IsRun A s) (a : Agrees s m) (enough : 64 ≤ A.frames) where
  waits : WaitsBy A s s.point.last
  waits = let f : Flows A s = r.flows in f.waits

  pub act_fine : (pid : ℕ) (now : Bool) → ProcessRuns A s pid now → act A s pid ≡ Some u → Fine A s m u
  act_fine pid now x y = by (acted A s pid u y)
    where
      own : process_of_entry u ≡ Some pid → Acted A s pid u → Fine A s m u
      own e k = record {
        reason = process_none A (seen_as s m) u pid e (step_none A s m pid u waits h y e);
        same = λ z. absurd (no_hands u pid e z);
        goes = acts_goes A s m a u pid now x k;
      }

      by : Acted A s pid u → Fine A s m u
      by (Settles e) = done_fine A s m u h r a enough e (settles A s pid (y ∙ ap (λ (z : Entry). Some z) e))
      by (Refuses e) = own (ap process_of_entry e) (Refuses e)
      by (Steps f g e) = own (steps_own A s.point pid u e) (Steps f g e)
