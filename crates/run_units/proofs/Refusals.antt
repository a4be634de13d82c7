-- `Refused` stands where pieces find no place, and no other entry of a process does.
use Rattle.std.proofs.Common.{◌≡◌, inl, inr, ℕ, not, ◌&&◌, Bool, true, false, Some, None, refl, sym, ◌∙◌, subst}
use Rattle.std.proofs.lemmas.Option.{same_Some}
use Rattle.vm_facts.specs.declared.entry.Entry.{Entry}
use Rattle.vm_facts.specs.declared.entry.Entry.TheVariants as entries
use Rattle.flat_state.specs.Flat.{Inputs, can_step}
use Rattle.flat_model.specs.Run.{is_refused, process_of_entry, entry_of_step as next_of_step}
use Rattle.run_model.specs.State.{State}
use Rattle.run_model.specs.After.{snapshot_of}
use Rattle.run_model.specs.Act.{must_refuse, must_settle, act_by, act_if, act}
use Rattle.run_model.specs.Next.{next_unit}
use Rattle.run_model.proofs.NextUnits.{kind_of}
use Rattle.economy_laws.specs.Flowing.{Flows}
use Rattle.economy_laws.specs.RunLawsRunning.{IsRun}
use Rattle.economy_laws.proofs.Flows.{Ends, next_or, steps_own, steps_shape}
use Rattle.run_units.specs.Owners.{finds_places, RefusesRightly}

none_found : (b c : Bool) → (not b && not c) ≡ true → c ≡ false
none_found false false e = refl
none_found false true e = absurd cc
none_found true c e = absurd cc

all_found : (b c : Bool) → (not b && not c) ≡ false → b ≡ false → c ≡ true
all_found false false e f = absurd cc
all_found false true e f = refl
all_found true c e f = absurd cc

-- of an entry that isn't `Refused`
rightly : (A : Inputs) (s : State) (u : Entry) → ((pid : ℕ) → u ≡ entries.Refused pid → ⊥)
    → ((pid : ℕ) → process_of_entry u ≡ Some pid → is_refused s.point.last pid ≡ false → finds_places A (snapshot_of s) pid ≡ true) → RefusesRightly A (snapshot_of s) u
rightly A s (entries.Refused pid) n f = absurd (n pid refl)
rightly A s _ n f = f

plain_rightly : (A : Inputs) (s : State) (u : Entry) → process_of_entry u ≡ None → RefusesRightly A (snapshot_of s) u
plain_rightly A s u e = rightly A s u (λ pid i. absurd (let z : process_of_entry (entries.Refused pid) ≡ None = subst (λ (x : Entry). process_of_entry x ≡ None) i e in cc))
    (λ pid i. absurd (let z : None ≡ Some pid = sym e ∙ i in cc))

no_refusal : (A : Inputs) (s : State) (pid p : ℕ) (u : Entry) → next_of_step A s.point pid ≡ Some u → u ≡ entries.Refused p → ⊥
no_refusal A s pid p u h i = elim (steps_shape A s.point pid u h) [
  | inl x ↦ subst Ends i x
  | inr x ↦ absurd (let z : entries.Out pid x.0 ≡ entries.Refused p = sym x.1 ∙ i in cc)
]

acts_rightly : (A : Inputs) (s : State) (pid : ℕ) (u : Entry) → act A s pid ≡ Some u → RefusesRightly A (snapshot_of s) u
unfolding act
acts_rightly A s pid u h = can (can_step s.point.flat pid) h
  where
    found : must_refuse A s pid ≡ false → next_of_step A s.point pid ≡ Some u
        → (p : ℕ) → process_of_entry u ≡ Some p → is_refused s.point.last p ≡ false → finds_places A (snapshot_of s) p ≡ true
    found m k p e n =
        let same : pid ≡ p = same_Some pid p (sym (steps_own A s.point pid u k) ∙ e) in
        subst (λ (x : ℕ). finds_places A (snapshot_of s) x ≡ true) same
        (all_found (is_refused s.point.last pid) (finds_places A (snapshot_of s) pid) m (subst (λ (x : ℕ). is_refused s.point.last x ≡ false) (sym same) n))

    by : (m t : Bool) → must_refuse A s pid ≡ m → act_by A s pid m t ≡ Some u → RefusesRightly A (snapshot_of s) u
    by true t e k = subst (RefusesRightly A (snapshot_of s)) (same_Some (entries.Refused pid) u k) (none_found (is_refused s.point.last pid) (finds_places A (snapshot_of s) pid) e)
    by false true e k = subst (RefusesRightly A (snapshot_of s)) (same_Some entries.Done u k) (plain_rightly A s entries.Done refl)
    by false false e k = rightly A s u (λ p. no_refusal A s pid p u k) (found e k)

    can : (b : Bool) → act_if b A s pid ≡ Some u → RefusesRightly A (snapshot_of s) u
    can true k = by (must_refuse A s pid) (must_settle A s pid) refl k
    can false k = absurd cc

pub unit_rightly : (A : Inputs) (s : State) (u : Entry) → IsRun A s → next_unit A s ≡ Some u → RefusesRightly A (snapshot_of s) u
unit_rightly A s u r h =
    let flows : Flows A s = r.flows in
    elim (next_or A s u flows.waits (kind_of A s u h)) [
      | inl e ↦ plain_rightly A s u e
      | inr x ↦ acts_rightly A s x.pid u x.next
    ]
