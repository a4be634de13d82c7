-- Which entries come at a point, and where they lead.
use Rattle.std.proofs.Common.{◌≡◌, ℕ, Bool, true, false, ◌&&◌, List, [], ◌∷◌, Option, Some, None, refl, sym, ap, ◌∙◌, subst, if◌then◌else◌}
use Rattle.std.proofs.lemmas.Bool.{and_parts, and_from}
use Rattle.std.proofs.lemmas.Option.{same_Some}
use Rattle.vm_facts.specs.declared.entry.Entry.{Entry}
use Rattle.vm_facts.specs.declared.entry.Entry.TheVariants.{Ran, Grew, Call, Refused, Sleeps, Ended}
use Rattle.flat_state.specs.Flat.{FlatState, Inputs, start_state, can_step}
use Rattle.flat_state.specs.Journal.{units_of}
use Rattle.flat_model.specs.Step.{flat_step}
use Rattle.flat_model.specs.Run.{Point, is_refused, step_at, due_at, behind, point_after, is_first_of, process_of_entry, may_follow, is_due, comes_at, ComesAt, led_to, flat_entry_by, flat_entry, flat_units, flat_run, start_point}
use Rattle.flat_model.proofs.StepEnds.{IsStepEnd}

-- an entry came at a point, and led to another
pub record Came (A : Inputs) (point q : Point) (pid : ℕ) (e : Entry) : Type 0 where
  pub comes : ComesAt A point pid e
  pub leads : led_to A point pid e ≡ q

if_some : (b : Bool) (p q : Point) → (if b then Some p else None) ≡ Some q → (b ≡ true) × (p ≡ q)
if_some true p q h = (refl, same_Some p q h)
if_some false p q h = absurd cc

pub came : (A : Inputs) (point q : Point) (pid : ℕ) (e : Entry) → process_of_entry e ≡ Some pid → flat_entry A point e ≡ Some q → Came A point q pid e
unfolding flat_entry
came A point q pid e of h =
    let k : flat_entry_by A point (Some pid) e ≡ Some q = subst (λ (o : Option ℕ). flat_entry_by A point o e ≡ Some q) of h in
    let both = if_some (comes_at A point pid e) (led_to A point pid e) q k in
    let all = and_parts (may_follow point.last e) (can_step point.flat pid && is_due A point pid e) both.0 in
    let more = and_parts (can_step point.flat pid) (is_due A point pid e) all.1 in
    record { comes = record { process = of; follows = all.0; steps = more.0; next = more.1 }; leads = both.1 }

pub leads : (A : Inputs) (point : Point) (pid : ℕ) (e : Entry) → ComesAt A point pid e → flat_entry A point e ≡ Some (led_to A point pid e)
unfolding flat_entry
leads A point pid e h =
    ap (λ (o : Option ℕ). flat_entry_by A point o e) h.process
    ∙ ap (λ (b : Bool). if b then Some (led_to A point pid e) else None)
    (and_from (may_follow point.last e) (can_step point.flat pid && is_due A point pid e) h.follows
    (and_from (can_step point.flat pid) (is_due A point pid e) h.steps h.next))

pub stands : (A : Inputs) (point : Point) (e : Entry) → process_of_entry e ≡ None → flat_entry A point e ≡ Some point
unfolding flat_entry
stands A point e none = ap (λ (o : Option ℕ). flat_entry_by A point o e) none

pub never : (A : Inputs) (point : Point) (pid : ℕ) (e : Entry) → process_of_entry e ≡ Some pid → (ComesAt A point pid e → ⊥) → flat_entry A point e ≡ None
never A point pid e of not = go (flat_entry A point e) refl
  where
    go : (o : Option Point) → flat_entry A point e ≡ o → o ≡ None
    go None h = refl
    go (Some q) h = let c : Came A point q pid e = came A point q pid e of h in absurd (not c.comes)

-- an entry of a process's step: no `Refused`
pub record IsOfStep (A : Inputs) (point : Point) (pid : ℕ) (e : Entry) : Type 0 where
  pub process : process_of_entry e ≡ Some pid
  pub due : is_due A point pid e ≡ is_first_of (due_at A point pid) e
  pub led : led_to A point pid e ≡ point_after A point pid

pub end_of_step : (A : Inputs) (point : Point) (pid : ℕ) (e : Entry) → IsStepEnd pid e → IsOfStep A point pid e
end_of_step A point pid (Ran p n) h = record { process = ap Some h; due = refl; led = refl }
end_of_step A point pid (Grew p n) h = record { process = ap Some h; due = refl; led = refl }
end_of_step A point pid (Call p n c r0 r1) h = record { process = ap Some h; due = refl; led = refl }
end_of_step A point pid (Sleeps p) h = record { process = ap Some h; due = refl; led = refl }
end_of_step A point pid (Ended p n) h = record { process = ap Some h; due = refl; led = refl }
end_of_step A point pid _ h = absurd h

-- What each step keeps, a run keeps.

behind_keeps : (P : FlatState → Type 0) (point : Point) (after : FlatState) (es : List Entry) → P point.flat → P after → P (behind point after es).flat
behind_keeps P point after (e ∷ []) h k = k
behind_keeps P point after _ h k = h

led_keeps : (P : FlatState → Type 0) (A : Inputs) (point : Point) (pid : ℕ) (e : Entry) → P point.flat → P (step_at A point pid).after
    → P (led_to A point pid e).flat
led_keeps P A point pid (Refused p) h k = h
led_keeps P A point pid e h k = behind_keeps P point (step_at A point pid).after (due_at A point pid) h k

pub entry_keeps : (P : FlatState → Type 0) (A : Inputs) (point q : Point) (e : Entry)
    → ((pid : ℕ) (refused : Bool) → P (flat_step A point.flat pid refused).after) → flat_entry A point e ≡ Some q → P point.flat → P q.flat
entry_keeps P A point q e step h k = go (process_of_entry e) refl
  where
    go : (o : Option ℕ) → process_of_entry e ≡ o → P q.flat
    go None none = subst (λ (x : Point). P x.flat) (same_Some point q (sym (stands A point e none) ∙ h)) k
    go (Some pid) of =
        let c : Came A point q pid e = came A point q pid e of h in
        subst (λ (x : Point). P x.flat) c.leads (led_keeps P A point pid e k (step pid (is_refused point.last pid)))

units_keep : (P : FlatState → Type 0) (A : Inputs) (us : List Entry) (point q : Point)
    → ((F : FlatState) (pid : ℕ) (refused : Bool) → P F → P (flat_step A F pid refused).after) → flat_units A (Some point) us ≡ Some q
    → P point.flat → P q.flat
unfolding flat_units
units_keep P A [] point q step h k = subst (λ (x : Point). P x.flat) (same_Some point q h) k
units_keep P A (u ∷ us) point q step h k = go (λ next l m. units_keep P A us next q step l m) (flat_entry A point u) refl h
  where
    go : ((next : Point) → flat_units A (Some next) us ≡ Some q → P next.flat → P q.flat) → (o : Option Point) → flat_entry A point u ≡ o
        → flat_units A o us ≡ Some q → P q.flat
    go later None e l = absurd cc
    go later (Some next) e l = later next l (entry_keeps P A point next u (λ pid refused. step point.flat pid refused k) e k)

pub run_keeps : (P : FlatState → Type 0) (A : Inputs) (journal : List Entry) (point : Point)
    → ((F : FlatState) (pid : ℕ) (refused : Bool) → P F → P (flat_step A F pid refused).after) → P (start_state A)
    → flat_run A journal ≡ Some point → P point.flat
run_keeps P A journal point step start h = units_keep P A (units_of journal) (start_point A) point step h start
