-- Instructions that ran, and entries that no process made.
use Rattle.std.proofs.Common.{◌≡◌, ℕ, zero, suc, ◌+◌, ◌-◌, ◌≤◌, ◌==◌, Bool, true, false, ◌&&◌, List, [], ◌∷◌, Option, Some, None, refl, sym, ap, ◌∙◌, subst, arith}
use Rattle.flat_state.specs.Flat.{FlatState, Inputs, can_step}
use Rattle.vm_facts.specs.declared.entry.Entry.{Entry}
use Rattle.vm_facts.specs.declared.entry.Entry.TheVariants as entries
use Rattle.flat_state.specs.Journal.{repeated, units_with}
use Rattle.flat_model.specs.Step.{flat_step}
use Rattle.flat_model.specs.Run.{Point, flat_entry, flat_units}
use Rattle.flat_machine.specs.declared.deed.Did.{Did}
use Rattle.flat_machine.specs.declared.deed.Did.TheVariants as deeds
use Rattle.replay_check.specs.declared.replaying.Last.{Last}
use Rattle.flat_machine.specs.Machine.{entries_of, state_if, entries_if, RunsOne, RunsFor}
use Rattle.flat_model.specs.Run.{is_first_of}
use Rattle.replay_check.specs.Judging.{is_other, begins, IsAt, IsVerdict}
use Rattle.replay_check.proofs.Judging.{free_at, busy_at, blocked, not_first, sole_at}
use Rattle.vm_facts.proofs.Tests.{eq_self}
use Rattle.replay_check.proofs.JudgingGrowth.{other_last}

pub ran_begins : (pid : ℕ) → true ≡ begins pid deeds.Ran (entries.Ran pid 1)
ran_begins pid = sym (ap (λ (b : Bool). b && 1 == 1) (eq_self pid))

pub ran_at : (A : Inputs) (point : Point) (F G : FlatState) (last new : Last) (pid : ℕ) (did : Did) (b : Bool) → is_other last ≡ true → new ≡ last
    → IsAt A F last point
    → entries_of pid did ≡ entries_if (can_step F pid) (flat_step A F pid false) → G ≡ state_if (can_step F pid) F (flat_step A F pid false)
    → b ≡ begins pid did (entries.Ran pid 1)
    → IsVerdict A b G new (flat_entry A point (entries.Ran pid 1))
ran_at A point F G last new pid did b other same at es after is =
    sole_at A point F G new pid false (entries.Ran pid 1) did b (free_at A F last pid (entries.Ran pid 1) point other at)
    (record { owner = refl; made = λ A point. refl }) (λ bytes. refl) (same ∙ other_last last other) es after is

pub ran_busy : (A : Inputs) (point : Point) (F G : FlatState) (last new : Last) (pid : ℕ) → is_other last ≡ false → IsAt A F last point
    → IsVerdict A false G new (flat_entry A point (entries.Ran pid 1))
ran_busy A point F G last new pid other at =
    blocked A point G new pid (entries.Ran pid 1) refl (busy_at A F last (entries.Ran pid 1) point other at (λ q. refl) (λ q. refl))

-- Units in a row.

units_none : (A : Inputs) (o : Option Point) → flat_units A o [] ≡ o
unfolding flat_units
units_none A None = refl
units_none A (Some point) = refl

pub units_one : (A : Inputs) (point : Point) (u : Entry) → flat_units A (Some point) (u ∷ []) ≡ flat_entry A point u
unfolding flat_units
units_one A point u = units_none A (flat_entry A point u)

-- an entry that is one unit
pub unit_of : (A : Inputs) (point : Point) (e u : Entry) → e ≡ u → units_with u [] ≡ u ∷ [] → flat_units A (Some point) (units_with e []) ≡ flat_entry A point u
unit_of A point e u is one = ap (λ (x : Entry). flat_units A (Some point) (units_with x [])) is ∙ ap (flat_units A (Some point)) one ∙ units_one A point u

-- one unit more of those that are all the same
pub repeated_more : (A : Inputs) (o : Option Point) (u : Entry) (n : ℕ)
    → flat_units A o (repeated u (suc n) []) ≡ flat_units A (flat_units A o (repeated u n [])) (u ∷ [])
unfolding flat_units
repeated_more A None u n = refl
repeated_more A (Some point) u zero = refl
repeated_more A (Some point) u (suc n) = repeated_more A (flat_entry A point u) u n

repeated_fails : (A : Inputs) (o : Option Point) (u : Entry) (n more : ℕ) → flat_units A o (repeated u n []) ≡ None
    → flat_units A o (repeated u (more + n) []) ≡ None
unfolding flat_units
repeated_fails A o u n zero h = subst (λ (k : ℕ). flat_units A o (repeated u k []) ≡ None) (let e : n ≡ zero + n = omega arith in e) h
repeated_fails A o u n (suc more) h =
    subst (λ (k : ℕ). flat_units A o (repeated u k []) ≡ None) (let e : suc (more + n) ≡ suc more + n = omega arith in e)
    (repeated_more A o u (more + n) ∙ ap (λ (p : Option Point). flat_units A p (u ∷ [])) (repeated_fails A o u n more h))

-- no instruction leaves the point as it is
pub ran_none : (A : Inputs) (F : FlatState) (last : Last) (point : Point) (pid : ℕ) → IsAt A F last point
    → IsVerdict A true F last (flat_units A (Some point) (units_with (entries.Ran pid 0) []))
ran_none A F last point pid at = subst (λ (o : Option Point). IsVerdict A true F last o) (sym (units_none A (Some point))) at

-- one more instruction is judged
pub ran_next : (A : Inputs) (o : Option Point) (F G : FlatState) (last new : Last) (pid n : ℕ) (b : Bool)
    → IsVerdict A true F last (flat_units A o (units_with (entries.Ran pid n) []))
    → ((point : Point) → IsAt A F last point → IsVerdict A b G new (flat_entry A point (entries.Ran pid 1)))
    → IsVerdict A b G new (flat_units A o (units_with (entries.Ran pid (n + 1)) []))
ran_next A o F G last new pid n b so next =
    subst (λ (k : ℕ). IsVerdict A b G new (flat_units A o (units_with (entries.Ran pid k) []))) (let e : suc n ≡ n + 1 = omega arith in e)
    (subst (λ (p : Option Point). IsVerdict A b G new p) (sym (repeated_more A o (entries.Ran pid 1) n))
    (go (flat_units A o (units_with (entries.Ran pid n) [])) so))
  where
    go : (p : Option Point) → IsVerdict A true F last p → IsVerdict A b G new (flat_units A p (entries.Ran pid 1 ∷ []))
    go None k = absurd k
    go (Some point) k = subst (λ (p : Option Point). IsVerdict A b G new p) (sym (units_one A point (entries.Ran pid 1))) (next point k)

failed : (A : Inputs) (F : FlatState) (last : Last) (o : Option Point) → IsVerdict A false F last o → o ≡ None
failed A F last None h = refl
failed A F last (Some point) h = absurd h

-- an instruction that doesn't run leaves the others none
pub ran_fails : (A : Inputs) (o : Option Point) (F G : FlatState) (last new : Last) (pid n count : ℕ) → n ≤ count
    → IsVerdict A false F last (flat_units A o (units_with (entries.Ran pid n) []))
    → IsVerdict A false G new (flat_units A o (units_with (entries.Ran pid count) []))
ran_fails A o F G last new pid n count few h =
    subst (λ (p : Option Point). IsVerdict A false G new p)
    (sym (subst (λ (k : ℕ). flat_units A o (repeated (entries.Ran pid 1) k []) ≡ None) (let e : count - n + n ≡ count = omega arith in e)
    (repeated_fails A o (entries.Ran pid 1) n (count - n) (failed A F last (flat_units A o (units_with (entries.Ran pid n) [])) h)))) tt

one_ran : (A : Inputs) (F G : FlatState) (last : Last) (point : Point) (pid : ℕ) → is_other last ≡ true → IsAt A F last point → RunsOne A F pid G
    → IsVerdict A true G last (flat_entry A point (entries.Ran pid 1))
one_ran A F G last point pid other at runs =
    ran_at A point F G last last pid deeds.Ran true other refl at
    (sym (ap (λ (b : Bool). entries_if b (flat_step A F pid false)) runs.can ∙ runs.entries))
    (runs.after ∙ sym (ap (λ (b : Bool). state_if b F (flat_step A F pid false)) runs.can))
    (ran_begins pid)

-- instructions that ran one after another lead on
pub all_ran : (A : Inputs) (F : FlatState) (last : Last) (point : Point) (pid : ℕ) → is_other last ≡ true → IsAt A F last point → (n : ℕ) (G : FlatState)
    → RunsFor A F pid n G → IsVerdict A true G last (flat_units A (Some point) (units_with (entries.Ran pid n) []))
all_ran A F last point pid other at zero G h =
    subst (λ (H : FlatState). IsVerdict A true H last (flat_units A (Some point) (units_with (entries.Ran pid 0) []))) (sym h) (ran_none A F last point pid at)
all_ran A F last point pid other at (suc n) G h =
    subst (λ (k : ℕ). IsVerdict A true G last (flat_units A (Some point) (units_with (entries.Ran pid k) []))) (let e : n + 1 ≡ suc n = omega arith in e)
    (ran_next A (Some point) h.0 G last last pid n true (all_ran A F last point pid other at n h.0 h.1) (λ p here. one_ran A h.0 G last p pid other here h.2))

-- a step that doesn't begin with an instruction that ran has none
pub not_ran : (A : Inputs) (F G : FlatState) (last new : Last) (point : Point) (pid : ℕ) → is_other last ≡ true → IsAt A F last point
    → is_first_of (entries_if (can_step F pid) (flat_step A F pid false)) (entries.Ran pid 1) ≡ false
    → IsVerdict A false G new (flat_entry A point (entries.Ran pid 1))
not_ran A F G last new point pid other at none =
    not_first A point F G new pid false (entries.Ran pid 1) (free_at A F last pid (entries.Ran pid 1) point other at) (record { owner = refl; made = λ A point. refl }) none

-- an entry that no process made leaves the point as it is
pub skipped : (A : Inputs) (point : Point) (e : Entry) → ((p n : ℕ) → e ≡ entries.Ran p n → ⊥) → ((p : ℕ) (bytes : List ℕ) → e ≡ entries.Out p bytes → ⊥)
    → ((p n : ℕ) → e ≡ entries.Grew p n → ⊥) → ((p n : ℕ) (carry : Bool) (r0 r1 : ℕ) → e ≡ entries.Call p n carry r0 r1 → ⊥)
    → ((p : ℕ) → e ≡ entries.Refused p → ⊥)
    → ((p : ℕ) → e ≡ entries.Sleeps p → ⊥) → ((p n : ℕ) → e ≡ entries.Ended p n → ⊥) → flat_units A (Some point) (units_with e []) ≡ Some point
unfolding flat_entry flat_units
skipped A point (entries.Ran pid n) ran out grew call refused sleeps ended = absurd (ran pid n refl)
skipped A point (entries.Out pid bytes) ran out grew call refused sleeps ended = absurd (out pid bytes refl)
skipped A point (entries.Grew pid pages) ran out grew call refused sleeps ended = absurd (grew pid pages refl)
skipped A point (entries.Call pid number carry r0 r1) ran out grew call refused sleeps ended = absurd (call pid number carry r0 r1 refl)
skipped A point (entries.Refused pid) ran out grew call refused sleeps ended = absurd (refused pid refl)
skipped A point (entries.Sleeps pid) ran out grew call refused sleeps ended = absurd (sleeps pid refl)
skipped A point (entries.Ended pid status) ran out grew call refused sleeps ended = absurd (ended pid status refl)
skipped A point (entries.Hands n) ran out grew call refused sleeps ended = go n
  where
    go : (k : ℕ) → flat_units A (Some point) (repeated (entries.Hands 1) k []) ≡ Some point
    go zero = refl
    go (suc k) = go k
skipped A point _ ran out grew call refused sleeps ended = refl
