-- Growth, sleep and pieces without a place, as the judge judges them.
use Rattle.std.proofs.Common.{◌≡◌, ℕ, ◌==◌, Bool, true, false, ◌&&◌, Option, Some, None, refl, sym, ap, ◌∙◌, subst, if◌then◌else◌}
use Rattle.std.proofs.Math.Bool.{and-true}
use Rattle.flat_state.specs.Flat.{FlatState, Inputs, can_step}
use Rattle.vm_facts.specs.declared.entry.Entry.TheVariants as entries
use Rattle.flat_model.specs.Step.{flat_step}
use Rattle.flat_model.specs.Run.{Point, flat_entry}
use Rattle.flat_machine.specs.declared.deed.Did.{Did}
use Rattle.flat_machine.specs.declared.deed.Did.TheVariants as deeds
use Rattle.replay_check.specs.declared.replaying.Last.{Last}
use Rattle.replay_check.specs.declared.replaying.Last.TheVariants as lasts
use Rattle.flat_machine.specs.Machine.{entries_of, state_if, entries_if}
use Rattle.replay_check.specs.Judging.{is_other, begins, IsAt, IsVerdict}
use Rattle.replay_check.proofs.Judging.{free_at, busy_at, followed, blocked, sole_at}
use Rattle.vm_facts.proofs.Tests.{eq_self}

pub other_last : (last : Last) → is_other last ≡ true → last ≡ lasts.Other
other_last lasts.Other is = refl
other_last (lasts.Refused q) is = absurd cc
other_last (lasts.Wrote q call regs) is = absurd cc

pub grown_begins : (pid grown pages : ℕ) → (grown == pages) ≡ begins pid (deeds.Grew grown) (entries.Grew pid pages)
grown_begins pid grown pages = sym (ap (λ (b : Bool). b && grown == pages) (eq_self pid))

pub grown_at : (A : Inputs) (point : Point) (F G : FlatState) (last new : Last) (pid pages : ℕ) (did : Did) (b : Bool) → is_other last ≡ true
    → new ≡ last → IsAt A F last point
    → entries_of pid did ≡ entries_if (can_step F pid) (flat_step A F pid false) → G ≡ state_if (can_step F pid) F (flat_step A F pid false)
    → b ≡ begins pid did (entries.Grew pid pages)
    → IsVerdict A b G new (flat_entry A point (entries.Grew pid pages))
grown_at A point F G last new pid pages did b other same at es after is =
    sole_at A point F G new pid false (entries.Grew pid pages) did b (free_at A F last pid (entries.Grew pid pages) point other at)
    (record { owner = refl; made = λ A point. refl }) (λ bytes. refl) (same ∙ other_last last other) es after is

pub grown_busy : (A : Inputs) (point : Point) (F G : FlatState) (last new : Last) (pid pages : ℕ) → is_other last ≡ false → IsAt A F last point
    → IsVerdict A false G new (flat_entry A point (entries.Grew pid pages))
grown_busy A point F G last new pid pages other at =
    blocked A point G new pid (entries.Grew pid pages) refl (busy_at A F last (entries.Grew pid pages) point other at (λ q. refl) (λ q. refl))

pub slept_begins : (pid : ℕ) → true ≡ begins pid deeds.Slept (entries.Sleeps pid)
slept_begins pid = sym (eq_self pid)

pub slept_at : (A : Inputs) (point : Point) (F G : FlatState) (last new : Last) (pid : ℕ) (did : Did) (b : Bool) → is_other last ≡ true → new ≡ last
    → IsAt A F last point
    → entries_of pid did ≡ entries_if (can_step F pid) (flat_step A F pid false) → G ≡ state_if (can_step F pid) F (flat_step A F pid false)
    → b ≡ begins pid did (entries.Sleeps pid)
    → IsVerdict A b G new (flat_entry A point (entries.Sleeps pid))
slept_at A point F G last new pid did b other same at es after is =
    sole_at A point F G new pid false (entries.Sleeps pid) did b (free_at A F last pid (entries.Sleeps pid) point other at)
    (record { owner = refl; made = λ A point. refl }) (λ bytes. refl) (same ∙ other_last last other) es after is

pub slept_busy : (A : Inputs) (point : Point) (F G : FlatState) (last new : Last) (pid : ℕ) → is_other last ≡ false → IsAt A F last point
    → IsVerdict A false G new (flat_entry A point (entries.Sleeps pid))
slept_busy A point F G last new pid other at =
    blocked A point G new pid (entries.Sleeps pid) refl (busy_at A F last (entries.Sleeps pid) point other at (λ q. refl) (λ q. refl))

pub refused_at : (A : Inputs) (point : Point) (F : FlatState) (last : Last) (pid : ℕ) (b : Bool) → is_other last ≡ true → IsAt A F last point
    → b ≡ can_step F pid
    → IsVerdict A b F (lasts.Refused pid) (flat_entry A point (entries.Refused pid))
refused_at A point F last pid b other at is =
    let opens = free_at A F last pid (entries.Refused pid) point other at in
    subst (λ (o : Option Point). IsVerdict A b F (lasts.Refused pid) o) (sym (followed A point pid (entries.Refused pid) true refl opens.1))
    (go b (can_step point.flat pid && true) opens.0.flat
    (is ∙ sym (ap (λ (G : FlatState). can_step G pid) opens.0.flat) ∙ sym (and-true (can_step point.flat pid))))
  where
    go : (b c : Bool) → point.flat ≡ F → b ≡ c → IsVerdict A b F (lasts.Refused pid) (if c then Some (record point { last = Some (entries.Refused pid) }) else None)
    go true true flat k = (flat, refl)
    go false false flat k = tt
    go true false flat k = absurd cc
    go false true flat k = absurd cc

pub refused_busy : (A : Inputs) (point : Point) (F G : FlatState) (last new : Last) (pid : ℕ) → is_other last ≡ false → IsAt A F last point
    → IsVerdict A false G new (flat_entry A point (entries.Refused pid))
refused_busy A point F G last new pid other at =
    blocked A point G new pid (entries.Refused pid) refl (busy_at A F last (entries.Refused pid) point other at (λ q. refl) (λ q. refl))
