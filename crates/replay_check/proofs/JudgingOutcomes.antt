-- Ends and replies, as the judge judges them.
use Rattle.std.proofs.Common.{◌≡◌, ℕ, ◌==◌, Bool, false, ◌&&◌, Some, None, refl, sym, ap}
use Rattle.flat_state.specs.Flat.{FlatState, Inputs, can_step}
use Rattle.vm_facts.specs.declared.regs.Regs.{Regs}
use Rattle.vm_facts.specs.declared.entry.Entry.TheVariants as entries
use Rattle.user_vax.specs.Operands.{register}
use Rattle.flat_model.specs.declared.calls.SystemCall.{SystemCall}
use Rattle.flat_model.specs.Calls.{number_of}
use Rattle.flat_model.specs.Step.{flat_step, call_entry}
use Rattle.flat_model.specs.Run.{Point, flat_entry, same_entry, same_carry}
use Rattle.flat_machine.specs.declared.deed.Did.{Did}
use Rattle.flat_machine.specs.declared.deed.Did.TheVariants as deeds
use Rattle.replay_check.specs.declared.replaying.Last.{Last}
use Rattle.replay_check.specs.declared.replaying.Last.TheVariants as lasts
use Rattle.flat_machine.specs.Machine.{entries_of, state_if, entries_if}
use Rattle.replay_check.specs.Judging.{refused_in, begins, IsAt, IsVerdict}
use Rattle.replay_check.proofs.Judging.{open_at, shut_at, blocked, sole_at}
use Rattle.vm_facts.proofs.Tests.{eq_self}

pub ended_begins : (pid ended status : ℕ) → (ended == status) ≡ begins pid (deeds.Ended ended) (entries.Ended pid status)
ended_begins pid ended status = sym (ap (λ (b : Bool). b && ended == status) (eq_self pid))

pub ended_at : (A : Inputs) (point : Point) (F G : FlatState) (last new : Last) (pid status : ℕ) (refused : Bool) (did : Did) (b : Bool)
    → refused_in pid last ≡ Some refused → new ≡ lasts.Other → IsAt A F last point
    → entries_of pid did ≡ entries_if (can_step F pid) (flat_step A F pid refused) → G ≡ state_if (can_step F pid) F (flat_step A F pid refused)
    → b ≡ begins pid did (entries.Ended pid status)
    → IsVerdict A b G new (flat_entry A point (entries.Ended pid status))
ended_at A point F G last new pid status refused did b taken other at es after is =
    sole_at A point F G new pid refused (entries.Ended pid status) did b (open_at A F last pid refused (entries.Ended pid status) point taken at (eq_self pid))
    (record { owner = refl; made = λ A point. refl }) (λ bytes. refl) other es after is

pub ended_shut : (A : Inputs) (point : Point) (F G : FlatState) (last new : Last) (pid status : ℕ) → refused_in pid last ≡ None → IsAt A F last point
    → IsVerdict A false G new (flat_entry A point (entries.Ended pid status))
ended_shut A point F G last new pid status taken at =
    blocked A point G new pid (entries.Ended pid status) refl (shut_at A F last pid (entries.Ended pid status) point taken at (λ q. refl) (λ q call regs is. refl))

-- the reply that registers say, of a call of this number
pub answer_same : (pid number r0 r1 : ℕ) (carry : Bool) (call : SystemCall) (regs : Regs)
    → (number_of call == number && (same_carry regs.c carry && (register regs 0 == r0 && register regs 1 == r1)))
    ≡ same_entry (call_entry pid call regs) (entries.Call pid number carry r0 r1)
answer_same pid number r0 r1 carry call regs =
    sym (ap (λ (b : Bool). b && (number_of call == number && (same_carry regs.c carry && (register regs 0 == r0 && register regs 1 == r1)))) (eq_self pid))

pub called_at : (A : Inputs) (point : Point) (F G : FlatState) (last new : Last) (pid number r0 r1 : ℕ) (carry refused : Bool) (did : Did) (b : Bool)
    → refused_in pid last ≡ Some refused → new ≡ lasts.Other → IsAt A F last point
    → entries_of pid did ≡ entries_if (can_step F pid) (flat_step A F pid refused) → G ≡ state_if (can_step F pid) F (flat_step A F pid refused)
    → b ≡ begins pid did (entries.Call pid number carry r0 r1)
    → IsVerdict A b G new (flat_entry A point (entries.Call pid number carry r0 r1))
called_at A point F G last new pid number r0 r1 carry refused did b taken other at es after is =
    sole_at A point F G new pid refused (entries.Call pid number carry r0 r1) did b (open_at A F last pid refused (entries.Call pid number carry r0 r1) point taken at (eq_self pid))
    (record { owner = refl; made = λ A point. refl }) (λ bytes. refl) other es after is

pub called_shut : (A : Inputs) (point : Point) (F G : FlatState) (last new : Last) (pid number r0 r1 : ℕ) (carry : Bool) → refused_in pid last ≡ None
    → ((q : ℕ) (call : SystemCall) (regs : Regs) → last ≡ lasts.Wrote q call regs → ⊥) → IsAt A F last point
    → IsVerdict A false G new (flat_entry A point (entries.Call pid number carry r0 r1))
called_shut A point F G last new pid number r0 r1 carry taken apart at =
    blocked A point G new pid (entries.Call pid number carry r0 r1) refl
    (shut_at A F last pid (entries.Call pid number carry r0 r1) point taken at (λ q. refl) (λ q call regs is. absurd (apart q call regs is)))
