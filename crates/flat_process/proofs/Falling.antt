-- Where an access falls that is refused below the stack.
use Rattle.std.proofs.Common.{◌≡◌, ℕ, ◌+◌, ◌-◌, leb, ltb, Bool, true, false, ◌&&◌, length, Some, None, Ok, Option, ℤ, Err, Result, refl, subst, arith}
use Rattle.std.proofs.lemmas.Bool.Decides.{nat_tests}
use Rattle.flat_state.specs.Space.{Space, spot_by, spot_at, stack_top, stack_reach, address_in, byte_at, may_write_at, answers_of}
use Rattle.vm_facts.specs.declared.regs.Regs.{Regs}
use Rattle.vm_facts.specs.declared.memory.ByteRead.{ByteRead}
use Rattle.vm_facts.specs.declared.memory.ByteRead.TheVariants as reads
use Rattle.vm_facts.specs.declared.memory.MayWrite.{MayWrite}
use Rattle.vm_facts.specs.declared.memory.MayWrite.TheVariants as tests
use Rattle.user_vax.specs.declared.refused.Refused.TheVariants.{Below as Fell}
use Rattle.user_vax.specs.Program.{Program, run, ByteAccess, ReadOf, TestOf}
use Rattle.user_vax.specs.Laws.{read_refusal, test_refusal, refusal}
use Rattle.user_vax.proofs.Order.{keeps_order}
use Rattle.flat_state.specs.declared.spot.Spot.{Spot}
use Rattle.flat_state.specs.declared.spot.Spot.TheVariants.{Text, Data, Stack, Below, Outside}
use Rattle.user_vax.specs.Effects.{Effect}
use Rattle.user_vax.specs.declared.refused.Refused.{Refused}
use Rattle.user_vax.specs.declared.refused.Refused.TheVariants as refusals
use Rattle.user_vax.specs.Instruction.{instruction, answer_of, answer_of_call}
use Rattle.flat_process.specs.Holdings.{IsNear, IsNearStep}

below_read : (s : Space) (p : Spot) → byte_at s p ≡ reads.Below → p ≡ Below
below_read s (Text i) e = absurd cc
below_read s (Data i) e = absurd cc
below_read s (Stack i) e = absurd cc
below_read s Below e = refl
below_read s Outside e = absurd cc

below_write : (p : Spot) → may_write_at p ≡ tests.Below → p ≡ Below
below_write (Text i) e = absurd cc
below_write (Data i) e = absurd cc
below_write (Stack i) e = absurd cc
below_write Below e = refl
below_write Outside e = absurd cc

below_spot : (t d s a : ℕ) → spot_at t d s a ≡ Below → IsNear a
unfolding spot_at
below_spot t d s a h = go (ltb a t) (ltb a (t + d)) (leb (stack_top - s) a) (ltb a stack_top) (leb (stack_top - stack_reach) a) refl refl h
  where
    go : (b c low high near : Bool) → ltb a stack_top ≡ high → leb (stack_top - stack_reach) a ≡ near
        → spot_by b c (low && high) (near && high) t a ≡ Below → IsNear a
    go true c low high near y z k = absurd cc
    go false true low high near y z k = absurd cc
    go false false true true near y z k = absurd cc
    go false false true false true y z k = absurd cc
    go false false true false false y z k = absurd cc
    go false false false false true y z k = absurd cc
    go false false false false false y z k = absurd cc
    go false false false true false y z k = absurd cc
    go false false false true true y z k = record { near = grind (arith, nat_tests); under = grind (arith, nat_tests) }

-- an access that fell below the stack names such an address
pub fell_below : {A : Type 0} (s : Space) (p : Program A) (address : ℕ) → run (answers_of s) p ≡ Err (Fell address) → IsNear address
fell_below s p address e =
    let ends = (keeps_order (answers_of s) p).falls address e in
    below_spot (length s.text_bytes) (length s.data_bytes) (length s.stack_bytes) address (go ends.1 ends.4)
  where
    by_read : (answer : ByteRead) (a : ℕ) → read_refusal answer a ≡ Some (Fell address) → (answer ≡ reads.Below) × (a ≡ address)
    by_read (reads.Is byte) a k = absurd cc
    by_read reads.Miss a k = absurd cc
    by_read reads.Below a k = (refl, cc)
    by_read reads.Outside a k = absurd cc

    by_test : (answer : MayWrite) (a : ℕ) → test_refusal answer a ≡ Some (Fell address) → (answer ≡ tests.Below) × (a ≡ address)
    by_test tests.May a k = absurd cc
    by_test tests.Miss a k = absurd cc
    by_test tests.Below a k = (refl, cc)
    by_test tests.Text a k = absurd cc
    by_test tests.Outside a k = absurd cc

    go : (last : ByteAccess) → refusal (answers_of s) last ≡ Some (Fell address) → address_in s address ≡ Below
    go (ReadOf a) k =
        let found = by_read (byte_at s (address_in s a)) a k in
        subst (λ (x : ℕ). address_in s x ≡ Below) found.1 (below_read s (address_in s a) found.0)
    go (TestOf a) k =
        let found = by_test (may_write_at (address_in s a)) a k in
        subst (λ (x : ℕ). address_in s x ≡ Below) found.1 (below_write (address_in s a) found.0)

-- where an instruction falls below the stack it names such an address
pub near_step : (s : Space) (regs : Regs) → IsNearStep (answer_of (run (answers_of s) (instruction regs)))
near_step s regs = go (run (answers_of s) (instruction regs)) refl
  where
    called : (o : Option ℤ) → IsNearStep (answer_of_call o)
    called None = tt
    called (Some number) = tt

    go : (r : Result Effect Refused) → run (answers_of s) (instruction regs) ≡ r → IsNearStep (answer_of r)
    go (Ok effect) e = called effect.call
    go (Err (refusals.Miss address write)) e = tt
    go (Err (refusals.Below address)) e = fell_below s (instruction regs) address e
    go (Err (refusals.Signal number)) e = tt
