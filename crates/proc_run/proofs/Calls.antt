-- The first byte that misses in what an instruction and its call read or test, by what they come to.
use Rattle.std.proofs.Common.{◌≡◌, ℕ, Bool, List, Option, Some, None, Result, Ok, Err, ℤ, refl, ap, ◌∙◌, subst}
use Rattle.std.specs.Prelude.{IfOk}
use Rattle.vm_facts.specs.Answers.{Answers}
use Rattle.vm_facts.specs.declared.regs.Regs.{Regs}
use Rattle.vm_facts.specs.declared.stop.NoMemory.{NoMemory}
use Rattle.user_vax.specs.Program.{run}
use Rattle.user_vax.specs.Effects.{Effect}
use Rattle.user_vax.specs.Instruction.{instruction, answer_of, answer_of_call, registers_after}
use Rattle.user_vax.specs.declared.refused.Refused.{Refused}
use Rattle.user_vax.specs.declared.refused.Refused.TheVariants.{Miss, Below, Signal}
use Rattle.user_vax.specs.declared.stepped.Stepped.TheVariants as steps
use Rattle.flat_state.specs.Space.{Space}
use Rattle.flat_state.specs.Flat.{Process, FlatState, NamedImage}
use Rattle.flat_model.specs.declared.calls.SystemCall.{SystemCall}
use Rattle.flat_model.specs.Calls.{call_of, reply_of, refusal_of}
use Rattle.proc_run.specs.Missed.{missed_byte, missed_by_call, missed_behind_by, missed_behind, first_missed}

-- a byte that misses where a value is read
missed_refusal : {A : Type 0} (r : Result A Refused) → missed_byte (refusal_of r) ≡ missed_byte r
missed_refusal (Ok x) = refl
missed_refusal (Err (Miss address write)) = refl
missed_refusal (Err (Below address)) = refl
missed_refusal (Err (Signal number)) = refl

pub one_call : (known : List NamedImage) (F : FlatState) (p : Process) (s : Space) (memory : Answers) (regs : Regs) (call : SystemCall)
    (asked : Result (Unit {0}) Refused) (byte : Option ℕ)
    → asked ≡ refusal_of (run memory (reply_of known F p s call regs)) → byte ≡ missed_byte asked → byte ≡ missed_by_call known F p s memory regs (Some call)
one_call known F p s memory regs call asked byte read is = is ∙ ap missed_byte read ∙ missed_refusal (run memory (reply_of known F p s call regs))

module _ (known : List NamedImage) (F : FlatState) (p : Process) (s : Space) (memory : Answers) (regs : Regs) where
  step_missed : (r : Result Effect Refused) (address : ℕ) (write : Bool) → steps.Miss address write ≡ answer_of r → Some address ≡ missed_behind known F p s memory r
  step_missed (Ok effect) address write e = go effect.call e
    where
      go : (o : Option ℤ) → steps.Miss address write ≡ answer_of_call o → Some address ≡ missed_behind known F p s memory (Ok effect)
      go None k = absurd cc
      go (Some n) k = absurd cc
  step_missed (Err (Miss a w)) address write e = cc
  step_missed (Err (Below a)) address write e = absurd cc
  step_missed (Err (Signal n)) address write e = absurd cc

  pub byte_missed : (address : ℕ) (write : Bool) → steps.Miss address write ≡ answer_of (run memory (instruction regs))
      → Some address ≡ first_missed known F p s memory regs
  byte_missed address write e = step_missed (run memory (instruction regs)) address write e

  step_called : (r : Result Effect Refused) (number : ℤ) (after : Regs) → steps.Call number ≡ answer_of r → after ≡ registers_after regs r
      → missed_behind_by known F p s memory after (Some number) ≡ missed_behind known F p s memory r
  step_called (Ok effect) number after e g = go effect.call e ∙ ap (λ (rs : Regs). missed_behind_by known F p s memory rs effect.call) g
    where
      go : (o : Option ℤ) → steps.Call number ≡ answer_of_call o → missed_behind_by known F p s memory after (Some number) ≡ missed_behind_by known F p s memory after o
      go None k = absurd cc
      go (Some n) k = let same : number ≡ n = cc in ap (λ (z : ℤ). missed_behind_by known F p s memory after (Some z)) same
  step_called (Err (Miss a w)) number after e g = absurd cc
  step_called (Err (Below a)) number after e g = absurd cc
  step_called (Err (Signal n)) number after e g = absurd cc

  pub call_missed : (number : ℤ) (call : Option SystemCall) (after : Regs) (r : Result (Option ℕ) NoMemory)
      → steps.Call number ≡ answer_of (run memory (instruction regs)) → after ≡ registers_after regs (run memory (instruction regs))
      → call ≡ call_of number → IfOk r (λ byte. byte ≡ missed_by_call known F p s memory after call) → IfOk r (λ byte. byte ≡ first_missed known F p s memory regs)
  call_missed number call after r e g names h =
      subst (λ (o : Option ℕ). IfOk r (λ byte. byte ≡ o)) (ap (missed_by_call known F p s memory after) names ∙ step_called (run memory (instruction regs)) number after e g) h

  -- none misses where the instruction is carried out
  pub done_missed : answer_of (run memory (instruction regs)) ≡ steps.Done → None ≡ first_missed known F p s memory regs
  done_missed e = go (run memory (instruction regs)) e
    where
      by_call : (after : Regs) (o : Option ℤ) → answer_of_call o ≡ steps.Done → None ≡ missed_behind_by known F p s memory after o
      by_call after None d = refl
      by_call after (Some number) d = absurd cc

      go : (r : Result Effect Refused) → answer_of r ≡ steps.Done → None ≡ missed_behind known F p s memory r
      go (Ok effect) d = by_call effect.regs effect.call d
      go (Err (Miss a w)) d = absurd cc
      go (Err (Below a)) d = absurd cc
      go (Err (Signal n)) d = absurd cc
