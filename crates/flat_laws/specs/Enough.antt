-- That a step needs no more than the touched pages: it comes to the same where those alone are there.
use Rattle.std.specs.Prelude.{◌≡◌, ℕ, Bool, true, Some, Ok}
use Rattle.flat_state.specs.Space.{Space, answers_of, puts}
use Rattle.flat_state.specs.Flat.{Holds, Process, FlatState, Inputs, process_of, is_ready}
use Rattle.user_vax.specs.Effects.{Effect}
use Rattle.user_vax.specs.Instruction.{instruction}
use Rattle.user_vax.specs.Program.{run}
use Rattle.flat_model.specs.declared.calls.SystemCall.{SystemCall}
use Rattle.flat_model.specs.Instruction.{instruction_in}
use Rattle.flat_model.specs.Step.{flat_step, reply_asked}
use Rattle.flat_model.specs.Touched.{touched}
use Rattle.flat_model.specs.Shown.{shown}
use Rattle.flat_laws.specs.Shown.{AreOf, IsCallOf}

-- an instruction comes to the same where the touched pages alone are there
abbrev pub InstructionNeedsTouchedAlone : Type 0
InstructionNeedsTouchedAlone = (A : Inputs) (F : FlatState) (pid : ℕ) (p : Process) (s : Space)
    → process_of F pid ≡ Some p → is_ready p ≡ true → p.holding ≡ Holds s
    → run (shown s (touched A F pid)) (instruction p.regs) ≡ instruction_in s p.regs

-- so does the reply of its call, after what the instruction wrote
abbrev pub ReplyNeedsTouchedAlone : Type 0
ReplyNeedsTouchedAlone = (A : Inputs) (F : FlatState) (pid : ℕ) (p : Process) (s : Space) (effect : Effect)
    (call : SystemCall)
    → process_of F pid ≡ Some p → is_ready p ≡ true → p.holding ≡ Holds s → instruction_in s p.regs ≡ Ok effect
    → IsCallOf effect call
    → run (shown (puts s effect.writes) (touched A F pid)) (reply_asked A.images F p s call effect)
    ≡ run (answers_of (puts s effect.writes)) (reply_asked A.images F p s call effect)

-- each byte that a step writes is of a touched page
abbrev pub WritesAreTouched : Type 0
WritesAreTouched = (A : Inputs) (F : FlatState) (pid : ℕ) (p : Process) (s : Space) (refused : Bool)
    → process_of F pid ≡ Some p → is_ready p ≡ true → p.holding ≡ Holds s
    → AreOf s (touched A F pid) (flat_step A F pid refused).writes
