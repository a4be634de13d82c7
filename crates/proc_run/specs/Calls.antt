-- What an instruction's call comes to, whichever of the eight it is; and where the run stops in it.
use Rattle.std.specs.Prelude.{◌≡◌, ℕ, ℤ, List, Option, Some, Ok}
use Rattle.vm_facts.specs.SwapImages.{SwapImage}
use Rattle.io_edge.specs.FileHolding.{NamedFile}
use Rattle.vm_facts.specs.Answers.{Answers}
use Rattle.vm_facts.specs.declared.regs.Regs.{Regs}
use Rattle.vm_facts.specs.declared.stop.Stop.{Stop}
use Rattle.user_vax.specs.Program.{run}
use Rattle.user_vax.specs.Effects.{Effect}
use Rattle.user_vax.specs.Instruction.{instruction}
use Rattle.flat_state.specs.Flat.{NamedImage}
use Rattle.flat_state.specs.declared.change.Change.TheVariants.{Keep, Lend}
use Rattle.flat_model.specs.Calls.{replied_both, argument, exit_reply, write_reply, execve_reply}
use Rattle.flat_model.specs.declared.calls.Reply.TheVariants.{Does}
use Rattle.flat_model.specs.declared.calls.SystemCall.{SystemCall}
use Rattle.flat_model.specs.declared.calls.SystemCall.TheVariants as system_calls
use Rattle.machine_state.specs.Machine.{Standing}
use Rattle.machine_state.specs.UserMemory.{kernel_answers}
use Rattle.step_units.specs.Stops.{StopsBefore}
use Rattle.step_units.specs.Called.{Called}
use Rattle.step_units.specs.Called.TheVariants as calls
use Rattle.step_units.specs.Answered.{Replied, Comes, StopsReading}
use Rattle.step_units.specs.Callers.{parent_of}
use Rattle.step_units.specs.Copying.{HasCopied}
use Rattle.step_units.specs.Forking.{Forked, StopsForking}
use Rattle.step_units.specs.ProcCallsLeaving.{ExitComes, StopsAlive}
use Rattle.step_units.specs.ProcCallsMaking.{Vforked, StopsMaking}
use Rattle.step_units.specs.Reading.{AreNamed}
use Rattle.step_units.specs.ProcCallsSizing.{BreakComes, StopsBreaking, pages_to}
use Rattle.step_units.specs.Starting.{ExecComes, StopsExec}
use Rattle.step_units.specs.Waiting.{wait_answer}
use Rattle.step_units.specs.Writing.{StopsOut, reply_bytes}
use Rattle.step_units.specs.Growth.{space_of_pid}

-- what a process reads of its space, over the frames
abbrev pub own_answers : Standing → ℕ → Answers
own_answers m pid = kernel_answers m.kernel (space_of_pid m.kernel pid)

-- the fork answered, and the pages that were due are copied
pub record ForkComes (old new : Standing) (pid : ℕ) (regs : Regs) (holds : Option (List NamedFile)) (i j : Option SwapImage) : Type 0 where
  pub forked : Forked old new pid regs holds i j
  pub on : HasCopied old new

-- what a call comes to, by which one it is
abbrev pub CallComes : SystemCall → Standing → Standing → ℕ → Regs → Option (List NamedFile) → Option SwapImage → Option SwapImage → Called → Type 0
CallComes system_calls.Exit old new pid regs holds i j called = ExitComes old new pid regs (run (own_answers old pid) (exit_reply regs)) holds i j called
CallComes system_calls.Fork old new pid regs holds i j called = (called ≡ calls.Ready) × ForkComes old new pid regs holds i j
CallComes system_calls.Write old new pid regs holds i j called =
    Comes old new pid system_calls.Write regs (run (own_answers old pid) (write_reply regs)) called × (j ≡ i)
CallComes system_calls.Break old new pid regs holds i j called = BreakComes old new pid regs (run (own_answers old pid) (argument regs 1)) holds i j called
CallComes system_calls.Getpid old new pid regs holds i j called =
    Replied old new pid system_calls.Getpid regs (Does (replied_both regs pid (parent_of old.kernel pid)) Keep) called × (j ≡ i)
CallComes system_calls.Execve old new pid regs holds i j called =
    (known : List NamedImage) → AreNamed known old.images → ExecComes old new pid regs (run (own_answers old pid) (execve_reply known regs)) holds i j called
CallComes system_calls.Vfork old new pid regs holds i j called = (called ≡ calls.Ready) × Vforked old new pid regs × (j ≡ i)
CallComes system_calls.Wait old new pid regs holds i j called = Replied old new pid system_calls.Wait regs (wait_answer old.kernel pid regs) called × (j ≡ i)

-- where the run stops in a call, by which one it is
abbrev pub CallStops : SystemCall → Standing → Standing → ℕ → Regs → Option (List NamedFile) → Option SwapImage → Option SwapImage → Stop → Type 0
CallStops system_calls.Exit old new pid regs holds i j stop =
    StopsReading (run (own_answers old pid) (exit_reply regs)) (λ reply. StopsAlive old new pid holds) old new i j stop
CallStops system_calls.Fork old new pid regs holds i j stop = StopsForking old new pid regs holds i j stop
CallStops system_calls.Write old new pid regs holds i j stop =
    StopsReading (run (own_answers old pid) (write_reply regs)) (λ reply before after. StopsOut old new pid (reply_bytes reply)) old new i i stop × (j ≡ i)
CallStops system_calls.Break old new pid regs holds i j stop =
    StopsReading (run (own_answers old pid) (argument regs 1)) (λ address. StopsBreaking old new pid (pages_to old.kernel pid address) holds) old new i j stop
CallStops system_calls.Getpid old new pid regs holds i j stop = StopsBefore old new stop × (j ≡ i)
CallStops system_calls.Execve old new pid regs holds i j stop =
    (known : List NamedImage)
    → AreNamed known old.images
    → StopsReading (run (own_answers old pid) (execve_reply known regs)) (λ reply. StopsExec old new pid reply holds) old new i j stop
CallStops system_calls.Vfork old new pid regs holds i j stop = StopsMaking old new pid (Lend old.kernel.next_pid) stop × (j ≡ i)
CallStops system_calls.Wait old new pid regs holds i j stop = StopsBefore old new stop × (j ≡ i)

-- the instruction of a process with these registers came to a call of this number, and left the others
pub record MadeCall (m : Standing) (pid : ℕ) (before : Regs) (number : ℤ) (after : Regs) : Type 0 where
  pub effect : Effect
  pub made : run (own_answers m pid) (instruction before) ≡ Ok effect
  pub number_is : effect.call ≡ Some number
  pub left : effect.regs ≡ after
