-- The statements on ends of processes and new images: they are the process's step.
use Rattle.std.specs.Prelude.{◌≡◌, ◌⊎◌, ℕ, Bool, List, [], ℤ, Option, Some, None, Ok, Err}
use Rattle.vm_facts.specs.SwapImages.{SwapImage}
use Rattle.vm_facts.specs.declared.entry.Entry.TheVariants as entries
use Rattle.vm_facts.specs.declared.stop.Stop.{Stop}
use Rattle.io_edge.specs.FileHolding.{NamedFile}
use Rattle.user_vax.specs.Program.{run}
use Rattle.user_vax.specs.Effects.{Effect}
use Rattle.user_vax.specs.Instruction.{instruction}
use Rattle.user_vax.specs.declared.refused.Refused.TheVariants.{Signal}
use Rattle.flat_state.specs.Space.{Space}
use Rattle.flat_state.specs.Flat.{Process, Inputs}
use Rattle.flat_model.specs.Calls.{call_of, exit_reply, execve_reply}
use Rattle.flat_model.specs.declared.calls.SystemCall.TheVariants as system_calls
use Rattle.flat_model.specs.Step.{ended_step}
use Rattle.flat_model.specs.Run.{step_at, IsBetween}
use Rattle.machine_state.specs.Machine.{Standing}
use Rattle.machine_state.specs.UserMemory.{kernel_answers}
use Rattle.proc_calls.specs.Answered.{StopsReading}
use Rattle.proc_calls.specs.declared.replying.Called.{Called}
use Rattle.proc_calls.specs.Leaving.{HasEnded, ExitComes, StopsAlive}
use Rattle.proc_calls.specs.Starting.{ExecComes, StopsExec}
use Rattle.run_model.specs.State.{State}
use Rattle.run_model.specs.Wanted.{wanted}
use Rattle.run_units.specs.Touching.{RunsInSpace}
use Rattle.step_units.specs.Machines.{MachineAt, RunsOn, MakesCall}
use Rattle.step_units.specs.Stepped.{StepLeads, CallLeads, StopLeads}

-- Ends.

-- The process waits for no page, and its step ends it with this status: between two steps, or after the entry that says that
-- its pieces found no place.
pub record EndsWith (A : Inputs) (s : State) (pid : ℕ) (p : Process) (status : ℕ) : Type 0 where
  pub unwanted : wanted A s ≡ None
  pub step : step_at A s.point pid ≡ ended_step A.images s.point.flat p [] status
  pub begins : IsBetween s.point.last ⊎ (s.point.last ≡ Some (entries.Refused pid))

-- an instruction that is refused with a signal ends its process so
abbrev pub SignalEnds : Type 0
SignalEnds =
    (A : Inputs) (s : State) (m : Standing) (holds : Option (List NamedFile)) (image : SwapImage) (pid : ℕ) (now : Bool) (p : Process) (x : Space) (number : ℕ)
    → RunsOn A s m holds image pid now p x → run (kernel_answers m.kernel x.sid) (instruction p.regs) ≡ Err (Signal number) → EndsWith A s pid p number

-- and so does one that makes none of the eight calls
abbrev pub NoCallEnds : Type 0
NoCallEnds =
    (A : Inputs) (s : State) (m : Standing) (holds : Option (List NamedFile)) (image : SwapImage) (pid : ℕ) (now : Bool) (p : Process) (x : Space)
    (effect : Effect) (number : ℤ)
    → RunsOn A s m holds image pid now p x → run (kernel_answers m.kernel x.sid) (instruction p.regs) ≡ Ok effect → effect.call ≡ Some number
    → call_of number ≡ None → EndsWith A s pid p 12

-- the end of a process, once it left its space, is its step
abbrev pub EndIsMade : Type 0
EndIsMade =
    (A : Inputs) (s : State) (old new : Standing) (holds : Option (List NamedFile)) (image : SwapImage) (behind : Option SwapImage) (pid : ℕ) (now : Bool)
    (p : Process) (x : Space) (status : ℕ)
    → MachineAt A s old holds image → RunsInSpace A s pid now p x → EndsWith A s pid p status → HasEnded old new pid status holds (Some image) behind
    → StepLeads A s old.kernel image 1 new.kernel behind

-- where the machine stops before that, next units lead to the stop
abbrev pub EndStops : Type 0
EndStops =
    (A : Inputs) (s : State) (old new : Standing) (holds : Option (List NamedFile)) (image : SwapImage) (behind : Option SwapImage) (pid : ℕ) (now : Bool)
    (p : Process) (x : Space) (status : ℕ)
    (stop : Stop)
    → MachineAt A s old holds image → RunsInSpace A s pid now p x → EndsWith A s pid p status → StopsAlive old new pid holds (Some image) behind stop
    → StopLeads A s old.kernel image stop new behind

-- an exit is the process's step
abbrev pub ExitIsMade : Type 0
ExitIsMade =
    (A : Inputs) (s : State) (old new : Standing) (holds : Option (List NamedFile)) (image : SwapImage) (behind : Option SwapImage) (pid : ℕ) (now : Bool)
    (p : Process) (x : Space) (effect : Effect)
    (called : Called)
    → RunsOn A s old holds image pid now p x → MakesCall old p x effect system_calls.Exit
    → ExitComes old new pid effect.regs (run (kernel_answers old.kernel x.sid) (exit_reply effect.regs)) holds (Some image) behind called
    → CallLeads A s old.kernel image x called new.kernel behind

-- where the machine stops in it, next units lead to the stop
abbrev pub ExitStops : Type 0
ExitStops =
    (A : Inputs) (s : State) (old new : Standing) (holds : Option (List NamedFile)) (image : SwapImage) (behind : Option SwapImage) (pid : ℕ) (now : Bool)
    (p : Process) (x : Space) (effect : Effect)
    (stop : Stop)
    → RunsOn A s old holds image pid now p x → MakesCall old p x effect system_calls.Exit
    → StopsReading (run (kernel_answers old.kernel x.sid) (exit_reply effect.regs)) (λ reply. StopsAlive old new pid holds) old new (Some image) behind
    stop
    → StopLeads A s old.kernel image stop new behind

-- New images.

-- an execve is the process's step, and after it the new stack page is filled
abbrev pub ExecIsMade : Type 0
ExecIsMade =
    (A : Inputs) (s : State) (old new : Standing) (holds : Option (List NamedFile)) (image : SwapImage) (behind : Option SwapImage) (pid : ℕ) (now : Bool)
    (p : Process) (x : Space) (effect : Effect)
    (called : Called)
    → RunsOn A s old holds image pid now p x → MakesCall old p x effect system_calls.Execve
    → ExecComes old new pid effect.regs (run (kernel_answers old.kernel x.sid) (execve_reply A.images effect.regs)) holds (Some image) behind called
    → CallLeads A s old.kernel image x called new.kernel behind

-- where the machine stops in it, next units lead to the stop
abbrev pub ExecStops : Type 0
ExecStops =
    (A : Inputs) (s : State) (old new : Standing) (holds : Option (List NamedFile)) (image : SwapImage) (behind : Option SwapImage) (pid : ℕ) (now : Bool)
    (p : Process) (x : Space) (effect : Effect)
    (stop : Stop)
    → RunsOn A s old holds image pid now p x → MakesCall old p x effect system_calls.Execve
    → StopsReading (run (kernel_answers old.kernel x.sid) (execve_reply A.images effect.regs)) (λ reply. StopsExec old new pid reply holds) old new
    (Some image) behind stop
    → StopLeads A s old.kernel image stop new behind
