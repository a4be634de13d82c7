-- The statements on the call that moves the end of the data.
use Rattle.std.specs.Prelude.{ℕ, Bool, List, Option, Some}
use Rattle.vm_facts.specs.SwapImages.{SwapImage}
use Rattle.io_edge.specs.FileHolding.{NamedFile}
use Rattle.vm_facts.specs.declared.stop.Stop.{Stop}
use Rattle.user_vax.specs.Program.{run}
use Rattle.user_vax.specs.Effects.{Effect}
use Rattle.flat_state.specs.Space.{Space}
use Rattle.flat_state.specs.Flat.{Process, Inputs}
use Rattle.flat_model.specs.Calls.{argument}
use Rattle.flat_model.specs.declared.calls.SystemCall.TheVariants as system_calls
use Rattle.machine_state.specs.Machine.{Standing}
use Rattle.machine_state.specs.UserMemory.{kernel_answers}
use Rattle.proc_calls.specs.Answered.{StopsReading}
use Rattle.proc_calls.specs.declared.replying.Called.{Called}
use Rattle.proc_calls.specs.Sizing.{BreakComes, StopsBreaking, pages_to}
use Rattle.run_model.specs.State.{State}
use Rattle.step_units.specs.Machines.{RunsOn, MakesCall}
use Rattle.step_units.specs.Stepped.{CallLeads, StopLeads}

-- A break is the process's step.
abbrev pub BreakIsMade : Type 0
BreakIsMade =
    (A : Inputs) (s : State) (old new : Standing) (holds : Option (List NamedFile)) (image : SwapImage) (behind : Option SwapImage) (pid : ℕ) (now : Bool)
    (p : Process) (x : Space) (effect : Effect)
    (called : Called)
    → RunsOn A s old holds image pid now p x → MakesCall old p x effect system_calls.Break
    → BreakComes old new pid effect.regs (run (kernel_answers old.kernel x.sid) (argument effect.regs 1)) holds (Some image) behind called
    → CallLeads A s old.kernel image x called new.kernel behind

-- where the machine stops in it, next units lead to the stop
abbrev pub BreakStops : Type 0
BreakStops =
    (A : Inputs) (s : State) (old new : Standing) (holds : Option (List NamedFile)) (image : SwapImage) (behind : Option SwapImage) (pid : ℕ) (now : Bool)
    (p : Process) (x : Space) (effect : Effect)
    (stop : Stop)
    → RunsOn A s old holds image pid now p x → MakesCall old p x effect system_calls.Break
    → StopsReading (run (kernel_answers old.kernel x.sid) (argument effect.regs 1))
    (λ address. StopsBreaking old new pid (pages_to old.kernel pid address) holds)
    old new (Some image) behind stop
    → StopLeads A s old.kernel image stop new behind
