-- The statements on fork and vfork: each is the process's step.
use Rattle.std.specs.Prelude.{ℕ, Bool, List, Option, Some}
use Rattle.vm_facts.specs.SwapImages.{SwapImage}
use Rattle.io_edge.specs.FileHolding.{NamedFile}
use Rattle.vm_facts.specs.declared.stop.Stop.{Stop}
use Rattle.user_vax.specs.Effects.{Effect}
use Rattle.flat_state.specs.Space.{Space}
use Rattle.flat_state.specs.Flat.{Process, Inputs}
use Rattle.flat_state.specs.declared.change.Change.TheVariants as changes
use Rattle.flat_model.specs.declared.calls.SystemCall.TheVariants as system_calls
use Rattle.machine_state.specs.Machine.{Standing}
use Rattle.proc_calls.specs.Making.{Vforked, StopsMaking}
use Rattle.proc_calls.specs.Forking.{Forked, StopsForking}
use Rattle.run_model.specs.State.{State}
use Rattle.step_units.specs.Machines.{RunsOn, MakesCall}
use Rattle.step_units.specs.Stepped.{StepLeads, StopLeads}

-- A vfork is the process's step, and the space passes with it.
abbrev pub VforkIsMade : Type 0
VforkIsMade =
    (A : Inputs) (s : State) (old new : Standing) (holds : Option (List NamedFile)) (image : SwapImage) (pid : ℕ) (now : Bool) (p : Process)
    (x : Space) (effect : Effect)
    → RunsOn A s old holds image pid now p x → MakesCall old p x effect system_calls.Vfork → Vforked old new pid effect.regs
    → StepLeads A s old.kernel image 1 new.kernel (Some image)

-- where the machine stops in it, next units lead to the stop
abbrev pub VforkStops : Type 0
VforkStops =
    (A : Inputs) (s : State) (old new : Standing) (holds : Option (List NamedFile)) (image : SwapImage) (pid : ℕ) (now : Bool) (p : Process) (x : Space)
    (effect : Effect) (stop : Stop)
    → RunsOn A s old holds image pid now p x → MakesCall old p x effect system_calls.Vfork → StopsMaking old new pid (changes.Lend old.kernel.next_pid) stop
    → StopLeads A s old.kernel image stop new (Some image)

-- A fork is the process's step, and after it each page that is due is copied, from the parent's page, which comes in first.
abbrev pub ForkIsMade : Type 0
ForkIsMade =
    (A : Inputs) (s : State) (old new : Standing) (holds : Option (List NamedFile)) (image : SwapImage) (behind : Option SwapImage) (pid : ℕ) (now : Bool)
    (p : Process) (x : Space) (effect : Effect)
    → RunsOn A s old holds image pid now p x → MakesCall old p x effect system_calls.Fork → Forked old new pid effect.regs holds (Some image) behind
    → StepLeads A s old.kernel image 1 new.kernel behind

-- where the machine stops in it, next units lead to the stop
abbrev pub ForkStops : Type 0
ForkStops =
    (A : Inputs) (s : State) (old new : Standing) (holds : Option (List NamedFile)) (image : SwapImage) (behind : Option SwapImage) (pid : ℕ) (now : Bool)
    (p : Process) (x : Space) (effect : Effect)
    (stop : Stop)
    → RunsOn A s old holds image pid now p x → MakesCall old p x effect system_calls.Fork → StopsForking old new pid effect.regs holds (Some image) behind stop
    → StopLeads A s old.kernel image stop new behind
