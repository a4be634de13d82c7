-- The statements on calls that call no device: each is the process's step.
use Rattle.std.specs.Prelude.{◌≡◌, ℕ, Bool, List, Option, Some, Err}
use Rattle.vm_facts.specs.SwapImages.{SwapImage}
use Rattle.io_edge.specs.FileHolding.{NamedFile}
use Rattle.vm_facts.specs.declared.stop.Stop.{Stop}
use Rattle.user_vax.specs.Program.{run}
use Rattle.user_vax.specs.Effects.{Effect}
use Rattle.user_vax.specs.declared.refused.Refused.{Refused}
use Rattle.flat_state.specs.Space.{Space}
use Rattle.flat_state.specs.Flat.{Process, Inputs}
use Rattle.flat_state.specs.declared.change.Change.TheVariants.{Keep}
use Rattle.flat_model.specs.Calls.{replied_both, write_reply}
use Rattle.flat_model.specs.declared.calls.Reply.TheVariants.{Does}
use Rattle.flat_model.specs.declared.calls.SystemCall.{SystemCall}
use Rattle.flat_model.specs.declared.calls.SystemCall.TheVariants as system_calls
use Rattle.flat_model.specs.Step.{reply_asked}
use Rattle.machine_state.specs.Machine.{Standing}
use Rattle.machine_state.specs.UserMemory.{kernel_answers}
use Rattle.swapper.specs.Stops.{StopsBefore}
use Rattle.proc_calls.specs.declared.replying.Called.{Called}
use Rattle.proc_calls.specs.Callers.{parent_of}
use Rattle.proc_calls.specs.Answered.{Replied, Comes, StopsRefused, StopsReading}
use Rattle.proc_calls.specs.Waiting.{wait_answer}
use Rattle.proc_calls.specs.Writing.{reply_bytes, StopsOut}
use Rattle.run_model.specs.State.{State}
use Rattle.step_units.specs.Machines.{RunsOn, MakesCall}
use Rattle.step_units.specs.Stepped.{CallLeads, StopLeads}

-- A wait is the process's step.
abbrev pub WaitIsMade : Type 0
WaitIsMade =
    (A : Inputs) (s : State) (old new : Standing) (holds : Option (List NamedFile)) (image : SwapImage) (pid : ℕ) (now : Bool) (p : Process) (x : Space)
    (effect : Effect) (called : Called)
    → RunsOn A s old holds image pid now p x → MakesCall old p x effect system_calls.Wait
    → Replied old new pid system_calls.Wait effect.regs (wait_answer old.kernel pid effect.regs) called
    → CallLeads A s old.kernel image x called new.kernel (Some image)

-- So is a question for its number.
abbrev pub GetpidIsMade : Type 0
GetpidIsMade =
    (A : Inputs) (s : State) (old new : Standing) (holds : Option (List NamedFile)) (image : SwapImage) (pid : ℕ) (now : Bool) (p : Process) (x : Space)
    (effect : Effect) (called : Called)
    → RunsOn A s old holds image pid now p x → MakesCall old p x effect system_calls.Getpid
    → Replied old new pid system_calls.Getpid effect.regs (Does (replied_both effect.regs pid (parent_of old.kernel pid)) Keep) called
    → CallLeads A s old.kernel image x called new.kernel (Some image)

-- So is a write.
abbrev pub WriteIsMade : Type 0
WriteIsMade =
    (A : Inputs) (s : State) (old new : Standing) (holds : Option (List NamedFile)) (image : SwapImage) (pid : ℕ) (now : Bool) (p : Process) (x : Space)
    (effect : Effect) (called : Called)
    → RunsOn A s old holds image pid now p x → MakesCall old p x effect system_calls.Write
    → Comes old new pid system_calls.Write effect.regs (run (kernel_answers old.kernel x.sid) (write_reply effect.regs)) called
    → CallLeads A s old.kernel image x called new.kernel (Some image)

-- Any call whose read was refused: of a byte that misses nothing was done, and of another that is a fault.
abbrev pub RefusedIsMade : Type 0
RefusedIsMade =
    (A : Inputs) (s : State) (old new : Standing) (holds : Option (List NamedFile)) (image : SwapImage) (pid : ℕ) (now : Bool) (p : Process) (x : Space)
    (effect : Effect) (call : SystemCall)
    (refused : Refused) (called : Called)
    → RunsOn A s old holds image pid now p x → MakesCall old p x effect call
    → run (kernel_answers old.kernel x.sid) (reply_asked A.images s.point.flat p x call effect) ≡ Err refused
    → Comes old new pid call effect.regs (Err refused) called → CallLeads A s old.kernel image x called new.kernel (Some image)

-- Stops.

-- a call that reads nothing and asks for nothing
abbrev pub AsksNothing : SystemCall → Type 0
AsksNothing system_calls.Wait = Unit {0}
AsksNothing system_calls.Getpid = Unit {0}
AsksNothing _ = ⊥

-- where such a call stops, its entry is the next unit
abbrev pub PlainCallStops : Type 0
PlainCallStops =
    (A : Inputs) (s : State) (old new : Standing) (holds : Option (List NamedFile)) (image : SwapImage) (pid : ℕ) (now : Bool) (p : Process) (x : Space)
    (effect : Effect) (call : SystemCall)
    (stop : Stop)
    → RunsOn A s old holds image pid now p x → MakesCall old p x effect call → AsksNothing call → StopsBefore old new stop
    → StopLeads A s old.kernel image stop new (Some image)

-- so is that of a call whose read was refused
abbrev pub RefusedCallStops : Type 0
RefusedCallStops =
    (A : Inputs) (s : State) (old new : Standing) (holds : Option (List NamedFile)) (image : SwapImage) (pid : ℕ) (now : Bool) (p : Process) (x : Space)
    (effect : Effect) (call : SystemCall)
    (refused : Refused) (stop : Stop)
    → RunsOn A s old holds image pid now p x → MakesCall old p x effect call
    → run (kernel_answers old.kernel x.sid) (reply_asked A.images s.point.flat p x call effect) ≡ Err refused
    → StopsRefused old new refused stop → StopLeads A s old.kernel image stop new (Some image)

-- where a write stops, by what it reads
abbrev pub WriteStops : Type 0
WriteStops =
    (A : Inputs) (s : State) (old new : Standing) (holds : Option (List NamedFile)) (image : SwapImage) (pid : ℕ) (now : Bool) (p : Process) (x : Space)
    (effect : Effect) (stop : Stop)
    → RunsOn A s old holds image pid now p x → MakesCall old p x effect system_calls.Write
    → StopsReading (run (kernel_answers old.kernel x.sid) (write_reply effect.regs)) (λ reply before after. StopsOut old new pid (reply_bytes reply)) old new
    (Some image) (Some image) stop
    → StopLeads A s old.kernel image stop new (Some image)
