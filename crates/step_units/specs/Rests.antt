-- The rest of a step, after the entry that began it: bytes went out, or its pieces found no place.
use Rattle.std.specs.Prelude.{◌≡◌, ◌⊎◌, ℕ, ◌≤◌, Bool, true, false, not, List, [], ◌∷◌, length, Option, Some, None, Err}
use Rattle.vm_facts.specs.SwapImages.{SwapImage}
use Rattle.vm_facts.specs.declared.entry.Entry.{Entry}
use Rattle.vm_facts.specs.declared.entry.Entry.TheVariants as entries
use Rattle.vm_facts.specs.declared.stop.Stop.{Stop}
use Rattle.io_edge.specs.FileHolding.{NamedFile}
use Rattle.swap_book.specs.Holdings.{Holdings}
use Rattle.user_vax.specs.Program.{run}
use Rattle.user_vax.specs.Effects.{Effect}
use Rattle.user_vax.specs.Instruction.{instruction}
use Rattle.user_vax.specs.declared.refused.Refused.TheVariants.{Below}
use Rattle.flat_state.specs.Space.{Space}
use Rattle.flat_state.specs.Flat.{Process, Inputs}
use Rattle.flat_state.specs.declared.change.Change.TheVariants.{Keep}
use Rattle.flat_model.specs.Calls.{write_limit, no_memory, replied}
use Rattle.flat_model.specs.Run.{step_at, due_at}
use Rattle.flat_model.specs.Step.{call_entry}
use Rattle.flat_model.specs.declared.calls.SystemCall.{SystemCall}
use Rattle.machine_state.specs.Machine.{Standing}
use Rattle.machine_state.specs.UserMemory.{kernel_answers}
use Rattle.swapper.specs.Stops.{StopsBefore}
use Rattle.proc_calls.specs.Answered.{Answered}
use Rattle.run_model.specs.State.{State, start}
use Rattle.run_model.specs.Wanted.{wanted}
use Rattle.run_model.specs.Act.{act}
use Rattle.run_model.specs.Next.{when, or_else}
use Rattle.run_model.specs.Lawful.{Follows}
use Rattle.run_laws.specs.Running.{CanRun}
use Rattle.run_units.specs.Touching.{RunsInSpace}
use Rattle.step_units.specs.Machines.{MachineAt, MakesCall}
use Rattle.step_units.specs.Stepped.{StepLeads, StopLeads}
use Rattle.step_units.specs.Leaving.{EndsWith}

-- Where a step is begun.

-- the end of a transfer
abbrev pub is_done : Entry → Bool
is_done entries.Done = true
is_done e = false

-- this entry, unless it is one
abbrev pub unless_done : Entry → Option Entry
unless_done e = when (not (is_done e)) (Some e)

-- the last of these entries, but for transfers that end after it
abbrev pub before_done : List Entry → Option Entry
before_done [] = None
before_done (e ∷ es) = or_else (before_done es) (unless_done e)

-- this entry, where it begins a step that isn't complete with it
abbrev pub beginning : Option Entry → Option Entry
beginning (Some (entries.Out pid bytes)) = Some (entries.Out pid bytes)
beginning (Some (entries.Refused pid)) = Some (entries.Refused pid)
beginning _ = None

-- along a run nothing but ends of transfers comes between such an entry and the rest of its step
abbrev pub BeginningIsLast : Type 0
BeginningIsLast =
    (A : Inputs) (hs : Holdings) (us : List Entry) (s : State) → CanRun A hs → Follows A (start A hs) us s
    → beginning (before_done s.journal) ≡ beginning s.point.last

-- What is left of it.

-- A process runs, and waits for no page. Over the frames its instruction comes to a call, and what is left of its step is the entry
-- of this reply: R0 and the carry, with no change.
pub record ReplyRests (A : Inputs) (s : State) (m : Standing) (pid : ℕ) (carry : Bool) (r0 : ℕ) : Type 0 where
  pub now : Bool
  pub process : Process
  pub space : Space
  pub effect : Effect
  pub call : SystemCall
  pub running : RunsInSpace A s pid now process space
  pub makes : MakesCall m process space effect call
  pub unwanted : wanted A s ≡ None
  pub next : act A s pid ≡ Some (call_entry pid call (replied effect.regs carry r0))
  pub left : due_at A s.point pid ≡ call_entry pid call (replied effect.regs carry r0) ∷ []
  pub writes : (step_at A s.point pid).writes ≡ []
  pub regs : (step_at A s.point pid).regs ≡ replied effect.regs carry r0
  pub keeps : (step_at A s.point pid).change ≡ Keep

-- A process runs, and over the frames its instruction falls below the stack; that ends it by signal 11.
pub record EndRests (A : Inputs) (s : State) (m : Standing) (pid : ℕ) : Type 0 where
  pub now : Bool
  pub process : Process
  pub space : Space
  pub address : ℕ
  pub running : RunsInSpace A s pid now process space
  pub below : run (kernel_answers m.kernel space.sid) (instruction process.regs) ≡ Err (Below address)
  pub ends : EndsWith A s pid process 11

-- after bytes that went out the call replies how many there were, which are few
abbrev pub SentRests : Type 0
SentRests =
    (A : Inputs) (s : State) (m : Standing) (holds : Option (List NamedFile)) (image : SwapImage) (pid : ℕ) (bytes : List ℕ) → MachineAt A s m holds image
    → s.point.last ≡ Some (entries.Out pid bytes) → ReplyRests A s m pid false (length bytes) × (length bytes ≤ write_limit)

-- after a refusal the call fails, or the stack that can't grow ends the process
abbrev pub RefusedRests : Type 0
RefusedRests =
    (A : Inputs) (s : State) (m : Standing) (holds : Option (List NamedFile)) (image : SwapImage) (pid : ℕ) → MachineAt A s m holds image
    → s.point.last ≡ Some (entries.Refused pid) → ReplyRests A s m pid true no_memory ⊎ EndRests A s m pid

-- the reply is the rest of the step
abbrev pub RestIsMade : Type 0
RestIsMade =
    (A : Inputs) (s : State) (old new : Standing) (holds : Option (List NamedFile)) (image : SwapImage) (pid : ℕ) (carry : Bool) (r0 : ℕ)
    → MachineAt A s old holds image → (rest : ReplyRests A s old pid carry r0) → Answered old new pid rest.call (replied rest.effect.regs carry r0) Keep
    → StepLeads A s old.kernel image 1 new.kernel (Some image)

-- where the run stops before it, it comes next
abbrev pub RestStops : Type 0
RestStops =
    (A : Inputs) (s : State) (old new : Standing) (image : SwapImage) (pid : ℕ) (carry : Bool) (r0 : ℕ) (stop : Stop) → ReplyRests A s old pid carry r0
    → StopsBefore old new stop → StopLeads A s old.kernel image stop new (Some image)
