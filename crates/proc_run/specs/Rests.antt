-- What is left of a step after the entry that began it, told by the journal's end.
use Rattle.std.specs.Prelude.{◌≡◌, ℕ, ◌≤◌, Bool, true, false, List, length, Option, Some, None}
use Rattle.vm_facts.specs.SwapImages.{SwapImage}
use Rattle.vm_facts.specs.declared.entry.Entry.{Entry}
use Rattle.vm_facts.specs.declared.entry.Entry.TheVariants as entries
use Rattle.io_edge.specs.FileHolding.{NamedFile}
use Rattle.swap_book.specs.Holdings.{Holdings}
use Rattle.flat_state.specs.Flat.{Inputs}
use Rattle.flat_model.specs.Calls.{write_limit, no_memory}
use Rattle.machine_state.specs.Machine.{Standing}
use Rattle.run_model.specs.State.{State, start}
use Rattle.run_model.specs.Lawful.{Follows}
use Rattle.step_units.specs.RunLawsRunning.{CanRun}
use Rattle.step_units.specs.Machines.{MachineAt}
use Rattle.step_units.specs.Rests.{before_done}
use Rattle.flat_model.specs.Run.{IsBetween}
use Rattle.proc_run.specs.declared.finishing.Begun.{Begun}
use Rattle.proc_run.specs.declared.finishing.Begun.TheVariants as begun

-- how the last flat entry begins a step that isn't complete
abbrev pub begun_by : Option Entry → Option Begun
begun_by (Some (entries.Out pid bytes)) = Some (begun.Sent pid (length bytes))
begun_by (Some (entries.Refused pid)) = Some (begun.Refused pid)
begun_by _ = None

-- the process whose step is begun
abbrev pub pid_of : Begun → ℕ
pid_of (begun.Sent pid count) = pid
pid_of (begun.Refused pid) = pid

-- the carry of the reply that is left of it, where that isn't the end of the process
abbrev pub carry_of : Begun → Bool
carry_of (begun.Sent pid count) = false
carry_of (begun.Refused pid) = true

-- R0 of that reply: how many bytes went out, or ENOMEM
abbrev pub r0_of : Begun → ℕ
r0_of (begun.Sent pid count) = count
r0_of (begun.Refused pid) = no_memory

-- the bytes that went out are no more than one write may have
abbrev pub SentFew : Begun → Type 0
SentFew (begun.Sent pid count) = count ≤ write_limit
SentFew (begun.Refused pid) = Unit {0}

-- at a state of a run the journal tells it
abbrev pub BegunIsTold : Type 0
BegunIsTold =
    (A : Inputs) (hs : Holdings) (us : List Entry) (s : State) → CanRun A hs → Follows A (start A hs) us s
    → begun_by (before_done s.journal) ≡ begun_by s.point.last

-- where none is begun the last step is complete
abbrev pub NoneIsBetween : Type 0
NoneIsBetween = (last : Option Entry) → begun_by last ≡ None → IsBetween last

-- The machine stands at a state of a run at which a step is begun so, with a swap image that is told.
pub record BegunAt (m : Standing) (b : Begun) (holds : Option (List NamedFile)) (i : Option SwapImage) (A : Inputs) (s : State)
    (image : SwapImage) : Type 0 where
  pub machine : MachineAt A s m holds image
  pub told : i ≡ Some image
  pub begun : begun_by s.point.last ≡ Some b
