-- Where a machine stands after a run: the run is over, or its journal is full.
use Rattle.std.specs.Prelude.{◌≡◌, ◌⊎◌, ℕ, ◌<◌, ◌≤◌, true, false, List, length, map, Some, None}
use Rattle.vm_facts.specs.SwapImages.{SwapImage}
use Rattle.vm_facts.specs.declared.entry.Entry.{Entry}
use Rattle.vm_facts.specs.declared.stop.Stop.{Stop}
use Rattle.vm_facts.specs.declared.stop.Stop.TheVariants as stops
use Rattle.flat_state.specs.Flat.{Inputs}
use Rattle.flat_state.specs.Journal.{append}
use Rattle.kernel_model.specs.Kernel.{Kernel}
use Rattle.kernel_model.specs.ChangeStep.{pass_step}
use Rattle.kernel_model.specs.Coupled.{outline_of, outline_kept}
use Rattle.machine_state.specs.Machine.{Standing}
use Rattle.machine_state.specs.Conditions.{kernel_before}
use Rattle.machine_state.specs.Failing.{LosesOldest}
use Rattle.run_model.specs.State.{State}
use Rattle.run_model.specs.Next.{next_unit}
use Rattle.run_model.specs.Swapped.{swap_left}
use Rattle.economy_laws.specs.Machine.{StandsAt}
use Rattle.vm_core.specs.Lawful.{IsJournalOf}

-- The machine runs on, no pieces wait, and it stands for a state with this swap image: its frames, its records and that image have
-- the bytes and registers of the flat machine.
pub record StandsThere (A : Inputs) (s : State) (m : Standing) (image : SwapImage) : Type 0 where
  pub running : m.kernel.stopped ≡ false
  pub whole : m.before ≡ m.kernel.holdings
  pub at : StandsAt A s m.kernel image.bytes

-- The machine runs on, and stands for a state, but for pieces of swap that were found for an entry for which there was no memory.
pub record StarvedThere (A : Inputs) (s : State) (m : Standing) (image : SwapImage) : Type 0 where
  pub running : m.kernel.stopped ≡ false
  pub at : StandsAt A s (kernel_before m) image.bytes

-- The machine has stopped there, with its pages and processes where the state has them.
pub record StoppedThere (s : State) (m : Standing) : Type 0 where
  pub stopped : m.kernel.stopped ≡ true
  pub place : m.kernel.place ≡ s.place
  pub holdings : m.before ≡ s.holdings
  pub processes : map outline_kept m.kernel.processes ≡ map outline_of s.point.flat.processes

-- The machine has stopped, and is as the state, but for the transfer that failed, which is out of the ring with its frames.
pub record LessThere (s : State) (m : Standing) : Type 0 where
  pub stopped : m.kernel.stopped ≡ true
  pub place : LosesOldest s.place m.kernel.place
  pub holdings : m.before ≡ s.holdings
  pub processes : map outline_kept m.kernel.processes ≡ map outline_of s.point.flat.processes

-- The machine runs on, and stands for a state, but for a space that went back to its lender before an entry for which there was no
-- memory, and for pieces that were found for that.
pub record ReturnedThere (A : Inputs) (s : State) (m : Standing) (image : SwapImage) : Type 0 where
  pub running : m.kernel.stopped ≡ false
  pub kernel : Kernel
  pub at : StandsAt A s kernel image.bytes
  pub borrower : ℕ
  pub lender : ℕ
  pub returned : kernel_before m ≡ pass_step kernel borrower lender

-- Where the machine is left, by the cause of a stop at a state with this swap image. For want of memory that is said of a machine that
-- runs on: it doesn't where it broke off within an entry of a process.
abbrev pub LeftThere : Inputs → Stop → State → Standing → SwapImage → Type 0
LeftThere A stops.JournalFull s m image = StandsThere A s m image
LeftThere A stops.NoMemory s m image = StarvedThere A s m image ⊎ ReturnedThere A s m image
LeftThere A stops.FileFault s m image = LessThere s m
LeftThere A stops.SwapReadFault s m image = LessThere s m ⊎ StoppedThere s m
LeftThere A stops.SwapWriteFault s m image = LessThere s m ⊎ StoppedThere s m

-- The run stopped at the state to which its journal leads, and there the machine is left. The swap image before it is this one.
pub record RunLeft (A : Inputs) (stop : Stop) (m : Standing) (image : SwapImage) : Type 0 where
  pub state : State
  pub made : IsJournalOf A m.kernel.journal state
  pub left : LeftThere A stop state m (swap_left A m.kernel.journal image)

-- by the cause; for want of memory the run may also stop before its first unit, as its first processes begin, and then the machine has stopped
abbrev pub RunStopsAt : Inputs → Stop → Standing → SwapImage → Type 0
RunStopsAt A stops.NoMemory m image = m.kernel.stopped ≡ false → RunLeft A stops.NoMemory m image
RunStopsAt A stop m image = RunLeft A stop m image

-- The journal is at its bound, the next unit isn't joined to the last entry, and the machine stands for the state to which its journal
-- leads, with the swap image that its journal makes of this one.
pub record RunFull (A : Inputs) (m : Standing) (image : SwapImage) : Type 0 where
  pub state : State
  pub made : IsJournalOf A m.kernel.journal state
  pub unit : Entry
  pub next : next_unit A state ≡ Some unit
  pub bound : m.params.journal ≤ length m.kernel.journal
  pub longer : length m.kernel.journal < length (append m.kernel.journal unit)
  pub stands : StandsThere A state m (swap_left A m.kernel.journal image)

-- There is no next unit, and the machine stands for the state to which its journal leads, with the swap image that its journal makes of
-- this one.
pub record RunOver (A : Inputs) (m : Standing) (image : SwapImage) : Type 0 where
  pub state : State
  pub made : IsJournalOf A m.kernel.journal state
  pub none : next_unit A state ≡ None
  pub stands : StandsThere A state m (swap_left A m.kernel.journal image)
