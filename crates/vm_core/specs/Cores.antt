-- The state of a `Core` between two of its calls: the premise and the end of each.
use Rattle.std.specs.Prelude.{◌≡◌, ℕ, ◌+◌, ◌<◌, ◌≤◌, ◌^◌, List, length, slice_get, Option, Some}
use Rattle.vm_facts.specs.SwapImages.{SwapImage}
use Rattle.vm_facts.specs.declared.entry.Entry.{Entry}
use Rattle.vm_facts.specs.declared.event.Event.{Event}
use Rattle.io_edge.specs.FileHolding.{NamedFile}
use Rattle.flat_state.specs.Flat.{Inputs}
use Rattle.flat_state.specs.Journal.{instructions_of}
use Rattle.machine_state.specs.Machine.{Standing}
use Rattle.proc_run.specs.Reading.{AreNamed}
use Rattle.economy_laws.specs.Longwords.{AllImages}
use Rattle.run_model.specs.State.{State}
use Rattle.run_model.specs.After.{mark_of_event}
use Rattle.run_model.specs.Next.{last_turned}
use Rattle.run_model.specs.Swapped.{left_from}
use Rattle.proc_run.specs.Leads.{Leads}
use Rattle.proc_run.specs.Machines.{MachineAt}
use Rattle.proc_run.specs.Lines.{IsOver, IsClear}
use Rattle.proc_run.specs.Registers.{HasLongwords}
use Rattle.proc_run.specs.Runs.{IsSteady}
use Rattle.proc_run.specs.Accounts.{Account}
use Rattle.proc_run.specs.Economy.{Economy}

-- a run: its machine, and how many instructions were counted
pub record Underway : Type 0 where
  pub machine : Standing
  pub counted : ℕ

-- What stands of a run between two calls, whatever the devices tell.
pub record StandsUnderway (c : Underway) : Type 0 where
  pub steady : IsSteady c.machine
  pub counted : instructions_of c.machine.kernel.journal ≡ c.counted

-- The inputs are those of the machine: its images and its limit. The images fit their files, and the numbers of all processes that
-- there can be are longwords.
pub record InputsOf (A : Inputs) (m : Standing) : Type 0 where
  pub named : AreNamed A.images m.images
  pub limit : A.limit ≡ m.params.limit
  pub images : AllImages A.images
  pub few : length A.first + 1 + A.limit < 2 ^ 32

-- The machine stands at a state of a run, with a swap image that is told: so many instructions are counted, registers are
-- longwords, there are 64 processes at most, and no turn of the closing phase was had.
pub record StandsIn (A : Inputs) (s : State) (m : Standing) (holds : Option (List NamedFile)) (i : Option SwapImage) (image : SwapImage)
    (counted : ℕ) : Type 0 where
  pub machine : MachineAt A s m holds image
  pub told : i ≡ Some image
  pub inputs : InputsOf A m
  pub longwords : HasLongwords A s
  pub crowd : length s.point.flat.processes ≤ 64
  pub count : s.count ≡ counted

-- It does, between two lines, before the closing phase.
pub record CoreAt (A : Inputs) (s : State) (c : Underway) (holds : Option (List NamedFile)) (i : Option SwapImage) (image : SwapImage) : Type 0 where
  pub stands : StandsIn A s c.machine holds i image c.counted
  pub over : IsOver A s
  pub unturned : last_turned s.mark ≡ 0

-- Lines.

-- the next line of the schedule, and fewer instructions than the limit are counted
pub record LineDue (A : Inputs) (s : State) (line : ℕ) (e : Event) : Type 0 where
  pub number : s.lines + 1 ≡ line
  pub event : slice_get A.lines s.lines ≡ Some e
  pub below : s.count < A.limit

-- the core stands where this is the next line
abbrev pub LineDueAt : Underway → ℕ → Event → Option (List NamedFile) → Option SwapImage → Inputs → State → SwapImage → Type 0
LineDueAt c line e holds i A s image = CoreAt A s c holds i image × LineDue A s line e

-- Next units lead to where the core stands after the line. They are accounted for, and few, and the swap image is the one that they
-- say.
pub record LineTaken (old new : Underway) (holds : Option (List NamedFile)) (j : Option SwapImage) (A : Inputs) (s : State)
    (image : SwapImage) : Type 0 where
  pub units : List Entry
  pub state : State
  pub behind : SwapImage
  pub leads : Leads A s old.machine.kernel image units state new.machine.kernel j
  pub at : CoreAt A state new holds j behind
  pub lines : state.lines ≡ s.lines + 1
  pub account : Account A s units
  pub economy : Economy A s units
  pub swapped : behind ≡ left_from A s units image

-- Under the mark of a line.

-- The machine stands after the entry of a line, so many instructions being counted.
pub record AskedAt (m : Standing) (holds : Option (List NamedFile)) (i : Option SwapImage) (counted : ℕ) (e : Event) (A : Inputs) (s : State)
    (image : SwapImage) : Type 0 where
  pub stands : StandsIn A s m holds i image counted
  pub clear : IsClear s
  pub mark : s.mark ≡ mark_of_event s e

-- Next units lead to where the line is over, with so many instructions counted.
pub record LineDone (old new : Standing) (j : Option SwapImage) (count : ℕ) (A : Inputs) (s : State) (image : SwapImage) : Type 0 where
  pub units : List Entry
  pub state : State
  pub leads : Leads A s old.kernel image units state new.kernel j
  pub over : IsOver A state
  pub unturned : last_turned state.mark ≡ 0
  pub counts : state.count ≡ count
  pub lines : state.lines ≡ s.lines
