-- What the start of first processes asks of a machine, and what it leaves.
use Rattle.std.specs.Prelude.{◌≡◌, ℕ, ◌≤◌, List, [], ◌∷◌, length, None, Result, Ok, Err}
use Rattle.swap_book.specs.Holdings.{Holdings}
use Rattle.flat_state.specs.Flat.{Inputs}
use Rattle.flat_state.specs.Journal.{instructions_of}
use Rattle.machine_state.specs.Going.{CanGoOn}
use Rattle.machine_state.specs.New.{fresh_kernel}
use Rattle.machine_state.specs.Applying.{facts_named}
use Rattle.machine_state.specs.Machine.{Standing}
use Rattle.machine_state.specs.Sourced.{ImageNamed}
use Rattle.proc_run.specs.LastMoves.{last_moves}
use Rattle.proc_run.specs.Reading.{AreNamed}
use Rattle.vm_core.specs.declared.first_processes.Started.{Started}
use Rattle.vm_core.specs.declared.first_processes.Started.TheVariants as starteds

-- The machine is as it was made: it can go on, with no process yet.
pub record IsNew (m : Standing) : Type 0 where
  pub ready : CanGoOn m
  pub kernel : m.kernel ≡ fresh_kernel (facts_named m.images) m.params.frames
  pub before : m.before ≡ []
  pub room : m.room ≡ None

-- each is the number of an image
abbrev pub AreAmong : List ImageNamed → List ℕ → Type 0
AreAmong images [] = Unit {0}
AreAmong images (n ∷ ns) = (1 ≤ n) × (n ≤ length images) × AreAmong images ns

-- Inputs of a run that are those of the machine: its images by name and header, its sizes, and these first processes.
pub record StartsFrom (A : Inputs) (m : Standing) (numbers : List ℕ) : Type 0 where
  pub named : AreNamed A.images m.images
  pub first : A.first ≡ numbers
  pub frames : A.frames ≡ m.params.frames
  pub blocks : A.swap_blocks ≡ m.params.swap_blocks

-- the answer, by the holdings at the start, or the first process whose pieces find no place
abbrev pub started_by : Result Holdings ℕ → Started
started_by (Ok hs) = starteds.Ok
started_by (Err pid) = starteds.NoSpace pid

-- After the start the machine can go on, whatever the devices gave: nothing is due, it has its frames, the last entry counts no
-- move of the hands, and no instruction is counted.
pub record HasStarted (old new : Standing) : Type 0 where
  pub params : new.params ≡ old.params
  pub images : new.images ≡ old.images
  pub ready : CanGoOn new
  pub due : new.kernel.place.due ≡ []
  pub frames : length new.kernel.place.holds ≡ old.params.frames
  pub moves : last_moves new.kernel.journal ≡ 0
  pub counted : instructions_of new.kernel.journal ≡ 0
