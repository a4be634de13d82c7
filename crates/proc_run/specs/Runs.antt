-- A machine at a state of a run at which a process runs, and what one attempt leads to.
use Rattle.std.specs.Prelude.{◌≡◌, ℕ, ◌<◌, ◌≤◌, Bool, true, false, List, [], length, Option, Some}
use Rattle.vm_facts.specs.SwapImages.{SwapImage}
use Rattle.vm_facts.specs.declared.page.Page.{Page}
use Rattle.io_edge.specs.FileHolding.{NamedFile}
use Rattle.flat_state.specs.Space.{Space}
use Rattle.flat_state.specs.Flat.{Process, Inputs}
use Rattle.kernel_model.specs.Kernel.{Kernel}
use Rattle.machine_state.specs.Going.{CanGoOn}
use Rattle.machine_state.specs.Machine.{Standing}
use Rattle.step_units.specs.LastMoves.{last_moves}
use Rattle.step_units.specs.Reading.{AreNamed}
use Rattle.run_model.specs.State.{State}
use Rattle.run_model.specs.Wanted.{locked}
use Rattle.step_units.specs.Machines.{RunsOn}
use Rattle.step_units.specs.Stepped.{StepLeads, MarkEnds}
use Rattle.step_units.specs.Running.{WaitsForPage}
use Rattle.proc_run.specs.declared.advancing.Patience.{Patience}
use Rattle.proc_run.specs.declared.advancing.Patience.TheVariants as patience
use Rattle.proc_run.specs.declared.advancing.Advance.{Advance}
use Rattle.proc_run.specs.declared.advancing.Advance.TheVariants as advances

-- A machine that may be asked for one unit of a run after another, whatever the devices tell: it can go on, nothing
-- is due, it has 64 frames or more, and its last entry counts no more than a million moves of the hands.
pub record IsSteady (m : Standing) : Type 0 where
  pub ready : CanGoOn m
  pub clear : m.kernel.place.due ≡ []
  pub frames : 64 ≤ length m.kernel.place.holds
  pub low : last_moves m.kernel.journal ≤ 1000000

-- whether pages are served by waiting for them
abbrev pub is_now : Patience → Bool
is_now patience.Stops = false
is_now patience.Waits = true

-- The machine stands at a state at which a process runs, between two steps, with a swap image that is told.
pub record RunsAt (A : Inputs) (s : State) (m : Standing) (holds : Option (List NamedFile)) (i : Option SwapImage) (image : SwapImage) (pid : ℕ) (now : Bool)
    (p : Process) (x : Space) : Type 0 where
  pub on : RunsOn A s m holds image pid now p x
  pub named : AreNamed A.images m.images
  pub told : i ≡ Some image

-- a process runs at it, over some space
abbrev pub HasRunner : Standing → Option (List NamedFile) → Option SwapImage → ℕ → Bool → Inputs → State → SwapImage → Type 0
HasRunner m holds i pid now A s image = (p : Process) × (x : Space) × RunsAt A s m holds i image pid now p x

-- and waits for the page of this byte
abbrev pub WaitsAt : Standing → Option (List NamedFile) → Option SwapImage → ℕ → Bool → ℕ → Bool → Inputs → State → SwapImage → Type 0
WaitsAt m holds i pid now address write A s image =
    (p : Process) × (x : Space) × (before : List Page) × RunsAt A s m holds i image pid now p x × WaitsForPage A s m p x address write before

-- One attempt.

-- What it leads to: an instruction more; or none, and one more page is valid of the first that it touches; or nothing more is to
-- come of the mark.
abbrev pub AdvancesTo : Kernel → Kernel → Option SwapImage → Advance → Inputs → State → SwapImage → Type 0
AdvancesTo k l j advances.Counted A s image = StepLeads A s k image 1 l j
AdvancesTo k l j advances.Served A s image = (led : StepLeads A s k image 0 l j) × (length (locked A s) < length (locked A led.state))
AdvancesTo k l j advances.Stuck A s image = MarkEnds A s k image l j

-- the instructions that it counts
abbrev pub counts : Advance → ℕ
counts advances.Counted = 1
counts advances.Served = 0
counts advances.Stuck = 0
