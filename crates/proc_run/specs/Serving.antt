-- What serving the page of an access leads to in a run, with waiting or without.
use Rattle.std.specs.Prelude.{◌≡◌, ◌⊎◌, ℕ, Bool, true, false, List, [], Option}
use Rattle.vm_facts.specs.SwapImages.{SwapImage}
use Rattle.io_edge.specs.FileHolding.{NamedFile}
use Rattle.vm_facts.specs.declared.page.Page.{Page}
use Rattle.vm_facts.specs.declared.stop.Stop.{Stop}
use Rattle.vm_facts.specs.declared.stop.Stop.TheVariants as stops
use Rattle.flat_state.specs.Space.{Space}
use Rattle.flat_state.specs.Flat.{Process, Inputs}
use Rattle.machine_state.specs.Machine.{Standing}
use Rattle.step_units.specs.Stops.{StopsBefore}
use Rattle.step_units.specs.Growth.{access_by}
use Rattle.step_units.specs.Touches.{TouchedAs, TouchedNow, AccessComes, AccessStops}
use Rattle.step_units.specs.Served.{Served}
use Rattle.run_model.specs.State.{State}
use Rattle.run_model.specs.Wanted.{locked}
use Rattle.proc_run.specs.Runs.{RunsAt}

-- at each state at which the machine stands these are the pages that the run keeps
abbrev pub AreLocked : Standing → Option (List NamedFile) → Option SwapImage → ℕ → List Page → Type 0
AreLocked old holds i pid pages =
    (A : Inputs) (s : State) (image : SwapImage) (p : Process) (x : Space) → RunsAt A s old holds i image pid true p x → pages ≡ locked A s

-- it is served until its page is valid, by hands that pass over these
pub record ServedNow (old new : Standing) (pid address : ℕ) (write : Bool) (holds : Option (List NamedFile)) (i j : Option SwapImage)
    (answer : Served) : Type 0 where
  pub pages : List Page
  pub kept : AreLocked old holds i pid pages
  pub comes : AccessComes (λ came q from. TouchedNow pages came q from new holds i j) (access_by old.kernel pid address write) answer pid old new i j

-- by whether it is served by waiting
abbrev pub ServedBy : Bool → Standing → Standing → ℕ → ℕ → Bool → Option (List NamedFile) → Option SwapImage → Option SwapImage → Served → Type 0
ServedBy true old new pid address write holds i j answer = ServedNow old new pid address write holds i j answer
ServedBy false old new pid address write holds i j answer =
    AccessComes (λ came q from. TouchedAs came q from new holds i j) (access_by old.kernel pid address write) answer pid old new i j

-- The run stops for want of memory before any unit, or as the page is served until it is valid, by hands that pass over what the run keeps;
-- or as it is served without waiting.
abbrev pub StopsServed : Bool → Standing → Standing → ℕ → ℕ → Bool → Option (List NamedFile) → Option SwapImage → Option SwapImage → Stop → Type 0
StopsServed true old new pid address write holds i j stop =
    (StopsBefore old new stop × (stop ≡ stops.NoMemory) × (j ≡ i))
    ⊎ ((pages : List Page) × AreLocked old holds i pid pages
    × AccessStops true pages (access_by old.kernel pid address write) pid old new holds i j stop)
StopsServed false old new pid address write holds i j stop = AccessStops false [] (access_by old.kernel pid address write) pid old new holds i j stop
