-- A machine under the mark of a line of the schedule.
use Rattle.std.specs.Prelude.{◌≡◌, ℕ, List, Option, Some}
use Rattle.vm_facts.specs.SwapImages.{SwapImage}
use Rattle.vm_facts.specs.declared.event.Event.{Event}
use Rattle.io_edge.specs.FileHolding.{NamedFile}
use Rattle.flat_state.specs.Flat.{Inputs}
use Rattle.machine_state.specs.Machine.{Standing}
use Rattle.economy_laws.specs.Longwords.{ProcessesFit}
use Rattle.run_model.specs.State.{State}
use Rattle.run_model.specs.After.{mark_of_event}
use Rattle.proc_run.specs.Machines.{MachineAt}
use Rattle.proc_run.specs.Lines.{IsClear}

-- The machine stands at a state under the mark of a line, with a swap image that is told.
pub record LineAt (m : Standing) (holds : Option (List NamedFile)) (i : Option SwapImage) (e : Event) (A : Inputs) (s : State)
    (image : SwapImage) : Type 0 where
  pub machine : MachineAt A s m holds image
  pub told : i ≡ Some image
  pub clear : IsClear s
  pub mark : s.mark ≡ mark_of_event s e
  pub fit : ProcessesFit s.point.flat.processes
