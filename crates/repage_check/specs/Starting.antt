-- Where the judge stands at the start of a trace, and behind its last line.
use Rattle.std.specs.Prelude.{◌≡◌, ℕ, List, [], Option, Some, None, Ok}
use Rattle.vm_facts.specs.SwapImages.{SwapImage}
use Rattle.io_edge.specs.FileHolding.{NamedFile}
use Rattle.swap_book.specs.Holdings.{Holdings}
use Rattle.flat_state.specs.Flat.{Inputs}
use Rattle.flat_model.specs.Asked.{start_held}
use Rattle.machine_state.specs.Going.{CanGoOn}
use Rattle.machine_state.specs.Machine.{Standing}
use Rattle.run_model.specs.State.{State, start}
use Rattle.run_laws.specs.Running.{CanRun}
use Rattle.vm_core.specs.declared.first_processes.Started.{Started}
use Rattle.vm_core.specs.declared.first_processes.Started.TheVariants as starteds
use Rattle.paged_model.specs.declared.line.Line.{Line}
use Rattle.paged_model.specs.Traces.{trace_state}
use Rattle.repage_check.specs.declared.past.Past.{Past}
use Rattle.repage_check.specs.Units.{StandsPast}
use Rattle.repage_check.specs.Verdicts.{past_at_start}

-- which first process's pieces find no place, by what the start answers
abbrev pub lacks_by : Started → Option ℕ
lacks_by starteds.Ok = None
lacks_by (starteds.NoSpace pid) = Some pid

-- The machine stands at the start of the run.
pub record AtStart (A : Inputs) (m : Standing) (holds : Option (List NamedFile)) (i : Option SwapImage) : Type 0 where
  pub holdings : Holdings
  pub can : CanRun A holdings
  pub stands : StandsPast past_at_start m holds i A (start A holdings)

-- it can go on, with its images and its sizes, and no entry
pub record HasBegun (old new : Standing) : Type 0 where
  pub ready : CanGoOn new
  pub images : new.images ≡ old.images
  pub params : new.params ≡ old.params
  pub none : new.kernel.journal ≡ []

-- The machine stands at the state to which a trace leads from this one.
pub record StandsBehind (ls : List Line) (m : Standing) (holds : Option (List NamedFile)) (j : Option SwapImage) (A : Inputs) (s : State) (image : SwapImage)
    : Type 0 where
  pub past : Past
  pub stands : StandsPast past m holds j A (trace_state A s ls)

-- The same from the start, where the first processes' pieces find their places.
pub record StandsAfter (A : Inputs) (ls : List Line) (m : Standing) (holds : Option (List NamedFile)) (j : Option SwapImage) : Type 0 where
  pub holdings : Holdings
  pub found : start_held A ≡ Ok holdings
  pub past : Past
  pub stands : StandsPast past m holds j A (trace_state A (start A holdings) ls)
