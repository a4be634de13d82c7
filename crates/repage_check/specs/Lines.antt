-- What is told of a line of a trace, unit by unit.
use Rattle.std.specs.Prelude.{◌≡◌, ◌+◌, ◌≤◌, Bool, List, [], length, Option, Some, None}
use Rattle.vm_facts.specs.SwapImages.{SwapImage}
use Rattle.vm_facts.specs.declared.entry.Entry.{Entry}
use Rattle.io_edge.specs.FileHolding.{NamedFile}
use Rattle.flat_state.specs.Flat.{Inputs}
use Rattle.flat_state.specs.Journal.{appended, units_with}
use Rattle.machine_state.specs.Going.{CanGoOn}
use Rattle.machine_state.specs.Machine.{Standing}
use Rattle.run_model.specs.State.{State}
use Rattle.paged_model.specs.declared.line.Line.{Line}
use Rattle.paged_model.specs.declared.line.Line.TheVariants as lines
use Rattle.paged_model.specs.declared.reason.Reason.{Reason}
use Rattle.paged_model.specs.Runs.{units_reason, paged_state}
use Rattle.paged_model.specs.Traces.{trace_line_reason, trace_line_after}
use Rattle.repage_check.specs.declared.past.Past.{Past}
use Rattle.repage_check.specs.Past.{past_next}
use Rattle.repage_check.specs.Units.{StandsPast}

-- what is known once a unit was judged, by whether it was made
abbrev pub past_behind : Option Reason → Bool → Past → Entry → Past
past_behind (Some reason) out p u = p
past_behind None out p u = past_next out p u

-- What is told is the first reason that these units give, one after another; and with none the machine stands at the state after them.
pub record UnitsTold (reason : Option Reason) (us : List Entry) (p : Past) (new : Standing) (holds : Option (List NamedFile)) (j : Option SwapImage)
    (A : Inputs) (s : State) (image : SwapImage) : Type 0 where
  pub exact : reason ≡ units_reason A s us
  pub stands : reason ≡ None → StandsPast p new holds j A (paged_state A s us)

-- What is told is the reason for which a line can't come; and with none the machine stands at the state after it.
pub record LineTold (reason : Option Reason) (l : Line) (p : Past) (new : Standing) (holds : Option (List NamedFile)) (j : Option SwapImage) (A : Inputs)
    (s : State) (image : SwapImage) : Type 0 where
  pub exact : reason ≡ trace_line_reason A s l
  pub stands : reason ≡ None → StandsPast p new holds j A (trace_line_after A s l)

-- the units that a line makes; that of a part makes none
abbrev pub units_in : Line → List Entry
units_in (lines.RunLine e) = units_with e []
units_in (lines.Part x) = []

-- The machine made these units: it can go on, with its images and its area, and its journal has these units more, and room for one entry at
-- most.
pub record GoesBy (us : List Entry) (old new : Standing) : Type 0 where
  pub ready : CanGoOn new
  pub images : new.images ≡ old.images
  pub blocks : new.params.swap_blocks ≡ old.params.swap_blocks
  pub wide : new.params.journal ≤ length new.kernel.journal + 1
  pub journal : new.kernel.journal ≡ appended old.kernel.journal us
