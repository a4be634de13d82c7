-- The invariant of paged runs: what stands at each state, whatever the policy.
use Rattle.std.specs.Prelude.{ℕ, Option, Some}
use Rattle.vm_facts.specs.declared.entry.Entry.{Entry}
use Rattle.vm_facts.specs.declared.entry.Entry.TheVariants as entries
use Rattle.flat_state.specs.Flat.{Inputs}
use Rattle.flat_state.specs.Numbers.{IsNumbered}
use Rattle.flat_state.specs.Lenders.{LendsStand}
use Rattle.run_laws.specs.Whole.{AllSized}
use Rattle.run_model.specs.declared.mark.Mark.TheVariants as marks
use Rattle.run_model.specs.State.{State}
use Rattle.run_model.specs.Act.{LastSays}
use Rattle.run_laws.specs.Standing.{Placed, TextsHeld}
use Rattle.run_laws.specs.Flowing.{Awaits}

-- the placement and the holdings stand for the flat state, of which all is so that is in a run, and so says the last flat entry
pub record Steady (A : Inputs) (s : State) : Type 0 where
  pub placed : Placed A s.point.flat s.place s.holdings
  pub numbers : IsNumbered s.point.flat
  pub lenders : LendsStand s.point.flat
  pub texts : TextsHeld A.images s.point.flat
  pub sized : AllSized s.point.flat.processes
  pub says : LastSays A s.point.flat s.point.last

-- the state as under a dispatch of one instruction of this process
abbrev pub under_dispatch : State → ℕ → State
under_dispatch s pid = record s { mark = marks.Dispatch pid 1 s.count }

-- where a step is begun its process goes on, as under such a dispatch
abbrev pub BegunAwaits : Inputs → State → Option Entry → Type 0
BegunAwaits A s (Some (entries.Refused pid)) = Awaits A (under_dispatch s pid) pid
BegunAwaits A s (Some (entries.Out pid bytes)) = Awaits A (under_dispatch s pid) pid
BegunAwaits A s _ = Unit {0}

-- Both.
pub record IsPaged (A : Inputs) (s : State) : Type 0 where
  pub steady : Steady A s
  pub awaits : BegunAwaits A s s.point.last
