-- That after `Refused` and `Out` their own process comes next.
use Rattle.std.specs.Prelude.{◌≡◌, ℕ, Bool, [], Option, Some, None}
use Rattle.vm_facts.specs.declared.entry.Entry.{Entry}
use Rattle.vm_facts.specs.declared.entry.Entry.TheVariants as entries
use Rattle.flat_state.specs.Flat.{Inputs}
use Rattle.flat_model.specs.Run.{due_at}
use Rattle.run_model.specs.State.{State}
use Rattle.run_model.specs.Wanted.{wanted}
use Rattle.run_model.specs.Act.{LastSays}
use Rattle.run_model.specs.Kinds.{ProcessRuns}

-- the process runs, all its pages are valid, and an entry of its step isn't there yet
pub record Awaits (A : Inputs) (s : State) (pid : ℕ) : Type 0 where
  pub now : Bool
  pub runs : ProcessRuns A s pid now
  pub unwanted : wanted A s ≡ None
  pub left : due_at A s.point pid ≡ [] → ⊥

-- after `Refused` and `Out` their process is next
abbrev pub WaitsBy : Inputs → State → Option Entry → Type 0
WaitsBy A s (Some (entries.Refused pid)) = Awaits A s pid
WaitsBy A s (Some (entries.Out pid bytes)) = Awaits A s pid
WaitsBy A s _ = Unit {0}

-- the last flat entry is so of the flat state, and where a step is begun or refused its process is next
pub record Flows (A : Inputs) (s : State) : Type 0 where
  pub says : LastSays A s.point.flat s.point.last
  pub waits : WaitsBy A s s.point.last
