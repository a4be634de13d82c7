-- That a run comes to its end: next units lead to a state that has none.
use Rattle.std.specs.Prelude.{◌≡◌, List, None}
use Rattle.vm_facts.specs.declared.entry.Entry.{Entry}
use Rattle.flat_state.specs.Flat.{Inputs}
use Rattle.run_model.specs.State.{State}
use Rattle.run_model.specs.Next.{next_unit}
use Rattle.run_model.specs.Lawful.{Follows}

-- next units lead from here to a state that has none
pub record Finishes (A : Inputs) (s : State) : Type 0 where
  pub units : List Entry
  pub last : State
  pub leads : Follows A s units last
  pub none : next_unit A last ≡ None
