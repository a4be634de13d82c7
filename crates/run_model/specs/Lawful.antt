-- When a journal is lawful, and when it is finished: next units make it, to a state or to the end.
use Rattle.std.specs.Prelude.{◌≡◌, List, [], ◌∷◌, Some, None, Ok}
use Rattle.vm_facts.specs.declared.entry.Entry.{Entry}
use Rattle.swap_book.specs.Holdings.{Holdings}
use Rattle.flat_state.specs.Flat.{Inputs}
use Rattle.flat_state.specs.Journal.{appended, instructions_of}
use Rattle.flat_model.specs.Run.{flat_run}
use Rattle.flat_model.specs.Asked.{start_held, held}
use Rattle.run_model.specs.State.{State, start}
use Rattle.run_model.specs.After.{after}
use Rattle.run_model.specs.Next.{next_unit}

-- each of these units is the next one, and they lead from the first state to the second
abbrev pub Follows : Inputs → State → List Entry → State → Type 0
Follows A s [] t = s ≡ t
Follows A s (u ∷ us) t = (next_unit A s ≡ Some u) × Follows A (after A s u) us t

-- The first processes' pieces find their places, and next units lead from the start to this state, whose journal they make.
pub record Reaches (A : Inputs) (journal : List Entry) (s : State) : Type 0 where
  pub holdings : Holdings
  pub found : start_held A ≡ Ok holdings
  pub units : List Entry
  pub follows : Follows A (start A holdings) units s
  pub joined : appended [] units ≡ journal

-- A journal that is lawful. It is a run of the flat machine, whose point is the state's, and so are the count and the holdings.
pub record IsLawful (A : Inputs) (journal : List Entry) (s : State) : Type 0 where
  pub reaches : Reaches A journal s
  pub flat : flat_run A journal ≡ Some s.point
  pub count : instructions_of journal ≡ s.count
  pub holdings : held A journal ≡ Ok s.holdings

-- lawful, and there is no next unit
pub record IsFinished (A : Inputs) (journal : List Entry) (s : State) : Type 0 where
  pub lawful : IsLawful A journal s
  pub none : next_unit A s ≡ None
