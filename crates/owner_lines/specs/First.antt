-- When a state is one after the first entries of a run, with the last of them complete.
use Rattle.std.specs.Prelude.{◌≡◌, ◌<◌, List, ◌++◌, length, Some}
use Rattle.vm_facts.specs.declared.entry.Entry.{Entry}
use Rattle.flat_state.specs.Flat.{Inputs}
use Rattle.flat_state.specs.Journal.{append}
use Rattle.run_model.specs.State.{State}
use Rattle.run_model.specs.Next.{next_unit}

-- the last entry of a journal that leads to this state is complete: the next unit, if there is one, isn't joined to it
abbrev pub HasWholeEntries : Inputs → List Entry → State → Type 0
HasWholeEntries A journal s = (u : Entry) → next_unit A s ≡ Some u → length journal < length (append journal u)

-- the entries of the one journal come first in the other
abbrev pub ComeFirst : List Entry → List Entry → Type 0
ComeFirst journal more = (rest : List Entry) × (more ≡ journal ++ rest)
