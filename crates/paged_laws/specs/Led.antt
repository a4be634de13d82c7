-- The state to which a trace leads, and the statements on it: placed, and owned.
use Rattle.std.specs.Prelude.{ℕ, List, map}
use Rattle.vm_facts.specs.declared.event.Event.{Event}
use Rattle.vm_facts.specs.declared.entry.Entry.{Entry}
use Rattle.swap_book.specs.Holdings.{Holdings}
use Rattle.flat_state.specs.Flat.{Inputs}
use Rattle.flat_state.specs.Journal.{units_of}
use Rattle.page_model.specs.Ownership.{OneOwner}
use Rattle.kernel_model.specs.Sound.{lives}
use Rattle.kernel_model.specs.Start.{kept_of}
use Rattle.run_model.specs.State.{State, start}
use Rattle.run_laws.specs.Standing.{Placed}
use Rattle.paged_model.specs.Runs.{paged_state}

-- the state of the paged machine after a trace, from a start with these holdings
abbrev pub led_to : Inputs → Holdings → List Entry → State
led_to A hs es = paged_state A (start A hs) (units_of es)

-- its placement, its holdings and its flat state stand together
abbrev pub PlacedAt : Inputs → State → Type 0
PlacedAt A s = Placed A s.point.flat s.place s.holdings

-- each frame and each block of swap of it has one owner or is free
abbrev pub OwnedAt : Inputs → State → Type 0
OwnedAt A s = OneOwner A.swap_blocks (lives (map kept_of s.point.flat.processes)) s.place s.holdings

-- the same inputs with other lines of a schedule and another limit
abbrev pub with_others : Inputs → List Event → ℕ → Inputs
with_others A ls l = record A { lines = ls; limit = l }
