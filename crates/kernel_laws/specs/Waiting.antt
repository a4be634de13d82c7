-- Statements that pieces of swap which were found wait for their change, and take nothing from others.
use Rattle.std.specs.Prelude.{◌≡◌, ℕ, List, map, Ok}
use Rattle.swap_book.specs.Holdings.{Holdings}
use Rattle.swap_book.specs.Placing.{place_all}
use Rattle.flat_state.specs.Flat.{NamedImage}
use Rattle.flat_state.specs.declared.change.Change.{Change as AnyChange}
use Rattle.kernel_model.specs.Asks.{asked}
use Rattle.kernel_model.specs.Unit.{KernelState, FindUnit, DoneUnit, kernel_after, states_after}
use Rattle.kernel_model.specs.Invariant.{Invariant, MayAll, Waits}
use Rattle.page_model.specs.Place.{facts_of}

-- pieces that were found for a change wait for it
abbrev pub FoundPiecesWait : Type 0
FoundPiecesWait = (size : ℕ) (images : List NamedImage) (m : KernelState) (found : Holdings) (pid : ℕ)
    (change : AnyChange)
    → Invariant size images m
    → place_all size m.kernel.holdings (asked (facts_of images) m.kernel pid change) ≡ Ok found
    → Waits size images (kernel_after images m (FindUnit found)) pid change

-- they wait still after any number of transfers that end
abbrev pub PiecesWaitOn : Type 0
PiecesWaitOn = (size : ℕ) (images : List NamedImage) (reads : List (List (List ℕ))) (m : KernelState) (pid : ℕ)
    (change : AnyChange)
    → Waits size images m pid change → MayAll size images m (map DoneUnit reads)
    → Waits size images (states_after images m (map DoneUnit reads)) pid change
