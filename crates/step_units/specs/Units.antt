-- The statements that a machine goes on after units of paging.
use Rattle.std.specs.Prelude.{◌≡◌, ℕ, ◌≤◌, List, [], Option}
use Rattle.vm_facts.specs.SwapImages.{SwapImage}
use Rattle.vm_facts.specs.declared.entry.Entry.{Entry}
use Rattle.machine_state.specs.Machine.{Standing}
use Rattle.swapper.specs.LastMoves.{last_moves}
use Rattle.swapper.specs.Made.{Ground, Makes}
use Rattle.step_units.specs.Ready.{CountsOn, Continues}

-- whatever is due, and however many moves of the hands they are
abbrev pub UnitsRunOn : Type 0
UnitsRunOn = (g : Ground) (us : List Entry) (old new : Standing) (i j : Option SwapImage) → Makes g us old new i j → CountsOn old new 0

-- where nothing is due, and the last entry counts no more moves than before
abbrev pub UnitsContinue : Type 0
UnitsContinue =
    (g : Ground) (us : List Entry) (old new : Standing) (i j : Option SwapImage) → old.kernel.place.due ≡ [] → Makes g us old new i j
    → last_moves new.kernel.journal ≤ last_moves old.kernel.journal → Continues old new 0
