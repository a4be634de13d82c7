-- A core map as it begins: all frames free, in rising order, with zeros.
use Rattle.std.specs.Prelude.{ℕ, zero, suc, List, [], ◌∷◌, ◌++◌, None}
use Rattle.frame_state.specs.Frame.{zero_frame}
use Rattle.core_map.specs.declared.slot.Slot.{Slot}
use Rattle.core_map.specs.declared.slot.Slot.TheVariants.{Free, Away}

-- the numbers 1 to n, rising
abbrev pub first_frames : ℕ → List ℕ
first_frames zero = []
first_frames (suc n) = first_frames n ++ suc n ∷ []

-- slot 0, which is no frame's, and the free frames 1 to n with zeros
abbrev pub fresh_slots : ℕ → List Slot
fresh_slots zero = Away ∷ []
fresh_slots (suc n) = fresh_slots n ++ Free (zero_frame (suc n)) None ∷ []
