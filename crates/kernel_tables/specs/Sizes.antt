-- A space with other sizes of data and stack.
use Rattle.std.specs.Prelude.{ℕ, zero, suc, List, [], ◌∷◌}
use Rattle.space_map.specs.Space.{Places, resized}

-- a space with entries for so many pages of data and of stack
abbrev pub with_sizes : ℕ → ℕ → Places → Places
with_sizes data_pages stack_pages s = record s { «data» = resized s.data data_pages; stack = resized s.stack stack_pages }

-- of the space that stands at a place among all
abbrev pub with_sizes_at : List Places → ℕ → ℕ → ℕ → List Places
with_sizes_at [] index data_pages stack_pages = []
with_sizes_at (s ∷ ss) zero data_pages stack_pages = with_sizes data_pages stack_pages s ∷ ss
with_sizes_at (s ∷ ss) (suc index) data_pages stack_pages = s ∷ with_sizes_at ss index data_pages stack_pages
