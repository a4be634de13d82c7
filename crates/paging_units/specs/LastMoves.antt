-- How many moves of the hands a journal's last entry counts.
use Rattle.std.specs.Prelude.{ℕ, List, [], ◌∷◌}
use Rattle.vm_facts.specs.declared.entry.Entry.{Entry}
use Rattle.page_laws.specs.Spans.{moves}

-- 0 where the last entry counts no moves, or there is none
abbrev pub last_moves : List Entry → ℕ
last_moves [] = 0
last_moves (e ∷ []) = moves e
last_moves (e ∷ f ∷ journal) = last_moves (f ∷ journal)
