-- How many moves of the hands neighbouring lines count, and when these are too many.
use Rattle.std.specs.Prelude.{ℕ, zero, ◌+◌, ◌≤◌, List, [], ◌∷◌}
use Rattle.vm_facts.specs.declared.entry.Entry.{Entry}
use Rattle.vm_facts.specs.declared.entry.Entry.TheVariants as entries
use Rattle.page_laws.specs.Spans.{moves}
use Rattle.paged_model.specs.declared.line.Line.{Line}
use Rattle.paged_model.specs.declared.line.Line.TheVariants as lines

-- how many moves a line counts; that of a part counts none
abbrev pub moves_counted : Line → ℕ
moves_counted (lines.RunLine e) = moves e
moves_counted (lines.Part x) = 0

-- how many moves neighbouring entries count once this one came too, after so many: an entry that makes no unit is between no neighbours
abbrev pub moves_with : ℕ → Entry → ℕ
moves_with n (entries.Hands m) = n + m
moves_with n (entries.Ran pid zero) = n
moves_with n e = 0

-- the same of lines: that of a part makes no entry, and is between no neighbours
abbrev pub moves_by : ℕ → Line → ℕ
moves_by n (lines.RunLine e) = moves_with n e
moves_by n (lines.Part x) = n

-- after so many moves none of these lines and its neighbours count more than a million
abbrev pub HaveFewAfter : ℕ → List Line → Type 0
HaveFewAfter n [] = Unit {0}
HaveFewAfter n (l ∷ ls) = (moves_by n l ≤ 1000000) × HaveFewAfter (moves_by n l) ls

-- neighbouring lines count no more than a million moves
abbrev pub HaveFewMoves : List Line → Type 0
HaveFewMoves ls = HaveFewAfter 0 ls
