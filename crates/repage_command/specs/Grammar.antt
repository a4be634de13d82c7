-- The grammar of a trace: each line is that of an entry, as in a transcript, or of a part of a move of the hands.
use Rattle.std.specs.Prelude.{◌≡◌, ◌≤◌, ℕ, List, [], ◌∷◌, ◌++◌, codes, ⊤}
use Rattle.kernel_model.specs.declared.part.HandPart.{HandPart}
use Rattle.kernel_model.specs.declared.part.HandPart.TheVariants.{Expires, Writes, Frees}
use Rattle.paged_model.specs.declared.line.Line.{Line}
use Rattle.paged_model.specs.declared.line.Line.TheVariants.{RunLine, Part}
use Rattle.run_text.specs.Lines.{lines_in, AreLines, IsFirstBad}
use Rattle.run_text.specs.Text.{page_text, rest_of_line}
use Rattle.run_text.specs.Transcript.{page_numbers, AllBelow, IsEntryLine}
use Rattle.repage_command.specs.declared.trace.Trace.{Trace}
use Rattle.repage_command.specs.declared.trace.Trace.TheVariants.{Is, BadLine}

-- the line of a part, with its end
abbrev pub part_line : HandPart → List ℕ
part_line (Expires q) = codes "E" ++ page_text q ++ rest_of_line []
part_line (Writes q n) = codes "W" ++ page_text q ++ rest_of_line (n ∷ [])
part_line (Frees q) = codes "F" ++ page_text q ++ rest_of_line []

-- the numbers of a part, in the order of its line
abbrev pub part_numbers : HandPart → List ℕ
part_numbers (Expires q) = page_numbers q
part_numbers (Writes q n) = page_numbers q ++ n ∷ []
part_numbers (Frees q) = page_numbers q

-- at least one page is written
abbrev pub WritesSome : HandPart → Type 0
WritesSome (Writes q n) = 1 ≤ n
WritesSome _ = ⊤

-- a part is within its ranges: its numbers have 32 bits
abbrev pub IsPartWithin : HandPart → Type 0
IsPartWithin x = AllBelow 4294967296 (part_numbers x) × WritesSome x

-- the line of an entry or of a part, within its ranges
abbrev pub IsTraceLine : Line → List ℕ → Type 0
IsTraceLine (RunLine e) line = IsEntryLine e line
IsTraceLine (Part x) line = IsPartWithin x × (line ≡ part_line x)

-- what a trace reads as: its lines, or its first bad line
abbrev pub IsReadTrace : List ℕ → Trace → Type 0
IsReadTrace bytes (Is lines) = AreLines IsTraceLine lines.items (lines_in bytes)
IsReadTrace bytes (BadLine n) = IsFirstBad IsTraceLine 4294967295 n (lines_in bytes)
