-- A line of a text by its number, and how it is cut into words.
use Rattle.std.specs.Prelude.{ℕ, Bool, ◌&&◌, ◌-◌, ◌+◌, ◌==◌, nat_le, List, [], length, slice_index, slice_index_or, take, drop, position, Option, Some, None, if◌then◌else◌}
use Rattle.std.specs.Option.{option_map}
use Rattle.run_text.specs.Lines.{lines_in}

-- the line of this number, counted from 1; an empty one after the last
abbrev pub line_at : ℕ → List ℕ → List ℕ
line_at number bytes = slice_index_or (lines_in bytes) (number - 1) []

-- this byte is the last
unfoldable pub ends_in : ℕ → List ℕ → Bool
ends_in byte text = nat_le 1 (length text) && slice_index text (length text - 1) == byte

-- a line without its line feed
unfoldable pub text_in : List ℕ → List ℕ
text_in line = if ends_in 10 line then take (length line - 1) line else line

-- where the first blank stands
abbrev pub blank_in : List ℕ → Option ℕ
blank_in text = position (λ byte. byte == 32) text

-- the text before this place, or all of it without one
abbrev pub word_by : Option ℕ → List ℕ → List ℕ
word_by (Some place) text = take place text
word_by None text = text

-- the word before the first blank
unfoldable pub word_in : List ℕ → List ℕ
word_in text = word_by (blank_in text) text

-- what stands after the first blank, where there is one
unfoldable pub rest_in : List ℕ → Option (List ℕ)
rest_in text = option_map (λ place. drop (place + 1) text) (blank_in text)
