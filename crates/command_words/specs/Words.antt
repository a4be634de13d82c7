-- Single words of a command line and lists of them, where a word is the list of its bytes.
use Rattle.std.specs.Prelude.{ℕ, Bool, ◌&&◌, not, ◌==◌, nat_le, List, ◌++◌, length, slice_index, slice_index_or, [], Option, Some, None, if◌then◌else◌, bytes_eq, codes}
use Rattle.std.specs.List.{list_all, list_any, before_first, after_first}
use Rattle.std.specs.Char.{is_ascii_digit}
use Rattle.std.specs.Str.Parse.{digits_value}
use Rattle.command_edge.specs.ImageWords.{starts, name_in}

-- a word has at least one byte, and so many at most
unfoldable pub has_up_to : ℕ → List ℕ → Bool
has_up_to most word = nat_le 1 (length word) && nat_le (length word) most

-- a word isn't empty and doesn't begin with a hyphen
unfoldable pub is_plain : List ℕ → Bool
is_plain word = nat_le 1 (length word) && not (slice_index word 0 == 45)

-- the number that 1 to 8 digits write in decimal, where zeros may lead
unfoldable pub decimal_of : List ℕ → Option ℕ
decimal_of word = if has_up_to 8 word && list_all is_ascii_digit word then Some (digits_value 10 word) else None

-- a number, where it is in its range
unfoldable pub in_range : ℕ → ℕ → Option ℕ → Option ℕ
in_range least most (Some number) = if nat_le least number && nat_le number most then Some number else None
in_range least most None = None

-- the number that a word writes, where it is in this range
unfoldable pub number_in : ℕ → ℕ → List ℕ → Option ℕ
number_in least most word = in_range least most (decimal_of word)

-- a name of a file has 1 to 63 bytes
unfoldable pub is_name : List ℕ → Bool
is_name word = has_up_to 63 word

-- the word of an image is a name, or one after an equals sign
unfoldable pub is_image_word : List ℕ → Bool
is_image_word word = is_name (name_in word)

-- up to 16 words of images, at least one of which starts a process
unfoldable pub are_image_words : List (List ℕ) → Bool
are_image_words words = nat_le (length words) 16 && list_all is_image_word words && list_any starts words

-- the option of `run`
unfoldable pub is_trace : List ℕ → Bool
is_trace word = bytes_eq word (codes "--trace")

-- the words but for the first `--trace` among them
unfoldable pub without_trace : List (List ℕ) → List (List ℕ)
without_trace words = before_first is_trace words ++ after_first is_trace words

-- the word at a place; an empty one after the last
abbrev pub word_at : List (List ℕ) → ℕ → List ℕ
word_at words place = slice_index_or words place []
