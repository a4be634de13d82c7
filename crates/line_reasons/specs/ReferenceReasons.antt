-- Why a line is none of a file of references: the first thing in it that is wrong, from left to right.
use Rattle.std.specs.Prelude.{ℕ, Bool, ◌&&◌, ◌||◌, nat_le, ◌==◌, List, [], ◌∷◌, Option, Some, None, if◌then◌else◌, bytes_eq, codes, decimal, is_none, IsTrue, ◌↔◌}
use Rattle.std.specs.List.{list_any}
use Rattle.std.specs.Str.Parse.{digits_value}
use Rattle.vm_facts.specs.declared.page.Page.{Page}
use Rattle.reference_answers.specs.Grammar.{IsReferenceLine}
use Rattle.line_reasons.specs.Lines.{line_at, ends_in, text_in, word_in, rest_in}
use Rattle.line_reasons.specs.FirstReason.{or_else}
use Rattle.line_reasons.specs.declared.references.Argument.{Argument}
use Rattle.line_reasons.specs.declared.references.Argument.TheVariants.{Owner, Place}
use Rattle.line_reasons.specs.declared.references.Reason.{Reason}
use Rattle.line_reasons.specs.declared.references.Reason.TheVariants as reasons

-- why a line is bad
pub data Why : Type 0 where
  CarriageReturn : Why
  Tab : Why
  Blank : Why
  NoReference : (word : List ℕ) → Why
  Missing : Argument → Why
  NotNumber : Argument → (word : List ℕ) → Why
  TooMany : (word : List ℕ) → Why
  NoLineFeed : Why
  TooManyReferences : Why

-- the reason that the code answers
abbrev pub why_of : Reason → Why
why_of reasons.CarriageReturn = CarriageReturn
why_of reasons.Tab = Tab
why_of reasons.Blank = Blank
why_of (reasons.NoReference word) = NoReference word.now
why_of (reasons.Missing argument) = Missing argument
why_of (reasons.NotNumber argument word) = NotNumber argument word.now
why_of (reasons.TooMany word) = TooMany word.now
why_of reasons.NoLineFeed = NoLineFeed
why_of reasons.TooManyReferences = TooManyReferences

-- the word is the decimal of a number of 32 bits
unfoldable pub is_number : List ℕ → Bool
is_number word = bytes_eq word (decimal (digits_value 10 word)) && nat_le (digits_value 10 word) 4294967295

-- a word for a number
unfoldable pub why_number : Argument → List ℕ → Option Why
why_number argument [] = Some Blank
why_number argument (byte ∷ bytes) = if is_number (byte ∷ bytes) then None else Some (NotNumber argument (byte ∷ bytes))

-- a word for which there is no number
abbrev pub why_more : List ℕ → Why
why_more [] = Blank
why_more (byte ∷ bytes) = TooMany (byte ∷ bytes)

-- what stands after the blank after the first word, for these numbers in order
unfoldable pub why_numbers : List Argument → Option (List ℕ) → Option Why
why_numbers [] None = None
why_numbers [] (Some text) = Some (why_more (word_in text))
why_numbers (argument ∷ arguments) None = Some (Missing argument)
why_numbers (argument ∷ arguments) (Some text) = or_else (why_number argument (word_in text)) (why_numbers arguments (rest_in text))

-- the letter of a segment
unfoldable pub is_segment : List ℕ → Bool
is_segment word = bytes_eq word (codes "d") || (bytes_eq word (codes "s") || bytes_eq word (codes "x"))

-- the first word, and what stands after its blank
unfoldable pub why_reference : List ℕ → Option (List ℕ) → Option Why
why_reference [] rest = Some Blank
why_reference (byte ∷ bytes) rest =
    if is_segment (byte ∷ bytes) then why_numbers (Owner ∷ Place ∷ []) rest
    else (if is_number (byte ∷ bytes) then why_numbers [] rest
    else Some (NoReference (byte ∷ bytes)))

-- a line without its line feed: an empty one and a remark are good
unfoldable pub why_text : List ℕ → Option Why
why_text [] = None
why_text (byte ∷ bytes) =
    if byte == 35 then None
    else (if ends_in 13 (byte ∷ bytes) then Some CarriageReturn
    else (if list_any (λ b. b == 9) (byte ∷ bytes) then Some Tab
    else why_reference (word_in (byte ∷ bytes)) (rest_in (byte ∷ bytes))))

-- why a line is none of a file of references; none where it is one
unfoldable pub why_line : List ℕ → Option Why
why_line line = or_else (why_text (text_in line)) (if ends_in 10 line then None else Some NoLineFeed)

-- why the line of this number is the first bad one: it is none of a file, or it has one reference more than there may be
abbrev pub reason_or_full : Option Why → Why
reason_or_full (Some why) = why
reason_or_full None = TooManyReferences

-- why the line of this number is the first bad one
unfoldable pub why_at : ℕ → List ℕ → Why
why_at number bytes = reason_or_full (why_line (line_at number bytes))

-- a line has a reason exactly where it is none of a file of references
abbrev pub RefusedHaveReasons : Type 0
RefusedHaveReasons = (line : List ℕ) → IsTrue (is_none (why_line line)) ↔ ((read : Option Page) × IsReferenceLine read line)
