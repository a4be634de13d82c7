-- Why a line of a schedule is none of an event: the first thing in it that is wrong, from left to right.
use Rattle.std.specs.Prelude.{ℕ, Bool, ◌&&◌, ◌||◌, nat_le, ◌==◌, List, [], ◌∷◌, Option, Some, None, if◌then◌else◌, bytes_eq, codes, is_none, IsTrue, ◌↔◌}
use Rattle.std.specs.List.{list_any}
use Rattle.vm_facts.specs.declared.event.Event.{Event}
use Rattle.run_text.specs.Schedule.{IsEventLine}
use Rattle.run_text.specs.declared.limits.TheConstants.{SCHEDULE_LINES, LAST_PROCESS, MOST_TURN, MOST_MOVES}
use Rattle.line_reasons.specs.declared.schedule.Argument.{Argument}
use Rattle.line_reasons.specs.declared.schedule.Argument.TheVariants.{Process, Turn, Moves}
use Rattle.line_reasons.specs.declared.schedule.Reason.{Reason}
use Rattle.line_reasons.specs.declared.schedule.Reason.TheVariants as reasons
use Rattle.line_reasons.specs.Lines.{line_at, ends_in, text_in, word_in, rest_in}
use Rattle.line_reasons.specs.FirstReason.{or_else}
use Rattle.line_reasons.specs.Digits.{decimal_of}

-- why a line is bad
pub data Why : Type 0 where
  TooManyLines : Why
  NoWord : Why
  CarriageReturn : Why
  Tab : Why
  Blank : Why
  Capital : (small : ℕ) → Why
  NoEvent : (word : List ℕ) → Why
  Missing : Argument → Why
  NotNumber : Argument → (word : List ℕ) → Why
  OutOfRange : Argument → (word : List ℕ) → Why
  TooMany : (word : List ℕ) → Why
  NoLineFeed : Why

-- the reason that the code answers
abbrev pub why_of : Reason → Why
why_of reasons.TooManyLines = TooManyLines
why_of reasons.NoWord = NoWord
why_of reasons.CarriageReturn = CarriageReturn
why_of reasons.Tab = Tab
why_of reasons.Blank = Blank
why_of (reasons.Capital small) = Capital small
why_of (reasons.NoEvent word) = NoEvent word.now
why_of (reasons.Missing argument) = Missing argument
why_of (reasons.NotNumber argument word) = NotNumber argument word.now
why_of (reasons.OutOfRange argument word) = OutOfRange argument word.now
why_of (reasons.TooMany word) = TooMany word.now
why_of reasons.NoLineFeed = NoLineFeed

-- the most that a number of an event may be; the least is 1
abbrev pub most_of : Argument → ℕ
most_of Process = LAST_PROCESS
most_of Turn = MOST_TURN
most_of Moves = MOST_MOVES

-- why a word is no value of a number: it is none, or out of its range
abbrev pub why_value : Argument → List ℕ → Option ℕ → Option Why
why_value argument word (Some value) = if nat_le 1 value && nat_le value (most_of argument) then None else Some (OutOfRange argument word)
why_value argument word None = Some (NotNumber argument word)

-- a word for a number
unfoldable pub why_number : Argument → List ℕ → Option Why
why_number argument [] = Some Blank
why_number argument (byte ∷ bytes) = why_value argument (byte ∷ bytes) (decimal_of (byte ∷ bytes))

-- a word for which there is no number
abbrev pub why_more : List ℕ → Why
why_more [] = Blank
why_more (byte ∷ bytes) = TooMany (byte ∷ bytes)

-- what stands after the blank after an event's letter, for these numbers in order
unfoldable pub why_numbers : List Argument → Option (List ℕ) → Option Why
why_numbers [] None = None
why_numbers [] (Some text) = Some (why_more (word_in text))
why_numbers (argument ∷ arguments) None = Some (Missing argument)
why_numbers (argument ∷ arguments) (Some text) = or_else (why_number argument (word_in text)) (why_numbers arguments (rest_in text))

-- a word that is no event's letter
unfoldable pub no_event : List ℕ → Why
no_event word =
    if bytes_eq word (codes "D") then Capital 100
    else (if bytes_eq word (codes "I") then Capital 105
    else (if bytes_eq word (codes "H") then Capital 104
    else (if bytes_eq word (codes "W") then Capital 119
    else (if bytes_eq word (codes "M") then Capital 109
    else NoEvent word))))

-- a letter that is an event without a number
unfoldable pub is_plain : List ℕ → Bool
is_plain word = bytes_eq word (codes "i") || (bytes_eq word (codes "w") || bytes_eq word (codes "m"))

-- the first word, and what stands after its blank
unfoldable pub why_event : List ℕ → Option (List ℕ) → Option Why
why_event [] rest = Some Blank
why_event (byte ∷ bytes) rest =
    if bytes_eq (byte ∷ bytes) (codes "d") then why_numbers (Process ∷ Turn ∷ []) rest
    else (if bytes_eq (byte ∷ bytes) (codes "h") then why_numbers (Moves ∷ []) rest
    else (if is_plain (byte ∷ bytes) then why_numbers [] rest
    else Some (no_event (byte ∷ bytes))))

-- a line without its line feed
unfoldable pub why_text : List ℕ → Option Why
why_text [] = Some NoWord
why_text (byte ∷ bytes) =
    if ends_in 13 (byte ∷ bytes) then Some CarriageReturn
    else (if list_any (λ b. b == 9) (byte ∷ bytes) then Some Tab
    else why_event (word_in (byte ∷ bytes)) (rest_in (byte ∷ bytes)))

-- why a line is none of an event; none where it is one's
unfoldable pub why_line : List ℕ → Option Why
why_line line = or_else (why_text (text_in line)) (if ends_in 10 line then None else Some NoLineFeed)

-- why the line of this number is bad
unfoldable pub why_at : ℕ → List ℕ → Option Why
why_at number bytes = if nat_le number SCHEDULE_LINES then why_line (line_at number bytes) else Some TooManyLines

-- a line has a reason exactly where it is the line of no event
abbrev pub RefusedHaveReasons : Type 0
RefusedHaveReasons = (line : List ℕ) → IsTrue (is_none (why_line line)) ↔ ((e : Event) × IsEventLine e line)
