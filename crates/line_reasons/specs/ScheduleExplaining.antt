-- Why a schedule is bad, as a line of text.
use Rattle.std.specs.Prelude.{◌≡◌, ℕ, Bool, ◌&&◌, nat_le, List, [], ◌∷◌, ◌++◌, length, codes, decimal, Option, Some, None, Ok, Err, if◌then◌else◌}
use Rattle.std.specs.Option.{option_map}
use Rattle.io_edge.specs.FileHolding.{NamedFile}
use Rattle.run_text.specs.Schedule.{IsReadSchedule}
use Rattle.run_text.specs.declared.answers.Schedule.{Schedule}
use Rattle.run_text.specs.declared.answers.Schedule.TheVariants.{Is, BadLine}
use Rattle.command_edge.specs.declared.answers.Unread.{Unread}
use Rattle.command_edge.specs.declared.answers.Unread.TheVariants.{Absent, NotImage, FileFault, NoMemory}
use Rattle.command_edge.specs.Told.{bytes_told}
use Rattle.run_opening.specs.Schedules.{schedule_bytes}
use Rattle.line_reasons.specs.Shown.{shown}
use Rattle.line_reasons.specs.declared.schedule.Argument.{Argument}
use Rattle.line_reasons.specs.declared.schedule.Argument.TheVariants.{Process, Turn, Moves}
use Rattle.line_reasons.specs.ScheduleReasons.{Why, TooManyLines, NoWord, CarriageReturn, Tab, Blank, Capital, NoEvent, Missing, NotNumber, OutOfRange, TooMany, NoLineFeed, most_of, why_at}

-- a number of an event, and whose it is
abbrev pub argument_name : Argument → List ℕ
argument_name Process = codes "P of d"
argument_name Turn = codes "N of d"
argument_name Moves = codes "N of h"

-- the numbers that it may be
abbrev pub range_text : Argument → List ℕ
range_text argument = codes "1 to " ++ decimal (most_of argument)

-- the letters of the five events
abbrev pub event_letters : List ℕ
event_letters = codes "d, i, h, w or m"

-- a number of an event, and what stands for it
abbrev pub given_text : Argument → List ℕ → List ℕ
given_text argument word = argument_name argument ++ codes " is " ++ shown word

-- a reason in words
abbrev pub why_text : Why → List ℕ
why_text TooManyLines = codes "more than 65536 lines"
why_text NoWord = codes "the line is empty"
why_text CarriageReturn = codes "a carriage return stands before the line's end"
why_text Tab = codes "a tab: parts have one blank between them"
why_text Blank = codes "a blank too many: parts have one between them"
why_text (Capital small) = codes "a capital letter is no event: write " ++ small ∷ []
why_text (NoEvent word) = shown word ++ codes " is no event: " ++ event_letters
why_text (Missing argument) = argument_name argument ++ codes " is missing: " ++ range_text argument
why_text (NotNumber argument word) = given_text argument word ++ codes ": 1 to 8 digits"
why_text (OutOfRange argument word) = given_text argument word ++ codes ": " ++ range_text argument
why_text (TooMany word) = shown word ++ codes " is a part too many"
why_text NoLineFeed = codes "the last line has no line feed"

-- the line that tells it, of a line of the schedule of this name
abbrev pub why_line : List ℕ → ℕ → Why → List ℕ
why_line name number why = codes "vmrun: " ++ name ++ codes " line " ++ decimal number ++ codes ": " ++ why_text why ++ 10 ∷ []

-- the line that tells why the line of this number is bad, if it is
abbrev pub line_explained : List ℕ → ℕ → List ℕ → Option (List ℕ)
line_explained name number bytes = option_map (why_line name number) (why_at number bytes)

-- what is told of these bytes of a schedule: nothing of a good one, and else the reason of its first bad line
abbrev pub schedule_explained : List ℕ → List ℕ → Schedule → Option (List ℕ)
schedule_explained name bytes (Is events) = None
schedule_explained name bytes (BadLine number) = line_explained name number bytes

-- what is told of the schedule of this name, by its first `schedule_bytes` bytes
pub record ExplainsSchedule (name : List ℕ) (holds : Option (List NamedFile)) (text : Option (List ℕ)) : Type 0 where
  pub bytes : List ℕ
  pub is_told : (files : List NamedFile) → holds ≡ Some files → Ok bytes ≡ bytes_told files name schedule_bytes
  pub schedule : Schedule
  pub reads : IsReadSchedule bytes schedule
  pub explained : text ≡ schedule_explained name bytes schedule

-- no reason is told: there is no schedule of this name, or a file failed, or memory was refused
abbrev pub LacksSchedule : List ℕ → Option (List NamedFile) → Unread → Type 0
LacksSchedule name holds Absent = (files : List NamedFile) → holds ≡ Some files → bytes_told files name schedule_bytes ≡ Err Absent
LacksSchedule name holds (NotImage reason) = ⊥
LacksSchedule name holds FileFault = Unit {0}
LacksSchedule name holds NoMemory = Unit {0}
