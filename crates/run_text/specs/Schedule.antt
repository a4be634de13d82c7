-- The grammar of a schedule.
use Rattle.std.specs.Prelude.{◌≡◌, ◌≤◌, ℕ, List, ◌++◌, length, codes, All, ⊤}
use Rattle.std.specs.Str.Parse.{IsNumeral, digits_value}
use Rattle.vm_facts.specs.declared.event.Event.{Event}
use Rattle.vm_facts.specs.declared.event.Event.TheVariants.{Dispatch, Interrupt, Hands, Swapper, Audit}
use Rattle.run_text.specs.declared.answers.Schedule.{Schedule}
use Rattle.run_text.specs.declared.answers.Schedule.TheVariants.{Is, BadLine}
use Rattle.run_text.specs.Lines.{lines_in, AreLines, IsFirstBad}
use Rattle.run_text.specs.declared.limits.TheConstants.{SCHEDULE_LINES, LAST_PROCESS, MOST_TURN, MOST_MOVES}

-- 1 to 8 ASCII digits, leading zeros allowed, of a number from 1 to `most`
abbrev pub Writes : ℕ → List ℕ → ℕ → Type 0
Writes most ds n = IsNumeral 10 ds × (length ds ≤ 8) × (digits_value 10 ds ≡ n) × (1 ≤ n) × (n ≤ most)

-- the text of an event
abbrev pub IsEvent : Event → List ℕ → Type 0
IsEvent (Dispatch pid count) text =
    (p : List ℕ) × (n : List ℕ) × Writes LAST_PROCESS p pid × Writes MOST_TURN n count × (text ≡ codes "d " ++ (p ++ (codes " " ++ n)))
IsEvent Interrupt text = text ≡ codes "i"
IsEvent (Hands count) text = (n : List ℕ) × Writes MOST_MOVES n count × (text ≡ codes "h " ++ n)
IsEvent Swapper text = text ≡ codes "w"
IsEvent Audit text = text ≡ codes "m"

-- the line of an event: its text and a line feed
abbrev pub IsEventLine : Event → List ℕ → Type 0
IsEventLine e line = (text : List ℕ) × (line ≡ text ++ codes "\n") × IsEvent e text

-- what a schedule reads as: its events, one a line, in no more lines than there may be, or its first bad line
abbrev pub IsReadSchedule : List ℕ → Schedule → Type 0
IsReadSchedule bytes (Is events) = AreLines IsEventLine events.items (lines_in bytes) × (length events.items ≤ SCHEDULE_LINES)
IsReadSchedule bytes (BadLine n) = IsFirstBad IsEventLine SCHEDULE_LINES n (lines_in bytes)

-- an event's numbers are within their ranges
abbrev pub IsInRanges : Event → Type 0
IsInRanges (Dispatch pid count) = (1 ≤ pid) × (1 ≤ count) × (count ≤ MOST_TURN)
IsInRanges Interrupt = ⊤
IsInRanges (Hands count) = (1 ≤ count) × (count ≤ MOST_MOVES)
IsInRanges Swapper = ⊤
IsInRanges Audit = ⊤

-- so are the numbers of all events of a schedule
abbrev pub AreInRanges : Schedule → Type 0
AreInRanges (Is events) = All IsInRanges events.items
AreInRanges (BadLine n) = ⊤
