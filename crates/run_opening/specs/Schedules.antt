-- The schedule of a run: what its file gives.
use Rattle.std.specs.Prelude.{◌≡◌, ◌≤◌, ℕ, List, length, Option, Some, None, Vec, Result, Ok, Err}
use Rattle.io_edge.specs.FileHolding.{NamedFile, place_of, bytes_at}
use Rattle.vm_facts.specs.declared.event.Event.{Event}
use Rattle.command_edge.specs.declared.answers.Unread.{Unread}
use Rattle.command_edge.specs.declared.answers.Unread.TheVariants as unreads
use Rattle.run_text.specs.Lines.{lines_in, AreLines, IsFirstBad}
use Rattle.run_text.specs.Schedule.{IsEventLine}
use Rattle.run_text.specs.declared.limits.TheConstants.{SCHEDULE_LINES}
use Rattle.command_edge.specs.declared.fault.Fault.{Fault}
use Rattle.command_edge.specs.declared.fault.Fault.TheVariants.{Absent, FileFault, NoMemory, BadSchedule}
use Rattle.command_edge.specs.Command.{Faults, NoFaults, OpenFailed}
use Rattle.run_opening.specs.declared.schedule.TheConstants.{SCHEDULE_BYTES}

-- the most lines of a schedule
abbrev pub schedule_lines : ℕ
schedule_lines = SCHEDULE_LINES

-- the most bytes of a schedule that are read: a line that is good has at most 20
abbrev pub schedule_bytes : ℕ
schedule_bytes = SCHEDULE_BYTES

-- the bytes of the schedule at a place among the files; it is absent where there is no place
abbrev pub schedule_found_at : List NamedFile → Option ℕ → Result (List ℕ) Unread
schedule_found_at files None = Err unreads.Absent
schedule_found_at files (Some place) = Ok (bytes_at files place)

-- the bytes of the schedule of this name, where the files are told
abbrev pub schedule_found : List NamedFile → List ℕ → Result (List ℕ) Unread
schedule_found files name = schedule_found_at files (place_of files name)

-- its lines are those of these events
abbrev pub HasEvents : Result (List ℕ) Unread → List Event → Type 0
HasEvents (Ok bytes) events = AreLines IsEventLine events (lines_in bytes) × (length events ≤ schedule_lines)
HasEvents (Err unread) events = ⊥

-- this line is the first that is none of an event, or stands after as many lines as there may be
abbrev pub HasBadEvent : Result (List ℕ) Unread → ℕ → Type 0
HasBadEvent (Ok bytes) line = IsFirstBad IsEventLine schedule_lines line (lines_in bytes)
HasBadEvent (Err unread) line = ⊥

-- what the bytes of a schedule give
abbrev pub EndsEvents : {A : Type 0} → List ℕ → Result (Vec Event A) Fault → Type 0
EndsEvents bytes (Ok lines) = HasEvents (Ok bytes) lines.items
EndsEvents bytes (Err NoMemory) = Unit {0}
EndsEvents bytes (Err (BadSchedule line)) = HasBadEvent (Ok bytes) line
EndsEvents bytes (Err _) = ⊥

-- what the schedule of this name gives, by what is found
abbrev pub EndsSchedule : {A : Type 0} → List ℕ → Result (List ℕ) Unread → Faults → Result (Vec Event A) Fault → Type 0
EndsSchedule name found f (Ok lines) = NoFaults f × HasEvents found lines.items
EndsSchedule name found f (Err (Absent absent)) = (absent.now ≡ name) × (found ≡ Err unreads.Absent)
EndsSchedule name found f (Err FileFault) = OpenFailed f
EndsSchedule name found f (Err NoMemory) = Unit {0}
EndsSchedule name found f (Err (BadSchedule line)) = HasBadEvent found line
EndsSchedule name found f (Err _) = ⊥
