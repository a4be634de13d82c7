-- What is read to grade a trace: the trace, and what is read for a question about a run.
use Rattle.std.specs.Prelude.{◌≡◌, ℕ, List, Option, Result, Err}
use Rattle.io_edge.specs.FileHolding.{NamedFile}
use Rattle.vm_facts.specs.declared.entry.Entry.{Entry}
use Rattle.command_edge.specs.declared.answers.Unread.{Unread}
use Rattle.command_edge.specs.Told.{whole_told}
use Rattle.command_edge.specs.Named.{Why}
use Rattle.replay_command.specs.Reading.{transcript_bytes, HasEntries}
use Rattle.question_command.specs.Reading.{Read as RunRead, read_told as run_told, HasSchedule}
use Rattle.question_command.specs.Asking.{Subject}

-- a schedule and images, and the bytes of a trace, none of one that is too long
pub record TraceRead : Type 0 where
  pub run : RunRead
  pub trace : Result (Option (List ℕ)) Unread

-- what is read where the files are told, for a run and a trace's name
abbrev pub trace_told : Subject → List ℕ → List NamedFile → TraceRead
trace_told subject trace files = record { run = run_told subject.schedule subject.words files; trace = whole_told files trace transcript_bytes }

-- the schedule and the trace are good
abbrev pub HasTexts : TraceRead → Type 0
HasTexts read = HasSchedule read.run × ((entries : List Entry) × HasEntries read.trace entries)

-- they are, but this is why an image isn't read
abbrev pub LacksRunImage : TraceRead → Why → Type 0
LacksRunImage read why = HasTexts read × (read.run.images ≡ Err why)
