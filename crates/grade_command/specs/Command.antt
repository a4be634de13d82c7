-- How grading a trace ends, by what is read, and what is written.
use Rattle.std.specs.Prelude.{◌≡◌, ◌⊎◌, ℕ, List, length, Option, None, Result, Ok, Err}
use Rattle.vm_facts.specs.declared.entry.Entry.{Entry}
use Rattle.io_edge.specs.FileHolding.{NamedFile}
use Rattle.flat_state.specs.Flat.{Inputs}
use Rattle.flat_model.specs.Asked.{start_held}
use Rattle.run_model.specs.State.{State}
use Rattle.run_model.specs.Lawful.{IsFinished}
use Rattle.command_edge.specs.declared.answers.Unread.TheVariants as unreads
use Rattle.command_edge.specs.declared.fault.Fault.{Fault}
use Rattle.command_edge.specs.declared.fault.Fault.TheVariants.{Absent, NotImage, BadSchedule, FileFault, NoMemory, NoSpace, BadTranscript, TooLong, NotAsWritten, WrittenSoFar}
use Rattle.command_edge.specs.Ending.{Ending}
use Rattle.command_edge.specs.Command.{Faults, NoFaults, FailedBehind, Completes}
use Rattle.run_opening.specs.Schedules.{HasBadEvent}
use Rattle.replay_command.specs.Reading.{HasEntries, HasBadLine}
use Rattle.question_command.specs.Reading.{HasSchedule}
use Rattle.question_command.specs.Asking.{Subject, AreInputsOf}
use Rattle.grade_command.specs.Grading.{IsFrontOf, PartsAt}
use Rattle.grade_command.specs.declared.judging.Graded.{Graded}
use Rattle.grade_command.specs.Telling.{written_line, TellsGrade}
use Rattle.grade_command.specs.Reading.{TraceRead, trace_told, HasTexts, LacksRunImage}

-- This is so of the journal that the policy writes, lawful and finished, of the inputs that were read, and of the entries of the trace.
pub record IsSoOfTrace (So : List Entry → List Entry → Type 0) (subject : Subject) (read : TraceRead) : Type 0 where
  pub inputs : Inputs
  pub are : AreInputsOf inputs subject read.run
  pub entries : List Entry
  pub has : HasEntries read.trace entries
  pub journal : List Entry
  pub state : State
  pub finished : IsFinished inputs journal state
  pub so : So journal entries

-- the trace is that journal, and the output says so
abbrev pub SaysWritten : List ℕ → List Entry → List Entry → Type 0
SaysWritten output journal entries = (entries ≡ journal) × (output ≡ written_line (length entries))

-- it is a strict front of that journal, of so many entries
abbrev pub IsWrittenSoFar : ℕ → List Entry → List Entry → Type 0
IsWrittenSoFar number journal entries = IsFrontOf journal entries × (number ≡ length entries)

-- it parts from that journal at this line
abbrev pub PartsAtLine : ℕ → List Entry → List Entry → Type 0
PartsAtLine line journal entries = PartsAt journal entries line

-- the pieces of swap of this process, one of the first ones, find no place
pub record LacksFirstSpace (subject : Subject) (read : TraceRead) (pid : ℕ) : Type 0 where
  pub inputs : Inputs
  pub are : AreInputsOf inputs subject read.run
  pub good : HasTexts read
  pub refused : start_held inputs ≡ Err pid

-- why a trace of this name isn't graded. The schedule comes first, then the trace, then the images in their order, then the run
abbrev pub LacksGrade : Subject → List ℕ → TraceRead → Faults → Fault → Type 0
LacksGrade subject trace read f (Absent name) =
    ((name.now ≡ subject.schedule) × (read.run.schedule ≡ Err unreads.Absent))
    ⊎ ((HasSchedule read.run × ((name.now ≡ trace) × (read.trace ≡ Err unreads.Absent))) ⊎ LacksRunImage read (name.now, unreads.Absent))
LacksGrade subject trace read f (NotImage name reason) = LacksRunImage read (name.now, unreads.NotImage reason)
LacksGrade subject trace read f (BadSchedule line) = HasBadEvent read.run.schedule line
LacksGrade subject trace read f (BadTranscript line) = HasSchedule read.run × HasBadLine read.trace line
LacksGrade subject trace read f TooLong = HasSchedule read.run × (read.trace ≡ Ok None)
LacksGrade subject trace read f FileFault = FailedBehind (HasTexts read) f
LacksGrade subject trace read f NoMemory = Unit {0}
LacksGrade subject trace read f (NoSpace pid) = NoFaults f × LacksFirstSpace subject read pid
LacksGrade subject trace read f _ = ⊥

-- the trace that was read was graded
pub record HasGrade (subject : Subject) (read : TraceRead) (graded : Graded) : Type 0 where
  pub inputs : Inputs
  pub are : AreInputsOf inputs subject read.run
  pub entries : List Entry
  pub has : HasEntries read.trace entries
  pub tells : TellsGrade inputs entries graded

-- how reading and grading it ends
abbrev pub EndsReading : Subject → List ℕ → TraceRead → Faults → Result Graded Fault → Type 0
EndsReading subject trace read f (Ok graded) = NoFaults f × HasGrade subject read graded
EndsReading subject trace read f (Err fault) = LacksGrade subject trace read f fault

-- how the command ends
abbrev pub EndsGrade : Subject → List ℕ → TraceRead → Faults → Ending → Type 0
EndsGrade subject trace read f (Ok output) = NoFaults f × IsSoOfTrace (SaysWritten output) subject read
EndsGrade subject trace read f (Err (NotAsWritten line)) = NoFaults f × IsSoOfTrace (PartsAtLine line) subject read
EndsGrade subject trace read f (Err (WrittenSoFar number)) = NoFaults f × IsSoOfTrace (IsWrittenSoFar number) subject read
EndsGrade subject trace read f (Err fault) = LacksGrade subject trace read f fault

-- grading the trace of this name by the run that words name
abbrev pub Grades : Subject → List ℕ → Option (List NamedFile) → Faults → Option (List ℕ) → Option (List ℕ) → ℕ → ℕ → ℕ → Type 0
Grades subject trace holds f before after old_faults new_faults status =
    Completes (EndsGrade subject trace) (trace_told subject trace) holds f before after old_faults new_faults status
