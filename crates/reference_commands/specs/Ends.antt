-- How a question about a run ends, by what is read.
use Rattle.std.specs.Prelude.{◌≡◌, ◌⊎◌, ◌≤◌, ℕ, List, length, Option, Ok, Err}
use Rattle.vm_facts.specs.SwapImages.{SwapImage}
use Rattle.vm_facts.specs.declared.entry.Entry.{Entry}
use Rattle.vm_facts.specs.declared.stop.Stop.TheVariants as stops
use Rattle.io_edge.specs.FileHolding.{NamedFile}
use Rattle.flat_state.specs.Flat.{Inputs}
use Rattle.flat_model.specs.Asked.{start_held}
use Rattle.run_command.specs.Lawful.{RunHalted}
use Rattle.command_edge.specs.declared.answers.Unread.TheVariants as unreads
use Rattle.command_edge.specs.declared.fault.Fault.TheVariants.{Absent, NotImage, BadSchedule, FileFault, NoMemory, JournalFull, NoSpace}
use Rattle.command_edge.specs.Ending.{Ending}
use Rattle.command_edge.specs.Command.{Faults, NoFaults, FailedBehind, Completes}
use Rattle.run_opening.specs.Schedules.{HasBadEvent}
use Rattle.run_command.specs.Machines.{journal_entries}
use Rattle.reference_commands.specs.declared.question.Question.{Question}
use Rattle.reference_commands.specs.declared.question.Question.TheVariants.{Optimum, Curve, Owners, Film, Stats, WasCut, References}
use Rattle.reference_commands.specs.Reading.{Read, read_told, HasSchedule, LacksImage}
use Rattle.reference_commands.specs.Asking.{Subject, AreInputsOf}
use Rattle.reference_commands.specs.Answering.{blank_stores, IsAnswer}

-- the text is the answer about the run
pub record IsAnswered (question : Question) (subject : Subject) (read : Read) (text : List ℕ) : Type 0 where
  pub inputs : Inputs
  pub are : AreInputsOf inputs subject read
  pub answer : IsAnswer question inputs text

-- the run has a next unit, but its journal has all entries that it may have
pub record HasFilled (subject : Subject) (read : Read) : Type 0 where
  pub inputs : Inputs
  pub are : AreInputsOf inputs subject read
  pub journal : List Entry
  pub left : Option SwapImage
  pub halted : RunHalted inputs journal stops.JournalFull (blank_stores inputs.swap_blocks) left
  pub full : journal_entries ≤ length journal

-- so a run ends that is to be finished for the question; one that is asked about so many entries isn't, and one that is filmed
abbrev pub IsFilled : Question → Subject → Read → Type 0
IsFilled (Optimum frames) subject read = HasFilled subject read
IsFilled Curve subject read = HasFilled subject read
IsFilled (Owners entries) subject read = ⊥
IsFilled (Film steps) subject read = ⊥
IsFilled Stats subject read = HasFilled subject read
IsFilled WasCut subject read = HasFilled subject read
IsFilled References subject read = HasFilled subject read

-- this is the first of the first processes whose pieces of swap find no place
pub record LacksSpace (subject : Subject) (read : Read) (pid : ℕ) : Type 0 where
  pub inputs : Inputs
  pub are : AreInputsOf inputs subject read
  pub refused : start_held inputs ≡ Err pid

-- How a question about a run ends, by what is read. The schedule comes first, then the images in their order, then the run, and then the answer.
abbrev pub EndsQuestion : Question → Subject → Read → Faults → Ending → Type 0
EndsQuestion question subject read f (Ok text) = NoFaults f × IsAnswered question subject read text
EndsQuestion question subject read f (Err (Absent name)) =
    ((name.now ≡ subject.schedule) × (read.schedule ≡ Err unreads.Absent)) ⊎ LacksImage read (name.now, unreads.Absent)
EndsQuestion question subject read f (Err (NotImage name reason)) = LacksImage read (name.now, unreads.NotImage reason)
EndsQuestion question subject read f (Err (BadSchedule line)) = HasBadEvent read.schedule line
EndsQuestion question subject read f (Err FileFault) = FailedBehind (HasSchedule read) f
EndsQuestion question subject read f (Err NoMemory) = Unit {0}
EndsQuestion question subject read f (Err JournalFull) = NoFaults f × IsFilled question subject read
EndsQuestion question subject read f (Err (NoSpace pid)) = NoFaults f × LacksSpace subject read pid
EndsQuestion question subject read f (Err _) = ⊥

-- asking a question about the run that words name
abbrev pub Answers : Question → Subject → Option (List NamedFile) → Faults → Option (List ℕ) → Option (List ℕ) → ℕ → ℕ → ℕ → Type 0
Answers question subject holds f before after old_faults new_faults status =
    Completes (EndsQuestion question subject) (read_told subject.schedule subject.words) holds f before after old_faults new_faults status
