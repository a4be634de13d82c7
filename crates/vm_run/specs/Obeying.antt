-- That what the words ask for is done, command by command: the contract of the program's call.
use Rattle.std.specs.Prelude.{ℕ, Option, Some, None, Err}
use Rattle.command_words.specs.Asked.{Asked, Run, Load, Replay, Assemble, Show, Optimum, Curve, Owners, Film, Stats, References, Grade, Repage, RepageOwners, Policies}
use Rattle.command_edge.specs.declared.fault.Fault.TheVariants.{BadWords}
use Rattle.command_edge.specs.Command.{WritesEnding}
use Rattle.source_commands.specs.Command.{Assembles, Lists}
use Rattle.replay_command.specs.Command.{Replays}
use Rattle.question_command.specs.Outside.{Early}
use Rattle.question_command.specs.Seen.{Seen}
use Rattle.question_command.specs.RunCommandEnds.{Runs}
use Rattle.question_command.specs.Loads.{Loads}
use Rattle.question_command.specs.Question.TheVariants as questions
use Rattle.question_command.specs.Ends.{Answers}
use Rattle.grade_command.specs.Command.{Grades}
use Rattle.repage_command.specs.Command.{Repages, TellsWhose}
use Rattle.reference_answers.specs.Command.{Compares}

-- The words are none of a command, and the line that says so was written; or they ask for a command, and it did what it is for.
abbrev pub Obeys : Option Asked → Seen → ℕ → Type 0
Obeys None seen status = WritesEnding seen.written_before seen.written_after seen.sink_faults_before seen.sink_faults_after (Err BadWords) status
Obeys (Some (Run traced numbers schedule images)) seen status =
    Runs (record { traced = traced; numbers = numbers; schedule = schedule; words = images }) seen status
Obeys (Some (Load number)) seen status = Loads number seen status
Obeys (Some (Replay transcript images)) seen status =
    Replays transcript images seen.files seen.faults seen.written_before seen.written_after seen.sink_faults_before seen.sink_faults_after status
Obeys (Some (Assemble source)) seen status =
    Assembles source seen.files seen.faults seen.written_before seen.written_after seen.sink_faults_before seen.sink_faults_after status
Obeys (Some (Show image)) seen status =
    Lists image seen.files seen.faults seen.written_before seen.written_after seen.sink_faults_before seen.sink_faults_after status
Obeys (Some (Optimum size numbers schedule images)) seen status =
    Answers (questions.Optimum size) (record { numbers = numbers; schedule = schedule; words = images })
    seen.files seen.faults seen.written_before seen.written_after seen.sink_faults_before seen.sink_faults_after status
Obeys (Some (Curve numbers schedule images)) seen status =
    Answers questions.Curve (record { numbers = numbers; schedule = schedule; words = images })
    seen.files seen.faults seen.written_before seen.written_after seen.sink_faults_before seen.sink_faults_after status
Obeys (Some (Owners entries numbers schedule images)) seen status =
    Answers (questions.Owners entries) (record { numbers = numbers; schedule = schedule; words = images })
    seen.files seen.faults seen.written_before seen.written_after seen.sink_faults_before seen.sink_faults_after status
Obeys (Some (Film steps numbers schedule images)) seen status =
    Answers (questions.Film steps) (record { numbers = numbers; schedule = schedule; words = images })
    seen.files seen.faults seen.written_before seen.written_after seen.sink_faults_before seen.sink_faults_after status
Obeys (Some (Stats numbers schedule images)) seen status =
    Answers questions.Stats (record { numbers = numbers; schedule = schedule; words = images })
    seen.files seen.faults seen.written_before seen.written_after seen.sink_faults_before seen.sink_faults_after status
Obeys (Some (References numbers schedule images)) seen status =
    Answers questions.References (record { numbers = numbers; schedule = schedule; words = images })
    seen.files seen.faults seen.written_before seen.written_after seen.sink_faults_before seen.sink_faults_after status
Obeys (Some (Grade numbers schedule trace images)) seen status =
    Grades (record { numbers = numbers; schedule = schedule; words = images }) trace
    seen.files seen.faults seen.written_before seen.written_after seen.sink_faults_before seen.sink_faults_after status
Obeys (Some (Repage numbers trace images)) seen status =
    Repages numbers trace images seen.files seen.faults seen.written_before seen.written_after seen.sink_faults_before seen.sink_faults_after status
Obeys (Some (RepageOwners entries numbers trace images)) seen status =
    TellsWhose entries numbers trace images seen.files seen.faults seen.written_before seen.written_after seen.sink_faults_before seen.sink_faults_after status
Obeys (Some (Policies comparison references)) seen status =
    Compares comparison references seen.files seen.faults seen.written_before seen.written_after seen.sink_faults_before seen.sink_faults_after status

-- words that ask for no command, or for one that reads no file, leave the files
abbrev pub LeavesFiles : Option Asked → Type 0 → Type 0
LeavesFiles None same = same
LeavesFiles (Some (Load number)) same = same
LeavesFiles asked same = Unit {0}

-- a run that ended before its first entry leaves the swap devices, and so does a command that touches none
abbrev pub LeavesDevice : Option Asked → ℕ → Type 0 → Type 0
LeavesDevice (Some (Run traced numbers schedule images)) status same = Early status same
LeavesDevice (Some (Load number)) status same = Early status same
LeavesDevice asked status same = same
