-- What is told of a trace that the policy doesn't write.
use Rattle.std.specs.Prelude.{◌≡◌, ◌⊎◌, ℕ, ◌-◌, List, slice_get, Option, Some, None, Err}
use Rattle.vm_facts.specs.declared.entry.Entry.{Entry}
use Rattle.io_edge.specs.FileHolding.{NamedFile}
use Rattle.command_edge.specs.declared.fault.Fault.{Fault}
use Rattle.command_edge.specs.Command.{Faults, Made}
use Rattle.question_command.specs.Asking.{Subject}
use Rattle.grade_command.specs.Grading.{IsFrontOf, PartsAt}
use Rattle.grade_command.specs.Telling.{policy_line}
use Rattle.grade_command.specs.Reading.{TraceRead, trace_told}
use Rattle.grade_command.specs.Command.{IsSoOfTrace, EndsReading}

-- nothing is told of the journal itself or a front of it, and else of the line at which the entries part from it what it has there, or that
-- it has ended
abbrev pub TellsPolicy : Option (List ℕ) → List Entry → List Entry → Type 0
TellsPolicy None journal entries = (entries ≡ journal) ⊎ IsFrontOf journal entries
TellsPolicy (Some text) journal entries = (line : ℕ) × PartsAt journal entries line × (text ≡ policy_line line (slice_get journal (line - 1)))

-- What is told of the trace of this name and of the run that words name, by what is read.
pub record ExplainsGrade (subject : Subject) (trace : List ℕ) (holds : Option (List NamedFile)) (text : Option (List ℕ)) : Type 0 where
  pub read : TraceRead
  pub is_told : (files : List NamedFile) → holds ≡ Some files → read ≡ trace_told subject trace files
  pub compared : IsSoOfTrace (TellsPolicy text) subject read

-- nothing is told: grading ended with this fault
abbrev pub LacksPolicy : Subject → List ℕ → Option (List NamedFile) → Faults → Fault → Type 0
LacksPolicy subject trace holds f fault = Made (EndsReading subject trace) (trace_told subject trace) holds f (Err fault)
