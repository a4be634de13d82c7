-- What is told beside the line of a fault, by the words and the status.
use Rattle.std.specs.Prelude.{◌≡◌, ◌==◌, ℕ, Bool, true, false, List, Option, Some, None}
use Rattle.std.specs.Borrow.{Bor}
use Rattle.io_edge.specs.FileHolding.{NamedFile}
use Rattle.command_edge.specs.declared.answers.Unread.{Unread}
use Rattle.command_edge.specs.declared.fault.Fault.{Fault}
use Rattle.command_edge.specs.declared.fault.Fault.TheVariants.{NoMemory}
use Rattle.command_edge.specs.Ending.{fault_of}
use Rattle.command_edge.specs.Command.{Faults}
use Rattle.command_words.specs.Asked.{Asked, Run, Assemble, Replay, Optimum, Curve, Owners, Film, Stats, References, Grade, Repage, RepageOwners, Policies, asked_of}
use Rattle.command_words.specs.Explaining.{words_explained}
use Rattle.source_commands.specs.Explaining.{ExplainsSource, LacksSource}
use Rattle.replay_command.specs.Explaining.{ExplainsTranscript, LacksTranscript}
use Rattle.line_reasons.specs.ScheduleExplaining.{ExplainsSchedule, LacksSchedule}
use Rattle.question_command.specs.Asking.{Subject}
use Rattle.question_command.specs.Explaining.{ExplainsLimit, LacksLimit}
use Rattle.grade_command.specs.Explaining.{ExplainsGrade, LacksPolicy}
use Rattle.repage_command.specs.Explaining.{ExplainsRepage, LacksWhy}
use Rattle.line_reasons.specs.ReferenceExplaining.{ExplainsReferences, LacksReferences}

-- where the status is the one that goes with a reason, the reason is told, and else nothing
abbrev pub ToldWhere : Bool → Type 0 → Option (List ℕ) → Type 0
ToldWhere true told text = told
ToldWhere false told text = text ≡ None

-- why the schedule of this name is bad
abbrev pub ExplainsRun : List ℕ → ℕ → Option (List NamedFile) → Option (List ℕ) → Type 0
ExplainsRun schedule status holds text = ToldWhere (status == 4) (ExplainsSchedule schedule holds text) text

-- where it is so this holds, and else that
abbrev pub WhereSo : Bool → Type 0 → Type 0 → Type 0
WhereSo true here other = here
WhereSo false here other = other

-- what the policy writes where a trace isn't as written; and why the schedule is bad, where it is
abbrev pub ExplainsTrace : Subject → List ℕ → ℕ → Option (List NamedFile) → Option (List ℕ) → Type 0
ExplainsTrace subject trace status holds text =
    WhereSo (status == 19) (ExplainsGrade subject trace holds text) (ExplainsRun subject.schedule status holds text)

-- whether its limit cut a run about which there is an answer; and why its schedule is bad, where it is
abbrev pub ExplainsAnswer : Subject → ℕ → Option (List NamedFile) → Option (List ℕ) → Type 0
ExplainsAnswer subject status holds text = WhereSo (status == 0) (ExplainsLimit subject holds text) (ExplainsRun subject.schedule status holds text)

-- of words that ask for a command: why a schedule, a source or a file of references is bad, what the flat machine gives where a
-- transcript is no run of it, what the policy writes where a trace isn't as written, why a line of a trace can't come where it is no run of
-- the paged machine, or that its limit cut the run
abbrev pub ExplainsAsked : Asked → ℕ → Option (List NamedFile) → Option (List ℕ) → Type 0
ExplainsAsked (Run traced numbers schedule images) status holds text = ExplainsRun schedule status holds text
ExplainsAsked (Optimum size numbers schedule images) status holds text =
    ExplainsAnswer (record { numbers = numbers; schedule = schedule; words = images }) status holds text
ExplainsAsked (Curve numbers schedule images) status holds text =
    ExplainsAnswer (record { numbers = numbers; schedule = schedule; words = images }) status holds text
ExplainsAsked (Owners entries numbers schedule images) status holds text = ExplainsRun schedule status holds text
ExplainsAsked (Film steps numbers schedule images) status holds text = ExplainsRun schedule status holds text
ExplainsAsked (Stats numbers schedule images) status holds text = ExplainsRun schedule status holds text
ExplainsAsked (References numbers schedule images) status holds text = ExplainsRun schedule status holds text
ExplainsAsked (Grade numbers schedule trace images) status holds text =
    ExplainsTrace (record { numbers = numbers; schedule = schedule; words = images }) trace status holds text
ExplainsAsked (Assemble source) status holds text = ToldWhere (status == 17) (ExplainsSource source holds text) text
ExplainsAsked (Replay transcript images) status holds text = ToldWhere (status == 14) (ExplainsTranscript transcript images holds text) text
ExplainsAsked (Repage numbers trace images) status holds text = ToldWhere (status == 14) (ExplainsRepage numbers trace images holds text) text
ExplainsAsked (RepageOwners entries numbers trace images) status holds text = ToldWhere (status == 14) (ExplainsRepage numbers trace images holds text) text
ExplainsAsked (Policies comparison references) status holds text = ToldWhere (status == 18) (ExplainsReferences references holds text) text
ExplainsAsked asked status holds text = text ≡ None

-- of words that ask for none: the first that isn't what it is for
abbrev pub ExplainsAny : Option Asked → List (List ℕ) → ℕ → Option (List NamedFile) → Option (List ℕ) → Type 0
ExplainsAny None words status holds text = ToldWhere (status == 1) (text ≡ words_explained words) text
ExplainsAny (Some asked) words status holds text = ExplainsAsked asked status holds text

-- a reason is told where the status is the one that goes with it; and else nothing
abbrev pub Explains : List (List ℕ) → ℕ → Option (List NamedFile) → Option (List ℕ) → Type 0
Explains words status holds text = ExplainsAny (asked_of words) words status holds text

-- the file of this name wasn't read, for a reason of which this holds
abbrev pub LacksFile : (Unread → Type 0) → List ℕ → Fault → Type 0
LacksFile Lacks name fault = (unread : Unread) × (file : Bor (List ℕ)) × (file.now ≡ name) × Lacks unread × (fault ≡ fault_of file unread)

-- an error comes only where the status is one that has a reason
abbrev pub LacksWhere : Bool → Type 0 → Type 0
LacksWhere true lacks = lacks
LacksWhere false lacks = ⊥

-- the schedule of this name wasn't read
abbrev pub LacksRun : List ℕ → ℕ → Option (List NamedFile) → Fault → Type 0
LacksRun schedule status holds fault = LacksWhere (status == 4) (LacksFile (LacksSchedule schedule holds) schedule fault)

-- nor could it be found whether its limit cut the run
abbrev pub LacksAnswer : Subject → ℕ → Option (List NamedFile) → Faults → Fault → Type 0
LacksAnswer subject status holds f fault = WhereSo (status == 0) (LacksLimit subject holds f fault) (LacksRun subject.schedule status holds fault)

-- nor could the trace be graded again
abbrev pub LacksTrace : Subject → List ℕ → ℕ → Option (List NamedFile) → Faults → Fault → Type 0
LacksTrace subject trace status holds f fault =
    WhereSo (status == 19) (LacksPolicy subject trace holds f fault) (LacksRun subject.schedule status holds fault)

-- of words that ask for a command: the file of which a reason was to be told wasn't read, or memory was refused
abbrev pub LacksAsked : Asked → ℕ → Option (List NamedFile) → Faults → Fault → Type 0
LacksAsked (Run traced numbers schedule images) status holds f fault = LacksRun schedule status holds fault
LacksAsked (Optimum size numbers schedule images) status holds f fault =
    LacksAnswer (record { numbers = numbers; schedule = schedule; words = images }) status holds f fault
LacksAsked (Curve numbers schedule images) status holds f fault =
    LacksAnswer (record { numbers = numbers; schedule = schedule; words = images }) status holds f fault
LacksAsked (Owners entries numbers schedule images) status holds f fault = LacksRun schedule status holds fault
LacksAsked (Film steps numbers schedule images) status holds f fault = LacksRun schedule status holds fault
LacksAsked (Stats numbers schedule images) status holds f fault = LacksRun schedule status holds fault
LacksAsked (References numbers schedule images) status holds f fault = LacksRun schedule status holds fault
LacksAsked (Grade numbers schedule trace images) status holds f fault =
    LacksTrace (record { numbers = numbers; schedule = schedule; words = images }) trace status holds f fault
LacksAsked (Assemble source) status holds f fault = LacksWhere (status == 17) (LacksFile (LacksSource source holds) source fault)
LacksAsked (Replay transcript images) status holds f fault = LacksWhere (status == 14) (LacksTranscript transcript images holds f fault)
LacksAsked (Repage numbers trace images) status holds f fault = LacksWhere (status == 14) (LacksWhy numbers trace images holds f fault)
LacksAsked (RepageOwners entries numbers trace images) status holds f fault = LacksWhere (status == 14) (LacksWhy numbers trace images holds f fault)
LacksAsked (Policies comparison references) status holds f fault = LacksWhere (status == 18) (LacksFile (LacksReferences references holds) references fault)
LacksAsked asked status holds f fault = ⊥

-- of words that ask for none: memory was refused
abbrev pub LacksAny : Option Asked → ℕ → Option (List NamedFile) → Faults → Fault → Type 0
LacksAny None status holds f fault = LacksWhere (status == 1) (fault ≡ NoMemory)
LacksAny (Some asked) status holds f fault = LacksAsked asked status holds f fault

-- why nothing is told where a reason was looked for
abbrev pub LacksReason : List (List ℕ) → ℕ → Option (List NamedFile) → Faults → Fault → Type 0
LacksReason words status holds f fault = LacksAny (asked_of words) status holds f fault
