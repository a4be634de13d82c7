-- What a grade says of the trace that was read.
use Rattle.std.proofs.Common.{◌≡◌, inl, inr, ℕ, List, Option, Some, None, Ok, Err, refl, sym, ap, ◌∙◌, subst}
use Rattle.vm_facts.specs.declared.entry.Entry.{Entry}
use Rattle.command_edge.specs.declared.fault.Fault.{Fault}
use Rattle.command_edge.specs.declared.fault.Fault.TheVariants as faults
use Rattle.command_edge.specs.Ending.{Ending}
use Rattle.command_edge.specs.Command.{Faults, NoFaults, EndCounted}
use Rattle.question_command.specs.Asking.{Subject}
use Rattle.grade_command.specs.declared.grading.Grade.{Grade}
use Rattle.grade_command.specs.declared.grading.Grade.TheVariants.{Written, Front, Differs}
use Rattle.grade_command.specs.Grading.{IsGraded}
use Rattle.grade_command.specs.declared.judging.Graded.{Graded}
use Rattle.grade_command.specs.Telling.{written_line, policy_line, parted_text, parted_text_if, TellsGrade, IsGradeEnding}
use Rattle.grade_command.specs.Reading.{TraceRead}
use Rattle.grade_command.specs.Command.{IsSoOfTrace, SaysWritten, IsWrittenSoFar, PartsAtLine, LacksGrade, HasGrade, EndsGrade}
use Rattle.grade_command.specs.Explaining.{TellsPolicy}

module _ (subject : Subject) (read : TraceRead) (graded : Graded) (has : HasGrade subject read graded) where
  abbrev tells : TellsGrade has.inputs has.entries graded
  tells = has.tells

  abbrev is : IsGraded has.inputs has.entries tells.made graded.grade
  is = tells.is

  compared : (So : List Entry → List Entry → Type 0) → So is.journal has.entries → IsSoOfTrace So subject read
  compared So so = record {
    inputs = has.inputs;
    are = has.are;
    entries = has.entries;
    has = has.has;
    journal = is.journal;
    state = is.state;
    finished = is.finished;
    so = so;
  }

  pub graded_ends : (trace : List ℕ) (f : Faults) (ending : Ending) → NoFaults f → IsGradeEnding graded ending → EndsGrade subject trace read f ending
  graded_ends trace f (Ok output) none v = (none, compared (SaysWritten output) (is.written.0 v.0, v.1 ∙ ap written_line tells.count))
  graded_ends trace f (Err faults.NoMemory) none v = tt
  graded_ends trace f (Err (faults.NotAsWritten line)) none v = (none, compared (PartsAtLine line) ((is.differs line).0 v))
  graded_ends trace f (Err (faults.WrittenSoFar number)) none v = (none, compared (IsWrittenSoFar number) (is.front.0 v.0, v.1 ∙ tells.count))
  graded_ends trace f (Err _) none v = absurd v

  pub tells_policy : (text : Option (List ℕ)) → text ≡ parted_text_if graded.grade graded.why.items → IsSoOfTrace (TellsPolicy text) subject read
  tells_policy text told = go graded.grade refl told
    where
      go : (grade : Grade) → graded.grade ≡ grade → text ≡ parted_text_if grade graded.why.items → IsSoOfTrace (TellsPolicy text) subject read
      go Written e t = subst (λ (x : Option (List ℕ)). IsSoOfTrace (TellsPolicy x) subject read) (sym t) (compared (TellsPolicy None) (inl (is.written.0 e)))
      go Front e t = subst (λ (x : Option (List ℕ)). IsSoOfTrace (TellsPolicy x) subject read) (sym t) (compared (TellsPolicy None) (inr (is.front.0 e)))
      go (Differs line) e t =
          subst (λ (x : Option (List ℕ)). IsSoOfTrace (TellsPolicy x) subject read) (sym t)
          (compared (TellsPolicy (Some graded.why.items)) (
            line,
            (is.differs line).0 e,
            tells.why ∙ ap (λ (g : Grade). parted_text g tells.made) e ∙ ap (policy_line line) (is.there line e),
          ))

-- the verdict counts nothing
pub verdict_counted : (graded : Graded) (f : Faults) (ending : Ending) → NoFaults f → IsGradeEnding graded ending → EndCounted ending f
verdict_counted graded f (Ok output) none v = none
verdict_counted graded f (Err faults.NoMemory) none v = none
verdict_counted graded f (Err (faults.NotAsWritten line)) none v = none
verdict_counted graded f (Err (faults.WrittenSoFar number)) none v = none
verdict_counted graded f (Err _) none v = absurd v

-- a fault for which nothing is graded is the command's
pub fault_ends : (subject : Subject) (trace : List ℕ) (read : TraceRead) (f : Faults) (fault : Fault) → LacksGrade subject trace read f fault
    → EndsGrade subject trace read f (Err fault)
fault_ends subject trace read f (faults.NotAsWritten line) lacks = absurd lacks
fault_ends subject trace read f (faults.WrittenSoFar number) lacks = absurd lacks
fault_ends subject trace read f _ lacks = lacks
