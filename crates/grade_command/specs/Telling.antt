-- What is told of a trace that was graded.
use Rattle.std.specs.Prelude.{◌≡◌, ℕ, ◌-◌, List, [], ◌++◌, length, slice_get, codes, decimal, Option, Some, None, Result, Ok, Err}
use Rattle.vm_facts.specs.declared.entry.Entry.{Entry}
use Rattle.flat_state.specs.Flat.{Inputs}
use Rattle.flat_model.specs.Asked.{start_held}
use Rattle.run_text.specs.Text.{line_of}
use Rattle.command_edge.specs.declared.fault.Fault.{Fault}
use Rattle.command_edge.specs.declared.fault.Fault.TheVariants.{NoMemory, NoSpace, NotAsWritten, WrittenSoFar}
use Rattle.command_edge.specs.Ending.{Ending}
use Rattle.grade_command.specs.declared.grading.Grade.{Grade}
use Rattle.grade_command.specs.declared.grading.Grade.TheVariants.{Written, Front, Differs}
use Rattle.grade_command.specs.Grading.{IsGraded}
use Rattle.grade_command.specs.declared.judging.Graded.{Graded}

-- the line of a trace that is the whole journal
abbrev pub written_line : ℕ → List ℕ
written_line entries = codes "as written: " ++ decimal entries ++ codes " entries\n"

-- what the policy writes at a line, or that it has ended there, to the end of the line
abbrev pub policy_text : Option Entry → List ℕ
policy_text None = codes "the policy has ended\n"
policy_text (Some e) = codes "the policy writes " ++ line_of e

-- the line that tells it
abbrev pub policy_line : ℕ → Option Entry → List ℕ
policy_line line there = codes "vmrun: line " ++ decimal line ++ codes ": " ++ policy_text there

-- what is told of a grade beside it, where a journal has these entries
abbrev pub parted_text : Grade → List Entry → List ℕ
parted_text (Differs line) journal = policy_line line (slice_get journal (line - 1))
parted_text grade journal = []

-- the same, where there is something
abbrev pub parted_text_if : Grade → List ℕ → Option (List ℕ)
parted_text_if (Differs line) why = Some why
parted_text_if grade why = None

-- These entries were graded by the run of these inputs, with what is told beside.
pub record TellsGrade (A : Inputs) (entries : List Entry) (graded : Graded) : Type 0 where
  pub made : List Entry
  pub is : IsGraded A entries made graded.grade
  pub count : graded.entries ≡ length entries
  pub why : graded.why.items ≡ parted_text graded.grade made

-- how grading them ends
abbrev pub EndsGrading : Inputs → List Entry → Result Graded Fault → Type 0
EndsGrading A entries (Ok graded) = TellsGrade A entries graded
EndsGrading A entries (Err NoMemory) = Unit {0}
EndsGrading A entries (Err (NoSpace pid)) = start_held A ≡ Err pid
EndsGrading A entries (Err _) = ⊥

-- how the command ends by a grade
abbrev pub IsGradeEnding : Graded → Ending → Type 0
IsGradeEnding graded (Ok output) = (graded.grade ≡ Written) × (output ≡ written_line graded.entries)
IsGradeEnding graded (Err NoMemory) = Unit {0}
IsGradeEnding graded (Err (NotAsWritten line)) = graded.grade ≡ Differs line
IsGradeEnding graded (Err (WrittenSoFar entries)) = (graded.grade ≡ Front) × (entries ≡ graded.entries)
IsGradeEnding graded (Err _) = ⊥
