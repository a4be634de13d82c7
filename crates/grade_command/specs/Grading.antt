-- How a trace compares with the journal that the written policy makes.
use Rattle.std.specs.Prelude.{◌≡◌, ◌≢◌, ◌↔◌, ℕ, ◌+◌, ◌-◌, List, ◌∷◌, ◌++◌, length, slice_get, Some}
use Rattle.vm_facts.specs.declared.entry.Entry.{Entry}
use Rattle.flat_state.specs.Flat.{Inputs}
use Rattle.run_model.specs.State.{State}
use Rattle.run_model.specs.Lawful.{IsFinished}
use Rattle.owner_lines.specs.First.{ComeFirst}
use Rattle.grade_command.specs.declared.grading.Grade.{Grade}
use Rattle.grade_command.specs.declared.grading.Grade.TheVariants.{Written, Front, Differs}

-- These entries come first in a journal, which goes on.
pub record IsFrontOf (journal entries : List Entry) : Type 0 where
  pub next : Entry
  pub more : List Entry
  pub goes_on : journal ≡ entries ++ next ∷ more

-- Entries part from a journal at this line, counted from 1: the lines before it come first in the journal, and it isn't what the journal
-- has there, another entry or none.
pub record PartsAt (journal entries : List Entry) (line : ℕ) : Type 0 where
  pub good : List Entry
  pub bad : Entry
  pub more : List Entry
  pub entries_are : entries ≡ good ++ bad ∷ more
  pub first : ComeFirst good journal
  pub line_is : line ≡ length good + 1
  pub other : slice_get journal (length good) ≢ Some bad

-- the entries and the journal stand to each other as the grade says
abbrev pub IsGradeOf : List Entry → List Entry → Grade → Type 0
IsGradeOf journal entries Written = entries ≡ journal
IsGradeOf journal entries Front = IsFrontOf journal entries
IsGradeOf journal entries (Differs line) = PartsAt journal entries line

-- A grade says how entries compare with the journal that the policy writes of these inputs, lawful and finished: it is Written exactly where
-- they are that journal, Front exactly where they are a strict front of it, and Differs at just the line at which they part from it. The
-- entry that the journal has at that line, or none, is the one of that number among those that were made.
pub record IsGraded (A : Inputs) (entries made : List Entry) (grade : Grade) : Type 0 where
  pub journal : List Entry
  pub state : State
  pub finished : IsFinished A journal state
  pub written : (grade ≡ Written) ↔ (entries ≡ journal)
  pub front : (grade ≡ Front) ↔ IsFrontOf journal entries
  pub differs : (line : ℕ) → (grade ≡ Differs line) ↔ PartsAt journal entries line
  pub there : (line : ℕ) → grade ≡ Differs line → slice_get made (line - 1) ≡ slice_get journal (line - 1)
