-- What reading one line more of a file of references comes to.
use Rattle.std.specs.Prelude.{◌≡◌, ◌≤◌, ℕ, Bool, true, false, List, ◌++◌, length, Option, Some, None, IsSome, option_to_list}
use Rattle.vm_facts.specs.declared.page.Page.{Page}
use Rattle.reference_answers.specs.Grammar.{IsRemark, IsLineText, IsReferenceLine, most_references}

-- the text reads so; that of a reference is none of a remark
abbrev pub ReadsAs : Option Page → List ℕ → Type 0
ReadsAs (Some page) text = IsLineText (Some page) text × (IsRemark text → ⊥)
ReadsAs None text = IsLineText None text

-- a line was read, and its reference, if it has one, came after those before
pub record AddsLine (old new : List Page) (line : List ℕ) : Type 0 where
  pub read : Option Page
  pub is : IsReferenceLine read line
  pub added : new ≡ old ++ option_to_list read
  pub few : length new ≤ most_references

-- the line can't be read, or has one reference more than there may be
abbrev pub RefusesLine : List Page → List ℕ → Type 0
RefusesLine old line = (read : Option Page) → IsReferenceLine read line → IsSome read × (length old ≡ most_references)

-- by the code's answer: the line was read, or it can't be
abbrev pub AddsOrRefuses : List Page → List Page → List ℕ → Bool → Type 0
AddsOrRefuses old new line true = AddsLine old new line
AddsOrRefuses old new line false = RefusesLine old line
