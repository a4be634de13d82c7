-- Stretches of the closing phase: from a turn or a counted instruction up to the next of either.
use Rattle.std.specs.Prelude.{◌≡◌, ℕ, ◌+◌, ◌≤◌, Bool, true, false, cond, List, [], ◌∷◌, ◌++◌, length, Some}
use Rattle.flat_state.specs.Flat.{Process, Inputs, is_ready}
use Rattle.vm_facts.specs.declared.page.Page.{Page}
use Rattle.vm_facts.specs.declared.entry.Entry.{Entry}
use Rattle.vm_facts.specs.declared.entry.Entry.TheVariants as entries
use Rattle.page_model.specs.Swapper.{is_out}
use Rattle.run_model.specs.declared.mark.Mark.TheVariants as marks
use Rattle.run_model.specs.State.{State}
use Rattle.flat_model.specs.Touched.{touched}
use Rattle.run_model.specs.Wanted.{AllValid}
use Rattle.run_model.specs.After.{after}
use Rattle.run_model.specs.Next.{next_unit}
use Rattle.run_laws.specs.Running.{IsRun}

-- a unit that is a turn or a counted instruction
abbrev pub begins_stretch : Entry → Bool
begins_stretch (entries.Turn pid) = true
begins_stretch (entries.Ran pid n) = true
begins_stretch (entries.Call pid number carry r0 r1) = true
begins_stretch (entries.Ended pid status) = true
begins_stretch _ = false

-- none of these units is a turn or a counted instruction
abbrev pub NoneBegins : List Entry → Type 0
NoneBegins [] = Unit {0}
NoneBegins (u ∷ us) = (begins_stretch u ≡ false) × NoneBegins us

-- how many pages of children are copied
abbrev pub copies : Entry → ℕ
copies (entries.Copy q) = 1
copies _ = 0

-- how many pages of children these units copy
abbrev pub copies_of : List Entry → ℕ
copies_of [] = 0
copies_of (u ∷ us) = copies u + copies_of us

-- a turn of this process in the closing phase, all lines being taken
pub record IsClosing (A : Inputs) (s : State) (pid : ℕ) : Type 0 where
  pub since : ℕ
  pub mark : s.mark ≡ marks.Turn pid since
  pub lines : length A.lines ≤ s.lines

-- an instruction of a run touches few pages
abbrev pub FewTouched : Inputs → Type 0
FewTouched A = (s : State) (pid : ℕ) → IsRun A s → length (touched A s.point.flat pid) ≤ 32

-- After `Grew` the process's instruction touches what it touched before, and at least one page more; what was touched
-- and valid stays so.
pub record TouchesMore (A : Inputs) (s t : State) (pid : ℕ) : Type 0 where
  pub next : Page
  pub more : List Page
  pub touches : touched A t.point.flat pid ≡ touched A s.point.flat pid ++ next ∷ more
  pub valid : AllValid s.place (touched A s.point.flat pid) → AllValid t.place (touched A s.point.flat pid)
  pub flights : length t.place.transfers ≤ length s.place.transfers
  pub clear : t.place.due ≡ []
  pub resident : is_out s.place pid ≡ false → is_out t.place pid ≡ false

-- this is so of each `Grew` that comes next in a run
abbrev pub AllGrown : Inputs → Type 0
AllGrown A = (s : State) (pid pages : ℕ) → IsRun A s → next_unit A s ≡ Some (entries.Grew pid pages) → TouchesMore A s (after A s (entries.Grew pid pages)) pid

-- a list and at least one page more
pub record Extends (xs ys : List Page) : Type 0 where
  pub next : Page
  pub more : List Page
  pub is : ys ≡ xs ++ next ∷ more

-- once the stack has grown for an instruction, it touches what it touched and at least one page more
abbrev pub GrowthTouches : Inputs → Type 0
GrowthTouches A = (s : State) (pid pages : ℕ) → IsRun A s → next_unit A s ≡ Some (entries.Grew pid pages)
    → Extends (touched A s.point.flat pid) (touched A (after A s (entries.Grew pid pages)).point.flat pid)

-- Turns in a row.

-- 1 for a turn of the closing phase, 0 for any other unit
abbrev pub turns : Entry → ℕ
turns (entries.Turn pid) = 1
turns _ = 0

-- how many of these units are turns
abbrev pub turns_of : List Entry → ℕ
turns_of [] = 0
turns_of (u ∷ us) = turns u + turns_of us

-- a unit that counts an instruction
abbrev pub counts : Entry → Bool
counts (entries.Ran pid n) = true
counts (entries.Call pid number carry r0 r1) = true
counts (entries.Ended pid status) = true
counts _ = false

-- none of these units counts an instruction
abbrev pub NoneCounts : List Entry → Type 0
NoneCounts [] = Unit {0}
NoneCounts (u ∷ us) = (counts u ≡ false) × NoneCounts us

-- how many processes can step
abbrev pub ready_count : List Process → ℕ
ready_count [] = 0
ready_count (q ∷ qs) = cond (is_ready q) 1 0 + ready_count qs
