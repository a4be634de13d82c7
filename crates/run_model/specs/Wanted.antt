-- The pages that a run waits for, and those that must stay while it does.
use Rattle.std.specs.Prelude.{◌≡◌, ℕ, Bool, true, false, List, [], ◌∷◌, ◌++◌, Option, Some, None}
use Rattle.flat_state.specs.Flat.{Inputs}
use Rattle.vm_facts.specs.declared.page.Page.{Page}
use Rattle.kernel_model.specs.Pages.{is_valid}
use Rattle.kernel_model.specs.Placement.{Placement, Due, Start, CopyOf, state_of}
use Rattle.kernel_model.specs.Conditions.{EachPage}
use Rattle.run_model.specs.declared.mark.Mark.{Mark}
use Rattle.run_model.specs.declared.mark.Mark.TheVariants as marks
use Rattle.run_model.specs.Snapshot.{touched_of, passed_over}
use Rattle.run_model.specs.State.{State}

-- the process that runs under a mark, a dispatch or a turn
abbrev pub running : Mark → Option ℕ
running (marks.Dispatch pid count since) = Some pid
running (marks.Turn pid since) = Some pid
running _ = None

-- the pages that the next instruction of the running process touches, in order
abbrev pub touched_next : Inputs → State → List Page
touched_next A s = touched_of A s.point.flat (running s.mark)

-- each of these pages is valid
abbrev pub AllValid : Placement → List Page → Type 0
AllValid p qs = EachPage (λ q. is_valid (state_of p q) ≡ true) qs

-- this page where it isn't valid, else the other
abbrev pub absent_by : Bool → Page → Option Page → Option Page
absent_by true q other = other
absent_by false q other = Some q

-- the first of these pages that isn't valid
abbrev pub first_absent : Placement → List Page → Option Page
first_absent p [] = None
first_absent p (q ∷ qs) = absent_by (is_valid (state_of p q)) q (first_absent p qs)

-- the page that is served next, by the fills that are due
abbrev pub wanted_by : Inputs → State → List Due → Option Page
wanted_by A s [] = first_absent s.place (touched_next A s)
wanted_by A s (Start q ∷ due) = first_absent s.place (touched_next A s)
wanted_by A s (CopyOf child parent ∷ due) = first_absent s.place (parent ∷ [])

-- the page that is served next: the first touched one that isn't valid; while a child's page is due, the parent's
-- page where it isn't valid
abbrev pub wanted : Inputs → State → Option Page
wanted A s = wanted_by A s s.place.due

-- the pages that the hands pass over, by the fills that are due
abbrev pub locked_by : Inputs → State → List Due → List Page
locked_by A s due = passed_over s.place (touched_next A s) due

-- the pages that the hands pass over: the touched ones before the first that isn't valid; while a child's page is
-- due, the parent's page, and while a stack page is due, none
abbrev pub locked : Inputs → State → List Page
locked A s = locked_by A s s.place.due

-- Among these pages those before the first that isn't valid, that one, and those after it.
pub record Splits (p : Placement) (pages before : List Page) (q : Page) : Type 0 where
  pub behind : List Page
  pub whole : pages ≡ before ++ q ∷ behind
  pub valid : AllValid p before
  pub absent : is_valid (state_of p q) ≡ false
