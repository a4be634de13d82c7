-- What is so of the pages that are due: each still has to be filled, and what it is copied from is there.
use Rattle.std.specs.Prelude.{◌≡◌, ◌≢◌, List, Some, None}
use Rattle.vm_facts.specs.declared.page.Page.{Page}
use Rattle.vm_facts.specs.declared.page.PageState.TheVariants.{Unfilled}
use Rattle.vm_facts.specs.declared.entry.Entry.{Entry}
use Rattle.vm_facts.specs.declared.entry.Entry.TheVariants as entries
use Rattle.page_model.specs.Pages.{Zeros}
use Rattle.flat_state.specs.PageNames.{pages_from}
use Rattle.page_model.specs.Placement.{Placement, Due, Start, CopyOf, due_of_page, state_of, filling_of, IsThere}
use Rattle.page_model.specs.Place.{due_after}
use Rattle.page_model.specs.Conditions.{EachPage}
use Rattle.page_model.specs.PageBytes.{IsWritable}

-- the parent's page has bytes
abbrev pub HasSource : Placement → Due → Type 0
HasSource p (Start q) = Unit {0}
HasSource p (CopyOf q parent) = IsWritable parent × (state_of p parent ≢ Unfilled)

-- a page of data or stack that has zeros as yet
pub record IsDue (p : Placement) (q : Page) (d : Due) : Type 0 where
  pub writable : IsWritable q
  pub there : IsThere p q
  pub unfilled : state_of p q ≡ Unfilled
  pub zeros : filling_of p q ≡ Zeros
  pub source : HasSource p d

-- each page that is due still has to be filled, and what it is copied from is there
abbrev pub DueStand : Placement → Type 0
DueStand p = (q : Page) (d : Due) → due_of_page p.due q ≡ Some d → IsDue p q d

-- the page isn't due
abbrev pub NotDue : List Due → Page → Type 0
NotDue ds q = due_of_page ds q ≡ None

-- a page that an entry fills isn't due after it, and one that it reads wasn't
abbrev pub LeavesDue : Placement → Entry → Type 0
LeavesDue p (entries.Zero q) = NotDue (due_after p.due q) q
LeavesDue p (entries.Copy q) = NotDue (due_after p.due q) q
LeavesDue p (entries.Get q lo n) = EachPage (NotDue p.due) (pages_from q lo n)
LeavesDue p _ = Unit {0}
