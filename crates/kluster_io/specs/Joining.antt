-- Which neighbours of a page go along, by what they are sought for.
use Rattle.std.specs.Prelude.{◌≡◌, ℕ, Bool, ◌&&◌, List, Option}
use Rattle.vm_facts.specs.declared.page.Page.{Page}
use Rattle.flat_state.specs.PageNames.{beside}
use Rattle.page_model.specs.Placement.{Placement, state_of, is_dirty}
use Rattle.page_model.specs.Hands.{expire}
use Rattle.page_model.specs.Runs.{is_near, comes_from_swap, comes_from_file, goes_along, is_seated}
use Rattle.core_map.specs.declared.slot.Slot.{Slot}
use Rattle.vax_pte.specs.declared.Place.{Place}
use Rattle.table_view.specs.Shown.{state_shown, ShowsMark}
use Rattle.table_view.specs.Views.{IsNamedBy, ShowsSpace}
use Rattle.kluster_io.specs.Front.{Expires}
use Rattle.kluster_io.specs.declared.search.Kin.{Kin}
use Rattle.kluster_io.specs.declared.search.Kin.TheVariants.{OnSwap, Unfilled, Idle, Seated}
use Rattle.kluster_io.specs.declared.search.Search.{Search}

-- whether page w of the segment goes along with the page
abbrev pub joins : Placement → Kin → Page → ℕ → Bool
joins p OnSwap q w = comes_from_swap p q w
joins p Unfilled q w = comes_from_file p q w
joins p (Idle locked front) q w = goes_along (expire p locked.now) locked.now (beside q w) && is_near q w
joins p Seated q w = is_seated p (beside q w) && (is_dirty p (beside q w) && is_near q w)

-- The answer says whether the back hand takes a page in this place along: in each placement that has this free list, where
-- the slots show the state and the mark of the page, and where this is the page that the front hand makes invalid.
abbrev pub SaysTaken : List ℕ → List Slot → Page → Place → List Page → Option Page → Bool → Type 0
SaysTaken free slots page place locked front answer = (p : Placement)
    → p.free ≡ free → state_of p page ≡ state_shown slots place → ShowsMark slots place (is_dirty p page)
    → Expires p locked front → answer ≡ goes_along (expire p locked) locked page

-- the front page of a search is the one that the front hand makes invalid
abbrev pub HasFront : Placement → Kin → Type 0
HasFront p OnSwap = Unit {0}
HasFront p Unfilled = Unit {0}
HasFront p (Idle locked front) = Expires p locked.now front
HasFront p Seated = Unit {0}

-- the tables of a search show the placement, and its page is of their space
pub record IsShownBy (p : Placement) (search : Search) : Type 0 where
  pub page : IsNamedBy search.space.now search.page
  pub space : ShowsSpace p search.core.now search.space.now
  pub front : HasFront p search.kin
