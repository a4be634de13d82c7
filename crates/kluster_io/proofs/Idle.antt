-- A neighbour that the back hand takes along.
use Rattle.std.proofs.Common.{◌≡◌, ℕ, ◌==◌, ◌&&◌, Bool, List, Option, Some, Bor, sym, ap, ◌∙◌, subst}
use Rattle.vm_facts.specs.declared.page.Page.{Page}
use Rattle.vax_pte.specs.declared.Place.{Place}
use Rattle.core_map.specs.Frames.{Frames}
use Rattle.space_map.specs.Space.{Places, place_in}
use Rattle.flat_state.specs.PageNames.{beside}
use Rattle.page_model.specs.Placement.{Placement, state_of, is_dirty}
use Rattle.page_model.specs.Hands.{expire}
use Rattle.page_model.specs.Runs.{chunk_of, goes_along}
use Rattle.table_view.specs.Shown.{state_shown, ShowsMark}
use Rattle.table_view.specs.Views.{IsNamedBy, ShowsPage, ShowsSpace}
use Rattle.kluster_io.specs.declared.search.Kin.{Kin}
use Rattle.kluster_io.specs.declared.search.Kin.TheVariants as kins
use Rattle.kluster_io.specs.Front.{Expires}
use Rattle.kluster_io.specs.Joining.{joins, HasFront}
use Rattle.kluster_io.proofs.Absent.{named_beside}

-- what a test of the page by its place says
abbrev pub TestsIdle : Frames → Place → Page → List Page → Option Page → Bool → Type 0
TestsIdle core place r locked front b =
    (p : Placement) → p.free ≡ core.free → state_of p r ≡ state_shown core.slots place → ShowsMark core.slots place (is_dirty p r) → Expires p locked front → b ≡ goes_along (expire p locked) locked r

pub idle_joins : (p : Placement) (core : Frames) (s : Places) (kin : Kin) (q r : Page) (w : ℕ) (place : Place) (locked : Bor (List Page))
    (front : Option Page) (b : Bool) (m n : ℕ)
    → ShowsSpace p core s → IsNamedBy s q → HasFront p kin → place_in s (beside q w) ≡ Some place → r ≡ beside q w → kin ≡ kins.Idle locked front
    → TestsIdle core place r locked.now front b → m ≡ chunk_of q → n ≡ chunk_of r → (b && (m == n)) ≡ joins p kin q w
idle_joins p core s kin q r w place locked front b m n h named x e g k tests i j =
    ap (λ (y : Bool). y && (m == n)) (at r g tests)
    ∙ ap (λ (y : ℕ). goes_along (expire p locked.now) locked.now (beside q w) && (y == n)) i
    ∙ ap (λ (y : ℕ). goes_along (expire p locked.now) locked.now (beside q w) && (chunk_of q == y)) (j ∙ ap chunk_of g)
    ∙ ap (λ (y : Kin). joins p y q w) (sym k)
  where
    shown : ShowsPage p core.slots (beside q w) (Some place)
    shown = subst (ShowsPage p core.slots (beside q w)) e (h.pages (beside q w) (named_beside s q w named))

    at : (y : Page) → y ≡ beside q w → TestsIdle core place y locked.now front b → b ≡ goes_along (expire p locked.now) locked.now (beside q w)
    at y f t = subst (λ (z : Page). TestsIdle core place z locked.now front b) f t p h.free shown.1 shown.2 (subst (HasFront p) k x)
