-- What the code sees of the frames at which the hands stand, against what the placement has there.
use Rattle.std.specs.Prelude.{◌≡◌, ℕ, true, false, List, Option, Some, None}
use Rattle.vm_facts.specs.declared.page.Page.{Page}
use Rattle.flat_state.specs.PageNames.{is_among}
use Rattle.space_map.specs.Space.{Places}
use Rattle.core_map.specs.Frames.{Frames}
use Rattle.page_model.specs.Placement.{Placement}
use Rattle.page_model.specs.Runs.{run_out}
use Rattle.page_model.specs.Hands.{expire, hand_run}
use Rattle.page_model.specs.Conditions.{IsSeated}
use Rattle.kluster_io.specs.Views.{IsNamedBy, ShowsSpace}
use Rattle.paging_units.specs.Showing.{ShowsCore}

-- the page that holds this frame off the free list and isn't locked; none, where no page does
abbrev pub IsUnlocked : Placement → List Page → ℕ → Option Page → Type 0
IsUnlocked p locked f None = (q : Page) → IsSeated p q f → is_among q locked ≡ true
IsUnlocked p locked f (Some q) = IsSeated p q f × (is_among q locked ≡ false)

-- the page with which the next move of the hands begins a write; none, where it begins no write
abbrev pub IsToWrite : Placement → List Page → Option Page → Type 0
IsToWrite p locked None = hand_run p locked ≡ None
IsToWrite p locked (Some q) = (hand_run p locked ≡ Some (q, run_out (expire p locked) locked q)) × IsSeated p q p.back

-- The page is of the space, which shows the placement by any core map that does.
pub record IsHome (p : Placement) (q : Page) (s : Places) : Type 0 where
  pub named : IsNamedBy s q
  pub shows : (core : Frames) → ShowsCore p core → ShowsSpace p core s
