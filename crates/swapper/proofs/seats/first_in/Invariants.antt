use Rattle.std.proofs.Common.{◌≡◌, ℕ, ◌-◌, ◌≤◌}
use Rattle.flat_state.specs.PageNames.{beside, pages_from}
use Rattle.page_model.specs.Placement.{Placement}
use Rattle.page_model.specs.Swapper.{first_seated}
use Rattle.table_view.specs.Views.{IsNamedBy, ShowsSpace}
use Rattle.swapper.proofs.seats.first_in.Given as goal

abbrev pub invariant-loop-framed : goal.invariant-loop-framed
invariant-loop-framed l = record {
  within : l.v ≤ l.pages;
  so_far : (p : Placement) → ShowsSpace p l.core l.space → ((v : ℕ) → IsNamedBy l.space (beside l.segment v))
      → first_seated p (pages_from l.segment l.v (l.pages - l.v)) ≡ first_seated p (pages_from l.segment 0 l.pages);
}

abbrev pub decreases-loop-framed : goal.decreases-loop-framed
decreases-loop-framed l = l.pages - l.v
