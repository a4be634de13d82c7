use Rattle.std.proofs.Common.{◌≡◌, ◌≤◌, ◌-◌}
use Rattle.flat_state.specs.PageNames.{pages_from}
use Rattle.kernel_tables.specs.Changing.{Dropped}
use Rattle.table_steps.proofs.dropping.drop_pages.Given as goal

abbrev pub invariant-loop-filled : goal.invariant-loop-filled
invariant-loop-filled l = record {
  dropped : Dropped l.initial.tables l.tables (pages_from l.page l.from (l.v - l.from));
  low : l.from ≤ l.v;
  within : l.from ≤ l.to → l.v ≤ l.to;
  none : l.to ≤ l.from → l.v ≡ l.from;
}

abbrev pub decreases-loop-filled : goal.decreases-loop-filled
decreases-loop-filled l = l.to - l.v
