use Rattle.std.proofs.Common.{◌≡◌, ℕ, ◌-◌, ◌%◌, ◌<◌, ◌≤◌, true}
use Rattle.resource_map.specs.Extents.{InOrder, covers}
use Rattle.resource_map.proofs.whole_units.Given as goal

abbrev pub invariant-loop-start : goal.invariant-loop-start
invariant-loop-start l = record {
  order : InOrder 0 l.extents.items l.start;
  all : (b : ℕ) → b < l.start → covers l.extents.items b ≡ true;
  within : l.start ≤ l.size;
  whole : l.start < l.size → l.start % 1024 ≡ 0;
}

abbrev pub decreases-loop-start : goal.decreases-loop-start
decreases-loop-start l = l.size - l.start
