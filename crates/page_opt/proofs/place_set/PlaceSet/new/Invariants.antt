use Rattle.std.proofs.Common.{◌+◌, ◌-◌, ◌<◌, ◌≤◌}
use Rattle.page_opt.specs.PlaceSet.{AreLevels}
use Rattle.page_opt.proofs.place_set.PlaceSet.new.Given as goal

abbrev pub invariant-loop-first : goal.invariant-loop-first
invariant-loop-first l = record {
  levels : AreLevels l.first l.height;
  some : 0 < l.height;
  few : l.height ≤ l.first;
  small : l.first ≤ 256000000;
}

abbrev pub decreases-loop-first : goal.decreases-loop-first
decreases-loop-first l = l.bound + 1 - l.first
