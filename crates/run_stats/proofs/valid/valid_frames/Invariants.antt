-- The frames so far.
use Rattle.std.proofs.Common.{◌≡◌, ◌≤◌, ◌+◌, ◌-◌, length}
use Rattle.std.specs.List.{sum_by}
use Rattle.page_model.specs.Frames.{count_up}
use Rattle.run_stats.specs.Looks.{valid_frame, valid_frames}
use Rattle.run_stats.proofs.valid.valid_frames.Given as goal

abbrev pub invariant-loop-before : goal.invariant-loop-before
invariant-loop-before l = record {
  sum : l.valid + sum_by (valid_frame l.machine.kernel.place) (count_up (l.before + 1) (length l.machine.kernel.place.holds - l.before)) ≡ valid_frames l.machine.kernel.place;
  fits : l.valid ≤ l.before;
}
