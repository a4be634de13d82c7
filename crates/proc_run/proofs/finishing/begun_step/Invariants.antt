-- From this entry on there are ends of transfers alone.
use Rattle.std.proofs.Common.{◌≡◌, ◌≤◌, drop, length, None}
use Rattle.step_units.specs.Rests.{before_done}
use Rattle.proc_run.proofs.finishing.begun_step.Given as goal

abbrev pub invariant-loop-left : goal.invariant-loop-left
invariant-loop-left l = (l.left ≤ length l.journal) × (before_done (drop l.left l.journal) ≡ None)

abbrev pub decreases-loop-left : goal.decreases-loop-left
decreases-loop-left l = l.left
