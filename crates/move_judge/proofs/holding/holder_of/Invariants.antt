use Rattle.std.proofs.Common.{◌-◌, ◌<◌, ◌≤◌, ◌^◌}
use Rattle.move_judge.specs.Holders.{NoneHas}
use Rattle.move_judge.proofs.holding.holder_of.Given as goal

abbrev pub invariant-loop-pid : goal.invariant-loop-pid
invariant-loop-pid l = record { none : NoneHas (λ n. (0 < n) × (n ≤ l.last)) l.processes l.sid }

abbrev pub decreases-loop-pid : goal.decreases-loop-pid
decreases-loop-pid l = 2 ^ 32 - l.last
