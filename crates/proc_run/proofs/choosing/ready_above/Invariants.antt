use Rattle.std.proofs.Common.{◌-◌, ◌<◌, ◌≤◌, ◌^◌}
use Rattle.proc_run.specs.Choosing.{NoneReady}
use Rattle.proc_run.proofs.choosing.ready_above.Given as goal

abbrev pub invariant-loop-pid : goal.invariant-loop-pid
invariant-loop-pid l = record { none : NoneReady (λ n. (l.above < n) × (n ≤ l.last)) l.processes; from : l.above ≤ l.last }

abbrev pub decreases-loop-pid : goal.decreases-loop-pid
decreases-loop-pid l = 2 ^ 32 - l.last
