use Rattle.std.proofs.Common.{◌≡◌, ◌-◌}
use Rattle.std.specs.List.{filter}
use Rattle.page_model.specs.Placement.{Placement}
use Rattle.page_model.specs.Swapper.{longest}
use Rattle.machine_state.specs.Machine.{processes_of}
use Rattle.swapper.specs.Runners.{runners_in, runner_of, IsPlaced, HasResidents, passes, runners_above, longest_from}
use Rattle.swapper.proofs.candidates.longest.Given as goal

abbrev pub invariant-loop-pid : goal.invariant-loop-pid
invariant-loop-pid l =
    (p : Placement) → HasResidents p l.processes l.next
    → IsPlaced p l.best
    × (longest_from p (runner_of l.best) (runners_above (passes p l.kind) l.processes l.next l.last)
    ≡ longest p (filter (passes p l.kind) (runners_in (processes_of l.processes l.next))))

abbrev pub decreases-loop-pid : goal.decreases-loop-pid
decreases-loop-pid l = l.next - l.last
