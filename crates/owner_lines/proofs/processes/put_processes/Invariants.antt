-- The lines of the processes up to this number passed, and the rest is left.
use Rattle.std.proofs.Common.{◌+◌, ◌-◌}
use Rattle.std.specs.List.{flat_map}
use Rattle.owner_lines.specs.Owners.{process_lines}
use Rattle.owner_lines.specs.Recorded.{record_lines}
use Rattle.owner_lines.proofs.Pids.{records_over}
use Rattle.run_text.proofs.Putting.{Leaves}
use Rattle.owner_lines.proofs.processes.put_processes.Given as goal

abbrev pub invariant-loop-next : goal.invariant-loop-next
invariant-loop-next g l =
    Leaves g.S.Sink (flat_map record_lines (records_over l.processes (l.pid + 1) l.machine.kernel.next_pid))
    (flat_map (process_lines l.machine.kernel.place) l.machine.kernel.processes) l.fn.out l.out

abbrev pub decreases-loop-next : goal.decreases-loop-next
decreases-loop-next g l = 4294967296 - l.pid
