use Rattle.std.proofs.Common.{◌-◌}
use Rattle.kernel_tables.proofs.Orphans.{Leaving}
use Rattle.kernel_tables.proofs.tables.Tables.leave_children.Given as goal

abbrev pub invariant-loop-child : goal.invariant-loop-child
invariant-loop-child l = Leaving l.initial.self l.self l.pid l.last

abbrev pub decreases-loop-child : goal.decreases-loop-child
decreases-loop-child l = l.self.next_pid - l.last
