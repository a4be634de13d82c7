use Rattle.std.proofs.Common.{◌≡◌}
use Rattle.kernel_tables.specs.Gone.{left_pages}
use Rattle.table_steps.proofs.giving_up.leave_pages.Given as goal

abbrev pub invariant-loop-v : goal.invariant-loop-v
invariant-loop-v l = l.core ≡ left_pages l.initial.core l.image l.v
