use Rattle.std.proofs.Common.{◌-◌, ◌^◌}
use Rattle.vfork_pass.proofs.Walk.{NoneBelow}
use Rattle.vfork_pass.proofs.lender_of.Given as goal

abbrev pub invariant-loop-pid : goal.invariant-loop-pid
invariant-loop-pid l = NoneBelow l.processes l.borrower l.pid

abbrev pub decreases-loop-pid : goal.decreases-loop-pid
decreases-loop-pid l = 2 ^ 32 - l.pid
