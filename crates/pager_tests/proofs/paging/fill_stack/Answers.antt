use Rattle.std.proofs.Common.{rules, arith}
use Rattle.pager_tests.proofs.Readiness.{can_zero}
use Rattle.pager_tests.proofs.paging.fill_stack.Goals as goal

pub fill_zero-requires-clause-can : goal.fill_zero-requires-clause-can
fill_zero-requires-clause-can g c =
    can_zero c.args.m.now.kernel.place (c.state_of.ensures.there.0 (search rules)) (search rules) c.requires.due (omega arith)
