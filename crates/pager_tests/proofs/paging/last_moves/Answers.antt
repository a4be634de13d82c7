use Rattle.std.proofs.Common.{rules, ◌∙◌}
use Rattle.pager_tests.proofs.Readiness.{last_is, last_none}
use Rattle.pager_tests.proofs.paging.last_moves.Goals as goal

pub returns-in-Some : goal.returns-in-Some
returns-in-Some c = c.moves_counted.ensures ∙ last_is c.args.m.now.kernel.journal c.in-Some.e.now (search rules)

pub returns-in-None : goal.returns-in-None
returns-in-None c = last_none c.args.m.now.kernel.journal (search rules)
