use Rattle.std.proofs.Common.{rules}
use Rattle.pager_tests.proofs.Readiness.{none_due, can_serve}
use Rattle.pager_tests.proofs.paging.see_served.Goals as goal

pub returns : goal.returns
returns g c = can_serve c.args.m.now.kernel.place c.args.page (c.state_of.ensures.there.0 (search rules)) c.see_shared.ensures (none_due c.args.m.now.kernel.place.due (search rules))
