use Rattle.std.proofs.Common.{arith}
use Rattle.pager_tests.proofs.Readiness.{has_room}
use Rattle.pager_tests.proofs.paging.see_frames.Goals as goal

pub returns : goal.returns
returns g c = has_room c.args.m.now.kernel.place (omega (arith, c.core.ensures.frames, c.frames.ensures.count))
