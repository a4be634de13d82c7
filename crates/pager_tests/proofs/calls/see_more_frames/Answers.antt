use Rattle.std.proofs.Common.{arith}
use Rattle.pager_tests.proofs.Readiness.{has_more_room}
use Rattle.pager_tests.proofs.calls.see_more_frames.Goals as goal

pub returns : goal.returns
returns g c = λ page. has_more_room c.args.m.now.kernel.place page (omega (arith, c.core.ensures.frames, c.frames.ensures.count))
