use Rattle.std.proofs.Common.{◌<◌, ◌^◌, arith}
use Rattle.user_step.proofs.Downwards.{tests_down}
use Rattle.user_step.proofs.commit.put_frame.Goals as goal

pub returns-clause-may : goal.returns-clause-may
returns-clause-may g c done =
    let small : c.args.top < 2 ^ 32 = omega arith in
    tests_down (g.M.Memory.answers c.args.memory.now) c.args.top c.args.frame.now small c.requires (c.put_down.ensures.may done)
