use Rattle.std.proofs.Common.{sym, ◌∙◌, arith}
use Rattle.move_judge.proofs.HandsMove.{some_written, none_written}
use Rattle.move_judge.proofs.hands.write_reason.Goals as goal

pub returns-then-n-gt0 : goal.returns-then-n-gt0
returns-then-n-gt0 c =
    c.no_room.ensures ∙ sym (some_written c.args.m.now.kernel.place c.args._locked.now c.args._lo c.args.n c.requires c.if-n-gt0.true)

pub returns-else-n-gt0 : goal.returns-else-n-gt0
returns-else-n-gt0 c =
    let none = c.if-n-gt0.false in
    sym (none_written c.args.m.now.kernel.place c.args._locked.now c.args._lo c.args.n c.requires (omega (arith, none)))
