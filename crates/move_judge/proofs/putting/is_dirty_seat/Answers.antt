use Rattle.move_judge.proofs.putting.is_dirty_seat.Goals as goal

pub returns : goal.returns
returns c = c.is_dirty.ensures c.args.m.now.kernel.place (c.space_of.ensures.shows c.core.result.now c.core.ensures) c.space_of.ensures.named c.requires.seated
