use Rattle.kluster_io.proofs.Picks.{named, dirty_put}
use Rattle.kluster_io.proofs.pick_put.Goals as goal

pub returns-in-Some : goal.returns-in-Some
returns-in-Some c = λ p h s.
    dirty_put p c.args.core.now c.args.space.now c.args.page c.in-Some.place c.is_dirty_seat.result c.up.result h c.requires c.in-Some.ensures c.is_dirty_seat.ensures c.if-is_dirty_seat.true
    (c.up.ensures p (record { page = named c.args.space.now c.args.page c.requires; space = h; front = tt }))
