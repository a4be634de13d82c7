use Rattle.std.proofs.Common.{◌∙◌}
use Rattle.kernel_tables.proofs.Revives.{Stays, below_held, revive_slots, revive_stays}
use Rattle.kernel_tables.proofs.tables.revive_frame.Goals as goal

pub returns-in-Free-clause-slots : goal.returns-in-Free-clause-slots
returns-in-Free-clause-slots c =
    revive_slots c.args.core.now.slots c.reclaim-token.new.self.slots c.seat.new.self.slots c.set_dirty.new.self.slots c.args.frame c.reclaim-token.result c.args.page c.args.changed
    (below_held c.args.core.now.slots c.args.frame c.args.page c.requires) c.in-Free.ensures.slot.0 c.reclaim-token.ensures.token c.reclaim-token.ensures.number c.reclaim-token.ensures.slots
    c.seat.ensures.slots c.set_dirty.ensures.slots

pub returns-in_default : goal.returns-in_default
returns-in_default c =
    let s : Stays c.args.core.now.free c.args.core.now.slots c.args.frame c.args.page c.args.changed =
    revive_stays c.args.core.now.free c.args.core.now.slots c.args.frame c.args.page c.args.changed c.owner.ensures.sound c.requires
    (λ p e. c.in_default.not-Free p (c.owner.ensures.owner ∙ e)) in
    record { free = s.free_stays; slots = s.slots_stay }
