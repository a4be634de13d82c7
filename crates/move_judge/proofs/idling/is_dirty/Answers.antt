use Rattle.std.proofs.Common.{sym, ◌∙◌}
use Rattle.move_judge.proofs.Frames.{idle_mark}
use Rattle.move_judge.proofs.idling.is_dirty.Goals as goal

pub is_dirty-requires : goal.is_dirty-requires
is_dirty-requires c =
    let p = c.args.m.now.kernel.place in
    (idle_mark p c.core.result.now c.args.page c.in-Invalid.frame c.requires.running.sound.owner.frames c.core.ensures c.requires.idle (sym c.state.ensures ∙ c.in-Invalid.is)).resident

pub returns : goal.returns
returns c =
    let p = c.args.m.now.kernel.place in
    c.is_dirty.ensures
    ∙ (idle_mark p c.core.result.now c.args.page c.in-Invalid.frame c.requires.running.sound.owner.frames c.core.ensures c.requires.idle (sym c.state.ensures ∙ c.in-Invalid.is)).mark
