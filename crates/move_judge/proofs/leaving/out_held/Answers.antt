use Rattle.std.proofs.Common.{ap₂, sym, ◌∙◌}
use Rattle.paged_model.specs.Reasons.{or_reason}
use Rattle.move_judge.proofs.Held.{held_in}
use Rattle.move_judge.proofs.Residents.{out_can}
use Rattle.move_judge.proofs.leaving.out_held.Goals as goal

pub space_left-requires-clause-there : goal.space_left-requires-clause-there
space_left-requires-clause-there c =
    c.requires.running.holders.spaces c.args._pid c.args.sid (held_in c.args.m.now.kernel c.args._pid c.args.sid c.args.process.now c.requires.holds)

pub returns-clause-can : goal.returns-clause-can
returns-clause-can c = λ e.
    out_can c.args.m.now.kernel c.args._pid c.args.sid c.args.process.now c.requires.holds
    (c.requires.running.holders.spaces c.args._pid c.args.sid (held_in c.args.m.now.kernel c.args._pid c.args.sid c.args.process.now c.requires.holds)) c.requires.clear
    (sym (c.or_reason.ensures ∙ ap₂ or_reason c.record_stays.ensures c.space_left.ensures) ∙ e)
