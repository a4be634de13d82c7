use Rattle.std.proofs.Common.{◌≡◌, None}
use Rattle.step_judge.specs.Judged.{Judged}
use Rattle.step_judge.specs.Told.{GoesOnWith}
use Rattle.repage_check.specs.Units.{fill_reason}
use Rattle.repage_check.proofs.Told.{or_told}
use Rattle.repage_check.proofs.Goes.{fill_on}
use Rattle.repage_check.proofs.moving.judge_fill.Goals as goal

pub returns-clause-judged : goal.returns-clause-judged
returns-clause-judged c = λ F t.
    or_told (λ reason. reason ≡ fill_reason F c.args.m.now.kernel.place c.args.u.now) c.or_memory.result c.fill-judged.result c.or_memory.ensures
    (c.fill-judged.ensures.judged F t)

pub returns-clause-made : goal.returns-clause-made
returns-clause-made c =
    or_told (Judged c.args.u.now c.args.m.now c.fill-judged.new.m) c.or_memory.result c.fill-judged.result c.or_memory.ensures c.fill-judged.ensures.made

pub returns-clause-on : goal.returns-clause-on
returns-clause-on c =
    let old = c.args.m.now in
    let new = c.fill-judged.new.m in
    or_told (λ reason. reason ≡ None → GoesOnWith old new) c.or_memory.result c.fill-judged.result c.or_memory.ensures
    (fill_on old new c.args.u.now c.fill-judged.result c.fill-judged.ensures.made c.fill-judged.ensures.goes_on)
