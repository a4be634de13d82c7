use Rattle.std.proofs.Common.{◌≡◌, None}
use Rattle.paged_model.specs.Leaving.{in_reason}
use Rattle.step_judge.specs.Leaving.{JudgedIn}
use Rattle.step_judge.specs.Told.{GoesOnWith}
use Rattle.repage_check.proofs.Told.{or_told}
use Rattle.repage_check.proofs.Goes.{in_on}
use Rattle.repage_check.proofs.swapping.judge_coming.Goals as goal

pub returns-clause-judged : goal.returns-clause-judged
returns-clause-judged g c = λ F t h.
    or_told (λ reason. reason ≡ in_reason F c.args.m.now.kernel.place c.args.pid) c.or_memory.result c.judge_in-judged.result c.or_memory.ensures
    (c.judge_in-judged.ensures.judged F t h)

pub returns-clause-made : goal.returns-clause-made
returns-clause-made g c =
    or_told (JudgedIn c.args.pid (g.D.SwapDev.image c.args.swap.now) (g.D.SwapDev.image c.judge_in-judged.new.swap) c.args.m.now c.judge_in-judged.new.m)
    c.or_memory.result c.judge_in-judged.result c.or_memory.ensures c.judge_in-judged.ensures.made

pub returns-clause-on : goal.returns-clause-on
returns-clause-on g c =
    let old = c.args.m.now in
    let new = c.judge_in-judged.new.m in
    or_told (λ reason. reason ≡ None → GoesOnWith old new) c.or_memory.result c.judge_in-judged.result c.or_memory.ensures
    (in_on old new c.args.pid (g.D.SwapDev.image c.args.swap.now) (g.D.SwapDev.image c.judge_in-judged.new.swap) c.judge_in-judged.result
    c.judge_in-judged.ensures.made c.judge_in-judged.ensures.goes_on)

pub returns-clause-blocks : goal.returns-clause-blocks
returns-clause-blocks g c = c.judge_in-judged.ensures.outside.blocks
