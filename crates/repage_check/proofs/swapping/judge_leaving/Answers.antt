use Rattle.std.proofs.Common.{◌≡◌, None}
use Rattle.paged_model.specs.Leaving.{out_reason}
use Rattle.step_judge.specs.Leaving.{JudgedOut}
use Rattle.step_judge.specs.Told.{GoesOnWith}
use Rattle.repage_check.proofs.Told.{or_told}
use Rattle.repage_check.proofs.Goes.{out_on}
use Rattle.repage_check.proofs.swapping.judge_leaving.Goals as goal

pub returns-clause-judged : goal.returns-clause-judged
returns-clause-judged g c = λ F t.
    or_told (λ reason. reason ≡ out_reason F c.args.m.now.kernel.place c.args.pid) c.or_memory.result c.judge_out-judged.result c.or_memory.ensures
    (c.judge_out-judged.ensures.judged F t)

pub returns-clause-made : goal.returns-clause-made
returns-clause-made g c =
    or_told (JudgedOut c.args.pid (g.D.SwapDev.image c.args.swap.now) (g.D.SwapDev.image c.judge_out-judged.new.swap) c.args.m.now c.judge_out-judged.new.m)
    c.or_memory.result c.judge_out-judged.result c.or_memory.ensures c.judge_out-judged.ensures.made

pub returns-clause-on : goal.returns-clause-on
returns-clause-on g c =
    let old = c.args.m.now in
    let new = c.judge_out-judged.new.m in
    or_told (λ reason. reason ≡ None → GoesOnWith old new) c.or_memory.result c.judge_out-judged.result c.or_memory.ensures
    (out_on old new c.args.pid (g.D.SwapDev.image c.args.swap.now) (g.D.SwapDev.image c.judge_out-judged.new.swap) c.judge_out-judged.result
    c.judge_out-judged.ensures.made c.judge_out-judged.ensures.goes_on)

pub returns-clause-blocks : goal.returns-clause-blocks
returns-clause-blocks g c = c.judge_out-judged.ensures.outside.blocks
