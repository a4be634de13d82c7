use Rattle.io_edge.specs.WithFiles.{stores}
use Rattle.std.proofs.Common.{◌≡◌, None}
use Rattle.vm_facts.specs.declared.entry.Entry.TheVariants as entries
use Rattle.paged_model.specs.Moves.{done_reason}
use Rattle.step_judge.specs.Judged.{JudgedThrough}
use Rattle.step_judge.specs.Told.{GoesOnWith}
use Rattle.repage_check.proofs.Told.{or_told}
use Rattle.repage_check.proofs.Goes.{end_on}
use Rattle.repage_check.proofs.moving.judge_end.Goals as goal

pub returns-clause-judged : goal.returns-clause-judged
returns-clause-judged g c =
    or_told (λ reason. reason ≡ done_reason c.args.m.now.kernel.place.transfers) c.or_memory.result c.judge_done-judged.result c.or_memory.ensures
    c.judge_done-judged.ensures.judged

pub returns-clause-made : goal.returns-clause-made
returns-clause-made g c =
    or_told
    (JudgedThrough entries.Done (g.F.Files.holds c.args.files.now) (stores g.F.Files g.D.SwapDev c.args.files.now c.args.swap.now)
    (stores g.F.Files g.D.SwapDev c.judge_done-judged.new.files c.judge_done-judged.new.swap) c.args.m.now
    c.judge_done-judged.new.m)
    c.or_memory.result c.judge_done-judged.result c.or_memory.ensures c.judge_done-judged.ensures.made

pub returns-clause-on : goal.returns-clause-on
returns-clause-on g c =
    let old = c.args.m.now in
    let new = c.judge_done-judged.new.m in
    or_told (λ reason. reason ≡ None → GoesOnWith old new) c.or_memory.result c.judge_done-judged.result c.or_memory.ensures
    (end_on old new entries.Done (g.F.Files.holds c.args.files.now) (stores g.F.Files g.D.SwapDev c.args.files.now c.args.swap.now)
    (stores g.F.Files g.D.SwapDev c.judge_done-judged.new.files c.judge_done-judged.new.swap)
    c.judge_done-judged.result c.judge_done-judged.ensures.made c.judge_done-judged.ensures.goes_on)

pub returns-clause-holds : goal.returns-clause-holds
returns-clause-holds g c = c.judge_done-judged.ensures.outside.files.holds

pub returns-clause-blocks : goal.returns-clause-blocks
returns-clause-blocks g c = c.judge_done-judged.ensures.outside.swap.blocks
