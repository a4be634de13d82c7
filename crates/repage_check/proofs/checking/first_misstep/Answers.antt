use Rattle.std.proofs.Common.{◌≡◌, ◌+◌, ◌≤◌, List, drop, Option, None, refl, sym, ◌∙◌, subst, arith}
use Rattle.io_edge.specs.WithFiles.{stores}
use Rattle.io_edge.specs.FileHolding.{NamedFile}
use Rattle.machine_state.proofs.Backing.{backed_by}
use Rattle.vm_core.specs.Stepped.{AtSome, LeadsFrom}
use Rattle.paged_model.specs.declared.line.Line.{Line}
use Rattle.repage_check.specs.declared.past.Past.{Past}
use Rattle.repage_check.specs.Past.{PastAt}
use Rattle.repage_check.specs.Lines.{LineTold}
use Rattle.repage_check.specs.Verdicts.{past_at_start}
use Rattle.repage_check.proofs.Along.{AlongLines, lines_begun}
use Rattle.repage_check.proofs.Looping.{line_here, lines_step, lines_stop, lines_end, lines_stand, line_some}
use Rattle.repage_check.proofs.Tracing.{GoesOnFew, few_begun, next_few, few_on}
use Rattle.repage_check.proofs.checking.first_misstep.Goals as goal

pub loop-index-init : goal.loop-index-init
loop-index-init g c =
    let m = c.args.m.now in
    let holds = g.F.Files.holds c.args.files.now in
    let i = stores g.F.Files g.D.SwapDev c.args.files.now c.args.swap.now in
    record {
      told = subst (λ (p : Past). LeadsFrom (PastAt past_at_start m holds i) (AlongLines c.args.lines.now 0 p m holds i)) (sym c.past_at_start-past.ensures)
          (λ A s image at. lines_begun c.args.lines.now past_at_start m holds i A s image at);
      at = subst (λ (p : Past). AtSome (PastAt p m holds i)) (sym c.past_at_start-past.ensures) c.requires.at;
      few = few_begun c.args.lines.now m c.requires.asks.ready c.requires.first c.requires.wide c.requires.moves;
      lines = subst (λ (p : Past). p.lines ≤ 0) (sym c.past_at_start-past.ensures) (omega arith);
      holds = refl;
      blocks = refl;
    }

pub judge_line-requires-clause-low : goal.judge_line-requires-clause-low
judge_line-requires-clause-low g c =
    let k = c.loop-index.index in
    let l = c.index-lines-index.result in
    let ls = c.args.lines.now in
    next_few l (drop (k + 1) ls) k c.args.m.now c.loop-index.m
    (subst (λ (left : List Line). GoesOnFew left k c.args.m.now c.loop-index.m) (line_here ls k l c.loop-index-test.true c.index-lines-index.is) c.loop-index.invariant.few)

pub judge_line-requires-clause-fits : goal.judge_line-requires-clause-fits
judge_line-requires-clause-fits g c =
    let long = c.loop-index.invariant.few.long in
    let few = c.requires.few in
    let below = c.loop-index-test.true in
    omega (arith, long, few, below)

pub judge_line-requires-clause-lines : goal.judge_line-requires-clause-lines
judge_line-requires-clause-lines g c =
    let most = c.loop-index.invariant.lines in
    let few = c.requires.few in
    let below = c.loop-index-test.true in
    omega (arith, most, few, below)

pub judge_line-requires-clause-asks : goal.judge_line-requires-clause-asks
judge_line-requires-clause-asks g c =
    let so = c.loop-index.invariant in
    record {
      ready = so.few.ready;
      backed = backed_by c.args.m.now c.loop-index.m (g.F.Files.holds c.args.files.now) _ _ _ so.few.blocks so.few.images so.holds so.blocks c.requires.asks.backed;
    }

pub returns-in-Some-clause-told : goal.returns-in-Some-clause-told
returns-in-Some-clause-told g c =
    let k = c.loop-index.index in
    let l = c.index-lines-index.result in
    let ls = c.args.lines.now in
    let m = c.loop-index.m in
    let holds = g.F.Files.holds c.args.files.now in
    let i = stores g.F.Files g.D.SwapDev c.loop-index.files c.loop-index.swap in
    let j = stores g.F.Files g.D.SwapDev c.judge_line.new.files c.judge_line.new.swap in
    let so = c.loop-index.invariant in
    let judged = c.in_ok-judged.judged in
    lines_stop ls k past_at_start c.args.m.now holds (stores g.F.Files g.D.SwapDev c.args.files.now c.args.swap.now) c.loop-index.past m i so.told l
    (line_here ls k l c.loop-index-test.true c.index-lines-index.is) c.judge_line.new.past c.judge_line.new.m j judged
    (subst (λ (hs : Option (List NamedFile)). LeadsFrom (PastAt c.loop-index.past m hs i) (LineTold judged l c.judge_line.new.past c.judge_line.new.m hs j)) so.holds
    c.in_ok-judged.ensures.told) c.in-Some.reason c.in-Some.is

pub loop-index-preserved : goal.loop-index-preserved
loop-index-preserved g c =
    let k = c.loop-index.index in
    let l = c.index-lines-index.result in
    let ls = c.args.lines.now in
    let m = c.loop-index.m in
    let holds = g.F.Files.holds c.args.files.now in
    let i = stores g.F.Files g.D.SwapDev c.loop-index.files c.loop-index.swap in
    let j = stores g.F.Files g.D.SwapDev c.judge_line.new.files c.judge_line.new.swap in
    let so = c.loop-index.invariant in
    let judged = c.in_ok-judged.judged in
    let none : judged ≡ None = c.in_default.is in
    let here = line_here ls k l c.loop-index-test.true c.index-lines-index.is in
    let told : LeadsFrom (PastAt c.loop-index.past m holds i) (LineTold judged l c.judge_line.new.past c.judge_line.new.m holds j) =
    subst (λ (hs : Option (List NamedFile)). LeadsFrom (PastAt c.loop-index.past m hs i) (LineTold judged l c.judge_line.new.past c.judge_line.new.m hs j)) so.holds
    c.in_ok-judged.ensures.told in
    record {
      told = lines_step ls k past_at_start c.args.m.now holds (stores g.F.Files g.D.SwapDev c.args.files.now c.args.swap.now) c.loop-index.past m i so.told l here
          c.judge_line.new.past c.judge_line.new.m j judged told none;
      at = line_some c.loop-index.past m holds i l c.judge_line.new.past c.judge_line.new.m j judged so.at told none;
      few = few_on l (drop (k + 1) ls) k c.args.m.now m (subst (λ (left : List Line). GoesOnFew left k c.args.m.now m) here so.few) c.judge_line.new.m
          (c.in_ok-judged.ensures.on none);
      lines = let a = c.in_ok-judged.ensures.lines in let b = so.lines in omega (arith, a, b);
      holds = c.judge_line.ensures.holds ∙ so.holds;
      blocks = c.judge_line.ensures.blocks ∙ so.blocks;
    }

pub returns-clause-told : goal.returns-clause-told
returns-clause-told g c =
    lines_end c.args.lines.now c.loop-index.index past_at_start c.args.m.now (g.F.Files.holds c.args.files.now) (stores g.F.Files g.D.SwapDev c.args.files.now c.args.swap.now)
    c.loop-index.past c.loop-index.m (stores g.F.Files g.D.SwapDev c.loop-index.files c.loop-index.swap) c.loop-index.invariant.told (omega arith)

pub returns-clause-stands : goal.returns-clause-stands
returns-clause-stands g c = λ none.
    lines_stand c.args.lines.now c.loop-index.index past_at_start c.args.m.now (g.F.Files.holds c.args.files.now) (stores g.F.Files g.D.SwapDev c.args.files.now c.args.swap.now)
    c.loop-index.past c.loop-index.m (stores g.F.Files g.D.SwapDev c.loop-index.files c.loop-index.swap) c.loop-index.invariant.told (omega arith)

pub returns-clause-ready : goal.returns-clause-ready
returns-clause-ready g c = λ none. c.loop-index.invariant.few.ready
