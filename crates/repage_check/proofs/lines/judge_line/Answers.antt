use Rattle.std.proofs.Common.{◌≡◌, ◌+◌, ◌≤◌, None, sym, subst}
use Rattle.std.specs.Prelude.{IfOk}
use Rattle.io_edge.specs.WithFiles.{stores}
use Rattle.vm_core.specs.LastMoves.{last_moves}
use Rattle.vm_core.specs.Stepped.{LeadsFrom}
use Rattle.paged_model.specs.declared.line.Line.{Line}
use Rattle.paged_model.specs.declared.line.Line.TheVariants as lines
use Rattle.repage_check.specs.Past.{PastAt}
use Rattle.repage_check.specs.Lines.{LineTold, units_in, GoesBy}
use Rattle.repage_check.specs.Moves.{moves_counted}
use Rattle.repage_check.proofs.Telling.{all_told, line_told}
use Rattle.repage_check.proofs.lines.judge_line.Goals as goal

pub judge_entry-requires-clause-low : goal.judge_entry-requires-clause-low
judge_entry-requires-clause-low g c =
    subst (λ (l : Line). last_moves c.args.m.now.kernel.journal + moves_counted l ≤ 1000000) c.in-RunLine.is c.requires.low

pub returns-in-RunLine-clause-told : goal.returns-in-RunLine-clause-told
returns-in-RunLine-clause-told g c =
    let p = c.args.past.now in
    let old = c.args.m.now in
    let new = c.judge_entry.new.m in
    let q = c.judge_entry.new.past in
    let holds = g.F.Files.holds c.args.files.now in
    let i = stores g.F.Files g.D.SwapDev c.args.files.now c.args.swap.now in
    let j = stores g.F.Files g.D.SwapDev c.judge_entry.new.files c.judge_entry.new.swap in
    subst (λ (l : Line). IfOk c.judge_entry.result (λ reason. LeadsFrom (PastAt p old holds i) (LineTold reason l q new holds j))) (sym c.in-RunLine.is)
    (line_told c.judge_entry.result c.in-RunLine.e p q old new holds i j c.judge_entry.ensures.told)

pub returns-in-RunLine-clause-on : goal.returns-in-RunLine-clause-on
returns-in-RunLine-clause-on g c =
    subst (λ (l : Line). IfOk c.judge_entry.result (λ reason. reason ≡ None → GoesBy (units_in l) c.args.m.now c.judge_entry.new.m)) (sym c.in-RunLine.is)
    c.judge_entry.ensures.on

pub returns-in-Part-clause-told : goal.returns-in-Part-clause-told
returns-in-Part-clause-told g c =
    let p = c.args.past.now in
    let old = c.args.m.now in
    let new = c.judge_alone.new.m in
    let holds = g.F.Files.holds c.args.files.now in
    let i = stores g.F.Files g.D.SwapDev c.args.files.now c.args.swap.now in
    subst (λ (l : Line). IfOk c.judge_alone.result (λ reason. LeadsFrom (PastAt p old holds i) (LineTold reason l p new holds i))) (sym c.in-Part.is)
    (all_told c.judge_alone.result (PastAt p old holds i) (λ reason. LineTold reason (lines.Part c.in-Part.part) p new holds i)
    (λ A s image at. c.judge_alone.ensures.told holds i A s image at))

pub returns-in-Part-clause-on : goal.returns-in-Part-clause-on
returns-in-Part-clause-on g c =
    subst (λ (l : Line). IfOk c.judge_alone.result (λ reason. reason ≡ None → GoesBy (units_in l) c.args.m.now c.judge_alone.new.m)) (sym c.in-Part.is)
    c.judge_alone.ensures.on
