use Rattle.io_edge.specs.WithFiles.{stores}
use Rattle.std.proofs.Common.{◌≤◌, ◌∷◌, [], Bool, sym, ap, ◌∙◌, subst}
use Rattle.vm_core.specs.Stepped.{LeadsFrom}
use Rattle.repage_check.specs.declared.past.Past.{Past}
use Rattle.repage_check.specs.Past.{lines_next, PastAt}
use Rattle.repage_check.specs.Lines.{past_behind, UnitsTold}
use Rattle.repage_check.proofs.Widening.{lines_behind, wide_some, next_told, next_by, next_counted}
use Rattle.repage_check.proofs.lines.judge_next.Goals as goal

pub judge_unit-requires-clause-at : goal.judge_unit-requires-clause-at
judge_unit-requires-clause-at g c =
    wide_some c.args.past.now c.args.m.now c.widen.new.m (g.F.Files.holds c.args.files.now) (stores g.F.Files g.D.SwapDev c.args.files.now c.args.swap.now) c.widen.ensures.only c.requires.at

pub past_behind-requires-clause-counts : goal.past_behind-requires-clause-counts
past_behind-requires-clause-counts g c =
    next_counted c.args.past.now c.args.m.now c.widen.new.m (g.F.Files.holds c.args.files.now) (stores g.F.Files g.D.SwapDev c.args.files.now c.args.swap.now) c.widen.ensures.only c.args.u.now
    c.judge_unit.new.m (stores g.F.Files g.D.SwapDev c.judge_unit.new.files c.judge_unit.new.swap) c.in_ok-judged.judged c.in_ok-judged.ensures.told c.requires.at

pub returns-clause-told : goal.returns-clause-told
returns-clause-told g c =
    let p = c.args.past.now in
    let old = c.args.m.now in
    let new = c.judge_unit.new.m in
    let holds = g.F.Files.holds c.args.files.now in
    let i = stores g.F.Files g.D.SwapDev c.args.files.now c.args.swap.now in
    let j = stores g.F.Files g.D.SwapDev c.judge_unit.new.files c.judge_unit.new.swap in
    let judged = c.in_ok-judged.judged in
    let u = c.args.u.now in
    subst (λ (q : Past). LeadsFrom (PastAt p old holds i) (UnitsTold judged (u ∷ []) q new holds j))
    (sym (c.past_behind.ensures ∙ ap (λ (b : Bool). past_behind judged b p u) c.turn_out-out.ensures))
    (next_told p old c.widen.new.m holds i c.widen.ensures.only u new j judged c.in_ok-judged.ensures.told)

pub returns-clause-on : goal.returns-clause-on
returns-clause-on g c = λ none.
    next_by c.args.past.now c.args.m.now c.widen.new.m (g.F.Files.holds c.args.files.now) (stores g.F.Files g.D.SwapDev c.args.files.now c.args.swap.now) c.widen.ensures.only c.args.u.now
    c.judge_unit.new.m (stores g.F.Files g.D.SwapDev c.judge_unit.new.files c.judge_unit.new.swap) c.in_ok-judged.judged c.in_ok-judged.ensures.told c.requires.at none (c.in_ok-judged.ensures.on none)

pub returns-clause-lines : goal.returns-clause-lines
returns-clause-lines g c =
    subst (λ (q : Past). q.lines ≤ lines_next c.args.past.now.lines c.args.u.now) (sym c.past_behind.ensures)
    (lines_behind c.in_ok-judged.judged c.turn_out-out.result c.args.past.now c.args.u.now)
