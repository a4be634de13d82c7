use Rattle.std.proofs.Common.{◌≡◌, ◌+◌, ◌≤◌, [], List, None, sym, subst, arith}
use Rattle.std.specs.Prelude.{IfOk}
use Rattle.std.proofs.lemmas.Result.{IfOk-weaker}
use Rattle.io_edge.specs.WithFiles.{stores}
use Rattle.vm_facts.specs.declared.entry.Entry.{Entry}
use Rattle.vm_facts.specs.declared.entry.Entry.TheVariants as entries
use Rattle.flat_state.specs.Journal.{repeated, units_with}
use Rattle.page_laws.specs.Spans.{moves}
use Rattle.vm_core.specs.LastMoves.{last_moves}
use Rattle.vm_core.specs.Stepped.{LeadsFrom}
use Rattle.repage_check.specs.Past.{lines_next, PastAt}
use Rattle.repage_check.specs.Lines.{UnitsTold, GoesBy}
use Rattle.repage_check.proofs.Telling.{other_unit, other_unmoved, other_alone, one_line, some_frames, all_told}
use Rattle.repage_check.proofs.lines.judge_entry.Goals as goal

pub judge_hands-requires-clause-frames : goal.judge_hands-requires-clause-frames
judge_hands-requires-clause-frames g c =
    some_frames c.args.past.now c.args.m.now (g.F.Files.holds c.args.files.now) (stores g.F.Files g.D.SwapDev c.args.files.now c.args.swap.now) c.requires.at

pub judge_hands-requires-clause-low : goal.judge_hands-requires-clause-low
judge_hands-requires-clause-low g c =
    subst (λ (e : Entry). last_moves c.args.m.now.kernel.journal + moves e ≤ 1000000) c.in-Hands.is c.requires.low

pub returns-in-Hands-clause-told : goal.returns-in-Hands-clause-told
returns-in-Hands-clause-told g c =
    let p = c.args.past.now in
    let old = c.args.m.now in
    let new = c.judge_hands.new.m in
    let holds = g.F.Files.holds c.args.files.now in
    let i = stores g.F.Files g.D.SwapDev c.args.files.now c.args.swap.now in
    subst (λ (e : Entry). IfOk c.judge_hands.result (λ reason. LeadsFrom (PastAt p old holds i) (UnitsTold reason (units_with e []) p new holds i))) (sym c.in-Hands.is)
    (all_told c.judge_hands.result (PastAt p old holds i) (λ reason. UnitsTold reason (repeated (entries.Hands 1) c.in-Hands.count []) p new holds i)
    (λ A s image at. c.judge_hands.ensures.told holds i A s image at))

pub returns-in-Hands-clause-on : goal.returns-in-Hands-clause-on
returns-in-Hands-clause-on g c =
    subst (λ (e : Entry). IfOk c.judge_hands.result (λ reason. reason ≡ None → GoesBy (units_with e []) c.args.m.now c.judge_hands.new.m)) (sym c.in-Hands.is)
    c.judge_hands.ensures.on

pub judge_ran-requires-clause-low : goal.judge_ran-requires-clause-low
judge_ran-requires-clause-low g c = let e = c.requires.low in omega (arith, e)

pub returns-in-Ran-clause-told : goal.returns-in-Ran-clause-told
returns-in-Ran-clause-told g c =
    let p = c.args.past.now in
    let old = c.args.m.now in
    let new = c.judge_ran.new.m in
    let q = c.judge_ran.new.past in
    let holds = g.F.Files.holds c.args.files.now in
    let i = stores g.F.Files g.D.SwapDev c.args.files.now c.args.swap.now in
    let j = stores g.F.Files g.D.SwapDev c.judge_ran.new.files c.judge_ran.new.swap in
    subst (λ (e : Entry). IfOk c.judge_ran.result (λ reason. LeadsFrom (PastAt p old holds i) (UnitsTold reason (units_with e []) q new holds j))) (sym c.in-Ran.is)
    c.judge_ran.ensures.told

pub returns-in-Ran-clause-on : goal.returns-in-Ran-clause-on
returns-in-Ran-clause-on g c =
    subst (λ (e : Entry). IfOk c.judge_ran.result (λ reason. reason ≡ None → GoesBy (units_with e []) c.args.m.now c.judge_ran.new.m)) (sym c.in-Ran.is)
    c.judge_ran.ensures.on

pub returns-in-Ran-clause-lines : goal.returns-in-Ran-clause-lines
returns-in-Ran-clause-lines g c =
    let p = c.args.past.now in
    let q = c.judge_ran.new.past in
    IfOk-weaker c.judge_ran.result (λ reason. q.lines ≤ p.lines) (λ reason. q.lines ≤ p.lines + 1) (λ reason l. omega (arith, l)) c.judge_ran.ensures.lines

pub judge_next-requires-clause-low : goal.judge_next-requires-clause-low
judge_next-requires-clause-low g c = let e = c.requires.low in omega (arith, e)

pub judge_next-requires-clause-unit : goal.judge_next-requires-clause-unit
judge_next-requires-clause-unit g c = other_unit c.args.e.now c.in_default.not-Hands c.in_default.not-Ran

pub judge_next-requires-clause-unmoved : goal.judge_next-requires-clause-unmoved
judge_next-requires-clause-unmoved g c = other_unmoved c.args.e.now c.in_default.not-Hands c.in_default.not-Ran

pub returns-in_default-clause-told : goal.returns-in_default-clause-told
returns-in_default-clause-told g c =
    let p = c.args.past.now in
    let old = c.args.m.now in
    let new = c.judge_next.new.m in
    let q = c.judge_next.new.past in
    let holds = g.F.Files.holds c.args.files.now in
    let i = stores g.F.Files g.D.SwapDev c.args.files.now c.args.swap.now in
    let j = stores g.F.Files g.D.SwapDev c.judge_next.new.files c.judge_next.new.swap in
    subst (λ (us : List Entry). IfOk c.judge_next.result (λ reason. LeadsFrom (PastAt p old holds i) (UnitsTold reason us q new holds j)))
    (other_alone c.args.e.now c.in_default.not-Hands c.in_default.not-Ran) c.judge_next.ensures.told

pub returns-in_default-clause-on : goal.returns-in_default-clause-on
returns-in_default-clause-on g c =
    subst (λ (us : List Entry). IfOk c.judge_next.result (λ reason. reason ≡ None → GoesBy us c.args.m.now c.judge_next.new.m))
    (other_alone c.args.e.now c.in_default.not-Hands c.in_default.not-Ran) c.judge_next.ensures.on

pub returns-in_default-clause-lines : goal.returns-in_default-clause-lines
returns-in_default-clause-lines g c =
    let p = c.args.past.now in
    let q = c.judge_next.new.past in
    let u = c.args.e.now in
    IfOk-weaker c.judge_next.result (λ reason. q.lines ≤ lines_next p.lines u) (λ reason. q.lines ≤ p.lines + 1)
    (λ reason l. let most = one_line p.lines u in omega (arith, l, most)) c.judge_next.ensures.lines
