use Rattle.io_edge.specs.WithFiles.{stores}
use Rattle.std.proofs.Common.{◌<◌, IfOk, IfErr, inl, inr, sym, ◌∙◌, subst, arith}
use Rattle.run_model.specs.declared.mark.Mark.TheVariants as marks
use Rattle.vm_core.specs.Stepped.{LeadsFrom, StopsFrom}
use Rattle.vm_core.proofs.Noting.{ok_weaker, stops_on, stops_weaker}
use Rattle.film_core.proofs.RestsMade.{turn_spent, turn_rests, turn_coming_stops, turn_stops}
use Rattle.film_core.proofs.resting.turn.Goals as goal
use Rattle.film_core.proofs.resting.turn.Goals.{then-counted-count_behind-via-then-counted-count_behind, then-counted-count_behind-via-else-counted-count_behind+then-not-may_step}
use Rattle.vm_core.specs.Closing.{ResidentTurn, TurnDone}
use Rattle.film_core.specs.Ways.{RestAt, RestDone}

pub returns-then-counted-count_behind-clause-rests : goal.returns-then-counted-count_behind-clause-rests
returns-then-counted-count_behind-clause-rests g c =
    let holds = g.F.Files.holds c.args.files.now in
    let i = stores g.F.Files g.D.SwapDev c.args.files.now c.args.swap.now in
    turn_spent c.args.m.now c.args.pid c.args.since c.args.counted c.count_behind.result holds i c.count_behind.ensures (elim c.then-counted-count_behind.branch [
      | then-counted-count_behind-via-then-counted-count_behind w ↦ inl (let l = w.if-counted-count_behind.true in omega (arith, l))
      | then-counted-count_behind-via-else-counted-count_behind+then-not-may_step w ↦ inr (sym w.may_step.ensures ∙ w.if-not-may_step.true)
    ])

pub returns-in_err-come_in-clause-stops : goal.returns-in_err-come_in-clause-stops
returns-in_err-come_in-clause-stops g c =
    let old = c.args.m.now in
    let new = c.come_in.new.m in
    let holds = g.F.Files.holds c.args.files.now in
    let i = stores g.F.Files g.D.SwapDev c.args.files.now c.args.swap.now in
    let j = stores g.F.Files g.D.SwapDev c.come_in.new.files c.come_in.new.swap in
    let until = c.count_behind.result in
    let stop = c.in_err-come_in.field-0.0 in
    let below : c.args.counted < c.count_behind.result = let l = c.if-counted-count_behind.false in omega (arith, l) in
    stops_on c.from_residual.result stop (StopsFrom (RestAt old (marks.Turn c.args.pid c.args.since) c.args.counted holds i) old new j) c.from_residual.ensures.1
    (turn_coming_stops old new c.args.pid c.args.since c.args.counted until holds i j stop c.count_behind.ensures below (sym c.may_step.ensures ∙ c.if-not-may_step.false)
    (c.in_err-come_in.ensures.stops c.args.counted c.args.since))

pub returns-clause-rests : goal.returns-clause-rests
returns-clause-rests g c =
    let old = c.args.m.now in
    let mid = c.come_in.new.m in
    let new = c.finish.new.m in
    let holds = g.F.Files.holds c.args.files.now in
    let i = stores g.F.Files g.D.SwapDev c.args.files.now c.args.swap.now in
    let h = stores g.F.Files g.D.SwapDev c.come_in.new.files c.come_in.new.swap in
    let j = stores g.F.Files g.D.SwapDev c.finish.new.files c.finish.new.swap in
    let below : c.args.counted < c.count_behind.result = let l = c.if-counted-count_behind.false in omega (arith, l) in
    ok_weaker c.finish.result (λ count. LeadsFrom (ResidentTurn mid holds h c.args.counted c.args.since c.args.pid) (TurnDone mid new j c.args.pid count))
    (λ count. LeadsFrom (RestAt old (marks.Turn c.args.pid c.args.since) c.args.counted holds i) (RestDone old new (marks.Turn c.args.pid c.args.since) count j))
    (λ count f. turn_rests old mid new c.args.pid c.args.since c.args.counted c.count_behind.result count holds i h j c.count_behind.ensures below (sym c.may_step.ensures ∙ c.if-not-may_step.false)
    (c.in_ok-come_in.ensures.comes c.args.counted c.args.since) f)
    (subst (λ hs. IfOk c.finish.result (λ count. LeadsFrom (ResidentTurn mid hs h c.args.counted c.args.since c.args.pid) (TurnDone mid new j c.args.pid count)))
    c.in_ok-come_in.ensures.outside.files.holds c.finish.ensures.done)

pub returns-clause-stops : goal.returns-clause-stops
returns-clause-stops g c =
    let old = c.args.m.now in
    let mid = c.come_in.new.m in
    let new = c.finish.new.m in
    let holds = g.F.Files.holds c.args.files.now in
    let i = stores g.F.Files g.D.SwapDev c.args.files.now c.args.swap.now in
    let h = stores g.F.Files g.D.SwapDev c.come_in.new.files c.come_in.new.swap in
    let j = stores g.F.Files g.D.SwapDev c.finish.new.files c.finish.new.swap in
    let below : c.args.counted < c.count_behind.result = let l = c.if-counted-count_behind.false in omega (arith, l) in
    stops_weaker c.finish.result (λ stop. StopsFrom (ResidentTurn mid holds h c.args.counted c.args.since c.args.pid) mid new j stop)
    (λ stop. StopsFrom (RestAt old (marks.Turn c.args.pid c.args.since) c.args.counted holds i) old new j stop)
    (λ stop f. turn_stops old mid new c.args.pid c.args.since c.args.counted c.count_behind.result holds i h j stop c.count_behind.ensures below (sym c.may_step.ensures ∙ c.if-not-may_step.false)
    (c.in_ok-come_in.ensures.comes c.args.counted c.args.since) f)
    (subst (λ hs. IfErr c.finish.result (λ stop. StopsFrom (ResidentTurn mid hs h c.args.counted c.args.since c.args.pid) mid new j stop))
    c.in_ok-come_in.ensures.outside.files.holds c.finish.ensures.stops)
