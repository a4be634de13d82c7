use Rattle.io_edge.specs.WithFiles.{stores}
use Rattle.std.proofs.Common.{sym, ap, ◌∙◌, subst}
use Rattle.std.proofs.lemmas.Result.{err_from_is_err_and}
use Rattle.vm_core.specs.StepUnitsRests.{before_done}
use Rattle.vm_core.specs.Stepped.{AtSome, LeadsFrom, StopsFrom, StepLeads}
use Rattle.vm_core.specs.Rests.{begun_by, BegunAt}
use Rattle.film_core.proofs.Settled.{fills_settle, finish_settles, finish_stops, finish_begun}
use Rattle.film_core.proofs.settling.settle.Goals as goal

-- A step is begun.

pub finish_step-requires-clause-begun : goal.finish_step-requires-clause-begun
finish_step-requires-clause-begun g c =
    let e = ap (λ es. begun_by (before_done es)) (sym c.journal.ensures) ∙ sym c.begun_step.ensures ∙ c.in-Some.is in
    subst (λ hs. AtSome (BegunAt c.fill_rest.new.m c.in-Some.begun hs (stores g.F.Files g.D.SwapDev c.fill_rest.new.files c.fill_rest.new.swap))) (sym c.in_ok-fill_rest.ensures.outside.files.holds)
    (finish_begun c.args.m.now c.fill_rest.new.m (g.F.Files.holds c.args.files.now) (stores g.F.Files g.D.SwapDev c.args.files.now c.args.swap.now)
    (stores g.F.Files g.D.SwapDev c.fill_rest.new.files c.fill_rest.new.swap) c.in-Some.begun
    c.requires.way c.in_ok-fill_rest.ensures.leads e)

pub returns-in_err-finish_step-in-Some-clause-stops : goal.returns-in_err-finish_step-in-Some-clause-stops
returns-in_err-finish_step-in-Some-clause-stops g c =
    let e = ap (λ es. begun_by (before_done es)) (sym c.journal.ensures) ∙ sym c.begun_step.ensures ∙ c.in-Some.is in
    let r = err_from_is_err_and c.from_residual-in_err-finish_step-in-Some.result c.from_residual-in_err-finish_step-in-Some.ensures.1 in
    rw (r.1, r.2) (
    finish_stops c.args.m.now c.fill_rest.new.m c.finish_step.new.m (g.F.Files.holds c.args.files.now) (stores g.F.Files g.D.SwapDev c.args.files.now c.args.swap.now)
    (stores g.F.Files g.D.SwapDev c.fill_rest.new.files c.fill_rest.new.swap)
    (stores g.F.Files g.D.SwapDev c.finish_step.new.files c.finish_step.new.swap) c.in-Some.begun c.in_err-finish_step-in-Some.field-0.0 c.in_ok-fill_rest.ensures.leads e
    (subst (λ hs. StopsFrom (BegunAt c.fill_rest.new.m c.in-Some.begun hs (stores g.F.Files g.D.SwapDev c.fill_rest.new.files c.fill_rest.new.swap)) c.fill_rest.new.m c.finish_step.new.m
    (stores g.F.Files g.D.SwapDev c.finish_step.new.files c.finish_step.new.swap) c.in_err-finish_step-in-Some.field-0.0)
    c.in_ok-fill_rest.ensures.outside.files.holds c.in_err-finish_step-in-Some.ensures.stops))

pub returns-in_ok-finish_step-in-Some-clause-settles : goal.returns-in_ok-finish_step-in-Some-clause-settles
returns-in_ok-finish_step-in-Some-clause-settles g c =
    let e = ap (λ es. begun_by (before_done es)) (sym c.journal.ensures) ∙ sym c.begun_step.ensures ∙ c.in-Some.is in
    finish_settles c.args.m.now c.fill_rest.new.m c.finish_step.new.m c.args.counted (g.F.Files.holds c.args.files.now)
    (stores g.F.Files g.D.SwapDev c.args.files.now c.args.swap.now) (stores g.F.Files g.D.SwapDev c.fill_rest.new.files c.fill_rest.new.swap)
    (stores g.F.Files g.D.SwapDev c.finish_step.new.files c.finish_step.new.swap) c.in-Some.begun c.in_ok-fill_rest.ensures.leads e
    (subst (λ hs. LeadsFrom (BegunAt c.fill_rest.new.m c.in-Some.begun hs (stores g.F.Files g.D.SwapDev c.fill_rest.new.files c.fill_rest.new.swap))
    (λ A s image. StepLeads A s c.fill_rest.new.m.kernel image 1 c.finish_step.new.m.kernel (stores g.F.Files g.D.SwapDev c.finish_step.new.files c.finish_step.new.swap)))
    c.in_ok-fill_rest.ensures.outside.files.holds c.in_ok-finish_step-in-Some.ensures.finishes)

-- None is.

pub returns-in-None-clause-settles : goal.returns-in-None-clause-settles
returns-in-None-clause-settles g c =
    let e = ap (λ es. begun_by (before_done es)) (sym c.journal.ensures) ∙ sym c.begun_step.ensures ∙ c.in-None.is in
    fills_settle c.args.m.now c.fill_rest.new.m c.args.counted (g.F.Files.holds c.args.files.now) (stores g.F.Files g.D.SwapDev c.args.files.now c.args.swap.now)
    (stores g.F.Files g.D.SwapDev c.fill_rest.new.files c.fill_rest.new.swap)
    c.in_ok-fill_rest.ensures.leads e
