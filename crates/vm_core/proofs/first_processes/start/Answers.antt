use Rattle.io_edge.specs.WithFiles.{stores}
use Rattle.std.proofs.Common.{◌≡◌, ◌≤◌, ◌∙◌, length, sym, arith}
use Rattle.std.proofs.lemmas.Result.{err_from_is_err_and}
use Rattle.vm_core.proofs.StartGoesOn.{new_frames, goes_on}
use Rattle.vm_core.proofs.Led.{all_began, start_leads, start_stops, begin_stops}
use Rattle.vm_core.proofs.Placing.{answers_as}
use Rattle.proc_run.proofs.StopsKeep.{kept_through, never_full}
use Rattle.vm_core.proofs.first_processes.start.Goals as goal

pub fill_rest-requires-clause-frames : goal.fill_rest-requires-clause-frames
fill_rest-requires-clause-frames g c =
    let many = c.requires.frames in
    let same : length c.begin_all.new.m.kernel.place.holds ≡ c.args.m.now.params.frames = c.in_ok-started.ensures.frames ∙ new_frames c.args.m.now c.requires.new in
    omega (arith, many, same)

pub returns-in_ok-fill_rest-in-Ok-clause-space : goal.returns-in_ok-fill_rest-in-Ok-clause-space
returns-in_ok-fill_rest-in-Ok-clause-space g c A s =
    sym c.in-Ok.is ∙ answers_as A c.in_ok-started.started c.args.first.now c.args.m.now c.begin_all.new.m c.requires.new s c.in_ok-started.ensures.began

pub returns-in-NoSpace-clause-space : goal.returns-in-NoSpace-clause-space
returns-in-NoSpace-clause-space g c A s = sym c.in-NoSpace.is ∙ answers_as A c.in_ok-started.started c.args.first.now c.args.m.now c.begin_all.new.m c.requires.new s c.in_ok-started.ensures.began

pub returns-in_ok-fill_rest-in-Ok-clause-goes_on : goal.returns-in_ok-fill_rest-in-Ok-clause-goes_on
returns-in_ok-fill_rest-in-Ok-clause-goes_on g c _ =
    goes_on c.args.m.now c.begin_all.new.m c.fill_rest.new.m c.requires.new c.begin_all.ensures.sizes c.in_ok-started.ensures.frames c.begin_all.ensures.journal
    c.in_ok-fill_rest-in-Ok.ensures.continues c.in_ok-fill_rest-in-Ok.ensures.goes_on

pub returns-in_ok-fill_rest-in-Ok-clause-leads : goal.returns-in_ok-fill_rest-in-Ok-clause-leads
returns-in_ok-fill_rest-in-Ok-clause-leads g c A image told e _ =
    let b = all_began c.in_ok-started.started c.args.first.now c.args.m.now c.begin_all.new.m c.in-Ok.is c.in_ok-started.ensures.began in
    start_leads A c.args.first.now c.args.m.now c.begin_all.new.m (g.F.Files.holds c.args.files.now) image c.requires.new c.requires.frames told b c.begin_all.ensures.sizes c.fill_rest.new.m
    (stores g.F.Files g.D.SwapDev c.args.files.now c.args.swap.now) (stores g.F.Files g.D.SwapDev c.fill_rest.new.files c.fill_rest.new.swap) e c.in_ok-fill_rest-in-Ok.ensures.leads

pub returns-in_err-fill_rest-in-Ok-clause-stops : goal.returns-in_err-fill_rest-in-Ok-clause-stops
returns-in_err-fill_rest-in-Ok-clause-stops g c A image told e =
    let b = all_began c.in_ok-started.started c.args.first.now c.args.m.now c.begin_all.new.m c.in-Ok.is c.in_ok-started.ensures.began in
    let p = err_from_is_err_and c.from_residual-in_err-fill_rest-in-Ok.result c.from_residual-in_err-fill_rest-in-Ok.ensures.1 in
    rw (p.1, p.2)
    (start_stops A c.args.first.now c.args.m.now c.begin_all.new.m (g.F.Files.holds c.args.files.now) image c.requires.new c.requires.frames told b c.begin_all.ensures.sizes c.fill_rest.new.m
    (stores g.F.Files g.D.SwapDev c.args.files.now c.args.swap.now) (stores g.F.Files g.D.SwapDev c.fill_rest.new.files c.fill_rest.new.swap)
    c.in_err-fill_rest-in-Ok.field-0.0 e c.in_err-fill_rest-in-Ok.ensures.stops)

pub returns-in_err-started-clause-stops : goal.returns-in_err-started-clause-stops
returns-in_err-started-clause-stops g c A image told e =
    let p = err_from_is_err_and c.from_residual.result c.from_residual.ensures.1 in
    rw (p.1, p.2)
    (begin_stops A c.begin_all.new.m image c.in_err-started.field-0.0 (stores g.F.Files g.D.SwapDev c.args.files.now c.args.swap.now) c.in_err-started.ensures.cause
    c.in_err-started.ensures.stopped c.begin_all.ensures.journal e)

pub returns-in_err-started-clause-kept : goal.returns-in_err-started-clause-kept
returns-in_err-started-clause-kept g c =
    let p = err_from_is_err_and c.from_residual.result c.from_residual.ensures.1 in
    rw (p.1, p.2) (record {
      sizes = c.begin_all.ensures.sizes;
      full = λ e. never_full c.in_err-started.field-0.0 (c.begin_all.new.m.params.journal ≤ length c.begin_all.new.m.kernel.journal) c.in_err-started.ensures.cause e;
    })

pub returns-in_err-fill_rest-in-Ok-clause-kept : goal.returns-in_err-fill_rest-in-Ok-clause-kept
returns-in_err-fill_rest-in-Ok-clause-kept g c =
    let p = err_from_is_err_and c.from_residual-in_err-fill_rest-in-Ok.result c.from_residual-in_err-fill_rest-in-Ok.ensures.1 in
    rw (p.1, p.2) (kept_through c.args.m.now c.begin_all.new.m c.fill_rest.new.m c.in_err-fill_rest-in-Ok.field-0.0 c.begin_all.ensures.sizes c.in_err-fill_rest-in-Ok.ensures.kept)
