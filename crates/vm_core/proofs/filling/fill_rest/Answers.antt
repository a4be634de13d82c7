use Rattle.io_edge.specs.WithFiles.{stores}
use Rattle.std.proofs.Common.{◌∙◌, sym, arith, None}
use Rattle.std.proofs.lemmas.Result.{err_from_is_err_and}
use Rattle.machine_state.proofs.Transfers.{transfers_none, transfers_then}
use Rattle.machine_state.proofs.Backing.{backed_on}
use Rattle.proc_run.specs.Ready.{RunsDue}
use Rattle.vm_core.specs.Filling.{due_of, IsDueFirst}
use Rattle.vm_core.proofs.Filled.{first_of, none_due, fewer, room_one, due_filled, filled_none, filled_one, filled_all, filled_goes_on, filled_stops, filled_kept}
use Rattle.vm_core.proofs.filling.fill_rest.Goals as goal

pub loop-page-init : goal.loop-page-init
loop-page-init g c = record {
  so_far = filled_none c.args.m.now (g.F.Files.holds c.args.files.now) (stores g.F.Files g.D.SwapDev c.args.files.now c.args.swap.now);
  asks = c.requires.asks;
  outside = transfers_none g.met.F.Files.leads_nowhere g.met.D.SwapDev.leads_nowhere c.args.files.now c.args.swap.now;
}

pub fill_first-requires-clause-first : goal.fill_first-requires-clause-first
fill_first-requires-clause-first g c = first_of c.loop-page.m.kernel.place c.in-Some.page c.in-Some.parent (sym c.due_at.ensures ∙ c.in-Some.is)

pub fill_first-requires-clause-room : goal.fill_first-requires-clause-room
fill_first-requires-clause-room g c =
    λ q. room_one c.loop-page.m.kernel.place q (let so = c.loop-page.invariant.so_far in let same = so.on.frames in let many = c.requires.frames in omega (arith, same, many))

pub returns-in_err-fill_first-clause-stops : goal.returns-in_err-fill_first-clause-stops
returns-in_err-fill_first-clause-stops g c =
    let now = c.loop-page.m in
    let first : IsDueFirst now.kernel.place (due_of c.in-Some.page c.in-Some.parent) = first_of now.kernel.place c.in-Some.page c.in-Some.parent (sym c.due_at.ensures ∙ c.in-Some.is) in
    let p = err_from_is_err_and c.from_residual.result c.from_residual.ensures.1 in
    rw (p.1, p.2) (filled_stops c.args.m.now now (g.F.Files.holds c.args.files.now) (g.F.Files.holds c.loop-page.files)
    (stores g.F.Files g.D.SwapDev c.args.files.now c.args.swap.now) (stores g.F.Files g.D.SwapDev c.loop-page.files c.loop-page.swap)
    c.loop-page.invariant.so_far c.fill_first.new.m (stores g.F.Files g.D.SwapDev c.fill_first.new.files c.fill_first.new.swap) (due_of c.in-Some.page c.in-Some.parent)
    c.in_err-fill_first.field-0.0 first
    c.in_err-fill_first.ensures.filled)

pub returns-in_err-fill_first-clause-kept : goal.returns-in_err-fill_first-clause-kept
returns-in_err-fill_first-clause-kept g c =
    let p = err_from_is_err_and c.from_residual.result c.from_residual.ensures.1 in
    rw (p.1, p.2)
    (filled_kept c.args.m.now c.loop-page.m (g.F.Files.holds c.args.files.now) (g.F.Files.holds c.loop-page.files)
    (stores g.F.Files g.D.SwapDev c.args.files.now c.args.swap.now) (stores g.F.Files g.D.SwapDev c.loop-page.files c.loop-page.swap)
    c.loop-page.invariant.so_far c.fill_first.new.m (stores g.F.Files g.D.SwapDev c.fill_first.new.files c.fill_first.new.swap) (due_of c.in-Some.page c.in-Some.parent)
    c.in_err-fill_first.field-0.0 c.in_err-fill_first.ensures.filled)

pub loop-page-smaller : goal.loop-page-smaller
loop-page-smaller g c =
    let now = c.loop-page.m in
    let next = c.fill_first.new.m in
    let d = due_of c.in-Some.page c.in-Some.parent in
    let first : IsDueFirst now.kernel.place d = first_of now.kernel.place c.in-Some.page c.in-Some.parent (sym c.due_at.ensures ∙ c.in-Some.is) in
    fewer now next d first
    (due_filled d first.others now next (g.F.Files.holds c.loop-page.files) (stores g.F.Files g.D.SwapDev c.loop-page.files c.loop-page.swap)
    (stores g.F.Files g.D.SwapDev c.fill_first.new.files c.fill_first.new.swap) first.first c.in_ok-fill_first.ensures.filled)

pub loop-page-preserved : goal.loop-page-preserved
loop-page-preserved g c =
    let now = c.loop-page.m in
    let next = c.fill_first.new.m in
    let d = due_of c.in-Some.page c.in-Some.parent in
    let first : IsDueFirst now.kernel.place d = first_of now.kernel.place c.in-Some.page c.in-Some.parent (sym c.due_at.ensures ∙ c.in-Some.is) in
    let one : RunsDue now next 0 first.others =
    due_filled d first.others now next (g.F.Files.holds c.loop-page.files) (stores g.F.Files g.D.SwapDev c.loop-page.files c.loop-page.swap)
    (stores g.F.Files g.D.SwapDev c.fill_first.new.files c.fill_first.new.swap) first.first c.in_ok-fill_first.ensures.filled in
    record {
      so_far = filled_one c.args.m.now now (g.F.Files.holds c.args.files.now) (g.F.Files.holds c.loop-page.files)
          (stores g.F.Files g.D.SwapDev c.args.files.now c.args.swap.now) (stores g.F.Files g.D.SwapDev c.loop-page.files c.loop-page.swap)
          c.loop-page.invariant.so_far next (g.F.Files.holds c.fill_first.new.files) (stores g.F.Files g.D.SwapDev c.fill_first.new.files c.fill_first.new.swap) d first
          c.in_ok-fill_first.ensures.outside.files.holds
          c.in_ok-fill_first.ensures.filled;
      asks = record {
        ready = c.in_ok-fill_first.ensures.goes_on;
        backed = backed_on now next (g.F.Files.holds c.loop-page.files) _ _ _ one.on.params one.on.images c.in_ok-fill_first.ensures.outside.files.holds
            c.in_ok-fill_first.ensures.outside.swap.blocks c.loop-page.invariant.asks.backed;
      };
      outside = transfers_then {stop = None} g.met.F.Files.leads_through g.met.D.SwapDev.leads_through c.loop-page.invariant.outside c.in_ok-fill_first.ensures.outside;
    }

pub returns-clause-leads : goal.returns-clause-leads
returns-clause-leads g c =
    filled_all c.args.m.now c.loop-page.m (g.F.Files.holds c.args.files.now) (g.F.Files.holds c.loop-page.files)
    (stores g.F.Files g.D.SwapDev c.args.files.now c.args.swap.now) (stores g.F.Files g.D.SwapDev c.loop-page.files c.loop-page.swap)
    c.loop-page.invariant.so_far (none_due c.loop-page.m.kernel.place.due (sym c.due_at.ensures ∙ c.in_default.is))

pub returns-clause-continues : goal.returns-clause-continues
returns-clause-continues g c =
    filled_goes_on c.args.m.now c.loop-page.m (g.F.Files.holds c.args.files.now) (g.F.Files.holds c.loop-page.files)
    (stores g.F.Files g.D.SwapDev c.args.files.now c.args.swap.now) (stores g.F.Files g.D.SwapDev c.loop-page.files c.loop-page.swap)
    c.loop-page.invariant.so_far (none_due c.loop-page.m.kernel.place.due (sym c.due_at.ensures ∙ c.in_default.is))
