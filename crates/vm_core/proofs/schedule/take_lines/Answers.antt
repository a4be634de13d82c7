use Rattle.io_edge.specs.WithFiles.{stores}
use Rattle.std.proofs.Common.{◌≡◌, ◌+◌, ℕ, slice_index_or, slice_get, Some, sym, ap, ◌∙◌, subst, refl, arith, None}
use Rattle.std.proofs.lemmas.Option.{slice_get-get_or}
use Rattle.vm_facts.specs.declared.event.Event.TheVariants.{Dispatch}
use Rattle.vm_core.proofs.Noting.{stops_on}
use Rattle.vm_core.proofs.Going.{HasTaken, few_at, none_taken, line_taken, line_stops, limit_taken, goes_below}
use Rattle.machine_state.proofs.Transfers.{transfers_none, transfers_then}
use Rattle.proc_run.specs.Sizes.{KeptAtStop}
use Rattle.proc_run.specs.Stepped.{LeadsFrom, StopsFrom}
use Rattle.proc_run.proofs.StopsKeep.{kept_through}
use Rattle.vm_core.proofs.schedule.take_lines.Goals as goal
use Rattle.vm_core.specs.Cores.{LineDueAt, LineTaken}
use Rattle.vm_core.specs.Schedules.{IsBeforeLines}
use Rattle.vm_core.specs.Accounts.{StopsAccountedFrom}

pub loop-e-init : goal.loop-e-init
loop-e-init g c = record {
  takes = none_taken c.args.core.now c.args.lines.now (g.F.Files.holds c.args.files.now) (stores g.F.Files g.D.SwapDev c.args.files.now c.args.swap.now);
  goes_on = c.requires.goes_on;
  below = c.requires.below;
  number = refl;
  params = refl;
  images = refl;
  outside = transfers_none g.met.F.Files.leads_nowhere g.met.D.SwapDev.leads_nowhere c.args.files.now c.args.swap.now;
}

pub event-requires-clause-few : goal.event-requires-clause-few
event-requires-clause-few g c =
    few_at c.args.lines.now c.loop-e.e-index (slice_index_or c.args.lines.now c.loop-e.e-index (Dispatch 0 0)) c.requires.few
    (slice_get-get_or c.args.lines.now c.loop-e.e-index (Dispatch 0 0) c.loop-e-test.true)

pub returns-in_err-event-clause-stops : goal.returns-in_err-event-clause-stops
returns-in_err-event-clause-stops g c =
    let lines = c.args.lines.now in
    let holds = g.F.Files.holds c.args.files.now in
    let i = stores g.F.Files g.D.SwapDev c.args.files.now c.args.swap.now in
    let h = stores g.F.Files g.D.SwapDev c.loop-e.files c.loop-e.swap in
    let j = stores g.F.Files g.D.SwapDev c.event.new.files c.event.new.swap in
    let e = slice_index_or lines c.loop-e.e-index (Dispatch 0 0) in
    let stop = c.in_err-event.field-0.0 in
    let so = c.loop-e.invariant in
    stops_on c.from_residual.result stop (StopsFrom (IsBeforeLines c.args.core.now lines holds i) c.args.core.now.machine c.event.new.self.machine j) c.from_residual.ensures.1
    (line_stops c.args.core.now c.loop-e.core c.event.new.self c.loop-e.line e lines holds i h j stop so.takes
    (subst (λ (n : ℕ). slice_get lines n ≡ Some e) (sym so.number) (slice_get-get_or lines c.loop-e.e-index (Dispatch 0 0) c.loop-e-test.true)) so.below
    (subst (λ hs. StopsAccountedFrom (LineDueAt c.loop-e.core (c.loop-e.line + 1) e hs h) c.loop-e.core.machine c.event.new.self.machine j stop) so.outside.files.holds c.in_err-event.ensures.stops))

pub returns-in-LimitReached-clause-takes : goal.returns-in-LimitReached-clause-takes
returns-in-LimitReached-clause-takes g c =
    let lines = c.args.lines.now in
    let holds = g.F.Files.holds c.args.files.now in
    let i = stores g.F.Files g.D.SwapDev c.args.files.now c.args.swap.now in
    let h = stores g.F.Files g.D.SwapDev c.loop-e.files c.loop-e.swap in
    let j = stores g.F.Files g.D.SwapDev c.event.new.files c.event.new.swap in
    let e = slice_index_or lines c.loop-e.e-index (Dispatch 0 0) in
    let so = c.loop-e.invariant in
    limit_taken c.args.core.now c.event.new.self (c.loop-e.line + 1) lines holds i j
    (line_taken c.args.core.now c.loop-e.core c.event.new.self c.loop-e.line e lines holds i h j so.takes
    (subst (λ (n : ℕ). slice_get lines n ≡ Some e) (sym so.number) (slice_get-get_or lines c.loop-e.e-index (Dispatch 0 0) c.loop-e-test.true)) so.below
    (subst (λ hs. LeadsFrom (LineDueAt c.loop-e.core (c.loop-e.line + 1) e hs h) (LineTaken c.loop-e.core c.event.new.self hs j)) so.outside.files.holds c.in_ok-event.ensures.takes))
    (c.in_ok-event.ensures.limit.0 c.in-LimitReached.is)

pub loop-e-preserved : goal.loop-e-preserved
loop-e-preserved g c =
    let lines = c.args.lines.now in
    let holds = g.F.Files.holds c.args.files.now in
    let i = stores g.F.Files g.D.SwapDev c.args.files.now c.args.swap.now in
    let h = stores g.F.Files g.D.SwapDev c.loop-e.files c.loop-e.swap in
    let j = stores g.F.Files g.D.SwapDev c.event.new.files c.event.new.swap in
    let e = slice_index_or lines c.loop-e.e-index (Dispatch 0 0) in
    let so = c.loop-e.invariant in
    record {
      takes = line_taken c.args.core.now c.loop-e.core c.event.new.self c.loop-e.line e lines holds i h j so.takes
          (subst (λ (n : ℕ). slice_get lines n ≡ Some e) (sym so.number) (slice_get-get_or lines c.loop-e.e-index (Dispatch 0 0) c.loop-e-test.true)) so.below
          (subst (λ hs. LeadsFrom (LineDueAt c.loop-e.core (c.loop-e.line + 1) e hs h) (LineTaken c.loop-e.core c.event.new.self hs j)) so.outside.files.holds c.in_ok-event.ensures.takes);
      goes_on = c.in_ok-event.ensures.goes_on;
      below = goes_below c.in_ok-event.field-0 c.event.new.self.machine.params.limit c.event.new.self.counted c.in-Next.is c.in_ok-event.ensures.limit;
      number = ap (λ (n : ℕ). n + 1) so.number;
      params = c.in_ok-event.ensures.params ∙ so.params;
      images = c.in_ok-event.ensures.images ∙ so.images;
      outside = transfers_then {stop = None} g.met.F.Files.leads_through g.met.D.SwapDev.leads_through so.outside c.in_ok-event.ensures.outside;
    }

pub returns-clause-takes : goal.returns-clause-takes
returns-clause-takes g c =
    let so = c.loop-e.invariant in
    subst (λ (n : ℕ). HasTaken c.args.core.now c.loop-e.core n c.args.lines.now (g.F.Files.holds c.args.files.now)
    (stores g.F.Files g.D.SwapDev c.args.files.now c.args.swap.now) (stores g.F.Files g.D.SwapDev c.loop-e.files c.loop-e.swap))
    (let number = so.number in let low = c.loop-e-test.false in let high = c.loop-e.auto.e-index-end in omega arith) so.takes

pub returns-in_err-event-clause-kept : goal.returns-in_err-event-clause-kept
returns-in_err-event-clause-kept g c =
    let so = c.loop-e.invariant in
    stops_on c.from_residual.result c.in_err-event.field-0.0 (KeptAtStop c.args.core.now.machine c.event.new.self.machine) c.from_residual.ensures.1
    (kept_through c.args.core.now.machine c.loop-e.core.machine c.event.new.self.machine c.in_err-event.field-0.0 (record { params = so.params; images = so.images }) c.in_err-event.ensures.kept)
