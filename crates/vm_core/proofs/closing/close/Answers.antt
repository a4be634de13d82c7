use Rattle.io_edge.specs.WithFiles.{stores}
use Rattle.std.proofs.Common.{◌∙◌, subst, refl, arith, None}
use Rattle.vm_core.proofs.Noting.{stops_on}
use Rattle.vm_core.proofs.Closings.{closing_starts, closing_on, closing_stops, closing_ends}
use Rattle.machine_state.proofs.Transfers.{transfers_none, transfers_then}
use Rattle.proc_run.specs.Sizes.{KeptAtStop}
use Rattle.proc_run.specs.Stepped.{LeadsFrom, StopsFrom}
use Rattle.proc_run.proofs.StopsKeep.{kept_through}
use Rattle.vm_core.proofs.closing.close.Goals as goal
use Rattle.vm_core.specs.Closing.{DueTurn, TurnHad, LinesAre}

pub loop-pid-init : goal.loop-pid-init
loop-pid-init g c = record {
  closes = closing_starts c.args.m.now c.args.counted (g.F.Files.holds c.args.files.now) (stores g.F.Files g.D.SwapDev c.args.files.now c.args.swap.now);
  steady = c.requires.steady;
  params = refl;
  images = refl;
  counted = c.requires.counted;
  more = omega arith;
  few = omega arith;
  outside = transfers_none g.met.F.Files.leads_nowhere g.met.D.SwapDev.leads_nowhere c.args.files.now c.args.swap.now;
}

pub returns-in_err-more-clause-stops : goal.returns-in_err-more-clause-stops
returns-in_err-more-clause-stops g c =
    let old = c.args.m.now in
    let holds = g.F.Files.holds c.args.files.now in
    let i = stores g.F.Files g.D.SwapDev c.args.files.now c.args.swap.now in
    let h = stores g.F.Files g.D.SwapDev c.loop-pid.files c.loop-pid.swap in
    let j = stores g.F.Files g.D.SwapDev c.turn.new.files c.turn.new.swap in
    let stop = c.in_err-more.field-0.0 in
    stops_on c.from_residual.result stop (StopsFrom (LinesAre old holds i c.args.counted) old c.turn.new.m j) c.from_residual.ensures.1
    (closing_stops old c.loop-pid.m c.turn.new.m holds i h j c.args.counted c.loop-pid.count c.loop-pid.last c.loop-pid.idle c.in-Some.pid stop c.loop-pid.invariant.closes
    c.in-Some.ensures.some c.in-Some.ensures.below
    (subst (λ hs. StopsFrom (DueTurn c.loop-pid.m hs h c.loop-pid.count c.in-Some.pid) c.loop-pid.m c.turn.new.m j stop) c.loop-pid.invariant.outside.files.holds c.in_err-more.ensures.stops))

pub loop-pid-preserved : goal.loop-pid-preserved
loop-pid-preserved g c =
    let old = c.args.m.now in
    let holds = g.F.Files.holds c.args.files.now in
    let i = stores g.F.Files g.D.SwapDev c.args.files.now c.args.swap.now in
    let h = stores g.F.Files g.D.SwapDev c.loop-pid.files c.loop-pid.swap in
    let j = stores g.F.Files g.D.SwapDev c.turn.new.files c.turn.new.swap in
    let so = c.loop-pid.invariant in
    record {
      closes = closing_on old c.loop-pid.m c.turn.new.m holds i h j c.args.counted c.loop-pid.count c.loop-pid.last c.loop-pid.idle c.in-Some.pid c.in_ok-more.more c.idle_behind-idle.result
          so.closes c.in-Some.ensures.some c.in-Some.ensures.below
          (subst (λ hs. LeadsFrom (DueTurn c.loop-pid.m hs h c.loop-pid.count c.in-Some.pid) (TurnHad c.loop-pid.m c.turn.new.m hs j c.in-Some.pid c.in_ok-more.more)) so.outside.files.holds
          c.in_ok-more.ensures.had) c.idle_behind-idle.ensures.kind;
      steady = c.in_ok-more.ensures.counts.steady;
      params = c.in_ok-more.ensures.counts.params ∙ so.params;
      images = c.in_ok-more.ensures.counts.images ∙ so.images;
      counted = c.in_ok-more.ensures.counts.counts;
      more = let a = c.in_ok-more.ensures.counts.more in let b = so.more in omega arith;
      few = c.idle_behind-idle.ensures.few;
      outside = transfers_then {stop = None} g.met.F.Files.leads_through g.met.D.SwapDev.leads_through so.outside c.in_ok-more.ensures.outside;
    }

pub returns-clause-closes : goal.returns-clause-closes
returns-clause-closes g c =
    closing_ends c.args.m.now c.loop-pid.m (g.F.Files.holds c.args.files.now) (stores g.F.Files g.D.SwapDev c.args.files.now c.args.swap.now)
    (stores g.F.Files g.D.SwapDev c.loop-pid.files c.loop-pid.swap) c.args.counted c.loop-pid.count c.loop-pid.last
    c.loop-pid.idle c.loop-pid.invariant.closes (c.next_turn.ensures.none c.in_default.is)

pub returns-in_err-more-clause-kept : goal.returns-in_err-more-clause-kept
returns-in_err-more-clause-kept g c =
    let so = c.loop-pid.invariant in
    stops_on c.from_residual.result c.in_err-more.field-0.0 (KeptAtStop c.args.m.now c.turn.new.m) c.from_residual.ensures.1
    (kept_through c.args.m.now c.loop-pid.m c.turn.new.m c.in_err-more.field-0.0 (record { params = so.params; images = so.images }) c.in_err-more.ensures.kept)
