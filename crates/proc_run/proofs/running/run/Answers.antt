use Rattle.io_edge.specs.WithFiles.{stores}
use Rattle.std.proofs.Common.{◌+◌, ◌-◌, ◌<◌, ◌≤◌, ◌∙◌, sym, subst, refl, arith, None}
use Rattle.std.specs.Prelude.{IfSome}
use Rattle.vm_facts.specs.declared.regs.Regs.{Regs}
use Rattle.std.proofs.lemmas.Result.{err_from_is_err_and}
use Rattle.step_units.specs.Ready.{Continues}
use Rattle.proc_run.specs.declared.advancing.Advance.TheVariants as advances
use Rattle.proc_run.specs.Calls.{own_answers}
use Rattle.proc_run.specs.Runs.{is_now, counts, HasRunner, AdvancesTo}
use Rattle.proc_run.specs.Stretch.{MissesByte}
use Rattle.proc_run.proofs.SoFar.{ran_far, ran_all_continue, none_so_far, counted_far, served_far, stuck_runs, stops_far, idle_runs, done_runs, waited_runs, steady_on, lends_there}
use Rattle.machine_state.proofs.Transfers.{transfers_none, transfers_then}
use Rattle.step_units.proofs.StopsKeep.{kept_through}
use Rattle.step_units.specs.Stepped.{LeadsFrom, StopsFrom}
use Rattle.proc_run.proofs.running.run.Goals as goal

pub loop-count-init : goal.loop-count-init
loop-count-init g c = record {
  steady = c.requires.steady;
  params = refl;
  images = refl;
  counts = c.requires.counted;
  more = omega arith;
  few = omega arith;
  so_far = none_so_far c.args.m.now c.args.pid (is_now c.args.patience) c.args.counted c.args.until (g.F.Files.holds c.args.files.now) (stores g.F.Files g.D.SwapDev c.args.files.now c.args.swap.now);
  known = tt;
  outside = transfers_none g.met.F.Files.leads_nowhere g.met.D.SwapDev.leads_nowhere c.args.files.now c.args.swap.now;
}

pub returns-in_default-clause-runs : goal.returns-in_default-clause-runs
returns-in_default-clause-runs g c =
    let so = c.loop-count.invariant in
    idle_runs c.args.m.now c.loop-count.m c.args.pid (is_now c.args.patience) c.args.counted c.args.until (g.F.Files.holds c.args.files.now)
    (stores g.F.Files g.D.SwapDev c.args.files.now c.args.swap.now)
    (stores g.F.Files g.D.SwapDev c.loop-count.files c.loop-count.swap) c.loop-count.count c.loop-count.waits so.so_far (c.ready_regs.ensures.none c.in_default.is)

pub advance_from-requires-clause-lends : goal.advance_from-requires-clause-lends
advance_from-requires-clause-lends g c = lends_there c.loop-count.m c.args.pid c.loop-count.invariant.steady c.in-Some.ensures.ready

pub advance_from-requires-clause-known : goal.advance_from-requires-clause-known
advance_from-requires-clause-known g c =
    subst (λ (rs : Regs). IfSome c.loop-count.missed (MissesByte (own_answers c.loop-count.m c.args.pid) rs)) (sym c.in-Some.ensures.registers) c.loop-count.invariant.known

pub returns-in_err-advance_from-clause-stops : goal.returns-in_err-advance_from-clause-stops
returns-in_err-advance_from-clause-stops g c =
    let so = c.loop-count.invariant in
    let e = err_from_is_err_and c.from_residual.result c.from_residual.ensures.1 in
    rw (e.1, e.2) (
    stops_far c.args.m.now c.loop-count.m c.advance_from.new.m c.args.pid (is_now c.args.patience) c.args.counted c.args.until (g.F.Files.holds c.args.files.now)
    (stores g.F.Files g.D.SwapDev c.args.files.now c.args.swap.now)
    (stores g.F.Files g.D.SwapDev c.loop-count.files c.loop-count.swap) (stores g.F.Files g.D.SwapDev c.advance_from.new.files c.advance_from.new.swap) c.loop-count.count
    c.loop-count.waits so.so_far c.loop-count-test.true c.in-Some.ensures.ready
    c.in_err-advance_from.field-0.0
    (subst (λ hs. StopsFrom (HasRunner c.loop-count.m hs (stores g.F.Files g.D.SwapDev c.loop-count.files c.loop-count.swap) c.args.pid (is_now c.args.patience)) c.loop-count.m c.advance_from.new.m
    (stores g.F.Files g.D.SwapDev c.advance_from.new.files c.advance_from.new.swap) c.in_err-advance_from.field-0.0) so.outside.files.holds c.in_err-advance_from.ensures.stops))

pub run_on-reach-requires-clause-steady : goal.run_on-reach-requires-clause-steady
run_on-reach-requires-clause-steady g c =
    let on : Continues c.loop-count.m c.advance_from.new.m (counts advances.Counted) =
    subst (λ a. Continues c.loop-count.m c.advance_from.new.m (counts a)) c.in-Counted.is c.in_ok-advance_from.ensures.continues in
    steady_on c.loop-count.m c.advance_from.new.m 1 c.loop-count.invariant.steady on c.in_ok-advance_from.ensures.goes_on

pub run_on-reach-requires-clause-fits : goal.run_on-reach-requires-clause-fits
run_on-reach-requires-clause-fits g c =
    let on : Continues c.loop-count.m c.advance_from.new.m (counts advances.Counted) =
    subst (λ a. Continues c.loop-count.m c.advance_from.new.m (counts a)) c.in-Counted.is c.in_ok-advance_from.ensures.continues in
    let a = on.counted in
    let b = c.loop-count.invariant.counts in
    let room : c.loop-count.count < c.args.until = c.loop-count-test.true in
    let fits = c.ranges.until.fits in
    omega (arith, a, b, room, fits)

pub loop-count-preserved-in-Counted : goal.loop-count-preserved-in-Counted
loop-count-preserved-in-Counted g c =
    let so = c.loop-count.invariant in
    let on : Continues c.loop-count.m c.advance_from.new.m (counts advances.Counted) =
    subst (λ a. Continues c.loop-count.m c.advance_from.new.m (counts a)) c.in-Counted.is c.in_ok-advance_from.ensures.continues in
    let led : LeadsFrom (HasRunner c.loop-count.m (g.F.Files.holds c.args.files.now) (stores g.F.Files g.D.SwapDev c.loop-count.files c.loop-count.swap) c.args.pid (is_now c.args.patience))
    (AdvancesTo c.loop-count.m.kernel c.advance_from.new.m.kernel (stores g.F.Files g.D.SwapDev c.advance_from.new.files c.advance_from.new.swap) advances.Counted) =
    subst (λ hs. LeadsFrom (HasRunner c.loop-count.m hs (stores g.F.Files g.D.SwapDev c.loop-count.files c.loop-count.swap) c.args.pid (is_now c.args.patience))
    (AdvancesTo c.loop-count.m.kernel c.advance_from.new.m.kernel (stores g.F.Files g.D.SwapDev c.advance_from.new.files c.advance_from.new.swap) advances.Counted))
    so.outside.files.holds
    (subst (λ a. LeadsFrom (HasRunner c.loop-count.m (g.F.Files.holds c.loop-count.files) (stores g.F.Files g.D.SwapDev c.loop-count.files c.loop-count.swap) c.args.pid (is_now c.args.patience))
    (AdvancesTo c.loop-count.m.kernel c.advance_from.new.m.kernel (stores g.F.Files g.D.SwapDev c.advance_from.new.files c.advance_from.new.swap) a)) c.in-Counted.is
    c.in_ok-advance_from.ensures.advances) in
    let one = counted_far c.args.m.now c.loop-count.m c.advance_from.new.m c.args.pid (is_now c.args.patience) c.args.counted c.args.until (g.F.Files.holds c.args.files.now)
    (stores g.F.Files g.D.SwapDev c.args.files.now c.args.swap.now) (stores g.F.Files g.D.SwapDev c.loop-count.files c.loop-count.swap)
    (stores g.F.Files g.D.SwapDev c.advance_from.new.files c.advance_from.new.swap) c.loop-count.count c.loop-count.waits so.so_far c.loop-count-test.true
    c.in-Some.ensures.ready on.params on.images led in
    let steady = steady_on c.loop-count.m c.advance_from.new.m 1 so.steady on c.in_ok-advance_from.ensures.goes_on in
    let further = ran_all_continue c.run_on-reach.result.count c.args.pid c.advance_from.new.m c.run_on-reach.new.m on.clear c.run_on-reach.ensures.ran in
    let most : c.run_on-reach.result.count ≤ c.args.until - (c.loop-count.count + 1) = c.run_on-reach.ensures.few in
    let room : c.loop-count.count < c.args.until = c.loop-count-test.true in
    let few : c.loop-count.count + 1 + c.run_on-reach.result.count ≤ c.args.until = omega arith in
    record {
      steady = steady_on c.advance_from.new.m c.run_on-reach.new.m c.run_on-reach.result.count steady further c.run_on-reach.ensures.goes_on;
      params = further.params ∙ on.params ∙ so.params;
      images = further.images ∙ on.images ∙ so.images;
      counts = let a = on.counted in let b = so.counts in let d = further.counted in omega arith;
      more = let a = so.more in omega arith;
      few = omega arith;
      so_far = ran_far c.run_on-reach.result.count c.args.pid c.args.m.now c.advance_from.new.m c.run_on-reach.new.m (is_now c.args.patience) c.args.counted c.args.until
          (g.F.Files.holds c.args.files.now) (stores g.F.Files g.D.SwapDev c.args.files.now c.args.swap.now)
          (stores g.F.Files g.D.SwapDev c.advance_from.new.files c.advance_from.new.swap) (c.loop-count.count + 1) one c.run_on-reach.ensures.ran few;
      known = c.run_on-reach.ensures.missed;
      outside = transfers_then {stop = None} g.met.F.Files.leads_through g.met.D.SwapDev.leads_through so.outside c.in_ok-advance_from.ensures.outside;
    }

pub loop-count-preserved : goal.loop-count-preserved
loop-count-preserved g c =
    let so = c.loop-count.invariant in
    let on : Continues c.loop-count.m c.advance_from.new.m (counts advances.Served) =
    subst (λ a. Continues c.loop-count.m c.advance_from.new.m (counts a)) c.in-Served.is c.in_ok-advance_from.ensures.continues in
    let led : LeadsFrom (HasRunner c.loop-count.m (g.F.Files.holds c.args.files.now) (stores g.F.Files g.D.SwapDev c.loop-count.files c.loop-count.swap) c.args.pid (is_now c.args.patience))
    (AdvancesTo c.loop-count.m.kernel c.advance_from.new.m.kernel (stores g.F.Files g.D.SwapDev c.advance_from.new.files c.advance_from.new.swap) advances.Served) =
    subst (λ hs. LeadsFrom (HasRunner c.loop-count.m hs (stores g.F.Files g.D.SwapDev c.loop-count.files c.loop-count.swap) c.args.pid (is_now c.args.patience))
    (AdvancesTo c.loop-count.m.kernel c.advance_from.new.m.kernel (stores g.F.Files g.D.SwapDev c.advance_from.new.files c.advance_from.new.swap) advances.Served))
    so.outside.files.holds
    (subst (λ a. LeadsFrom (HasRunner c.loop-count.m (g.F.Files.holds c.loop-count.files) (stores g.F.Files g.D.SwapDev c.loop-count.files c.loop-count.swap) c.args.pid (is_now c.args.patience))
    (AdvancesTo c.loop-count.m.kernel c.advance_from.new.m.kernel (stores g.F.Files g.D.SwapDev c.advance_from.new.files c.advance_from.new.swap) a)) c.in-Served.is
    c.in_ok-advance_from.ensures.advances) in
    record {
      steady = steady_on c.loop-count.m c.advance_from.new.m 0 so.steady on c.in_ok-advance_from.ensures.goes_on;
      params = on.params ∙ so.params;
      images = on.images ∙ so.images;
      counts = let a = on.counted in let b = so.counts in omega arith;
      more = so.more;
      few = let w = c.if-waits-lt-MOST_WAITS.true in omega arith;
      so_far = served_far c.args.m.now c.loop-count.m c.advance_from.new.m c.args.pid (is_now c.args.patience) c.args.counted c.args.until (g.F.Files.holds c.args.files.now)
          (stores g.F.Files g.D.SwapDev c.args.files.now c.args.swap.now) (stores g.F.Files g.D.SwapDev c.loop-count.files c.loop-count.swap)
          (stores g.F.Files g.D.SwapDev c.advance_from.new.files c.advance_from.new.swap) c.loop-count.count c.loop-count.waits so.so_far c.loop-count-test.true
          c.in-Some.ensures.ready on.params on.images led;
      known = tt;
      outside = transfers_then {stop = None} g.met.F.Files.leads_through g.met.D.SwapDev.leads_through so.outside c.in_ok-advance_from.ensures.outside;
    }

pub returns-in-Stuck-clause-runs : goal.returns-in-Stuck-clause-runs
returns-in-Stuck-clause-runs g c =
    let so = c.loop-count.invariant in
    let on : Continues c.loop-count.m c.advance_from.new.m (counts advances.Stuck) =
    subst (λ a. Continues c.loop-count.m c.advance_from.new.m (counts a)) c.in-Stuck.is c.in_ok-advance_from.ensures.continues in
    let led : LeadsFrom (HasRunner c.loop-count.m (g.F.Files.holds c.args.files.now) (stores g.F.Files g.D.SwapDev c.loop-count.files c.loop-count.swap) c.args.pid (is_now c.args.patience))
    (AdvancesTo c.loop-count.m.kernel c.advance_from.new.m.kernel (stores g.F.Files g.D.SwapDev c.advance_from.new.files c.advance_from.new.swap) advances.Stuck) =
    subst (λ hs. LeadsFrom (HasRunner c.loop-count.m hs (stores g.F.Files g.D.SwapDev c.loop-count.files c.loop-count.swap) c.args.pid (is_now c.args.patience))
    (AdvancesTo c.loop-count.m.kernel c.advance_from.new.m.kernel (stores g.F.Files g.D.SwapDev c.advance_from.new.files c.advance_from.new.swap) advances.Stuck))
    so.outside.files.holds
    (subst (λ a. LeadsFrom (HasRunner c.loop-count.m (g.F.Files.holds c.loop-count.files) (stores g.F.Files g.D.SwapDev c.loop-count.files c.loop-count.swap) c.args.pid (is_now c.args.patience))
    (AdvancesTo c.loop-count.m.kernel c.advance_from.new.m.kernel (stores g.F.Files g.D.SwapDev c.advance_from.new.files c.advance_from.new.swap) a)) c.in-Stuck.is
    c.in_ok-advance_from.ensures.advances) in
    stuck_runs c.args.m.now c.loop-count.m c.advance_from.new.m c.args.pid (is_now c.args.patience) c.args.counted c.args.until (g.F.Files.holds c.args.files.now)
    (stores g.F.Files g.D.SwapDev c.args.files.now c.args.swap.now) (stores g.F.Files g.D.SwapDev c.loop-count.files c.loop-count.swap)
    (stores g.F.Files g.D.SwapDev c.advance_from.new.files c.advance_from.new.swap) c.loop-count.count c.loop-count.waits so.so_far c.loop-count-test.true
    c.in-Some.ensures.ready on.params on.images led

pub returns-else-waits-lt-MOST_WAITS-clause-runs : goal.returns-else-waits-lt-MOST_WAITS-clause-runs
returns-else-waits-lt-MOST_WAITS-clause-runs g c =
    let so = c.loop-count.invariant in
    waited_runs c.args.m.now c.loop-count.m c.args.pid (is_now c.args.patience) c.args.counted c.args.until (g.F.Files.holds c.args.files.now)
    (stores g.F.Files g.D.SwapDev c.args.files.now c.args.swap.now)
    (stores g.F.Files g.D.SwapDev c.loop-count.files c.loop-count.swap) c.loop-count.count c.loop-count.waits so.so_far c.if-waits-lt-MOST_WAITS.false

pub returns-after-loop-count-clause-runs : goal.returns-after-loop-count-clause-runs
returns-after-loop-count-clause-runs g c =
    let so = c.loop-count.invariant in
    done_runs c.args.m.now c.loop-count.m c.args.pid (is_now c.args.patience) c.args.counted c.args.until (g.F.Files.holds c.args.files.now)
    (stores g.F.Files g.D.SwapDev c.args.files.now c.args.swap.now)
    (stores g.F.Files g.D.SwapDev c.loop-count.files c.loop-count.swap) c.loop-count.count c.loop-count.waits so.so_far c.loop-count-test.false

pub returns-in_err-advance_from-clause-kept : goal.returns-in_err-advance_from-clause-kept
returns-in_err-advance_from-clause-kept g c =
    let so = c.loop-count.invariant in
    let e = err_from_is_err_and c.from_residual.result c.from_residual.ensures.1 in
    rw (e.1, e.2) (kept_through c.args.m.now c.loop-count.m c.advance_from.new.m c.in_err-advance_from.field-0.0 (record { params = so.params; images = so.images }) c.in_err-advance_from.ensures.kept)
