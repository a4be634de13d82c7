use Rattle.io_edge.specs.WithFiles.{stores}
use Rattle.std.proofs.Common.{subst, rules, None}
use Rattle.std.proofs.lemmas.Result.{on_ok_weaker}
use Rattle.machine_state.specs.Swapping.{KeepsOut}
use Rattle.machine_state.proofs.Besides.{out_kept_beside}
use Rattle.swapper.specs.Putting.{IsStep, IsNext}
use Rattle.swapper.proofs.PutUnits.{puts_on, falls_on, stops_here, holder_resides, if_err, puts_none, puts_one}
use Rattle.swapper.proofs.Leaving.{left_outside, left_asks}
use Rattle.machine_state.proofs.Transfers.{transfers_none, transfers_then}
use Rattle.swapper.proofs.putting_out.put_all.Goals as goal

pub loop-step-init : goal.loop-step-init
loop-step-init g c =
    let r = c.requires in
    record {
      puts = record { asks = r.asks; clear = r.clear; holds_there = r.holds; resident = r.resident };
      so_far = puts_none c.args.pid c.args.sid c.args.m.now (g.F.Files.holds c.args.files.now) (stores g.F.Files g.D.SwapDev c.args.files.now c.args.swap.now);
      outside = transfers_none g.met.F.Files.leads_nowhere g.met.D.SwapDev.leads_nowhere c.args.files.now c.args.swap.now;
    }

pub loop-step-preserved : goal.loop-step-preserved
loop-step-preserved g c =
    let so = c.loop-step.invariant in
    let now = c.loop-step.m in
    let next = c.put_once.new.m in
    let s : IsStep now.kernel.place c.args.sid c.in-Some.step = subst (IsNext now.kernel.place c.args.sid) c.in-Some.is c.next_step.ensures in
    let m = c.in_ok-put_once.ensures.made in
    let later = g.F.Files.holds c.loop-step.files in
    let latest = g.F.Files.holds c.put_once.new.files in
    let h = stores g.F.Files g.D.SwapDev c.loop-step.files c.loop-step.swap in
    let k = stores g.F.Files g.D.SwapDev c.put_once.new.files c.put_once.new.swap in
    record {
      puts = puts_on now next c.args.pid c.args.sid c.in-Some.step later h k s m latest (g.D.SwapDev.blocks c.loop-step.swap) (g.D.SwapDev.blocks c.put_once.new.swap)
          c.in_ok-put_once.ensures.goes_on.outside.files.holds c.in_ok-put_once.ensures.goes_on.outside.swap.blocks c.in_ok-put_once.ensures.goes_on.asks.ready so.puts;
      so_far = puts_one c.args.pid c.args.sid c.args.m.now now next c.in-Some.step (g.F.Files.holds c.args.files.now) later latest (stores g.F.Files g.D.SwapDev c.args.files.now c.args.swap.now) h k
          c.in_ok-put_once.ensures.goes_on.outside.files.holds s so.puts.resident m c.in_ok-put_once.ensures.keeps so.so_far;
      outside = transfers_then {stop = None} g.met.F.Files.leads_through g.met.D.SwapDev.leads_through so.outside c.in_ok-put_once.ensures.goes_on.outside;
    }

pub loop-step-smaller : goal.loop-step-smaller
loop-step-smaller g c =
    let so = c.loop-step.invariant in
    let now = c.loop-step.m in
    let s : IsStep now.kernel.place c.args.sid c.in-Some.step = subst (IsNext now.kernel.place c.args.sid) c.in-Some.is c.next_step.ensures in
    falls_on now c.put_once.new.m c.args.pid c.args.sid c.in-Some.step (g.F.Files.holds c.loop-step.files)
    (stores g.F.Files g.D.SwapDev c.loop-step.files c.loop-step.swap) (stores g.F.Files g.D.SwapDev c.put_once.new.files c.put_once.new.swap) s
    c.in_ok-put_once.ensures.made so.puts.asks.ready.running.sound.owner.frames
    (holder_resides now.kernel c.args.pid c.args.sid so.puts.asks.ready.running.numbered.residents so.puts.holds_there.holds) so.puts.resident

pub returns-in_err-put_once-clause-stopped : goal.returns-in_err-put_once-clause-stopped
returns-in_err-put_once-clause-stopped g c =
    let so = c.loop-step.invariant in
    let now = c.loop-step.m in
    let new = c.put_once.new.m in
    let j = stores g.F.Files g.D.SwapDev c.put_once.new.files c.put_once.new.swap in
    let here = if_err c.put_once.result
    (λ stop s. so.so_far.stops stop new j (stops_here c.args.pid c.args.sid now stop new (g.F.Files.holds c.loop-step.files)
    (stores g.F.Files g.D.SwapDev c.loop-step.files c.loop-step.swap) j so.puts.resident s)) c.put_once.ensures.stopped in
    search (here, rules)

pub returns-clause-put : goal.returns-clause-put
returns-clause-put g c =
    let so = c.loop-step.invariant in
    on_ok_weaker c.leave.result (so.so_far.more c.leave.new.m (stores g.F.Files g.D.SwapDev c.loop-step.files c.leave.new.swap))
    (c.leave.ensures.put (g.F.Files.notes c.loop-step.files) (g.F.Files.holds c.loop-step.files))

pub returns-clause-keeps : goal.returns-clause-keeps
returns-clause-keeps g c =
    let so = c.loop-step.invariant in
    let i = g.D.SwapDev.image c.loop-step.swap in
    let j = g.D.SwapDev.image c.leave.new.swap in
    on_ok_weaker c.leave.result
    (λ (k : KeepsOut c.loop-step.m.kernel c.leave.new.m.kernel i j). so.so_far.keeps c.leave.new.m (stores g.F.Files g.D.SwapDev c.loop-step.files c.leave.new.swap)
    (λ images flat loads fits stood. out_kept_beside c.loop-step.m.kernel c.leave.new.m.kernel i j (g.F.Files.notes c.loop-step.files) k images flat stood))
    c.leave.ensures.keeps

pub returns-clause-stopped : goal.returns-clause-stopped
returns-clause-stopped g c =
    let so = c.loop-step.invariant in
    if_err c.leave.result (λ stop. so.so_far.stops stop c.leave.new.m (stores g.F.Files g.D.SwapDev c.loop-step.files c.leave.new.swap))
    (c.leave.ensures.stopped (g.F.Files.notes c.loop-step.files) (g.F.Files.holds c.loop-step.files))

pub returns-clause-goes_on : goal.returns-clause-goes_on
returns-clause-goes_on g c =
    let so = c.loop-step.invariant in
    let beside = on_ok_weaker c.leave.result (λ put. put.beside) (c.leave.ensures.put (g.F.Files.notes c.loop-step.files) (g.F.Files.holds c.loop-step.files)) in
    record {
      outside = left_outside g.F.Files g.D.SwapDev c.leave.result c.args.files.now c.loop-step.files c.args.swap.now c.loop-step.swap c.leave.new.swap
          g.met.F.Files.leads_through g.met.D.SwapDev.leads_through (g.met.F.Files.leads_nowhere c.loop-step.files) so.outside c.leave.ensures.outside c.leave.ensures.cause;
      asks = left_asks c.leave.result c.loop-step.m c.leave.new.m (g.F.Files.holds c.loop-step.files) (g.D.SwapDev.blocks c.loop-step.swap)
          (g.D.SwapDev.blocks c.leave.new.swap) c.leave.ensures.outside.blocks so.puts.asks beside c.leave.ensures.goes_on;
    }
