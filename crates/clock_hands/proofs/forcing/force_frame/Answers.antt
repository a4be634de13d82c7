use Rattle.io_edge.specs.WithFiles.{stores}
use Rattle.std.proofs.Common.{◌≡◌, ◌<◌, [], arith, None}
use Rattle.std.proofs.lemmas.Result.{err_from_is_err_and}
use Rattle.page_model.specs.Rank.{far}
use Rattle.clock_hands.proofs.Forces.{none_free, falls_on, room_on, fits_on, forced_none, stops_here, forces_none, forces_one}
use Rattle.paging_units.proofs.Transfers.{transfers_none, transfers_then}
use Rattle.clock_hands.proofs.forcing.force_frame.Goals as goal

pub loop-m-init : goal.loop-m-init
loop-m-init g c = record {
  asks = c.requires.asks;
  room = c.requires.room;
  fits = c.requires.fits;
  so_far = forces_none c.args.locked.now c.args.m.now (g.F.Files.holds c.args.files.now) (stores g.F.Files g.D.SwapDev c.args.files.now c.args.swap.now);
  outside = transfers_none g.met.F.Files.leads_nowhere g.met.D.SwapDev.leads_nowhere c.args.files.now c.args.swap.now;
}

pub loop-m-preserved : goal.loop-m-preserved
loop-m-preserved g c =
    let so = c.loop-m.invariant in
    let locked = c.args.locked.now in
    let now = c.loop-m.m in
    let next = c.force_once.new.m in
    let holds = g.F.Files.holds c.args.files.now in
    let later = g.F.Files.holds c.loop-m.files in
    let latest = g.F.Files.holds c.force_once.new.files in
    let h = stores g.F.Files g.D.SwapDev c.loop-m.files c.loop-m.swap in
    let k = stores g.F.Files g.D.SwapDev c.force_once.new.files c.force_once.new.swap in
    let s = so.asks.ready.running.sound in
    let made = c.in_ok-force_once.ensures.made in
    let none : now.kernel.place.free ≡ [] = none_free now.kernel.place.free (omega arith) in
    let falls : far next.kernel.place locked < far now.kernel.place locked = falls_on locked now next later h k s.owner.frames s.hands so.room none made in
    record {
      asks = c.in_ok-force_once.ensures.goes_on.asks;
      room = room_on locked now next later h k s.owner.frames so.room made;
      fits = fits_on locked now next later h k falls made so.fits;
      so_far = forces_one locked c.args.m.now now next holds later latest (stores g.F.Files g.D.SwapDev c.args.files.now c.args.swap.now) h k c.in_ok-force_once.ensures.goes_on.outside.files.holds
          s.owner.frames s.hands so.room none made c.in_ok-force_once.ensures.keeps so.so_far;
      outside = transfers_then {stop = None} g.met.F.Files.leads_through g.met.D.SwapDev.leads_through so.outside c.in_ok-force_once.ensures.goes_on.outside;
    }

pub loop-m-smaller : goal.loop-m-smaller
loop-m-smaller g c =
    let so = c.loop-m.invariant in
    let now = c.loop-m.m in
    let s = so.asks.ready.running.sound in
    let none : now.kernel.place.free ≡ [] = none_free now.kernel.place.free (omega arith) in
    falls_on c.args.locked.now now c.force_once.new.m (g.F.Files.holds c.loop-m.files) (stores g.F.Files g.D.SwapDev c.loop-m.files c.loop-m.swap)
    (stores g.F.Files g.D.SwapDev c.force_once.new.files c.force_once.new.swap)
    s.owner.frames s.hands so.room none c.in_ok-force_once.ensures.made

pub returns-in_err-force_once-clause-stopped : goal.returns-in_err-force_once-clause-stopped
returns-in_err-force_once-clause-stopped g c =
    let so = c.loop-m.invariant in
    let now = c.loop-m.m in
    let none : now.kernel.place.free ≡ [] = none_free now.kernel.place.free (omega arith) in
    let p = err_from_is_err_and c.from_residual.result c.from_residual.ensures.1 in
    let stop = c.in_err-force_once.field-0.0 in
    let new = c.force_once.new.m in
    let j = stores g.F.Files g.D.SwapDev c.force_once.new.files c.force_once.new.swap in
    rw (p.1, p.2) (so.so_far.stops stop new j
    (stops_here c.args.locked.now now stop new (g.F.Files.holds c.loop-m.files) (stores g.F.Files g.D.SwapDev c.loop-m.files c.loop-m.swap) j none
    c.in_err-force_once.ensures.stopped))

pub returns-clause-forced : goal.returns-clause-forced
returns-clause-forced g c =
    let so = c.loop-m.invariant in
    let h = stores g.F.Files g.D.SwapDev c.loop-m.files c.loop-m.swap in
    so.so_far.more c.loop-m.m h (forced_none c.args.locked.now c.loop-m.m (g.F.Files.holds c.loop-m.files) h (omega arith))

pub returns-clause-keeps : goal.returns-clause-keeps
returns-clause-keeps g c =
    let so = c.loop-m.invariant in
    so.so_far.keeps c.loop-m.m (stores g.F.Files g.D.SwapDev c.loop-m.files c.loop-m.swap) (λ images flat a f t. t)
