use Rattle.io_edge.specs.WithFiles.{stores}
use Rattle.std.proofs.Common.{true}
use Rattle.vm_facts.specs.declared.stop.Stop.{Stop}
use Rattle.clock_hands.specs.Stops.{StopsWhile}
use Rattle.fault_fill.specs.Serving.{serving_page}
use Rattle.fault_fill.specs.Answers.{ServesNow, ServedNow}
use Rattle.fault_fill.proofs.Leading.{match_map}
use Rattle.fault_fill.proofs.Bounds.{match_ok, match_err, calls_low, serves_short, serves_takings, stops_short, spared}
use Rattle.fault_fill.proofs.calls.serve_page_now.Goals as goal

pub returns : goal.returns
returns g c =
    let q = c.args.page in
    let old = c.args.m.now in
    let new = c.serve_now_on.new.m in
    let holds = g.F.Files.holds c.args.files.now in
    let i = stores g.F.Files g.D.SwapDev c.args.files.now c.args.swap.now in
    let j = stores g.F.Files g.D.SwapDev c.serve_now_on.new.files c.serve_now_on.new.swap in
    let owner = c.requires.asks.ready.running.sound.owner.frames in
    let can = c.requires.can in
    let locked = c.args.locked.now in
    let serves = λ (u : Unit {0}). ServesNow locked q old new holds i j in
    let stops = λ (s : Stop). StopsWhile (serving_page true locked q) old new holds i j s in
    let made = c.serve_now_on.ensures.served in
    record {
      served = match_map serves (λ u. ServedNow locked q old new holds i j) stops stops c.serve_now_on.result
          (λ u m. (record { serves = m.0; takes = serves_takings true locked q old new holds i j owner can.there m.0 }, m.1)) (λ s m. m) made;
      few = match_ok serves stops c.serve_now_on.result (λ u m. serves_short true locked q old new holds i j owner can.there m.0) made;
      few_at_stop = match_err serves stops c.serve_now_on.result (λ s m. stops_short true locked q old new holds i j s owner can.there m) made;
      low = match_ok serves stops c.serve_now_on.result (λ u m. calls_low locked q old new holds i j owner can m.0 m.1) made;
      spares = match_ok serves stops c.serve_now_on.result (λ u m. spared m.0.units old.kernel.place new.kernel.place locked q true owner can m.0.leads) made;
      goes_on = c.serve_now_on.ensures.goes_on;
    }
