use Rattle.io_edge.specs.WithFiles.{stores}
use Rattle.std.proofs.Common.{[], false}
use Rattle.vm_facts.specs.declared.stop.Stop.{Stop}
use Rattle.clock_hands.specs.Stops.{StopsWhile}
use Rattle.fault_fill.specs.Serving.{serving_page}
use Rattle.fault_fill.specs.Answers.{ServesAs, ServedAs}
use Rattle.fault_fill.specs.declared.served.Served.{Served}
use Rattle.fault_fill.proofs.Leading.{match_map}
use Rattle.fault_fill.proofs.Bounds.{match_ok, match_err, calls_calm, serves_short, serves_takings, stops_short, all_stay}
use Rattle.fault_fill.proofs.calls.serve_page.Goals as goal

pub returns : goal.returns
returns g c =
    let q = c.args.page in
    let old = c.args.m.now in
    let new = c.serve_on.new.m in
    let holds = g.F.Files.holds c.args.files.now in
    let i = stores g.F.Files g.D.SwapDev c.args.files.now c.args.swap.now in
    let j = stores g.F.Files g.D.SwapDev c.serve_on.new.files c.serve_on.new.swap in
    let owner = c.requires.asks.ready.running.sound.owner.frames in
    let can = c.requires.can in
    let serves = λ (a : Served). ServesAs a q old new holds i j in
    let stops = λ (s : Stop). StopsWhile (serving_page false [] q) old new holds i j s in
    let made = c.serve_on.ensures.served in
    record {
      served = match_map serves (λ a. ServedAs a q old new holds i j) stops stops c.serve_on.result
          (λ a m. (record { serves = m.0; takes = serves_takings false [] q old new holds i j owner can.there m.0 }, m.1)) (λ s m. m) made;
      few = match_ok serves stops c.serve_on.result (λ a m. serves_short false [] q old new holds i j owner can.there m.0) made;
      few_at_stop = match_err serves stops c.serve_on.result (λ s m. stops_short false [] q old new holds i j s owner can.there m) made;
      low = match_ok serves stops c.serve_on.result (λ a m. calls_calm q old new holds i j m.0) made;
      stay = match_ok serves stops c.serve_on.result (λ a m. all_stay m.0.units old.kernel.place new.kernel.place q owner can m.0.leads) made;
      goes_on = c.serve_on.ensures.goes_on;
    }
