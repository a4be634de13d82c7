use Rattle.io_edge.specs.WithFiles.{stores}
use Rattle.std.proofs.Common.{arith}
use Rattle.std.proofs.lemmas.Result.{on_ok_weaker}
use Rattle.vm_facts.specs.declared.stop.Stop.{Stop}
use Rattle.paging_units.specs.Stops.{StopsWhile}
use Rattle.clock_hands.specs.Forced.{forcing_frame}
use Rattle.clock_hands.proofs.Units.{err_on}
use Rattle.clock_hands.proofs.Forces.{far_most, forced_few, stopped_few, forced_flights, forced_last, forced_spares}
use Rattle.clock_hands.proofs.forcing.make_room.Goals as goal

pub force_frame-requires-clause-fits : goal.force_frame-requires-clause-fits
force_frame-requires-clause-fits g c =
    let s = c.requires.asks.ready.running.sound in
    let far = far_most c.args.m.now.kernel.place c.args.locked.now s.owner.frames s.hands c.requires.room s.few_transfers in
    let frames = c.requires.asks.ready.running.frames in
    let low = c.requires.low in
    omega arith

pub returns-clause-few : goal.returns-clause-few
returns-clause-few g c =
    let holds = g.F.Files.holds c.args.files.now in
    let i = stores g.F.Files g.D.SwapDev c.args.files.now c.args.swap.now in
    let j = stores g.F.Files g.D.SwapDev c.force_frame.new.files c.force_frame.new.swap in
    on_ok_weaker c.force_frame.result (forced_few c.args.locked.now c.args.m.now c.force_frame.new.m holds i j c.requires.asks.ready.running.sound.owner.frames) c.force_frame.ensures.forced

pub returns-clause-few_at_stop : goal.returns-clause-few_at_stop
returns-clause-few_at_stop g c =
    let holds = g.F.Files.holds c.args.files.now in
    let i = stores g.F.Files g.D.SwapDev c.args.files.now c.args.swap.now in
    let j = stores g.F.Files g.D.SwapDev c.force_frame.new.files c.force_frame.new.swap in
    err_on {P = λ (stop : Stop). StopsWhile (forcing_frame c.args.locked.now) c.args.m.now c.force_frame.new.m holds i j stop} c.force_frame.result
    (λ stop. stopped_few c.args.locked.now c.args.m.now stop c.force_frame.new.m holds i j c.requires.asks.ready.running.sound.owner.frames) c.force_frame.ensures.stopped

pub returns-clause-flights : goal.returns-clause-flights
returns-clause-flights g c =
    let holds = g.F.Files.holds c.args.files.now in
    let i = stores g.F.Files g.D.SwapDev c.args.files.now c.args.swap.now in
    let j = stores g.F.Files g.D.SwapDev c.force_frame.new.files c.force_frame.new.swap in
    on_ok_weaker c.force_frame.result (forced_flights c.args.locked.now c.args.m.now c.force_frame.new.m holds i j c.requires.asks.ready.running.sound.owner.frames) c.force_frame.ensures.forced

pub returns-clause-counted : goal.returns-clause-counted
returns-clause-counted g c =
    let holds = g.F.Files.holds c.args.files.now in
    let i = stores g.F.Files g.D.SwapDev c.args.files.now c.args.swap.now in
    let j = stores g.F.Files g.D.SwapDev c.force_frame.new.files c.force_frame.new.swap in
    on_ok_weaker c.force_frame.result (forced_last c.args.locked.now c.args.m.now c.force_frame.new.m holds i j) c.force_frame.ensures.forced

pub returns-clause-spares : goal.returns-clause-spares
returns-clause-spares g c =
    let holds = g.F.Files.holds c.args.files.now in
    let i = stores g.F.Files g.D.SwapDev c.args.files.now c.args.swap.now in
    let j = stores g.F.Files g.D.SwapDev c.force_frame.new.files c.force_frame.new.swap in
    on_ok_weaker c.force_frame.result (forced_spares c.args.locked.now c.args.m.now c.force_frame.new.m holds i j c.requires.asks.ready.running.sound.owner.frames) c.force_frame.ensures.forced
