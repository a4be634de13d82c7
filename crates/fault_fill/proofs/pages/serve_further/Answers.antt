use Rattle.io_edge.specs.WithFiles.{stores}
use Rattle.std.proofs.Common.{◌<◌, length, true, subst, sym}
use Rattle.clock_hands.specs.Machine.{Standing}
use Rattle.fault_fill.specs.Units.{NoneMade, IsAnswer}
use Rattle.fault_fill.specs.declared.served.Served.TheVariants as served
use Rattle.fault_fill.proofs.Serving.{flying_some}
use Rattle.fault_fill.proofs.Leading.{stops_here, came_to, any_further, end_further, end_stops_now}
use Rattle.fault_fill.proofs.Forcing.{room_further, room_stops}
use Rattle.fault_fill.proofs.pages.serve_further.Goals as goal

pub returns-in-Err-clause-made : goal.returns-in-Err-clause-made
returns-in-Err-clause-made g c =
    stops_here true c.args.locked.now c.args.page c.args.m.now c.serve_unit.new.m (g.F.Files.holds c.args.files.now) (stores g.F.Files g.D.SwapDev c.args.files.now c.args.swap.now)
    (stores g.F.Files g.D.SwapDev c.serve_unit.new.files c.serve_unit.new.swap) c.in-Err.stop
    (c.in-Err.ensures.made true)

pub finish-requires-clause-some : goal.finish-requires-clause-some
finish-requires-clause-some g c =
    let q = c.args.page in
    let old = c.args.m.now in
    let next = c.serve_unit.new.m in
    let holds = g.F.Files.holds c.args.files.now in
    let i = stores g.F.Files g.D.SwapDev c.args.files.now c.args.swap.now in
    let h = stores g.F.Files g.D.SwapDev c.serve_unit.new.files c.serve_unit.new.swap in
    let waits : NoneMade old next i h × IsAnswer (served.Asleep c.in-Asleep.field-0) old.kernel.place q =
    came_to _ c.in-Some.served _ q old next holds i h c.in-Some.is c.in-Asleep.is c.in-Ok.ensures.made in
    subst (λ (s : Standing). 0 < length s.kernel.place.transfers) (sym waits.0.machine) (flying_some old.kernel.place q c.requires.asks.ready.running.sound.owner.frames waits.1.1)

pub returns-in_default-clause-made : goal.returns-in_default-clause-made
returns-in_default-clause-made g c =
    any_further c.args.locked.now c.args.page c.args.m.now c.serve_unit.new.m (g.F.Files.holds c.args.files.now) (stores g.F.Files g.D.SwapDev c.args.files.now c.args.swap.now)
    (stores g.F.Files g.D.SwapDev c.serve_unit.new.files c.serve_unit.new.swap) _ c.in_default.is c.in-Ok.ensures.made c.requires.can

pub returns-in-Ok-finish-clause-made : goal.returns-in-Ok-finish-clause-made
returns-in-Ok-finish-clause-made g c =
    end_further c.args.locked.now c.args.page c.args.m.now c.serve_unit.new.m c.finish.new.m (g.F.Files.holds c.args.files.now) (g.F.Files.holds c.serve_unit.new.files)
    (stores g.F.Files g.D.SwapDev c.args.files.now c.args.swap.now) (stores g.F.Files g.D.SwapDev c.serve_unit.new.files c.serve_unit.new.swap)
    (stores g.F.Files g.D.SwapDev c.finish.new.files c.finish.new.swap) _ c.in-Some.served _ c.in-Some.is c.in-Asleep.is c.in-Ok.ensures.made
    c.in-Ok.ensures.goes_on.outside.files.holds c.requires.can c.in-Ok-finish.ensures.made

pub returns-in-Err-finish-clause-made : goal.returns-in-Err-finish-clause-made
returns-in-Err-finish-clause-made g c =
    end_stops_now c.args.locked.now c.args.page c.args.m.now c.serve_unit.new.m c.finish.new.m (g.F.Files.holds c.args.files.now) (stores g.F.Files g.D.SwapDev c.args.files.now c.args.swap.now)
    (stores g.F.Files g.D.SwapDev c.serve_unit.new.files c.serve_unit.new.swap) (stores g.F.Files g.D.SwapDev c.finish.new.files c.finish.new.swap) c.in-Err-finish.stop _ c.in-Some.served _
    c.in-Some.is c.in-Asleep.is c.in-Ok.ensures.made c.in-Err-finish.ensures.made

pub returns-in-Ok-make_room-clause-made : goal.returns-in-Ok-make_room-clause-made
returns-in-Ok-make_room-clause-made g c =
    room_further c.args.locked.now c.args.page c.args.m.now c.serve_unit.new.m c.make_room.new.m (g.F.Files.holds c.args.files.now) (g.F.Files.holds c.serve_unit.new.files)
    (stores g.F.Files g.D.SwapDev c.args.files.now c.args.swap.now) (stores g.F.Files g.D.SwapDev c.serve_unit.new.files c.serve_unit.new.swap)
    (stores g.F.Files g.D.SwapDev c.make_room.new.files c.make_room.new.swap) _ c.in-Some.served c.in-Some.is c.in-NoFrame.is c.in-Ok.ensures.made
    c.in-Ok.ensures.goes_on.outside.files.holds c.requires.asks.ready.running.sound.owner.frames c.in-Ok-make_room.ensures.forced c.in-Ok-make_room.ensures.keeps

pub returns-in-Err-make_room-clause-made : goal.returns-in-Err-make_room-clause-made
returns-in-Err-make_room-clause-made g c =
    room_stops c.args.locked.now c.args.page c.args.m.now c.serve_unit.new.m c.make_room.new.m (g.F.Files.holds c.args.files.now) (g.F.Files.holds c.serve_unit.new.files)
    (stores g.F.Files g.D.SwapDev c.args.files.now c.args.swap.now) (stores g.F.Files g.D.SwapDev c.serve_unit.new.files c.serve_unit.new.swap)
    (stores g.F.Files g.D.SwapDev c.make_room.new.files c.make_room.new.swap) c.in-Err-make_room.stop _ c.in-Some.served c.in-Some.is c.in-NoFrame.is
    c.in-Ok.ensures.made c.in-Ok.ensures.goes_on.outside.files.holds c.requires.asks.ready.running.sound.owner.frames c.in-Err-make_room.ensures.stopped
