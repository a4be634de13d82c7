use Rattle.io_edge.specs.WithFiles.{stores}
use Rattle.std.proofs.Common.{inl, inr, [], ◌∷◌}
use Rattle.std.proofs.lemmas.Result.{err_from_is_err_and}
use Rattle.page_laws.proofs.Ends.Hands.{room_still}
use Rattle.fault_fill.specs.Answers.{ServesNow}
use Rattle.proc_calls.proofs.Copies.{can_serve, can_copy, first_stays}
use Rattle.proc_calls.proofs.CopiedPages.{served_stay, forced_stay, forcing_stops, copied_by, goes_on}
use Rattle.proc_calls.proofs.copying.copy_page.Goals as goal

pub serve_page_now-requires-clause-can : goal.serve_page_now-requires-clause-can
serve_page_now-requires-clause-can g c = can_serve c.args.m.now.kernel.place c.args.child c.args.parent c.requires.asks.ready.running.due c.requires.first

pub returns-in_err-serve_page_now-clause-copied : goal.returns-in_err-serve_page_now-clause-copied
returns-in_err-serve_page_now-clause-copied g c =
    let p = err_from_is_err_and c.from_residual.result c.from_residual.ensures.1 in
    rw (p.1, p.2) (inl c.in_err-serve_page_now.ensures.served)

pub make_room-requires-clause-room : goal.make_room-requires-clause-room
make_room-requires-clause-room g c =
    let stay = served_stay c.args.child c.args.parent c.args.m.now c.serve_page_now.new.m (g.F.Files.holds c.args.files.now)
    (stores g.F.Files g.D.SwapDev c.args.files.now c.args.swap.now) (stores g.F.Files g.D.SwapDev c.serve_page_now.new.files c.serve_page_now.new.swap) c.requires.asks.ready c.requires.first
    (c.in_ok-serve_page_now.ensures.served.0.serves, c.in_ok-serve_page_now.ensures.served.1) in
    room_still c.args.m.now.kernel.place c.serve_page_now.new.m.kernel.place (c.args.parent ∷ []) stay.frames c.requires.room

pub returns-in_err-make_room-clause-copied : goal.returns-in_err-make_room-clause-copied
returns-in_err-make_room-clause-copied g c =
    let p = err_from_is_err_and c.from_residual-in_err-make_room.result c.from_residual-in_err-make_room.ensures.1 in
    rw (p.1, p.2) (inr (
      stores g.F.Files g.D.SwapDev c.serve_page_now.new.files c.serve_page_now.new.swap,
      record {
        reached = c.serve_page_now.new.m;
        far = (c.in_ok-serve_page_now.ensures.served.0.serves, c.in_ok-serve_page_now.ensures.served.1);
        stops = inl (forcing_stops c.args.parent c.serve_page_now.new.m c.make_room.new.m c.in_err-make_room.field-0.0 (g.F.Files.holds c.args.files.now)
            (g.F.Files.holds c.serve_page_now.new.files) (stores g.F.Files g.D.SwapDev c.serve_page_now.new.files c.serve_page_now.new.swap)
            (stores g.F.Files g.D.SwapDev c.make_room.new.files c.make_room.new.swap)
            c.in_ok-serve_page_now.ensures.goes_on.outside.files.holds c.in_err-make_room.ensures.stopped);
      },
    ))

pub copy-requires-clause-can : goal.copy-requires-clause-can
copy-requires-clause-can g c =
    let served = c.serve_page_now.new.m in
    let roomy = c.make_room.new.m in
    let h = stores g.F.Files g.D.SwapDev c.serve_page_now.new.files c.serve_page_now.new.swap in
    let serves : ServesNow (c.args.parent ∷ []) c.args.parent c.args.m.now served (g.F.Files.holds c.args.files.now) (stores g.F.Files g.D.SwapDev c.args.files.now c.args.swap.now) h =
    (c.in_ok-serve_page_now.ensures.served.0.serves, c.in_ok-serve_page_now.ensures.served.1) in
    let stay = served_stay c.args.child c.args.parent c.args.m.now served (g.F.Files.holds c.args.files.now)
    (stores g.F.Files g.D.SwapDev c.args.files.now c.args.swap.now) h c.requires.asks.ready c.requires.first serves in
    let both = forced_stay c.args.parent c.args.m.now served roomy (g.F.Files.holds c.serve_page_now.new.files) h
    (stores g.F.Files g.D.SwapDev c.make_room.new.files c.make_room.new.swap) stay c.in_ok-make_room.ensures.forced in
    can_copy served.kernel.place roomy.kernel.place c.args.child c.args.parent c.in_ok-make_room.ensures.goes_on.asks.ready.running.due
    (first_stays c.args.m.now.kernel.place roomy.kernel.place c.args.child c.args.parent both.due c.requires.first)
    c.in_ok-make_room.ensures.spares serves.1 c.in_ok-make_room.ensures.forced.free

pub returns-clause-copied : goal.returns-clause-copied
returns-clause-copied g c =
    let roomy = c.make_room.new.m in
    let j = stores g.F.Files g.D.SwapDev c.make_room.new.files c.make_room.new.swap in
    copied_by c.copy.result c.args.child c.args.parent c.args.m.now c.serve_page_now.new.m roomy c.copy.new.self (g.F.Files.holds c.args.files.now)
    (g.F.Files.holds c.serve_page_now.new.files) (stores g.F.Files g.D.SwapDev c.args.files.now c.args.swap.now) (stores g.F.Files g.D.SwapDev c.serve_page_now.new.files c.serve_page_now.new.swap) j
    c.in_ok-serve_page_now.ensures.goes_on.outside.files.holds (c.in_ok-serve_page_now.ensures.served.0.serves, c.in_ok-serve_page_now.ensures.served.1)
    c.in_ok-make_room.ensures.forced c.in_ok-make_room.ensures.keeps c.copy.ensures.performs c.copy.ensures.stops c.in_ok-make_room.ensures.goes_on.asks.ready.whole

pub returns-clause-on : goal.returns-clause-on
returns-clause-on g c =
    let served = c.serve_page_now.new.m in
    let roomy = c.make_room.new.m in
    let holds = g.F.Files.holds c.args.files.now in
    let i = stores g.F.Files g.D.SwapDev c.args.files.now c.args.swap.now in
    let h = stores g.F.Files g.D.SwapDev c.serve_page_now.new.files c.serve_page_now.new.swap in
    let j = stores g.F.Files g.D.SwapDev c.make_room.new.files c.make_room.new.swap in
    let serves : ServesNow (c.args.parent ∷ []) c.args.parent c.args.m.now served holds i h =
    (c.in_ok-serve_page_now.ensures.served.0.serves, c.in_ok-serve_page_now.ensures.served.1) in
    let stay = served_stay c.args.child c.args.parent c.args.m.now served holds i h c.requires.asks.ready c.requires.first serves in
    let both = forced_stay c.args.parent c.args.m.now served roomy (g.F.Files.holds c.serve_page_now.new.files) h j stay c.in_ok-make_room.ensures.forced in
    goes_on c.copy.result c.args.child c.args.parent c.args.m.now served roomy c.copy.new.self holds (g.F.Files.holds c.serve_page_now.new.files) i h j both serves c.in_ok-make_room.ensures.forced
    c.copy.ensures.performs
