use Rattle.io_edge.specs.WithFiles.{stores}
use Rattle.std.proofs.Common.{ℕ, true, sym, ap, subst, arith}
use Rattle.std.specs.Prelude.{Ok}
use Rattle.std.proofs.lemmas.Result.{err_from_is_err_and}
use Rattle.vm_facts.specs.declared.page.Page.TheVariants.{Stack}
use Rattle.proc_calls.specs.Filling.{IsStartFirst}
use Rattle.proc_calls.proofs.Begins.{found_of, can_start, reply_stops, fill_stops}
use Rattle.proc_calls.proofs.StackPages.{is_started, start_first, room_behind}
use Rattle.proc_calls.proofs.starting.start_image.Goals as goal

pub reply-requires-clause-can : goal.reply-requires-clause-can
reply-requires-clause-can g c =
    let holds = g.F.Files.holds c.args.files.now in
    let i = stores g.F.Files g.D.SwapDev c.args.files.now c.args.swap.now in
    let j = stores g.F.Files g.D.SwapDev c.find_space.new.files c.find_space.new.swap in
    can_start c.args.m.now c.find_space.new.m c.args.pid c.args.image holds i j c.requires.calls c.args.after.now c.args.top
    (found_of c.in_ok-find_space.field-0 true c.args.m.now c.find_space.new.m c.args.pid c.args.image holds i j c.if-not-branch.false c.in_ok-find_space.ensures.finds)
    (c.in_ok-find_space.ensures.given (ap (λ b. Ok b) c.if-not-branch.false)) c.requires.above c.requires.within c.requires.page

pub fill_start-requires-clause-first : goal.fill_start-requires-clause-first
fill_start-requires-clause-first g c =
    let holds = g.F.Files.holds c.args.files.now in
    let i = stores g.F.Files g.D.SwapDev c.args.files.now c.args.swap.now in
    let j = stores g.F.Files g.D.SwapDev c.find_space.new.files c.find_space.new.swap in
    let f = found_of c.in_ok-find_space.field-0 true c.args.m.now c.find_space.new.m c.args.pid c.args.image holds i j c.if-not-branch.false c.in_ok-find_space.ensures.finds in
    let can = can_start c.args.m.now c.find_space.new.m c.args.pid c.args.image holds i j c.requires.calls c.args.after.now c.args.top f
    (c.in_ok-find_space.ensures.given (ap (λ b. Ok b) c.if-not-branch.false)) c.requires.above c.requires.within c.requires.page in
    let s =
    is_started c.args.m.now c.find_space.new.m c.reply.new.m c.args.pid c.args.image c.args.after.now c.args.top holds i j c.requires.above c.requires.within f can c.in_ok-called.ensures.answered in
    subst (λ (n : ℕ). IsStartFirst c.reply.new.m.kernel.place (Stack n 0)) (sym c.next_numbers.ensures.space) (start_first c.args.m.now c.reply.new.m s)

pub fill_start-requires-clause-room : goal.fill_start-requires-clause-room
fill_start-requires-clause-room g c =
    let holds = g.F.Files.holds c.args.files.now in
    let i = stores g.F.Files g.D.SwapDev c.args.files.now c.args.swap.now in
    let j = stores g.F.Files g.D.SwapDev c.find_space.new.files c.find_space.new.swap in
    let f = found_of c.in_ok-find_space.field-0 true c.args.m.now c.find_space.new.m c.args.pid c.args.image holds i j c.if-not-branch.false c.in_ok-find_space.ensures.finds in
    let can = can_start c.args.m.now c.find_space.new.m c.args.pid c.args.image holds i j c.requires.calls c.args.after.now c.args.top f
    (c.in_ok-find_space.ensures.given (ap (λ b. Ok b) c.if-not-branch.false)) c.requires.above c.requires.within c.requires.page in
    room_behind c.args.m.now c.reply.new.m
    (is_started c.args.m.now c.find_space.new.m c.reply.new.m c.args.pid c.args.image c.args.after.now c.args.top holds i j c.requires.above c.requires.within f can c.in_ok-called.ensures.answered)
    c.requires.room

pub fill_start-requires-clause-low : goal.fill_start-requires-clause-low
fill_start-requires-clause-low g c =
    let holds = g.F.Files.holds c.args.files.now in
    let i = stores g.F.Files g.D.SwapDev c.args.files.now c.args.swap.now in
    let j = stores g.F.Files g.D.SwapDev c.find_space.new.files c.find_space.new.swap in
    let f = found_of c.in_ok-find_space.field-0 true c.args.m.now c.find_space.new.m c.args.pid c.args.image holds i j c.if-not-branch.false c.in_ok-find_space.ensures.finds in
    let can = can_start c.args.m.now c.find_space.new.m c.args.pid c.args.image holds i j c.requires.calls c.args.after.now c.args.top f
    (c.in_ok-find_space.ensures.given (ap (λ b. Ok b) c.if-not-branch.false)) c.requires.above c.requires.within c.requires.page in
    let s =
    is_started c.args.m.now c.find_space.new.m c.reply.new.m c.args.pid c.args.image c.args.after.now c.args.top holds i j c.requires.above c.requires.within f can c.in_ok-called.ensures.answered in
    let zero = s.last in
    omega (arith, zero)

pub returns-in_err-called-clause-stops : goal.returns-in_err-called-clause-stops
returns-in_err-called-clause-stops g c =
    let p = err_from_is_err_and c.from_residual-in_err-called.result c.from_residual-in_err-called.ensures.1 in
    rw (p.1, p.2)
    (reply_stops _ c.in_ok-find_space.field-0 c.args.m.now c.find_space.new.m c.reply.new.m c.args.pid c.args.image c.args.after.now c.args.top
    (g.F.Files.holds c.args.files.now) (stores g.F.Files g.D.SwapDev c.args.files.now c.args.swap.now)
    (stores g.F.Files g.D.SwapDev c.find_space.new.files c.find_space.new.swap) c.if-not-branch.false c.in_ok-find_space.ensures.finds
    c.requires.calls.ready.whole (c.in_ok-find_space.ensures.has_room (ap (λ b. Ok b) c.if-not-branch.false))
    c.in_err-called.ensures.stops)

pub returns-in_err-fill_start-clause-stops : goal.returns-in_err-fill_start-clause-stops
returns-in_err-fill_start-clause-stops g c =
    let p = err_from_is_err_and c.from_residual-in_err-fill_start.result c.from_residual-in_err-fill_start.ensures.1 in
    rw (p.1, p.2)
    (fill_stops _ c.in_ok-find_space.field-0 c.args.m.now c.find_space.new.m c.reply.new.m c.fill_start.new.m c.args.pid c.args.image c.args.after.now c.args.top
    (Stack c.next_numbers.result.1 0) (g.F.Files.holds c.args.files.now) (g.F.Files.holds c.find_space.new.files) (stores g.F.Files g.D.SwapDev c.args.files.now c.args.swap.now)
    (stores g.F.Files g.D.SwapDev c.find_space.new.files c.find_space.new.swap) (stores g.F.Files g.D.SwapDev c.fill_start.new.files c.fill_start.new.swap)
    c.in_ok-find_space.ensures.outside.files.holds c.if-not-branch.false
    (ap (λ (n : ℕ). Stack n 0) c.next_numbers.ensures.space) c.in_ok-find_space.ensures.finds c.in_ok-called.ensures.answered c.in_err-fill_start.ensures.filled)
