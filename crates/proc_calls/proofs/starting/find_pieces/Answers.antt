use Rattle.io_edge.specs.WithFiles.{stores}
use Rattle.std.proofs.Common.{sym, ◌∙◌, subst}
use Rattle.swap_book.specs.Holdings.{Holdings}
use Rattle.machine_state.specs.Machine.{Standing}
use Rattle.machine_state.specs.Wants.{CanAsk}
use Rattle.proc_calls.specs.Leaving.{HasLeft}
use Rattle.proc_calls.specs.Starting.{wants_found}
use Rattle.proc_calls.proofs.Starts.{is_ready, none_found, left_found}
use Rattle.proc_calls.proofs.Stopping.{once_left, asked_before, asked_alive}
use Rattle.proc_calls.proofs.starting.find_pieces.Goals as goal

pub returns-then-not-branch-clause-finds : goal.returns-then-not-branch-clause-finds
returns-then-not-branch-clause-finds g c =
    none_found c.ask.result c.args.m.now c.fits.new.self c.ask.new.self c.args.pid c.args.wants.now (g.F.Files.holds c.args.files.now) (stores g.F.Files g.D.SwapDev c.args.files.now c.args.swap.now)
    c.in_ok-fits.ensures.same (sym c.in_ok-fits.ensures.answer ∙ c.if-not-branch.true) c.ask.ensures.answer c.ask.ensures.refused c.ask.ensures.keeps

pub ask-requires-2-clause-can : goal.ask-requires-2-clause-can
ask-requires-2-clause-can g c =
    let holds = g.F.Files.holds c.args.files.now in
    let i = stores g.F.Files g.D.SwapDev c.args.files.now c.args.swap.now in
    let j = stores g.F.Files g.D.SwapDev c.leave_space.new.files c.leave_space.new.swap in
    let n = c.leave_space.new.m in
    let left = subst (λ (x : Standing). HasLeft x n c.args.pid holds i j) c.in_ok-fits.ensures.same c.in_ok-leave_space.ensures.left in
    let r = is_ready c.args.m.now n c.args.pid holds i j left in
    subst (λ (hs : Holdings). CanAsk hs c.args.wants.now) (sym r.kernel.holdings) c.requires.can

pub returns-clause-finds : goal.returns-clause-finds
returns-clause-finds g c =
    let holds = g.F.Files.holds c.args.files.now in
    let i = stores g.F.Files g.D.SwapDev c.args.files.now c.args.swap.now in
    let j = stores g.F.Files g.D.SwapDev c.leave_space.new.files c.leave_space.new.swap in
    let n = c.leave_space.new.m in
    let left = subst (λ (x : Standing). HasLeft x n c.args.pid holds i j) c.in_ok-fits.ensures.same c.in_ok-leave_space.ensures.left in
    left_found c.ask-2.result c.args.m.now n c.ask-2.new.self c.args.pid c.args.wants.now holds i j left (sym c.in_ok-fits.ensures.answer ∙ c.if-not-branch.false)
    c.ask-2.ensures.answer c.ask-2.ensures.found

pub returns-then-not-branch-clause-stops : goal.returns-then-not-branch-clause-stops
returns-then-not-branch-clause-stops g c =
    asked_before c.ask.result (wants_found c.args.wants.now) c.args.m.now c.fits.new.self c.ask.new.self c.args.pid (g.F.Files.holds c.args.files.now)
    (stores g.F.Files g.D.SwapDev c.args.files.now c.args.swap.now)
    c.in_ok-fits.ensures.same c.fits.ensures.goes_on.whole c.ask.ensures.stops

pub returns-clause-stops : goal.returns-clause-stops
returns-clause-stops g c =
    let holds = g.F.Files.holds c.args.files.now in
    let i = stores g.F.Files g.D.SwapDev c.args.files.now c.args.swap.now in
    let j = stores g.F.Files g.D.SwapDev c.leave_space.new.files c.leave_space.new.swap in
    let n = c.leave_space.new.m in
    let left = subst (λ (x : Standing). HasLeft x n c.args.pid holds i j) c.in_ok-fits.ensures.same c.in_ok-leave_space.ensures.left in
    asked_alive c.ask-2.result (wants_found c.args.wants.now) c.args.m.now c.ask-2.new.self c.args.pid holds i j (sym c.in_ok-fits.ensures.answer ∙ c.if-not-branch.false)
    (once_left c.ask-2.result c.args.m.now n c.ask-2.new.self c.args.pid holds i j c.in_ok-leave_space.ensures.goes_on.asks.ready.whole left c.ask-2.ensures.stops)
