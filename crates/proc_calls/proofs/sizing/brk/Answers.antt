use Rattle.io_edge.specs.WithFiles.{stores}
use Rattle.std.proofs.Common.{ℕ, sym, ◌∙◌, subst}
use Rattle.std.specs.Prelude.{Result, IfOk, IfErr}
use Rattle.user_vax.specs.declared.refused.Refused.{Refused}
use Rattle.machine_state.specs.Machine.{Standing}
use Rattle.proc_calls.specs.Answered.{StopsReading}
use Rattle.proc_calls.specs.Sizing.{pages_to, MovesEnd, BreakComes, StopsBreaking}
use Rattle.proc_calls.proofs.sizing.brk.Goals as goal

pub returns-in-Ok-clause-comes : goal.returns-in-Ok-clause-comes
returns-in-Ok-clause-comes g c =
    let m = c.args.m.now in
    let n = c.move_end.new.m in
    let holds = g.F.Files.holds c.args.files.now in
    let i = stores g.F.Files g.D.SwapDev c.args.files.now c.args.swap.now in
    let j = stores g.F.Files g.D.SwapDev c.move_end.new.files c.move_end.new.swap in
    let moves =
    subst (λ (x : Standing). IfOk c.move_end.result (MovesEnd x n c.args.pid c.args.regs.now (pages_to x.kernel c.args.pid c.in-Ok.address) holds i j))
    c.read_address.ensures.same c.move_end.ensures.moves in
    subst (λ (r : Result ℕ Refused). IfOk c.move_end.result (BreakComes m n c.args.pid c.args.regs.now r holds i j))
    (sym c.in-Ok.is ∙ c.read_address.ensures.value) moves

pub returns-in-Ok-clause-stops : goal.returns-in-Ok-clause-stops
returns-in-Ok-clause-stops g c =
    let m = c.args.m.now in
    let n = c.move_end.new.m in
    let holds = g.F.Files.holds c.args.files.now in
    let i = stores g.F.Files g.D.SwapDev c.args.files.now c.args.swap.now in
    let j = stores g.F.Files g.D.SwapDev c.move_end.new.files c.move_end.new.swap in
    let moving =
    subst (λ (x : Standing). IfErr c.move_end.result (StopsBreaking x n c.args.pid (pages_to x.kernel c.args.pid c.in-Ok.address) holds i j))
    c.read_address.ensures.same c.move_end.ensures.stops in
    subst (λ (r : Result ℕ Refused). IfErr c.move_end.result (StopsReading r (λ address. StopsBreaking m n c.args.pid (pages_to m.kernel c.args.pid address) holds) m n i j))
    (sym c.in-Ok.is ∙ c.read_address.ensures.value) moving
