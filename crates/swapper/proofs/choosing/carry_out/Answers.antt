use Rattle.io_edge.specs.WithFiles.{stores}
use Rattle.std.proofs.Common.{OnOk, IfErr, sym, subst}
use Rattle.swapper.specs.declared.Turned.{Turned}
use Rattle.swapper.specs.Turns.{Turns, KeepsTurn, StopsTurning}
use Rattle.swapper.proofs.PutUnits.{in_turns, in_keeps_turn, in_stops_turn}
use Rattle.swapper.proofs.choosing.carry_out.Goals as goal

pub returns-in-In-clause-did : goal.returns-in-In-clause-did
returns-in-In-clause-did g c =
    let holds = g.F.Files.holds c.args.files.now in
    subst (λ (t : Turned). OnOk c.swap_in.result (Turns t c.args.m.now c.swap_in.new.m holds (stores g.F.Files g.D.SwapDev c.args.files.now c.args.swap.now)
    (stores g.F.Files g.D.SwapDev c.args.files.now c.swap_in.new.swap))) (sym c.in-In.is)
    (in_turns c.swap_in.result c.in-In.pid c.args.m.now c.swap_in.new.m holds (g.D.SwapDev.image c.args.swap.now) (g.D.SwapDev.image c.swap_in.new.swap) (g.F.Files.notes c.args.files.now)
    c.swap_in.ensures.step c.swap_in.ensures.beside c.swap_in.ensures.asked)

pub returns-in-In-clause-keeps : goal.returns-in-In-clause-keeps
returns-in-In-clause-keeps g c =
    let holds = g.F.Files.holds c.args.files.now in
    subst (λ (t : Turned). OnOk c.swap_in.result (KeepsTurn t c.args.m.now c.swap_in.new.m holds (stores g.F.Files g.D.SwapDev c.args.files.now c.args.swap.now)
    (stores g.F.Files g.D.SwapDev c.args.files.now c.swap_in.new.swap))) (sym c.in-In.is)
    (in_keeps_turn c.swap_in.result c.in-In.pid c.args.m.now c.swap_in.new.m holds (g.D.SwapDev.image c.args.swap.now) (g.D.SwapDev.image c.swap_in.new.swap) (g.F.Files.notes c.args.files.now)
    c.swap_in.ensures.keeps)

pub returns-in-In-clause-stopped : goal.returns-in-In-clause-stopped
returns-in-In-clause-stopped g c =
    let holds = g.F.Files.holds c.args.files.now in
    subst (λ (t : Turned). IfErr c.swap_in.result (StopsTurning t c.args.m.now c.swap_in.new.m holds (stores g.F.Files g.D.SwapDev c.args.files.now c.args.swap.now)
    (stores g.F.Files g.D.SwapDev c.args.files.now c.swap_in.new.swap))) (sym c.in-In.is)
    (in_stops_turn c.swap_in.result c.in-In.pid c.args.m.now c.swap_in.new.m holds (g.D.SwapDev.image c.args.swap.now) (g.D.SwapDev.image c.swap_in.new.swap) (g.F.Files.notes c.args.files.now)
    c.swap_in.ensures.stopped)
