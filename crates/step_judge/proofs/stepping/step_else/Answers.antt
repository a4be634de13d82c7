use Rattle.io_edge.specs.WithFiles.{stores}
use Rattle.std.proofs.Common.{◌≡◌, None, subst}
use Rattle.std.specs.Prelude.{IfOk}
use Rattle.machine_state.specs.Machine.{Standing}
use Rattle.step_judge.specs.Told.{GoesOnWith}
use Rattle.step_judge.proofs.Stepped.{lends_of, page_told, some_acts, act_left}
use Rattle.step_judge.proofs.stepping.step_else.Goals as goal

pub touched_and_wanted-requires-clause-lends : goal.touched_and_wanted-requires-clause-lends
touched_and_wanted-requires-clause-lends g c =
    let m = c.args.m.now in
    let holds = g.F.Files.holds c.args.files.now in
    let i = stores g.F.Files g.D.SwapDev c.args.files.now c.args.swap.now in
    lends_of m c.args.counted None holds i c.args.pid c.requires.may c.requires.asks.ready c.requires.low

pub returns-in-Some-clause-told : goal.returns-in-Some-clause-told
returns-in-Some-clause-told g c =
    let m = c.args.m.now in
    let holds = g.F.Files.holds c.args.files.now in
    let i = stores g.F.Files g.D.SwapDev c.args.files.now c.args.swap.now in
    page_told m c.args.counted holds i c.args.pid c.args.regs.now c.requires.registers c.touched_and_wanted.new.m c.in_ok-found.found.wanted c.in-Some.page
    c.in_state.result c.args.e.now c.touched_and_wanted.new.m.kernel i c.touched_and_wanted.ensures.same c.in_ok-found.ensures.first c.in-Some.is c.in_state.ensures

pub act_told-requires-clause-acts : goal.act_told-requires-clause-acts
act_told-requires-clause-acts g c =
    let m = c.args.m.now in
    let holds = g.F.Files.holds c.args.files.now in
    let i = stores g.F.Files g.D.SwapDev c.args.files.now c.args.swap.now in
    some_acts m c.args.counted holds i c.args.pid c.args.regs.now c.requires.registers c.touched_and_wanted.new.m c.in_ok-found.found.wanted
    c.touched_and_wanted.ensures.same c.in_ok-found.ensures.first c.in-None.is c.requires.other c.requires.may

pub returns-in-None-clause-told : goal.returns-in-None-clause-told
returns-in-None-clause-told g c =
    let m = c.args.m.now in
    let holds = g.F.Files.holds c.args.files.now in
    let i = stores g.F.Files g.D.SwapDev c.args.files.now c.args.swap.now in
    act_left m c.args.counted holds i c.args.pid c.args.regs.now c.requires.registers c.touched_and_wanted.new.m c.in_ok-found.found.wanted c.args.e.now
    c.act_told.new.m.kernel (stores g.F.Files g.D.SwapDev c.act_told.new.files c.act_told.new.swap) c.act_told.result c.touched_and_wanted.ensures.same c.in_ok-found.ensures.first c.in-None.is
    c.requires.other c.act_told.ensures.told

pub returns-in-None-clause-on : goal.returns-in-None-clause-on
returns-in-None-clause-on g c =
    subst (λ (m : Standing). IfOk c.act_told.result (λ reason. reason ≡ None → GoesOnWith m c.act_told.new.m)) c.touched_and_wanted.ensures.same c.act_told.ensures.on
