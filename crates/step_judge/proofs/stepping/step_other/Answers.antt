use Rattle.io_edge.specs.WithFiles.{stores}
use Rattle.std.proofs.Common.{◌≡◌, false, true, None, sym, ap, ◌∙◌, subst}
use Rattle.std.specs.Prelude.{IfOk}
use Rattle.user_vax.specs.Program.{run}
use Rattle.user_vax.specs.Instruction.{instruction, answer_of}
use Rattle.machine_state.specs.Machine.{Standing}
use Rattle.proc_run.specs.Stepped.{AtSome, LeadsFrom}
use Rattle.proc_run.specs.Calls.{own_answers}
use Rattle.step_judge.specs.At.{ReadyAt}
use Rattle.step_judge.specs.Told.{LeftTold, GoesOnWith}
use Rattle.step_judge.proofs.Stepped.{lends_of, comes_told}
use Rattle.step_judge.proofs.stepping.step_other.Goals as goal

pub completes-requires-clause-lends : goal.completes-requires-clause-lends
completes-requires-clause-lends g c =
    let m = c.args.m.now in
    let holds = g.F.Files.holds c.args.files.now in
    let i = stores g.F.Files g.D.SwapDev c.args.files.now c.args.swap.now in
    lends_of m c.args.counted None holds i c.args.pid c.requires.may c.requires.asks.ready c.requires.low

pub returns-then-branch-clause-told : goal.returns-then-branch-clause-told
returns-then-branch-clause-told g c =
    comes_told c.args.m.now c.args.counted (g.F.Files.holds c.args.files.now) (stores g.F.Files g.D.SwapDev c.args.files.now c.args.swap.now) c.args.pid c.args.regs.now c.requires.registers
    c.args.e.now c.completes.new.m.kernel (stores g.F.Files g.D.SwapDev c.args.files.now c.args.swap.now) c.requires.other (c.in_ok-completes.ensures.value.0 c.if-branch.true)

pub step_else-requires-clause-may : goal.step_else-requires-clause-may
step_else-requires-clause-may g c =
    subst (λ (m : Standing). AtSome (ReadyAt m c.args.counted None (g.F.Files.holds c.args.files.now) (stores g.F.Files g.D.SwapDev c.args.files.now c.args.swap.now) c.args.pid))
    (sym c.completes.ensures.same) c.requires.may

pub step_else-requires-clause-other : goal.step_else-requires-clause-other
step_else-requires-clause-other g c = λ d.
    let done = sym (ap (λ (m : Standing). answer_of (run (own_answers m c.args.pid) (instruction c.args.regs.now))) c.completes.ensures.same) ∙ d in
    let z : false ≡ true = sym c.if-branch.false ∙ c.in_ok-completes.ensures.value.1 done in
    cc

pub returns-else-branch-clause-told : goal.returns-else-branch-clause-told
returns-else-branch-clause-told g c =
    let holds = g.F.Files.holds c.args.files.now in
    let i = stores g.F.Files g.D.SwapDev c.args.files.now c.args.swap.now in
    subst (λ (m : Standing). IfOk c.step_else.result (λ reason. LeadsFrom (ReadyAt m c.args.counted None holds i c.args.pid)
    (LeftTold reason c.args.e.now c.args.pid m.kernel c.step_else.new.m.kernel (stores g.F.Files g.D.SwapDev c.step_else.new.files c.step_else.new.swap))))
    c.completes.ensures.same c.step_else.ensures.told

pub returns-else-branch-clause-on : goal.returns-else-branch-clause-on
returns-else-branch-clause-on g c =
    subst (λ (m : Standing). IfOk c.step_else.result (λ reason. reason ≡ None → GoesOnWith m c.step_else.new.m)) c.completes.ensures.same c.step_else.ensures.on
