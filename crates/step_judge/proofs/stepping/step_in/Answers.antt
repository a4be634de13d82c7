use Rattle.io_edge.specs.WithFiles.{stores}
use Rattle.std.proofs.Common.{Option, sym, subst}
use Rattle.std.specs.Prelude.{IfOk}
use Rattle.proc_run.specs.Stepped.{AtSome, LeadsFrom}
use Rattle.proc_run.specs.declared.finishing.Begun.{Begun}
use Rattle.step_judge.specs.At.{ReadyAt}
use Rattle.step_judge.specs.Told.{LeftTold}
use Rattle.step_judge.proofs.stepping.step_in.Goals as goal

pub step_on-requires-clause-may : goal.step_on-requires-clause-may
step_on-requires-clause-may g c =
    subst (λ (b : Option Begun). AtSome (ReadyAt c.args.m.now c.args.counted b (g.F.Files.holds c.args.files.now) (stores g.F.Files g.D.SwapDev c.args.files.now c.args.swap.now) c.args.pid))
    c.in-Some.is c.requires.may

pub step_anew-requires-clause-may : goal.step_anew-requires-clause-may
step_anew-requires-clause-may g c =
    subst (λ (b : Option Begun). AtSome (ReadyAt c.args.m.now c.args.counted b (g.F.Files.holds c.args.files.now) (stores g.F.Files g.D.SwapDev c.args.files.now c.args.swap.now) c.args.pid))
    c.in-None.is c.requires.may

pub returns-in-Some-clause-told : goal.returns-in-Some-clause-told
returns-in-Some-clause-told g c =
    subst (λ (b : Option Begun). IfOk c.step_on.result (λ reason.
    LeadsFrom (ReadyAt c.args.m.now c.args.counted b (g.F.Files.holds c.args.files.now) (stores g.F.Files g.D.SwapDev c.args.files.now c.args.swap.now) c.args.pid)
    (LeftTold reason c.args.e.now c.args.pid c.args.m.now.kernel c.step_on.new.m.kernel (stores g.F.Files g.D.SwapDev c.step_on.new.files c.step_on.new.swap))))
    (sym c.in-Some.is) c.step_on.ensures.told

pub returns-in-None-clause-told : goal.returns-in-None-clause-told
returns-in-None-clause-told g c =
    subst (λ (b : Option Begun). IfOk c.step_anew.result (λ reason.
    LeadsFrom (ReadyAt c.args.m.now c.args.counted b (g.F.Files.holds c.args.files.now) (stores g.F.Files g.D.SwapDev c.args.files.now c.args.swap.now) c.args.pid)
    (LeftTold reason c.args.e.now c.args.pid c.args.m.now.kernel c.step_anew.new.m.kernel (stores g.F.Files g.D.SwapDev c.step_anew.new.files c.step_anew.new.swap))))
    (sym c.in-None.is) c.step_anew.ensures.told
