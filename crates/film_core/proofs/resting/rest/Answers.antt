use Rattle.io_edge.specs.WithFiles.{stores}
use Rattle.std.proofs.Common.{sym, subst}
use Rattle.run_model.specs.declared.mark.Mark.{Mark}
use Rattle.vm_core.specs.Stepped.{LeadsFrom}
use Rattle.film_core.proofs.RestsMade.{over_rests}
use Rattle.film_core.proofs.resting.rest.Goals as goal
use Rattle.film_core.specs.Ways.{RestAt, RestDone}

pub returns-in-Over-clause-rests : goal.returns-in-Over-clause-rests
returns-in-Over-clause-rests g c =
    let holds = g.F.Files.holds c.args.files.now in
    let i = stores g.F.Files g.D.SwapDev c.args.files.now c.args.swap.now in
    subst (λ (x : Mark). LeadsFrom (RestAt c.args.m.now x c.args.counted holds i) (RestDone c.args.m.now c.args.m.now x c.args.counted i)) (sym c.in-Over.is)
    (over_rests c.args.m.now c.args.counted holds i)
