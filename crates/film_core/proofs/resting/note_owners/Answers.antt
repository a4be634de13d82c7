use Rattle.io_edge.specs.WithFiles.{stores}
use Rattle.run_model.specs.declared.mark.Mark.TheVariants as marks
use Rattle.vm_core.specs.Stepped.{StopsFrom}
use Rattle.vm_core.proofs.Noting.{stops_on}
use Rattle.film_core.proofs.RestsMade.{audit_rests, audit_stops, steady_stays}
use Rattle.film_core.proofs.resting.note_owners.Goals as goal
use Rattle.film_core.specs.Ways.{RestAt}

pub returns-clause-rests : goal.returns-clause-rests
returns-clause-rests g c =
    let holds = g.F.Files.holds c.args.files.now in
    let i = stores g.F.Files g.D.SwapDev c.args.files.now c.args.swap.now in
    audit_rests c.args.m.now c.audit.new.m c.args.counted holds i i (c.in_ok-audit.ensures.made holds i)

pub returns-clause-on : goal.returns-clause-on
returns-clause-on g c = steady_stays c.args.m.now c.audit.new.m c.args.counted c.requires.counted c.in_ok-audit.ensures.steady

pub returns-in_err-audit-clause-stops : goal.returns-in_err-audit-clause-stops
returns-in_err-audit-clause-stops g c =
    let old = c.args.m.now in
    let new = c.audit.new.m in
    let holds = g.F.Files.holds c.args.files.now in
    let i = stores g.F.Files g.D.SwapDev c.args.files.now c.args.swap.now in
    let stop = c.in_err-audit.field-0.0 in
    stops_on c.from_residual.result stop (StopsFrom (RestAt old marks.Audit c.args.counted holds i) old new i) c.from_residual.ensures.1
    (audit_stops old new c.args.counted holds i i stop (c.in_err-audit.ensures.stops holds i))
