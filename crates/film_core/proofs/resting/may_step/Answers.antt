use Rattle.std.proofs.Common.{sym, ◌∙◌}
use Rattle.film_core.proofs.MayStep.{steps_none, steps_some}
use Rattle.film_core.proofs.resting.may_step.Goals as goal

pub returns-in-Some : goal.returns-in-Some
returns-in-Some c =
    c.can_step.ensures
    ∙ sym (steps_some c.args.m.now.kernel c.processes.result.now c.args.pid c.processes.ensures.processes (c.processes.ensures.records c.requires.runs) c.in-Some.process.now
    (sym c.in-Some.ensures.value))

pub returns-in-None : goal.returns-in-None
returns-in-None c = sym (steps_none c.args.m.now.kernel c.processes.result.now c.args.pid c.processes.ensures.processes (c.processes.ensures.records c.requires.runs) (sym c.in-None.ensures.value))
