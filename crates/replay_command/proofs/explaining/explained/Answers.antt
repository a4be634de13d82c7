use Rattle.std.proofs.Common.{Ok, ap, ◌∙◌}
use Rattle.replay_command.proofs.Telling.{told_some, told_none}
use Rattle.replay_command.proofs.explaining.explained.Goals as goal

pub returns-in_ok-explanation-in-Some : goal.returns-in_ok-explanation-in-Some
returns-in_ok-explanation-in-Some c =
    λ A images first. told_some A c.args.entries.now c.explain.result c.in-Some.misfit c.in_ok-explanation-in-Some.field-0.items (c.explain.ensures A images first)
    (c.in_ok-misfit.was ∙ ap Ok c.in-Some.is) c.in_ok-explanation-in-Some.ensures

pub returns-in-None : goal.returns-in-None
returns-in-None c = λ A images first. told_none A c.args.entries.now c.explain.result (c.explain.ensures A images first) (c.in_ok-misfit.was ∙ ap Ok c.in-None.is)
