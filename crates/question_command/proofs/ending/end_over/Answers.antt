use Rattle.std.proofs.Common.{ap, ◌∙◌}
use Rattle.question_command.proofs.Finishes.{cut_said}
use Rattle.question_command.proofs.ending.end_over.Goals as goal

pub returns-in-Ok : goal.returns-in-Ok
returns-in-Ok c = λ A holds i are was.
    cut_said A c.args.film.now holds i c.finish_of.result _ c.in-Ok.text.items was c.requires.over (c.finish_of.ensures A was.state holds i was.image are was.at)
    (ap (λ p. p.limit) (c.params.ensures ∙ ap (λ m. m.params) c.machine.ensures)) c.in-Ok.ensures
