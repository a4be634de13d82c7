use Rattle.grade_command.proofs.judging.grade_begun.Goals as goal

pub returns-in-Ok : goal.returns-in-Ok
returns-in-Ok g c = c.in-Ok.ensures
