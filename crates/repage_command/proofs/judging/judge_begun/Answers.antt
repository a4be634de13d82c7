use Rattle.repage_command.proofs.judging.judge_begun.Goals as goal

pub returns-in-Ok : goal.returns-in-Ok
returns-in-Ok g c = c.in-Ok.ensures
