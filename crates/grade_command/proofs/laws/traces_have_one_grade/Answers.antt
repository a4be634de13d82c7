use Rattle.grade_command.proofs.Parting.{one_grade}
use Rattle.grade_command.proofs.laws.traces_have_one_grade.Goals as goal

pub returns : goal.returns
returns c = one_grade
