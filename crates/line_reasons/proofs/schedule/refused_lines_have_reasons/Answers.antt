use Rattle.line_reasons.proofs.ScheduleRefusals.{refused_have_reasons}
use Rattle.line_reasons.proofs.schedule.refused_lines_have_reasons.Goals as goal

pub returns : goal.returns
returns c = refused_have_reasons
