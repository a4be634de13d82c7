use Rattle.line_reasons.proofs.ReferenceRefusals.{refused_have_reasons}
use Rattle.line_reasons.proofs.references.refused_lines_have_reasons.Goals as goal

pub returns : goal.returns
returns c = refused_have_reasons
