use Rattle.std.proofs.Common.{arith}
use Rattle.run_text.proofs.LineEnds.{line_len_some}
use Rattle.run_text.proofs.pieces.first_line.Goals as goal

pub returns-clause-shorter : goal.returns-clause-shorter
returns-clause-shorter c = omega (arith, line_len_some c.args.text.now c.requires, c.split_at.ensures.back_len, c.line_end.ensures.len)
