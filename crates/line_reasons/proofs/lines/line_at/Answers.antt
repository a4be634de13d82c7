use Rattle.std.proofs.Common.{arith}
use Rattle.line_reasons.proofs.LineNumbers.{line_left, line_found}
use Rattle.line_reasons.proofs.lines.line_at.Goals as goal

pub loop-past-preserved : goal.loop-past-preserved
loop-past-preserved c = line_left c.args.bytes.now c.loop-past.rest.now c.after_line-rest.result.now c.loop-past._past c.after_line-rest.ensures c.loop-past.invariant

pub returns : goal.returns
returns c = line_found c.args.bytes.now c.loop-past.rest.now c.first_line.result.now c.loop-past._past c.args.number (omega arith) c.first_line.ensures c.loop-past.invariant
