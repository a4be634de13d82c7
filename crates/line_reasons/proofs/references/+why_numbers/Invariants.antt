use Rattle.std.proofs.Common.{length}
use Rattle.line_reasons.proofs.references.+why_numbers.Given as goal

abbrev pub decreases-why_numbers : goal.decreases-why_numbers
decreases-why_numbers l = length l.arguments.now
