-- The line is counted among those that are left.
use Rattle.std.proofs.Common.{◌≡◌, length}
use Rattle.asm_grammar.specs.Lines.{lines_in}
use Rattle.source_commands.specs.Mistakes.{text_of_line}
use Rattle.source_commands.proofs.lines.text_of_line.Given as goal

abbrev pub invariant-loop-rest : goal.invariant-loop-rest
invariant-loop-rest l = text_of_line l.left (lines_in l.rest) ≡ text_of_line l.number (lines_in l.source)

abbrev pub decreases-loop-rest : goal.decreases-loop-rest
decreases-loop-rest l = length l.rest
