-- So many lines are left behind.
use Rattle.std.proofs.Common.{◌≡◌, drop}
use Rattle.run_text.specs.Lines.{lines_in}
use Rattle.line_reasons.proofs.lines.line_at.Given as goal

abbrev pub invariant-loop-past : goal.invariant-loop-past
invariant-loop-past l = lines_in l.rest ≡ drop l._past (lines_in l.bytes)
