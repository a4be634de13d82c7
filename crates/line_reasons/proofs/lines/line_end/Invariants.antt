-- The bytes so far belong to the line.
use Rattle.std.proofs.Common.{◌≡◌, ◌+◌, drop}
use Rattle.run_text.specs.Pieces.{line_len}
use Rattle.line_reasons.proofs.lines.line_end.Given as goal

abbrev pub invariant-loop-i : goal.invariant-loop-i
invariant-loop-i l = l.i + line_len (drop l.i l.text) ≡ line_len l.text
