-- The lines so far are read, and no more of them than bytes.
use Rattle.std.proofs.Common.{◌≤◌, ◌+◌, length}
use Rattle.run_text.proofs.Reading.{ReadSoFar}
use Rattle.repage_command.specs.Grammar.{IsTraceLine}
use Rattle.repage_command.proofs.trace_reader.read_trace.Given as goal

abbrev pub invariant-loop-rest : goal.invariant-loop-rest
invariant-loop-rest l = ReadSoFar IsTraceLine l.lines.items l.bytes l.rest (l.number + 1) × (l.number + length l.rest ≤ length l.bytes)

abbrev pub decreases-loop-rest : goal.decreases-loop-rest
decreases-loop-rest l = length l.rest
