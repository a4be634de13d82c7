-- The lines so far are read, and no more of them than bytes.
use Rattle.std.proofs.Common.{◌≤◌, ◌+◌, length}
use Rattle.run_text.specs.Transcript.{IsEntryLine}
use Rattle.run_text.proofs.Reading.{ReadSoFar}
use Rattle.run_text.proofs.transcript_reader.read_transcript.Given as goal

abbrev pub invariant-loop-rest : goal.invariant-loop-rest
invariant-loop-rest l = ReadSoFar IsEntryLine l.entries.items l.bytes l.rest (l.line + 1) × (l.line + length l.rest ≤ length l.bytes)

abbrev pub decreases-loop-rest : goal.decreases-loop-rest
decreases-loop-rest l = length l.rest
