-- The lines so far are read.
use Rattle.std.proofs.Common.{◌+◌, ◌≤◌, length}
use Rattle.run_text.specs.Schedule.{IsEventLine}
use Rattle.run_text.specs.declared.limits.TheConstants.{SCHEDULE_LINES}
use Rattle.run_text.proofs.Reading.{ReadSoFar}
use Rattle.run_text.proofs.schedule_reader.read_schedule.Given as goal

abbrev pub invariant-loop-rest : goal.invariant-loop-rest
invariant-loop-rest l = ReadSoFar IsEventLine l.events.items l.bytes l.rest l.line × (l.line ≤ SCHEDULE_LINES + 1)

abbrev pub decreases-loop-rest : goal.decreases-loop-rest
decreases-loop-rest l = length l.rest
