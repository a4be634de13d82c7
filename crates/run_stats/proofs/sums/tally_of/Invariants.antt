-- The tally is that of the notes so far.
use Rattle.std.proofs.Common.{take}
use Rattle.run_stats.specs.Sums.{Tallies}
use Rattle.run_stats.proofs.sums.tally_of.Given as goal

abbrev pub invariant-loop-note : goal.invariant-loop-note
invariant-loop-note l = record { tallies : Tallies l.tally l.first (take l.note-index l.notes) }
