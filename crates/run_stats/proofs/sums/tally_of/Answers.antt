-- One more note.
use Rattle.std.proofs.Common.{◌<◌, ℕ, List, length, take, arith}
use Rattle.std.proofs.lemmas.List.{length-take}
use Rattle.run_stats.specs.declared.noting.Note.{Note}
use Rattle.run_stats.proofs.Tallying.{tallies_then, tallies_fit}
use Rattle.run_stats.proofs.sums.tally_of.Goals as goal

pub add-requires : goal.add-requires
add-requires c head =
    let i : ℕ = c.loop-note.note-index in
    let xs : List Note = c.args.notes.now in
    tallies_fit c.loop-note.tally c.args.first.now (take i xs) head c.loop-note.invariant.tallies (omega (arith, length-take i xs))

pub loop-note-preserved : goal.loop-note-preserved
loop-note-preserved c =
    let more = c.in_ok-add.ensures in
    record {
      tallies = tallies_then c.loop-note.tally c.add.new.self c.args.first.now c.args.notes.now c.loop-note.note-index _ c.loop-note-test.true
          c.loop-note.invariant.tallies more.value more.grows more.most more.least;
    }
