-- One more entry.
use Rattle.std.proofs.Common.{◌<◌, ℕ, length, arith}
use Rattle.process_counts.specs.Counts.{amount}
use Rattle.process_counts.specs.Tables.{deed_of}
use Rattle.process_counts.proofs.Counting.{sum_then}
use Rattle.process_counts.proofs.deeds.deeds_of.Goals as goal

pub add_entry-requires : goal.add_entry-requires
add_entry-requires c pid head =
    let i : ℕ = c.loop-entry.entry-index in
    let lt : i < length c.args.journal.now = omega arith in
    omega (arith, lt, c.loop-entry.invariant.fits pid head)

pub loop-entry-preserved : goal.loop-entry-preserved
loop-entry-preserved c =
    let i : ℕ = c.loop-entry.entry-index in
    let lt : i < length c.args.journal.now = omega arith in
    record {
      sums = λ pid head. sum_then (amount pid head) c.args.journal.now i c.entry-item.result (deed_of c.loop-entry.deeds pid head)
          (deed_of c.add_entry.new.deeds pid head) lt c.entry-item.is
          (c.loop-entry.invariant.sums pid head) (c.in_ok-add_entry.ensures.value pid head);
      fits = λ pid head. omega (arith, c.loop-entry.invariant.fits pid head, c.in_ok-add_entry.ensures.grows pid head);
    }
