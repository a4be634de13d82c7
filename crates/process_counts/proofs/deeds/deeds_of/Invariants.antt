-- The deeds are those of the entries so far, and have room for the others.
use Rattle.std.proofs.Common.{◌≡◌, ◌≤◌, ◌*◌, ◌^◌, ℕ, take}
use Rattle.std.specs.List.{sum_by}
use Rattle.process_counts.specs.declared.amounts.ProcessHead.{ProcessHead}
use Rattle.process_counts.specs.Counts.{amount}
use Rattle.process_counts.specs.Tables.{deed_of}
use Rattle.process_counts.proofs.deeds.deeds_of.Given as goal

abbrev pub invariant-loop-entry : goal.invariant-loop-entry
invariant-loop-entry l = record {
  sums : (pid : ℕ) (head : ProcessHead) → deed_of l.deeds pid head ≡ sum_by (amount pid head) (take l.entry-index l.journal);
  fits : (pid : ℕ) (head : ProcessHead) → deed_of l.deeds pid head ≤ 2 ^ 64 * l.entry-index;
}
