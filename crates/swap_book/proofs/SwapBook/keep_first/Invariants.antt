use Rattle.std.proofs.Common.{◌≡◌, length}
use Rattle.swap_book.specs.Holdings.{kept}
use Rattle.swap_book.proofs.SwapBook.keep_first.Given as goal

abbrev pub invariant-loop-at : goal.invariant-loop-at
invariant-loop-at l = record {
  size : l.self.size ≡ l.initial.self.size;
  kept : kept l.owner l.keep l.self.holdings ≡ kept l.owner l.keep l.initial.self.holdings;
}

abbrev pub decreases-loop-at : goal.decreases-loop-at
decreases-loop-at l = length l.self.holdings
