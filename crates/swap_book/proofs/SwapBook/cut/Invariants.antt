use Rattle.std.proofs.Common.{◌≡◌, ◌≤◌, length, take}
use Rattle.swap_book.proofs.SwapBook.cut.Given as goal

abbrev pub invariant-loop-self : goal.invariant-loop-self
invariant-loop-self l = record {
  size : l.self.size ≡ l.initial.self.size;
  front : take l.before l.self.holdings ≡ take l.before l.initial.self.holdings;
  enough : l.before ≤ length l.self.holdings;
}

abbrev pub decreases-loop-self : goal.decreases-loop-self
decreases-loop-self l = length l.self.holdings
