use Rattle.std.proofs.Common.{◌≡◌, ◌-◌, ◌≤◌, length, take, drop}
use Rattle.swap_book.specs.Owners.{pieces_of}
use Rattle.swap_book.specs.Holdings.{lengths}
use Rattle.swap_book.specs.Placing.{wanted, more_pieces, place_all}
use Rattle.swap_book.proofs.SwapBook.find_all.Given as goal

abbrev pub invariant-loop-length : goal.invariant-loop-length
invariant-loop-length l = record {
  size : l.self.size ≡ l.fn.self.size;
  rest :
      place_all l.self.size l.self.holdings (wanted l.owner (drop l.index (pieces_of l.owner l.blocks))) ≡
      place_all l.fn.self.size l.fn.self.holdings (more_pieces l.fn.self.holdings l.owner l.blocks);
  front : take (length l.fn.self.holdings) l.self.holdings ≡ l.fn.self.holdings;
  held : l.index ≤ length (pieces_of l.owner l.blocks) → lengths l.owner l.self.holdings ≡ take l.index (pieces_of l.owner l.blocks);
}

abbrev pub decreases-loop-length : goal.decreases-loop-length
decreases-loop-length l = length (pieces_of l.owner l.blocks) - l.index
