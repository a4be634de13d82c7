use Rattle.swap_book.specs.Holdings.{LastOf}
use Rattle.swap_book.proofs.last_piece.Given as goal

abbrev pub invariant-loop-at : goal.invariant-loop-at
invariant-loop-at l = LastOf l.holdings l.owner l.at l.last
