use Rattle.std.proofs.Common.{arith}
use Rattle.swap_book.proofs.PlacingLaws.{last_or_few}
use Rattle.swap_book.proofs.last_beyond.Goals as goal

pub returns-then-count-keep-clause-none : goal.returns-then-count-keep-clause-none
returns-then-count-keep-clause-none c =
    last_or_few c.args.holdings.now c.args.owner c.args.keep c.last_piece.result c.last_piece.ensures (omega (arith, c.count.ensures))
