use Rattle.std.proofs.Common.{◌≡◌, List, Some, sym, ap, ◌∙◌, length, arith}
use Rattle.std.specs.Prelude.{slice_get}
use Rattle.swap_book.specs.declared.Held.{Held}
use Rattle.swap_book.specs.Holdings.{of_owner}
use Rattle.swap_book.proofs.PlaceLaws.{own_piece}
use Rattle.swap_book.proofs.SwapBook.block_of.Goals as goal

pub overflow_add-result : goal.overflow_add-result
overflow_add-result c =
    let hs = c.self.inside.holdings.items in
    let found : slice_get (of_owner c.args.owner hs) c.spot-index.result.0 ≡ Some c.in_ok-piece.piece =
    ap (λ (gs : List Held). slice_get (of_owner c.args.owner gs) c.spot-index.result.0) (sym c.deref.ensures.value) ∙
    sym c.nth_piece.ensures ∙ c.in_ok-piece.was in
    let o = own_piece (length c.self.inside.map.free) hs c.args.owner c.spot-index.result.0 c.in_ok-piece.piece c.self.invariant.book found in
    let w = o.piece.within in
    omega arith
