use Rattle.std.proofs.Common.{ℕ, length, ap, ◌∙◌, arith}
use Rattle.swap_book.specs.Owners.{pieces_of}
use Rattle.swap_book.specs.Holdings.{kept}
use Rattle.swap_book.specs.Book.{with_holdings}
use Rattle.swap_wants.proofs.Growing.{shrinks, never_shrinks, shrunk, nothing_back, none_back}
use Rattle.swap_wants.proofs.give_back.Goals as goal

pub returns-then-keep-chunks_for : goal.returns-then-keep-chunks_for
returns-then-keep-chunks_for c =
    c.shrink.ensures
    ∙ ap (λ (n : ℕ). with_holdings c.args.book.now (kept c.args.want.owner n c.args.book.now.holdings))
    (ap (λ (n : ℕ). length (pieces_of c.args.want.owner n)) c.blocks_in.ensures ∙ shrunk c.args.want.owner c.args.keep (shrinks c.args.want.owner c.in-Data.is))

pub returns-else-keep-chunks_for : goal.returns-else-keep-chunks_for
returns-else-keep-chunks_for c =
    nothing_back c.args.book.now c.args.want.owner c.args.want.blocks c.args.keep (shrinks c.args.want.owner c.in-Data.is) c.requires
    (let n = c.chunks_for.ensures in omega (arith, n, c.if-keep-chunks_for.false))

pub returns-else-keep-eq0 : goal.returns-else-keep-eq0
returns-else-keep-eq0 c =
    none_back c.args.book.now c.args.want.owner c.args.want.blocks c.args.keep (never_shrinks c.args.want.owner c.in-U.is) c.requires (λ e. let n = c.if-keep-eq0.false in absurd (omega (arith, n, e)))
