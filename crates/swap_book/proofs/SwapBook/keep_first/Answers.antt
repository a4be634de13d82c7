use Rattle.std.proofs.Common.{ℕ, ◌<◌, ◌≤◌, List, length, sym, ap, ap₂, ◌∙◌, subst}
use Rattle.swap_book.specs.declared.Held.{Held}
use Rattle.swap_book.specs.Holdings.{of_owner, kept, IsLastOf}
use Rattle.swap_book.specs.Book.{Book}
use Rattle.swap_book.proofs.HoldingLaws.{kept_all, kept-remove_last}
use Rattle.swap_book.proofs.SwapBook.keep_first.Goals as goal

abbrev book_with : ℕ → List Held → Book
book_with size hs = record { size = size; holdings = hs }

pub loop-at-preserved : goal.loop-at-preserved
loop-at-preserved c =
    let same = c.deref.ensures.value ∙ ap (λ (b : Book). b.holdings) c.self.view_is in
    record {
      size = ap (λ (b : Book). b.size) c.give_back.ensures ∙ c.loop-at.invariant.size;
      kept =
          ap (λ (b : Book). kept c.args.owner c.args.keep b.holdings) c.give_back.ensures ∙
          kept-remove_last c.args.owner c.args.keep c.loop-at.self.holdings c.in-Some.at
          (subst (λ (hs : List Held). IsLastOf hs c.args.owner (length hs) c.in-Some.at) same c.in-Some.ensures.last)
          (subst (λ (hs : List Held). c.args.keep < length (of_owner c.args.owner hs)) same c.in-Some.ensures.more) ∙
          c.loop-at.invariant.kept;
    }

pub returns : goal.returns
returns c =
    let same = c.deref.ensures.value ∙ ap (λ (b : Book). b.holdings) c.self.view_is in
    ap₂ book_with c.loop-at.invariant.size
    (sym (kept_all c.args.owner c.args.keep c.loop-at.self.holdings
    (subst (λ (hs : List Held). length (of_owner c.args.owner hs) ≤ c.args.keep) same c.in_default.ensures.none)) ∙
    c.loop-at.invariant.kept)
