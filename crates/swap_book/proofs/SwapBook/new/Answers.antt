use Rattle.std.proofs.Common.{◌≡◌, Bool, true, false, not, List, length, sym, ap, ◌∙◌, subst, arith}
use Rattle.std.proofs.lemmas.List.{length-replicate, get_or-replicate}
use Rattle.resource_map.specs.Blocks.{Blocks, is_free_block}
use Rattle.swap_book.specs.declared.Held.{Held}
use Rattle.swap_book.specs.Holdings.{is_held}
use Rattle.swap_book.specs.Book.{IsBook}
use Rattle.swap_book.proofs.BookLaws.{empty_is_book}
use Rattle.swap_book.proofs.SwapBook.new.Goals as goal

pub invariant_of-result : goal.invariant_of-result
unfolding is_held
invariant_of-result c =
    let m = c.in_ok-new.field-0 in
    let map_is = ap (λ (b : Blocks). b.free) c.in_ok-new.ensures in
    let none = c.new-2.ensures.items in
    let size : length m.free ≡ c.args.size = ap (λ (free : List Bool). length free) map_is ∙ length-replicate c.args.size true in
    record {
      book = subst (IsBook (length m.free)) (sym none) (empty_is_book (length m.free));
      blocks = λ b lt.
          ap (λ (free : List Bool). is_free_block free b) map_is ∙
          get_or-replicate c.args.size b true false (omega arith) ∙
          sym (ap (λ (hs : List Held). not (is_held hs b)) none);
      spare = ap (λ (b : Blocks). b.spare) c.in_ok-new.ensures ∙ sym (ap (λ (hs : List Held). length hs) none);
      small = omega arith;
    }
