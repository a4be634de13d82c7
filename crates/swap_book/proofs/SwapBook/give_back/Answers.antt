use Rattle.std.proofs.Common.{◌≡◌, ℕ, ◌+◌, ◌<◌, ◌≤◌, true, false, List, length, sym, ap, ap₂, ◌∙◌, subst}
use Rattle.std.specs.Prelude.{remove}
use Rattle.resource_map.specs.Blocks.{Blocks, is_free_block, freed}
use Rattle.resource_map.proofs.BlockLaws.{length-marked}
use Rattle.swap_book.specs.declared.Held.{Held}
use Rattle.swap_book.specs.Holdings.{IsItsOwnersLast}
use Rattle.swap_book.specs.Book.{Book}
use Rattle.swap_book.specs.Fields.{Agrees}
use Rattle.swap_book.proofs.PlacingLaws.{piece_not_free, agrees_removed}
use Rattle.swap_book.proofs.SwapBook.give_back.Goals as goal

abbrev book_with : ℕ → List Held → Book
book_with size hs = record { size = size; holdings = hs }

pub free-requires-clause-not_free : goal.free-requires-clause-not_free
free-requires-clause-not_free c = λ b low high.
    let hs = c.self.inside.holdings.items in
    let h = c.remove-start.result in
    let lt = subst (λ (s : Book). c.args.at < length s.holdings) (sym c.self.view_is) c.requires.within in
    subst (λ (g : Held). g.start ≤ b → b < g.start + g.length → is_free_block c.self.inside.map.free b ≡ false) (sym c.remove-start.ensures.value)
    (piece_not_free c.self.inside.map hs c.args.at b h c.self.invariant lt) low high

pub invariant_of-self : goal.invariant_of-self
invariant_of-self c =
    let hs = c.self.inside.holdings.items in
    let map = c.self.inside.map in
    let h = c.remove-start.result in
    let lt = subst (λ (s : Book). c.args.at < length s.holdings) (sym c.self.view_is) c.requires.within in
    let last = subst (λ (s : Book). IsItsOwnersLast s.holdings c.args.at) (sym c.self.view_is) c.requires.last in
    subst (λ (m : Blocks). Agrees m c.remove-start.new.self.items) (sym c.free.ensures)
    (subst (Agrees (freed map h.start h.length)) (sym c.remove-start.ensures.items)
    (subst (λ (g : Held). Agrees (freed map g.start g.length) (remove hs c.args.at)) (sym c.remove-start.ensures.value)
    (agrees_removed map hs c.args.at h c.self.invariant lt last)))

pub returns : goal.returns
returns c =
    let hs = c.self.inside.holdings.items in
    let map = c.self.inside.map in
    let h = c.remove-start.result in
    let lt = subst (λ (s : Book). c.args.at < length s.holdings) (sym c.self.view_is) c.requires.within in
    let within =
    subst (λ (g : Held). g.start + g.length ≤ length map.free) (sym c.remove-start.ensures.value) ((c.self.invariant.book.pieces c.args.at h lt).within) in
    ap₂ book_with
    (ap (λ (m : Blocks). length m.free) c.free.ensures ∙ length-marked map.free h.start h.length true within ∙ ap (λ (s : Book). s.size) c.self.view_is)
    (c.remove-start.ensures.items ∙ ap (λ (s : Book). remove s.holdings c.args.at) c.self.view_is)
