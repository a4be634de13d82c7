use Rattle.std.proofs.Common.{ℕ, ◌+◌, List, [], ◌∷◌, ◌++◌, length, take, drop, Bool, sym, ap, ◌∙◌, subst, refl, arith}
use Rattle.std.proofs.lemmas.List.{take_all}
use Rattle.std.proofs.lemmas.Option.{slice_get_within}
use Rattle.swap_book.specs.declared.Held.{Held}
use Rattle.swap_book.specs.Owners.{pieces_of}
use Rattle.swap_book.specs.Holdings.{of_owner, fit}
use Rattle.swap_book.specs.Placing.{Wanted, wanted, place_all, Adds}
use Rattle.swap_book.specs.Book.{Book, IsBook}
use Rattle.swap_book.proofs.OwnerLaws.{pieces_whole}
use Rattle.swap_book.proofs.PlacingLaws.{held_front, whole_pages, take_next, next_of, place_next, place_refused, place_done, placed_gives, front_kept, lengths_grown}
use Rattle.swap_book.proofs.SwapBook.find_all.Goals as goal

pub loop-length-init : goal.loop-length-init
loop-length-init c =
    let hs = c.args.self.now.holdings in
    let ps = pieces_of c.args.owner c.args.blocks in
    let count = c.count-index.ensures ∙ ap (λ (gs : List Held). length (of_owner c.args.owner gs)) (c.deref.ensures.value ∙ ap (λ (b : Book). b.holdings) c.self.view_is) in
    let book = subst (λ (b : Book). IsBook b.size b.holdings) c.self.view_is c.self.invariant.book in
    record {
      size = refl;
      rest = ap (λ (i : ℕ). place_all c.args.self.now.size hs (wanted c.args.owner (drop i ps))) count;
      front = take_all (length hs) hs (omega arith);
      held = λ le.
          held_front c.args.self.now.size hs c.args.owner c.args.blocks book c.requires (omega arith) ∙
          ap (λ (i : ℕ). take i ps) (sym count);
    }

pub add-requires-clause-some : goal.add-requires-clause-some
add-requires-clause-some c =
    (pieces_whole c.args.owner c.args.blocks c.loop-length.index c.in-Some.length (whole_pages c.args.self.now.holdings c.args.owner c.args.blocks c.requires)
    (sym c.piece.ensures.value ∙ c.in-Some.is)).some

pub add-requires-clause-even : goal.add-requires-clause-even
add-requires-clause-even c =
    (pieces_whole c.args.owner c.args.blocks c.loop-length.index c.in-Some.length (whole_pages c.args.self.now.holdings c.args.owner c.args.blocks c.requires)
    (sym c.piece.ensures.value ∙ c.in-Some.is)).even

pub add-requires-clause-next : goal.add-requires-clause-next
add-requires-clause-next c =
    let found = sym c.piece.ensures.value ∙ c.in-Some.is in
    let lt = slice_get_within (pieces_of c.args.owner c.args.blocks) c.loop-length.index c.in-Some.length found in
    next_of c.loop-length.self.holdings c.args.owner c.args.blocks c.loop-length.index c.in-Some.length (c.loop-length.invariant.held (omega arith)) found

pub returns-then-not-branch-clause-found : goal.returns-then-not-branch-clause-found
returns-then-not-branch-clause-found c =
    let hs = c.loop-length.self.holdings in
    let n = c.in-Some.length in
    let w : Wanted = record { owner = c.args.owner; length = n } in
    let refused = subst (λ (b : Bool). Adds b c.loop-length.self.size hs w c.add.new.self.holdings) c.if-not-branch.true c.in_ok-add.ensures.added in
    sym c.loop-length.invariant.rest ∙
    place_refused c.loop-length.self.size hs c.args.owner (pieces_of c.args.owner c.args.blocks) c.loop-length.index n (sym c.piece.ensures.value ∙ c.in-Some.is) refused.0

pub loop-length-smaller : goal.loop-length-smaller
loop-length-smaller c =
    let found = sym c.piece.ensures.value ∙ c.in-Some.is in
    let lt = slice_get_within (pieces_of c.args.owner c.args.blocks) c.loop-length.index c.in-Some.length found in
    omega arith

pub loop-length-preserved : goal.loop-length-preserved
loop-length-preserved c =
    let hs = c.loop-length.self.holdings in
    let new = c.add.new.self.holdings in
    let n = c.in-Some.length in
    let ps = pieces_of c.args.owner c.args.blocks in
    let i = c.loop-length.index in
    let w : Wanted = record { owner = c.args.owner; length = n } in
    let found = sym c.piece.ensures.value ∙ c.in-Some.is in
    let placed = subst (λ (b : Bool). Adds b c.loop-length.self.size hs w new) c.if-not-branch.false c.in_ok-add.ensures.added in
    let grown = placed_gives hs new w (fit c.loop-length.self.size hs n) placed in
    record {
      size = c.in_ok-add.ensures.size ∙ c.loop-length.invariant.size;
      rest =
          ap (λ (m : ℕ). place_all m new (wanted c.args.owner (drop (i + 1) ps))) c.in_ok-add.ensures.size ∙
          sym (place_next c.loop-length.self.size hs new c.args.owner ps i n found placed) ∙
          c.loop-length.invariant.rest;
      front = front_kept c.args.self.now.holdings hs new (record { owner = c.args.owner; start = grown.0; length = n }) c.loop-length.invariant.front grown.1;
      held = λ le.
          lengths_grown c.args.owner hs new n grown.0 grown.1 ∙
          ap (λ (ns : List ℕ). ns ++ n ∷ []) (c.loop-length.invariant.held (omega arith)) ∙
          sym (take_next ps i n found);
    }

pub returns-clause-found : goal.returns-clause-found
returns-clause-found c =
    let none = sym c.piece.ensures.value ∙ c.in_default.is in
    sym c.loop-length.invariant.rest ∙
    place_done c.loop-length.self.size c.loop-length.self.holdings c.args.owner (pieces_of c.args.owner c.args.blocks) c.loop-length.index none
