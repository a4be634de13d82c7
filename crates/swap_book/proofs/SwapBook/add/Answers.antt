use Rattle.std.proofs.Common.{◌≡◌, ℕ, false, List, [], ◌∷◌, ◌++◌, length, Some, Result, Ok, Err, sym, ap, ◌∙◌, subst}
use Rattle.resource_map.specs.Blocks.{Blocks, taken}
use Rattle.resource_map.proofs.BlockLaws.{length-marked}
use Rattle.swap_book.specs.declared.Held.{Held}
use Rattle.swap_book.specs.Owners.{pieces_of}
use Rattle.swap_book.specs.Holdings.{fit, lengths}
use Rattle.swap_book.specs.Placing.{Wanted, placed_at}
use Rattle.swap_book.specs.Book.{Book}
use Rattle.swap_book.specs.Fields.{Agrees}
use Rattle.swap_book.proofs.PlacingLaws.{fit_is, room_within, agrees_added}
use Rattle.swap_book.proofs.SwapBook.add.Goals as goal

pub returns-in_default-clause-added : goal.returns-in_default-clause-added
returns-in_default-clause-added c =
    let map = c.self.inside.map in
    let hs = c.self.inside.holdings.items in
    let w : Wanted = record { owner = c.args.owner; length = c.args.length } in (
      subst (λ (b : Book). ◌≡◌ {A = Result (List Held) ℕ} (placed_at b.holdings w (fit b.size b.holdings c.args.length)) (Err c.args.length)) c.self.view_is
          (ap (placed_at hs w) (fit_is map hs c.args.length c.self.invariant c.requires.some ∙ sym c.in_ok-start.ensures.lowest ∙ c.in_default.is)),
      c.reserve.ensures.items ∙ ap (λ (b : Book). b.holdings) c.self.view_is,
    )

pub invariant_of-self-2 : goal.invariant_of-self-2
invariant_of-self-2 c =
    let map = c.self.inside.map in
    let hs = c.self.inside.holdings.items in
    let n = c.args.length in
    let p : Held = record { owner = c.args.owner; start = c.in-Some.start; length = n } in
    let found = sym c.in_ok-start.ensures.lowest ∙ c.in-Some.is in
    let next = subst (λ (b : Book). (blocks : ℕ) × (lengths c.args.owner b.holdings ++ n ∷ [] ≡ pieces_of c.args.owner blocks)) (sym c.self.view_is) c.requires.next in
    let map_is = c.in_ok-start.ensures.taken ∙ ap (taken map n) c.in-Some.is in
    let items = c.in-Ok.ensures.items ∙ ap (λ (gs : List Held). gs ++ p ∷ []) c.reserve.ensures.items in
    subst (λ (m : Blocks). Agrees m c.push.new.self.items) (sym map_is)
    (subst (Agrees (taken map n (Some c.in-Some.start))) (sym items)
    (agrees_added map hs c.args.owner n c.in-Some.start c.self.invariant c.requires.some c.requires.even found next))

pub returns-clause-added : goal.returns-clause-added
returns-clause-added c =
    let map = c.self.inside.map in
    let hs = c.self.inside.holdings.items in
    let n = c.args.length in
    let w : Wanted = record { owner = c.args.owner; length = n } in
    let p : Held = record { owner = c.args.owner; start = c.in-Some.start; length = n } in
    let found = sym c.in_ok-start.ensures.lowest ∙ c.in-Some.is in
    let items = c.in-Ok.ensures.items ∙ ap (λ (gs : List Held). gs ++ p ∷ []) c.reserve.ensures.items in
    subst (λ (b : Book). ◌≡◌ {A = Result (List Held) ℕ} (placed_at b.holdings w (fit b.size b.holdings n)) (Ok c.push.new.self.items)) c.self.view_is
    (ap (placed_at hs w) (fit_is map hs n c.self.invariant c.requires.some ∙ found) ∙ ap (λ (gs : List Held). Ok gs) (sym items))

pub returns-clause-size : goal.returns-clause-size
returns-clause-size c =
    let map = c.self.inside.map in
    let n = c.args.length in
    let found = sym c.in_ok-start.ensures.lowest ∙ c.in-Some.is in
    let map_is = c.in_ok-start.ensures.taken ∙ ap (taken map n) c.in-Some.is in
    ap (λ (m : Blocks). length m.free) map_is ∙
    length-marked map.free c.in-Some.start n false (room_within map n c.in-Some.start found) ∙
    ap (λ (b : Book). b.size) c.self.view_is
