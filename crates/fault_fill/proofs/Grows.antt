-- The pieces that growth of a stack asks for are those beyond the ones that are held.
use Rattle.std.proofs.Common.{◌≡◌, ℕ, ◌*◌, List, [], ◌∷◌, ◌++◌, length, drop, refl, sym, ap, ◌∙◌}
use Rattle.clock_hands.proofs.Shows.{length_map}
use Rattle.aout_image.specs.declared.Image.{Image}
use Rattle.swap_dmap.specs.Chunks.{pieces}
use Rattle.swap_book.specs.declared.Owner.TheVariants as owners
use Rattle.swap_book.specs.declared.Held.{Held}
use Rattle.swap_book.specs.Holdings.{Holdings, of_owner, lengths}
use Rattle.swap_book.specs.Placing.{Wanted, wanted, more_pieces}
use Rattle.flat_state.specs.declared.change.Change.TheVariants.{Resize}
use Rattle.page_model.specs.Placement.{Placement}
use Rattle.page_model.specs.Place.{data_count, stack_count}
use Rattle.kernel_model.specs.Asks.{further, change_asks}
use Rattle.clock_hands.specs.Wants.{wanted_of}
use Rattle.clock_hands.specs.Want.{Want}

drop_all_of : (xs : List ℕ) → drop (length xs) xs ≡ []
drop_all_of [] = refl
drop_all_of (x ∷ xs) = drop_all_of xs

append_none : (xs : List Wanted) → xs ++ [] ≡ xs
append_none [] = refl
append_none (x ∷ xs) = ap (λ (ys : List Wanted). x ∷ ys) (append_none xs)

pub growth_asked : (images : List Image) (p : Placement) (hs : Holdings) (sid next pages : ℕ) → lengths (owners.Stack sid) hs ≡ pieces (2 * stack_count p sid)
    → change_asks images p sid next (Resize (data_count p sid) pages)
    ≡ wanted_of hs ((let w : Want = record { owner = owners.Stack sid; blocks = 2 * pages } in w) ∷ [])
growth_asked images p hs sid next pages held =
    let none : further (owners.Data sid) (data_count p sid) (data_count p sid) ≡ [] = ap (wanted (owners.Data sid)) (drop_all_of (pieces (2 * data_count p sid))) in
    let count : length (pieces (2 * stack_count p sid)) ≡ length (of_owner (owners.Stack sid) hs) =
    sym (ap (λ (xs : List ℕ). length xs) held) ∙ length_map (λ (h : Held). h.length) (of_owner (owners.Stack sid) hs) in
    ap (λ (xs : List Wanted). xs ++ further (owners.Stack sid) (stack_count p sid) pages) none
    ∙ ap (λ (n : ℕ). wanted (owners.Stack sid) (drop n (pieces (2 * pages)))) count
    ∙ sym (append_none (more_pieces hs (owners.Stack sid) (2 * pages)))
