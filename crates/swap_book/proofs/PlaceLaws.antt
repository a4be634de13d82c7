-- Places don't meet: two pages have no block in common, and each page lies in its own owner's holding.
use Rattle.std.proofs.Common.{◌≡◌, ℕ, ◌+◌, ◌*◌, ◌%◌, ◌<◌, ◌≤◌, true, false, nat_lt, List, get_or, Option, Some, None, refl, sym, ap, ◌∙◌, subst, arith, inl, inr, ◌⊎◌}
use Rattle.std.specs.Prelude.{slice_get, IsSome, option_map}
use Rattle.std.proofs.lemmas.Bool.{cases_Bool, cases_order, lt-ltb, ltb-true, cond-true, cond-false, false≢true}
use Rattle.std.proofs.lemmas.Option.{slice_get-map, slice_get_within, get_or_from_slice_get, same_Some}
use Rattle.swap_book.specs.declared.Owner.{Owner}
use Rattle.swap_book.specs.declared.Held.{Held}
use Rattle.swap_book.specs.Owners.{same_owner, pieces_of, MayHold, spot_of}
use Rattle.swap_book.specs.Holdings.{of_owner, lengths, block_at, block_in}
use Rattle.swap_book.specs.Book.{IsPiece, IsApart, IsBook, IsPlace, ArePlacesApart}
use Rattle.swap_book.proofs.OwnerLaws.{same_owner_gives, same_owner_itself, spot_of_even, spot_of_same, spot_fits}
use Rattle.swap_book.proofs.HoldingLaws.{filter_from, filter_both}

-- an owner's piece stands in the holdings
pub record Own (size : ℕ) (hs : List Held) (owner : Owner) (h : Held) : Type 0 where
  pub at : ℕ
  pub there : slice_get hs at ≡ Some h
  pub piece : IsPiece size h
  pub owner_is : same_owner h.owner owner ≡ true

pub own_piece : (size : ℕ) (hs : List Held) (owner : Owner) (i : ℕ) (h : Held) → IsBook size hs → slice_get (of_owner owner hs) i ≡ Some h → Own size hs owner h
own_piece size hs owner i h book found =
    let f = filter_from (λ (g : Held). same_owner g.owner owner) hs i h found in
    record {
      at = f.at;
      there = f.is;
      piece = subst (IsPiece size) (get_or_from_slice_get hs f.at h h f.is) (book.pieces f.at h (slice_get_within hs f.at h f.is));
      owner_is = f.passes;
    }

-- a page's block lies in a piece
pub record InPiece (hs : List Held) (owner : Owner) (v block : ℕ) : Type 0 where
  pub piece : Held
  pub there : slice_get (of_owner owner hs) (spot_of owner v).0 ≡ Some piece
  pub within : (spot_of owner v).1 < piece.length
  pub is : block ≡ piece.start + (spot_of owner v).1

pub in_piece : (hs : List Held) (owner : Owner) (v block : ℕ) → block_in hs owner v ≡ Some block → InPiece hs owner v block
in_piece hs owner v block e = go (slice_get (of_owner owner hs) (spot_of owner v).0) refl e
  where
    number : (x y : ℕ) → Some x ≡ Some y → y ≡ x
    number x y e = cc

    go : (o : Option Held) → slice_get (of_owner owner hs) (spot_of owner v).0 ≡ o → block_at o (spot_of owner v).1 ≡ Some block → InPiece hs owner v block
    go None there e = cc
    go (Some h) there e = elim (cases_Bool (nat_lt (spot_of owner v).1 h.length)) [
      | inl within ↦ record {
        piece = h;
        there = there;
        within = ltb-true (spot_of owner v).1 h.length within;
        is = number (h.start + (spot_of owner v).1) block (sym (cond-true (nat_lt (spot_of owner v).1 h.length) (Some (h.start + (spot_of owner v).1)) None within) ∙ e);
      }
      | inr past ↦ let n = sym (cond-false (nat_lt (spot_of owner v).1 h.length) (Some (h.start + (spot_of owner v).1)) None past) ∙ e in cc
    ]

place_found : (hs : List Held) (owner : Owner) (blocks v : ℕ) → lengths owner hs ≡ pieces_of owner blocks → MayHold owner blocks → 2 * v < blocks
    → IsSome (block_in hs owner v)
place_found hs owner blocks v holds may lt =
    let f = spot_fits owner blocks v may lt in
    go (slice_get (of_owner owner hs) (spot_of owner v).0) f.length
    (sym (slice_get-map (λ (h : Held). h.length) (of_owner owner hs) (spot_of owner v).0) ∙
    ap (λ (ns : List ℕ). slice_get ns (spot_of owner v).0) holds ∙ f.piece)
    f.within
  where
    number : (x y : ℕ) → Some x ≡ Some y → x ≡ y
    number x y e = cc

    go : (o : Option Held) (n : ℕ) → option_map (λ (h : Held). h.length) o ≡ Some n → (spot_of owner v).1 < n → IsSome (block_at o (spot_of owner v).1)
    go None n e lt = cc
    go (Some h) n e lt =
        let l = number h.length n e in
        subst IsSome (sym (cond-true (nat_lt (spot_of owner v).1 h.length) (Some (h.start + (spot_of owner v).1)) None (lt-ltb (spot_of owner v).1 h.length (omega arith)))) refl

place_own : (size : ℕ) (hs : List Held) (owner : Owner) (v block : ℕ) → IsBook size hs → block_in hs owner v ≡ Some block → IsPlace size hs owner block
place_own size hs owner v block book e =
    let p = in_piece hs owner v block e in
    let o = own_piece size hs owner (spot_of owner v).0 p.piece book p.there in
    let s = o.piece.even_start in
    let l = o.piece.even_length in
    let r = spot_of_even owner v in
    let w = o.piece.within in
    let i = p.is in
    let b = p.within in
    record {
      even = omega arith;
      within = omega arith;
      own = (
        o.at,
        p.piece,
        slice_get_within hs o.at p.piece o.there,
        get_or_from_slice_get hs o.at p.piece p.piece o.there,
        (same_owner_gives p.piece.owner owner o.owner_is, omega arith, omega arith),
      );
    }

-- two pieces at different places of the holdings are apart
pieces_apart : (size : ℕ) (hs : List Held) (k l : ℕ) (g h : Held) → IsBook size hs → k < l → slice_get hs k ≡ Some g → slice_get hs l ≡ Some h → IsApart g h
pieces_apart size hs k l g h book lt e f =
    subst (λ (x : Held). IsApart x h) (get_or_from_slice_get hs k g g e)
    (subst (λ (y : Held). IsApart (get_or hs k g) y) (get_or_from_slice_get hs l h g f)
    (book.apart k l g lt (slice_get_within hs l h f)))

-- pages in pieces that are apart share no block
apart_places : (size : ℕ) (g h : Held) (r s x y : ℕ) → IsPiece size g → IsPiece size h → r % 2 ≡ 0 → s % 2 ≡ 0 → r < g.length → s < h.length
    → x ≡ g.start + r → y ≡ h.start + s → IsApart g h → (x + 2 ≤ y) ⊎ (y + 2 ≤ x)
apart_places size g h r s x y p q re se rw' sw x_is y_is (inl before) = let a = p.even_length in inl (omega arith)
apart_places size g h r s x y p q re se rw' sw x_is y_is (inr after) = let a = q.even_length in inr (omega arith)

turned : (x y : ℕ) → (x + 2 ≤ y) ⊎ (y + 2 ≤ x) → (y + 2 ≤ x) ⊎ (x + 2 ≤ y)
turned x y (inl before) = inr before
turned x y (inr after) = inl after

-- two pages of one owner
same_owner_apart : (size : ℕ) (hs : List Held) (owner : Owner) (v w x y : ℕ) → IsBook size hs → InPiece hs owner v x → InPiece hs owner w y
    → (v ≡ w) ⊎ ((x + 2 ≤ y) ⊎ (y + 2 ≤ x))
same_owner_apart size hs owner v w x y book p q =
    let g = own_piece size hs owner (spot_of owner v).0 p.piece book p.there in
    let h = own_piece size hs owner (spot_of owner w).0 q.piece book q.there in
    elim (cases_order (spot_of owner v).0 (spot_of owner w).0) [
      | inl same ↦
          let one = same_Some p.piece q.piece (sym p.there ∙ ap (slice_get (of_owner owner hs)) same ∙ q.there) in
          let start = ap (λ (k : Held). k.start) one in
          let i = p.is in
          let j = q.is in
          let a = spot_of_even owner v in
          let b = spot_of_even owner w in
          elim (cases_order (spot_of owner v).1 (spot_of owner w).1) [
            | inl block ↦ inl (spot_of_same owner v w same block)
            | inr (inl below) ↦ inr (inl (omega arith))
            | inr (inr above) ↦ inr (inr (omega arith))
          ]
      | inr (inl below) ↦
          let f = filter_both (λ (k : Held). same_owner k.owner owner) hs (spot_of owner v).0 (spot_of owner w).0 p.piece q.piece below p.there q.there in
          inr (apart_places size p.piece q.piece (spot_of owner v).1 (spot_of owner w).1 x y g.piece h.piece (spot_of_even owner v) (spot_of_even owner w) p.within q.within p.is q.is
          (pieces_apart size hs f.first f.second p.piece q.piece book f.order f.is_first f.is_second))
      | inr (inr above) ↦
          let f = filter_both (λ (k : Held). same_owner k.owner owner) hs (spot_of owner w).0 (spot_of owner v).0 q.piece p.piece above q.there p.there in
          inr (turned y x (apart_places size q.piece p.piece (spot_of owner w).1 (spot_of owner v).1 y x h.piece g.piece (spot_of_even owner w) (spot_of_even owner v) q.within p.within q.is p.is
          (pieces_apart size hs f.first f.second q.piece p.piece book f.order f.is_first f.is_second)))
    ]

-- pages of two owners
other_owner_apart : (size : ℕ) (hs : List Held) (a b : Owner) (v w x y : ℕ) → IsBook size hs → same_owner a b ≡ false → InPiece hs a v x → InPiece hs b w y
    → (x + 2 ≤ y) ⊎ (y + 2 ≤ x)
other_owner_apart size hs a b v w x y book other p q =
    let g = own_piece size hs a (spot_of a v).0 p.piece book p.there in
    let h = own_piece size hs b (spot_of b w).0 q.piece book q.there in
    elim (cases_order g.at h.at) [
      | inl same ↦
          let one = same_Some p.piece q.piece (sym g.there ∙ ap (slice_get hs) same ∙ h.there) in
          let owner = sym (same_owner_gives p.piece.owner a g.owner_is) ∙ ap (λ (k : Held). k.owner) one ∙ same_owner_gives q.piece.owner b h.owner_is in
          absurd (false≢true (sym other ∙ ap (same_owner a) (sym owner) ∙ same_owner_itself a))
      | inr (inl below) ↦
          apart_places size p.piece q.piece (spot_of a v).1 (spot_of b w).1 x y g.piece h.piece (spot_of_even a v) (spot_of_even b w) p.within q.within p.is q.is
          (pieces_apart size hs g.at h.at p.piece q.piece book below g.there h.there)
      | inr (inr above) ↦
          turned y x (apart_places size q.piece p.piece (spot_of b w).1 (spot_of a v).1 y x h.piece g.piece (spot_of_even b w) (spot_of_even a v) q.within p.within q.is p.is
          (pieces_apart size hs h.at g.at q.piece p.piece book above h.there g.there))
    ]

pub places_apart_of : (size : ℕ) (hs : List Held) → IsBook size hs → ArePlacesApart size hs
places_apart_of size hs book = record {
  found = λ owner blocks v holds may lt. place_found hs owner blocks v holds may lt;
  own = λ owner v block e. place_own size hs owner v block book e;
  apart = λ a b v w x y e f. elim (cases_Bool (same_owner a b)) [
    | inl same ↦ one_owner a b v w x y (same_owner_gives a b same) e f
    | inr other ↦ inr (other_owner_apart size hs a b v w x y book other (in_piece hs a v x e) (in_piece hs b w y f))
  ];
}
  where
    one_owner : (a b : Owner) (v w x y : ℕ) → a ≡ b → block_in hs a v ≡ Some x → block_in hs b w ≡ Some y → ((a ≡ b) × (v ≡ w)) ⊎ ((x + 2 ≤ y) ⊎ (y + 2 ≤ x))
    one_owner a b v w x y same e f =
        elim (same_owner_apart size hs a v w x y book (in_piece hs a v x e)
        (in_piece hs a w y (ap (λ (o : Owner). block_in hs o w) same ∙ f))) [
          | inl page ↦ inl (same, page)
          | inr places ↦ inr places
        ]
