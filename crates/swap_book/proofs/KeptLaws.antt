-- What is known of the holdings once pieces are given back, and of the places of pages as pieces come and go.
use Rattle.std.proofs.Common.{◌≡◌, ℕ, zero, suc, ◌<◌, false, cond, List, [], ◌∷◌, ◌++◌, take, map, Option, Some, refl, sym, ap, ◌∙◌, arith, inl, inr}
use Rattle.std.specs.Prelude.{slice_get}
use Rattle.std.proofs.lemmas.Bool.{cases_Bool, cond-true, cond-false}
use Rattle.std.proofs.lemmas.List.{take-map}
use Rattle.swap_book.specs.declared.Owner.{Owner}
use Rattle.swap_book.specs.declared.Held.{Held}
use Rattle.swap_book.specs.Owners.{same_owner, spot_of}
use Rattle.swap_book.specs.Holdings.{of_owner, lengths, kept, block_at, block_in}
use Rattle.swap_book.specs.Placing.{Wanted, wanted}
use Rattle.swap_book.proofs.OwnerLaws.{same_owner_gives, same_owner_itself}
use Rattle.swap_book.proofs.HoldingLaws.{filter_kept, filter_left}
use Rattle.swap_book.proofs.GrowthLaws.{wanted_as}

-- ---- pieces given back

-- an owner keeps its first pieces
pub of_owner-kept : (owner : Owner) (keep : ℕ) (hs : List Held) → of_owner owner (kept owner keep hs) ≡ take keep (of_owner owner hs)
unfolding kept
of_owner-kept owner zero [] = refl
of_owner-kept owner (suc n) [] = refl
of_owner-kept owner zero (h ∷ hs) = elim (cases_Bool (same_owner h.owner owner)) [
  | inl own ↦
      ap (of_owner owner) (cond-true (same_owner h.owner owner) (kept owner zero hs) (h ∷ kept owner zero hs) own) ∙ of_owner-kept owner zero hs
  | inr other ↦
      ap (of_owner owner) (cond-false (same_owner h.owner owner) (kept owner zero hs) (h ∷ kept owner zero hs) other) ∙
      filter_left (λ (g : Held). same_owner g.owner owner) h (kept owner zero hs) other ∙ of_owner-kept owner zero hs
]
of_owner-kept owner (suc n) (h ∷ hs) = elim (cases_Bool (same_owner h.owner owner)) [
  | inl own ↦
      filter_kept (λ (g : Held). same_owner g.owner owner) h (kept owner (cond (same_owner h.owner owner) n (suc n)) hs) own ∙
      ap (λ (k : ℕ). h ∷ of_owner owner (kept owner k hs)) (cond-true (same_owner h.owner owner) n (suc n) own) ∙
      ap (λ (gs : List Held). h ∷ gs) (of_owner-kept owner n hs) ∙
      ap (take (suc n)) (sym (filter_kept (λ (g : Held). same_owner g.owner owner) h hs own))
  | inr other ↦
      filter_left (λ (g : Held). same_owner g.owner owner) h (kept owner (cond (same_owner h.owner owner) n (suc n)) hs) other ∙
      ap (λ (k : ℕ). of_owner owner (kept owner k hs)) (cond-false (same_owner h.owner owner) n (suc n) other) ∙
      of_owner-kept owner (suc n) hs ∙
      ap (take (suc n)) (sym (filter_left (λ (g : Held). same_owner g.owner owner) h hs other))
]

pub lengths-kept : (owner : Owner) (keep : ℕ) (hs : List Held) → lengths owner (kept owner keep hs) ≡ take keep (lengths owner hs)
lengths-kept owner keep hs =
    ap (map (λ (h : Held). h.length)) (of_owner-kept owner keep hs) ∙ sym (take-map (λ (h : Held). h.length) keep (of_owner owner hs))

-- and every other owner keeps all of its own
pub of_owner-kept_other : (owner other : Owner) (keep : ℕ) (hs : List Held) → same_owner owner other ≡ false
    → of_owner other (kept owner keep hs) ≡ of_owner other hs
unfolding kept
of_owner-kept_other owner other zero [] not_one = refl
of_owner-kept_other owner other (suc n) [] not_one = refl
of_owner-kept_other owner other zero (h ∷ hs) not_one = elim (cases_Bool (same_owner h.owner owner)) [
  | inl own ↦
      ap (of_owner other) (cond-true (same_owner h.owner owner) (kept owner zero hs) (h ∷ kept owner zero hs) own) ∙
      of_owner-kept_other owner other zero hs not_one ∙
      sym (filter_left (λ (g : Held). same_owner g.owner other) h hs (ap (λ (o : Owner). same_owner o other) (same_owner_gives h.owner owner own) ∙ not_one))
  | inr another ↦
      ap (of_owner other) (cond-false (same_owner h.owner owner) (kept owner zero hs) (h ∷ kept owner zero hs) another) ∙
      ap (λ (gs : List Held). cond (same_owner h.owner other) (h ∷ gs) gs) (of_owner-kept_other owner other zero hs not_one)
]
of_owner-kept_other owner other (suc n) (h ∷ hs) not_one =
    ap (λ (gs : List Held). cond (same_owner h.owner other) (h ∷ gs) gs)
    (of_owner-kept_other owner other (cond (same_owner h.owner owner) n (suc n)) hs not_one)

-- what an owner that held nothing was given can be given back: the holdings are then as before
pub kept_added : (owner : Owner) (hs gs : List Held) (ns : List ℕ) → of_owner owner hs ≡ [] → map wanted_as gs ≡ wanted owner ns → kept owner 0 (hs ++ gs) ≡ hs
unfolding kept
kept_added owner [] [] [] none e = refl
kept_added owner [] [] (n ∷ ns) none e = cc
kept_added owner [] (g ∷ gs) [] none e = cc
kept_added owner [] (g ∷ gs) (n ∷ ns) none e =
    let head = firsts (wanted_as g) (record { owner = owner; length = n }) (map wanted_as gs) (wanted owner ns) e in
    let own = ap (λ (o : Owner). same_owner o owner) (ap (λ (w : Wanted). w.owner) head) ∙ same_owner_itself owner in
    cond-true (same_owner g.owner owner) (kept owner 0 gs) (g ∷ kept owner 0 gs) own ∙
    kept_added owner [] gs ns refl (rests (wanted_as g) (record { owner = owner; length = n }) (map wanted_as gs) (wanted owner ns) e)
  where
    firsts : (v w : Wanted) (vs ws : List Wanted) → v ∷ vs ≡ w ∷ ws → v ≡ w
    firsts v w vs ws e = cc

    rests : (v w : Wanted) (vs ws : List Wanted) → v ∷ vs ≡ w ∷ ws → vs ≡ ws
    rests v w vs ws e = cc
kept_added owner (h ∷ hs) gs ns none e = elim (cases_Bool (same_owner h.owner owner)) [
  | inl own ↦ let f = sym (filter_kept (λ (g : Held). same_owner g.owner owner) h hs own) ∙ none in cc
  | inr other ↦
      cond-false (same_owner h.owner owner) (kept owner 0 (hs ++ gs)) (h ∷ kept owner 0 (hs ++ gs)) other ∙
      ap (λ (fs : List Held). h ∷ fs)
      (kept_added owner hs gs ns (sym (filter_left (λ (g : Held). same_owner g.owner owner) h hs other) ∙ none) e)
]

-- ---- the places of pages

-- a page's place rests on its own owner's pieces alone
pub block_in_same : (hs new : List Held) (owner : Owner) (v : ℕ) → of_owner owner new ≡ of_owner owner hs → block_in new owner v ≡ block_in hs owner v
block_in_same hs new owner v same = ap (λ (gs : List Held). block_at (slice_get gs (spot_of owner v).0) (spot_of owner v).1) same

-- a page keeps its place as its owner is given more pieces
pub block_in_more : (hs new more : List Held) (owner : Owner) (v block : ℕ) → of_owner owner new ≡ of_owner owner hs ++ more
    → block_in hs owner v ≡ Some block → block_in new owner v ≡ Some block
block_in_more hs new more owner v block grown e =
    ap (λ (gs : List Held). block_at (slice_get gs (spot_of owner v).0) (spot_of owner v).1) grown ∙
    go (of_owner owner hs) (spot_of owner v).0 e
  where
    go : (gs : List Held) (i : ℕ) → block_at (slice_get gs i) (spot_of owner v).1 ≡ Some block → block_at (slice_get (gs ++ more) i) (spot_of owner v).1 ≡ Some block
    go [] i e = cc
    go (g ∷ gs) zero e = e
    go (g ∷ gs) (suc i) e = go gs i e

-- and where its owner gives back pieces after its own
pub block_in_kept : (hs : List Held) (owner : Owner) (keep v : ℕ) → (spot_of owner v).0 < keep → block_in (kept owner keep hs) owner v ≡ block_in hs owner v
block_in_kept hs owner keep v lt =
    ap (λ (gs : List Held). block_at (slice_get gs (spot_of owner v).0) (spot_of owner v).1) (of_owner-kept owner keep hs) ∙
    ap (λ (o : Option Held). block_at o (spot_of owner v).1) (go (of_owner owner hs) keep (spot_of owner v).0 lt)
  where
    go : (gs : List Held) (n i : ℕ) → i < n → slice_get (take n gs) i ≡ slice_get gs i
    go gs zero i lt = absurd (omega arith)
    go [] (suc n) i lt = refl
    go (g ∷ gs) (suc n) zero lt = refl
    go (g ∷ gs) (suc n) (suc i) lt = go gs n i (omega arith)
