-- Pieces of which no two share a block have no more blocks than there are.
use Rattle.std.proofs.Common.{◌≡◌, ◌⊎◌, inl, inr, ℕ, zero, suc, ◌+◌, ◌-◌, ◌<◌, ◌≤◌, List, [], ◌∷◌, length, refl, arith}
use Rattle.std.specs.Prelude.{slice_index_or}
use Rattle.std.specs.List.{All, AllPairs}
use Rattle.std.proofs.lemmas.Bool.{cases_lt}
use Rattle.swap_book.specs.declared.Held.{Held}
use Rattle.swap_book.specs.Book.{IsPiece, IsApart, IsBook}
use Rattle.run_model.specs.Next.{blocks_held}

-- how many of the first n blocks lie in a piece
abbrev below : ℕ → Held → ℕ
below n h = (n - h.start) - (n - (h.start + h.length))

abbrev below_all : ℕ → List Held → ℕ
below_all n [] = 0
below_all n (h ∷ hs) = below n h + below_all n hs

-- in a list, by cases: no two share a block
abbrev AreApart : List Held → Type 0
AreApart [] = Unit {0}
AreApart (h ∷ hs) = ((i : ℕ) (d : Held) → i < length hs → IsApart h (slice_index_or hs i d)) × AreApart hs

are_apart : (hs : List Held) → AllPairs IsApart hs → AreApart hs
are_apart [] h = tt
are_apart (x ∷ xs) h = (λ i d l. h 0 (suc i) d (omega arith) (omega (arith, l)), are_apart xs (λ i j d a b. h (suc i) (suc j) d (omega (arith, a)) (omega (arith, b))))

-- a block that lies in one piece lies in none that is apart from it
none_more : (n : ℕ) (h : Held) (hs : List Held) → h.start ≤ n → n < h.start + h.length
    → ((i : ℕ) (d : Held) → i < length hs → IsApart h (slice_index_or hs i d)) → below_all (suc n) hs ≡ below_all n hs
none_more n h [] a b f = refl
none_more n h (g ∷ gs) a b f =
    let more = none_more n h gs a b (λ i d l. f (suc i) d (omega (arith, l))) in
    let one : below (suc n) g ≡ below n g = elim (f 0 g (omega arith)) [
      | inl x ↦ omega (arith, x, a, b)
      | inr x ↦ omega (arith, x, a, b)
    ] in
    omega (arith, more, one)

one_more : (n : ℕ) (hs : List Held) → AreApart hs → below_all (suc n) hs ≤ below_all n hs + 1
one_more n [] p = omega arith
one_more n (h ∷ hs) p = go (cases_lt n h.start) (cases_lt n (h.start + h.length)) (one_more n hs p.1)
  where
    out : below (suc n) h ≡ below n h → below_all (suc n) hs ≤ below_all n hs + 1 → below_all (suc n) (h ∷ hs) ≤ below_all n (h ∷ hs) + 1
    out e more = omega (arith, more, e)

    go : (n < h.start) ⊎ (h.start ≤ n) → (n < h.start + h.length) ⊎ (h.start + h.length ≤ n) → below_all (suc n) hs ≤ below_all n hs + 1
        → below_all (suc n) (h ∷ hs) ≤ below_all n (h ∷ hs) + 1
    go (inl a) b more = out (omega (arith, a)) more
    go (inr a) (inl b) more = let same = none_more n h hs a b p.0 in omega (arith, same, a, b)
    go (inr a) (inr b) more = out (omega (arith, a, b)) more

below_few : (n : ℕ) (hs : List Held) → AreApart hs → below_all n hs ≤ n
below_few zero hs p = let z = none hs in omega (arith, z)
  where
    none : (gs : List Held) → below_all 0 gs ≡ 0
    none [] = refl
    none (g ∷ gs) = let more = none gs in omega (arith, more)
below_few (suc n) hs p = let one = one_more n hs p in let less = below_few n hs p in omega (arith, one, less)

-- below the size all blocks of a piece lie
all_below : (size : ℕ) (hs : List Held) → All (IsPiece size) hs → below_all size hs ≡ blocks_held hs
all_below size [] h = refl
all_below size (x ∷ xs) h =
    let more = all_below size xs (λ k d l. h (suc k) d (omega (arith, l))) in
    let inside = (h 0 x (omega arith)).within in
    let one : below size x ≡ x.length = omega (arith, inside) in
    omega (arith, more, one)

pub few_held : (size : ℕ) (hs : List Held) → IsBook size hs → blocks_held hs ≤ size
few_held size hs b =
    let few = below_few size hs (are_apart hs b.apart) in
    let same = all_below size hs b.pieces in
    omega (arith, few, same)
