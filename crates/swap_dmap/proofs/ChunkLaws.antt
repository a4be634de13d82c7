-- The laws of chunks: their lengths, where they start, and the walk to a page.
use Rattle.std.proofs.Common.{add-one, ◌≡◌, ℕ, zero, suc, ◌+◌, ◌-◌, ◌*◌, ◌%◌, ◌^◌, ◌<◌, ◌≤◌, Bool, true, false, nat_lt, nat_le, length, refl, sym, ap, ◌∙◌, arith, inl, inr}
use Rattle.std.proofs.lemmas.Bool.{cond-true, cond-false, cond_both, cases_Bool, cases_order, le-leb, lt-leb, lt-ltb, le-ltb}
use Rattle.std.proofs.lemmas.Nat.{pow_pos}
use Rattle.std.proofs.lemmas.List.FromFn.{length-map-range_with_len}
use Rattle.std.proofs.Math.Pow.{pow_mono}
use Rattle.swap_dmap.specs.Chunks.{chunk, chunk_start, lowest_below, chunks_holding, pieces, chunk_reached, counted_from, spot}

-- ---- the lowest number that passes

pub lowest_is : (passes : ℕ → Bool) (n m : ℕ) → m ≤ n → passes m ≡ true → ((k : ℕ) → k < m → passes k ≡ false) → lowest_below passes n ≡ m
unfolding lowest_below
lowest_is passes zero m le holds none = omega arith
lowest_is passes (suc n) zero le holds none = cond-true (passes 0) 0 (suc (lowest_below (λ k. passes (suc k)) n)) holds
lowest_is passes (suc n) (suc m) le holds none =
    cond-false (passes 0) 0 (suc (lowest_below (λ k. passes (suc k)) n)) (none 0 (omega arith)) ∙
    ap suc (lowest_is (λ k. passes (suc k)) n m (omega arith) holds (λ k h. none (suc k) (omega arith)))

pub lowest_passes : (passes : ℕ → Bool) (n : ℕ) → passes n ≡ true → passes (lowest_below passes n) ≡ true
unfolding lowest_below
lowest_passes passes zero holds = holds
lowest_passes passes (suc n) holds =
    cond_both (passes 0) 0 (suc (lowest_below (λ k. passes (suc k)) n)) (λ m. passes m ≡ true)
    (λ here. here)
    (λ not_here. lowest_passes (λ k. passes (suc k)) n holds)

pub lowest_fails : (passes : ℕ → Bool) (n k : ℕ) → k < lowest_below passes n → passes k ≡ false
unfolding lowest_below
lowest_fails passes zero k h = absurd (omega arith)
lowest_fails passes (suc n) zero h = elim (cases_Bool (passes 0)) [
  | inl here ↦ let e = cond-true (passes 0) 0 (suc (lowest_below (λ k. passes (suc k)) n)) here in absurd (omega arith)
  | inr not_here ↦ not_here
]
lowest_fails passes (suc n) (suc k) h = elim (cases_Bool (passes 0)) [
  | inl here ↦ let e = cond-true (passes 0) 0 (suc (lowest_below (λ k. passes (suc k)) n)) here in absurd (omega arith)
  | inr not_here ↦
      let e = cond-false (passes 0) 0 (suc (lowest_below (λ k. passes (suc k)) n)) not_here in
      lowest_fails (λ k. passes (suc k)) n k (omega arith)
]

-- ---- lengths and starts

pub chunk_small : (i : ℕ) → i < 5 → chunk i ≡ 32 * 2 ^ i
unfolding chunk
chunk_small i h = let p : 2 ^ i ≤ 2 ^ 5 = pow_mono {i = i} {j = 5} (omega arith) in omega arith

pub chunk_large : (i : ℕ) → 5 ≤ i → chunk i ≡ 1024
unfolding chunk
chunk_large i h = let p : 2 ^ 5 ≤ 2 ^ i = pow_mono {i = 5} {j = i} h in omega arith

pub chunk_least : (i : ℕ) → 32 ≤ chunk i
unfolding chunk
chunk_least i = omega (arith, pow_pos i)

pub chunk_most : (i : ℕ) → chunk i ≤ 1024
unfolding chunk
chunk_most i = omega arith

pub chunk_even : (i : ℕ) → chunk i % 2 ≡ 0
unfolding chunk
chunk_even i = omega arith

pub chunk_start_even : (i : ℕ) → chunk_start i % 2 ≡ 0
unfolding chunk_start
chunk_start_even zero = refl
chunk_start_even (suc i) = omega (arith, chunk_start_even i, chunk_even i)

pub chunk_start_least : (i : ℕ) → 32 * i ≤ chunk_start i
unfolding chunk_start
chunk_start_least zero = omega arith
chunk_start_least (suc i) = omega (arith, chunk_start_least i, chunk_least i)

pub chunk_start_next : (i : ℕ) → chunk_start (i + 1) ≡ chunk_start i + chunk i
unfolding chunk_start
chunk_start_next i = rw add-one refl

-- a later chunk begins at or after the end of an earlier one
pub chunk_start_after : (i j : ℕ) → i < j → chunk_start i + chunk i ≤ chunk_start j
unfolding chunk_start
chunk_start_after i zero h = absurd (omega arith)
chunk_start_after i (suc j) h = elim (cases_order i j) [
  | inl same ↦ omega (arith, ap chunk_start same, ap chunk same)
  | inr (inl below) ↦ omega (arith, chunk_start_after i j below)
  | inr (inr above) ↦ absurd (omega arith)
]

-- ---- counting and walking

-- n chunks have enough blocks, and no fewer do
pub counted_is : (blocks n : ℕ) → blocks ≤ chunk_start n → ((k : ℕ) → k < n → chunk_start k < blocks) → n ≡ length (pieces blocks)
unfolding pieces chunks_holding
counted_is blocks n enough too_few =
    sym (lowest_is (λ m. nat_le blocks (chunk_start m)) blocks n (few n too_few)
    (le-leb blocks (chunk_start n) enough)
    (λ k h. lt-leb blocks (chunk_start k) (too_few k h))) ∙
    sym (length-map-range_with_len chunk 0 (chunks_holding blocks))
  where
    few : (n : ℕ) → ((k : ℕ) → k < n → chunk_start k < blocks) → n ≤ blocks
    few zero too_few = omega arith
    few (suc n) too_few = omega (arith, chunk_start_least n, too_few n (omega arith))

pub reached_is : (blocks i : ℕ) → chunk_start i ≤ blocks → blocks < chunk_start i + chunk i → chunk_reached blocks ≡ i
unfolding chunk_reached chunk_start
reached_is blocks i begun not_past =
    lowest_is (λ j. nat_lt blocks (chunk_start (suc j))) blocks i (omega (arith, chunk_start_least i))
    (lt-ltb blocks (chunk_start (suc i)) not_past)
    (λ k h. le-ltb blocks (chunk_start (suc k)) (omega (arith, chunk_start_after k i h)))

pub spot_is : (v : ℕ) (reversed : Bool) (i walked : ℕ) → walked + chunk_start i ≡ 2 * v → walked < chunk i
    → spot v reversed ≡ (i, counted_from reversed (chunk i) walked)
unfolding spot
spot_is v reversed i walked total within =
    let left : 2 * v - chunk_start i ≡ walked = omega arith in
    ap (λ (j : ℕ). (j, counted_from reversed (chunk j) (2 * v - chunk_start j))) (reached_is (2 * v) i (omega arith) (omega arith)) ∙
    ap (λ (w : ℕ). (i, counted_from reversed (chunk i) w)) left
