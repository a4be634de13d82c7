-- The laws of pieces and places that the crates above cite: what the lists of pieces are, and where the walk to a page ends.
use Rattle.std.proofs.Common.{◌≡◌, ℕ, zero, suc, ◌+◌, ◌-◌, ◌*◌, ◌/◌, ◌%◌, ◌<◌, ◌≤◌, min, Bool, true, false, nat_lt, nat_le, List, [], ◌∷◌, ◌++◌, length, map, take, replicate, Some, refl, sym, ap, ap₂, ◌∙◌, subst, arith, inl, inr}
use Rattle.std.specs.Prelude.{slice_get}
use Rattle.std.specs.List.{range_with_len}
use Rattle.std.proofs.lemmas.Bool.{cases_lt, cases_eq, le-leb, leb-true, lt-ltb, ltb-true, ltb-false}
use Rattle.std.proofs.lemmas.List.{append-nil, length-append, length-replicate, take-append-le, take-replicate}
use Rattle.std.proofs.lemmas.List.FromFn.{length-map-range_with_len, get_or-map-range_with_len, take-map-range_with_len}
use Rattle.std.proofs.lemmas.Option.{slice_get-get_or}
use Rattle.swap_dmap.specs.Chunks.{chunk, chunk_start, lowest_below, chunks_holding, pieces, chunk_reached, counted_from, spot, last_piece, text_pieces, text_spot}
use Rattle.swap_dmap.proofs.ChunkLaws.{lowest_passes, lowest_fails, counted_is, chunk_least, chunk_even, chunk_start_even, chunk_start_least, chunk_start_after}

-- ---- pieces

pub length-pieces : (blocks : ℕ) → length (pieces blocks) ≡ chunks_holding blocks
unfolding pieces
length-pieces blocks = length-map-range_with_len chunk 0 (chunks_holding blocks)

pub slice_get-pieces : (blocks i : ℕ) → i < length (pieces blocks) → slice_get (pieces blocks) i ≡ Some (chunk i)
unfolding pieces
slice_get-pieces blocks i lt =
    let l = length-pieces blocks in
    slice_get-get_or (map chunk (range_with_len 0 (chunks_holding blocks))) i 0 lt ∙
    ap (λ (n : ℕ). Some n) (get_or-map-range_with_len chunk 0 (chunks_holding blocks) i i 0 (omega arith) (omega arith))

-- a chunk begins before a later one
pub chunk_start_below : (i j : ℕ) → i < j → chunk_start i < chunk_start j
chunk_start_below i j lt = let c = chunk_least i in let a = chunk_start_after i j lt in omega arith

pub pieces_enough : (blocks : ℕ) → blocks ≤ chunk_start (length (pieces blocks))
unfolding chunks_holding
pieces_enough blocks =
    let s = chunk_start_least blocks in
    let passes = lowest_passes (λ n. nat_le blocks (chunk_start n)) blocks (le-leb blocks (chunk_start blocks) (omega arith)) in
    subst (λ (n : ℕ). blocks ≤ chunk_start n) (sym (length-pieces blocks))
    (leb-true blocks (chunk_start (lowest_below (λ n. nat_le blocks (chunk_start n)) blocks)) passes)

-- as many chunks as are before chunk k are the pieces of the blocks before chunk k
pub pieces_at_start : (k : ℕ) → pieces (chunk_start k) ≡ map chunk (range_with_len 0 k)
unfolding pieces
pieces_at_start k =
    ap (λ (n : ℕ). map chunk (range_with_len 0 n))
    (sym (length-pieces (chunk_start k)) ∙ sym (counted_is (chunk_start k) k (omega arith) (λ j lt. chunk_start_below j k lt)))

pub pieces_none : pieces 0 ≡ []
unfolding chunk_start
pieces_none = pieces_at_start 0

pub take-pieces : (blocks k : ℕ) → k ≤ length (pieces blocks) → take k (pieces blocks) ≡ pieces (chunk_start k)
unfolding pieces
take-pieces blocks k le =
    let l = length-pieces blocks in
    take-map-range_with_len chunk 0 (chunks_holding blocks) k (omega arith) ∙ sym (pieces_at_start k)

-- of two lists of pieces the shorter is the front of the longer
pub pieces_front : (a b : ℕ) → length (pieces a) ≤ length (pieces b) → pieces a ≡ take (length (pieces a)) (pieces b)
unfolding pieces
pieces_front a b le =
    let la = length-pieces a in
    let lb = length-pieces b in
    ap (λ (n : ℕ). map chunk (range_with_len 0 n)) (sym la) ∙
    sym (take-map-range_with_len chunk 0 (chunks_holding b) (length (pieces a)) (omega arith))

-- ---- the place of a page

-- the walk to page v ends in chunk i, this far from its start
pub record Reaches (v i walked : ℕ) : Type 0 where
  pub total : walked + chunk_start i ≡ 2 * v
  pub within : walked < chunk i

pub reaches : (v : ℕ) → Reaches v (chunk_reached (2 * v)) (2 * v - chunk_start (chunk_reached (2 * v)))
unfolding chunk_reached chunk_start
reaches v =
    let passes : ℕ → Bool = λ i. nat_lt (2 * v) (chunk_start (suc i)) in
    let last = chunk_start_least (suc (2 * v)) in
    let ends = ltb-true (2 * v) (chunk_start (suc (lowest_below passes (2 * v)))) (lowest_passes passes (2 * v) (lt-ltb (2 * v) (chunk_start (suc (2 * v))) (omega arith))) in
    let begun = begun (lowest_below passes (2 * v)) (λ k lt. lowest_fails passes (2 * v) k lt) in
    record { total = omega arith; within = omega arith }
  where
    begun : (i : ℕ) → ((k : ℕ) → k < i → nat_lt (2 * v) (chunk_start (suc k)) ≡ false) → chunk_start i ≤ 2 * v
    begun zero fails = omega arith
    begun (suc k) fails = ltb-false (2 * v) (chunk_start (suc k)) (fails k (omega arith))

-- the block in the chunk: even, with room for two in the chunk
pub spot_even : (v : ℕ) (reversed : Bool) → (spot v reversed).1 % 2 ≡ 0
unfolding spot counted_from
spot_even v false = let r = (reaches v).total in omega (arith, chunk_start_even (chunk_reached (2 * v)))
spot_even v true =
    let r = (reaches v).total in
    let w = (reaches v).within in
    omega (arith, chunk_start_even (chunk_reached (2 * v)), chunk_even (chunk_reached (2 * v)))

pub spot_within : (v : ℕ) (reversed : Bool) → (spot v reversed).1 < chunk (spot v reversed).0
unfolding spot counted_from
spot_within v false = (reaches v).within
spot_within v true = omega (arith, chunk_least (chunk_reached (2 * v)))

pub spot_chunk : (v blocks : ℕ) (reversed : Bool) → 2 * v < blocks → (spot v reversed).0 < length (pieces blocks)
unfolding spot
spot_chunk v blocks reversed lt = elim (cases_lt (chunk_reached (2 * v)) (length (pieces blocks))) [
  | inl within ↦ within
  | inr past ↦
      let r = (reaches v).total in
      let e = pieces_enough blocks in
      absurd (beyond (length (pieces blocks)) (chunk_reached (2 * v)) past e r)
]
  where
    beyond : (n i : ℕ) → n ≤ i → blocks ≤ chunk_start n → 2 * v - chunk_start i + chunk_start i ≡ 2 * v → ⊥
    beyond n i le enough total = elim (cases_eq n i) [
      | inl same ↦ let s = ap chunk_start same in omega arith
      | inr less ↦ let s = chunk_start_below n i (omega arith) in omega arith
    ]

pub spot_same : (v w : ℕ) (reversed : Bool) → (spot v reversed).0 ≡ (spot w reversed).0 → (spot v reversed).1 ≡ (spot w reversed).1 → v ≡ w
unfolding spot counted_from
spot_same v w false same block =
    let r = (reaches v).total in
    let s = (reaches w).total in
    let c = ap chunk_start same in
    omega arith
spot_same v w true same block =
    let r = (reaches v).total in
    let s = (reaches w).total in
    let a = (reaches v).within in
    let b = (reaches w).within in
    let c = ap chunk_start same in
    let d = ap chunk same in
    omega (arith, chunk_start_even (chunk_reached (2 * v)), chunk_start_even (chunk_reached (2 * w)), chunk_even (chunk_reached (2 * v)), chunk_even (chunk_reached (2 * w)))

-- ---- text

pub slice_get-text_pieces_whole : (blocks i : ℕ) → i < blocks / 1024 → slice_get (text_pieces blocks) i ≡ Some 1024
unfolding text_pieces
slice_get-text_pieces_whole blocks i lt = front (blocks / 1024) i (last_piece (blocks % 1024)) lt
  where
    front : (n i : ℕ) (rest : List ℕ) → i < n → slice_get (replicate n 1024 ++ rest) i ≡ Some 1024
    front zero i rest lt = absurd (omega arith)
    front (suc n) zero rest lt = refl
    front (suc n) (suc i) rest lt = front n i rest (omega arith)

pub slice_get-text_pieces_rest : (blocks i : ℕ) → slice_get (text_pieces blocks) (blocks / 1024 + i) ≡ slice_get (last_piece (blocks % 1024)) i
unfolding text_pieces
slice_get-text_pieces_rest blocks i = back (blocks / 1024) i (last_piece (blocks % 1024))
  where
    one_more : (n i : ℕ) → suc n + i ≡ suc (n + i)
    one_more n i = omega arith

    back : (n i : ℕ) (rest : List ℕ) → slice_get (replicate n 1024 ++ rest) (n + i) ≡ slice_get rest i
    back zero i rest = ap (slice_get rest) (omega arith)
    back (suc n) i rest = ap (slice_get (1024 ∷ (replicate n 1024 ++ rest))) (one_more n i) ∙ back n i rest

pub length-last_piece : (n : ℕ) → length (last_piece n) ≡ min n 1
unfolding last_piece
length-last_piece zero = omega arith
length-last_piece (suc n) = omega arith

pub length-text_pieces : (blocks : ℕ) → length (text_pieces blocks) ≡ blocks / 1024 + length (last_piece (blocks % 1024))
unfolding text_pieces
length-text_pieces blocks =
    length-append (replicate (blocks / 1024) 1024) (last_piece (blocks % 1024)) ∙
    ap (λ (n : ℕ). n + length (last_piece (blocks % 1024))) (length-replicate (blocks / 1024) 1024)

-- so many whole pieces are a text of their blocks
pub text_pieces_whole : (k : ℕ) → text_pieces (1024 * k) ≡ replicate k 1024
unfolding text_pieces last_piece
text_pieces_whole k =
    let q : 1024 * k / 1024 ≡ k = omega arith in
    let r : 1024 * k % 1024 ≡ 0 = omega arith in
    ap₂ (λ (n m : ℕ). replicate n 1024 ++ last_piece m) q r ∙ append-nil (replicate k 1024)

pub take-text_pieces : (blocks k : ℕ) → k ≤ blocks / 1024 → take k (text_pieces blocks) ≡ text_pieces (1024 * k)
unfolding text_pieces
take-text_pieces blocks k le =
    let l = length-replicate {A = ℕ} (blocks / 1024) 1024 in
    take-append-le k (replicate (blocks / 1024) 1024) (last_piece (blocks % 1024)) (omega arith) ∙
    take-replicate k (blocks / 1024) 1024 le ∙
    sym (text_pieces_whole k)

pub text_spot_same : (v w : ℕ) → (text_spot v).0 ≡ (text_spot w).0 → (text_spot v).1 ≡ (text_spot w).1 → v ≡ w
unfolding text_spot
text_spot_same v w piece block = omega arith

pub text_spot_even : (v : ℕ) → (text_spot v).1 % 2 ≡ 0
unfolding text_spot
text_spot_even v = omega arith
