-- Bits of words, the bits above them, and the walks up and down.
use Rattle.std.proofs.Common.{◌≡◌, ℕ, zero, suc, ◌+◌, ◌*◌, ◌/◌, ◌%◌, ◌^◌, ◌<◌, ◌≤◌, min, List, [], ◌∷◌, length, get_or, set, replicate, refl, sym, ap, ◌∙◌, subst, arith, inl, inr}
use Rattle.std.specs.Int.{bit_at}
use Rattle.std.proofs.lemmas.Bool.{cases_eq, cases_lt}
use Rattle.std.proofs.lemmas.List.{length-set, get_or-set_same, get_or-set_other}
use Rattle.std.proofs.lemmas.Nat.{le-div, div_below, pow-add, pow_pos}
use Rattle.std.proofs.lemmas.Nat.Bits.{bit_at-zero, bit_at_above}
use Rattle.page_opt.specs.PlaceSet.{bit_of, above, AreLevels, AreSummaries, BitChanged, IsLastLeaf}

-- ---- one bit

-- a word with one bit changed
pub bit_changed : (words : List ℕ) (node v to : ℕ) → node / 64 < length words → bit_at v (node % 64) ≡ to
    → ((i : ℕ) → i < 64 → (i ≡ node % 64 → ⊥) → bit_at v i ≡ bit_at (get_or words (node / 64) 0) i)
    → BitChanged words (set words (node / 64) v) node to
bit_changed words node v to lt same others = record {
  len = length-set words (node / 64) v;
  here = ap (λ (w : ℕ). bit_at w (node % 64)) (get_or-set_same words (node / 64) v 0 lt) ∙ same;
  other = λ k ne. elim (cases_eq (k / 64) (node / 64)) [
    | inl row ↦
        let new = ap (λ (j : ℕ). get_or (set words (node / 64) v) j 0) row ∙ get_or-set_same words (node / 64) v 0 lt in
        ap (λ (w : ℕ). bit_at w (k % 64)) new ∙
        others (k % 64) (omega arith) (λ e. ne (omega arith)) ∙
        sym (ap (λ (j : ℕ). bit_at (get_or words j 0) (k % 64)) row)
    | inr apart ↦ ap (λ (w : ℕ). bit_at w (k % 64)) (get_or-set_other words (node / 64) (k / 64) v 0 apart)
  ];
  words = λ k ne. get_or-set_other words (node / 64) k v 0 ne;
}

-- a word that has a bit isn't 0
word_of_bit : (words : List ℕ) (k : ℕ) → bit_of words k ≡ 1 → 0 < get_or words (k / 64) 0
word_of_bit words k one = elim (cases_eq (get_or words (k / 64) 0) 0) [
  | inl none ↦ absurd (let z = ap (λ (w : ℕ). bit_at w (k % 64)) none ∙ bit_at-zero (k % 64) in omega arith)
  | inr some ↦ omega arith
]

pub in_range : (words : List ℕ) (k : ℕ) → 0 < get_or words k 0 → k < length words
in_range [] k some = absurd (omega arith)
in_range (w ∷ words) zero some = omega arith
in_range (w ∷ words) (suc k) some = let h = in_range words k some in omega arith

-- ---- the walk up

-- all bits above but this node's say what their words have; of those of places only the leaf's may have changed
pub record Walking (first leaf to : ℕ) (old : List ℕ) (node : ℕ) (words : List ℕ) : Type 0 where
  pub len : length words ≡ length old
  pub within : node / 64 < length words
  pub summaries : (k : ℕ) → 1 < k → k < first → (k ≡ node → ⊥) → bit_of words k ≡ min (get_or words k 0) 1
  pub own : node < first → min (get_or words node 0) 1 ≡ to
  pub start : first ≤ node → node ≡ leaf
  pub here : node < first → bit_of words leaf ≡ to
  pub other : (k : ℕ) → first ≤ k → (k ≡ leaf → ⊥) → bit_of words k ≡ bit_of old k

-- ---- levels

pub above_next : (d node : ℕ) → above (suc d) node ≡ above d (node / 64)
unfolding above
above_next zero node = refl
above_next (suc d) node = ap (λ (n : ℕ). n / 64) (above_next d node)

above_le : (d node : ℕ) → above (suc d) node ≤ node / 64
unfolding above
above_le zero node = omega arith
above_le (suc d) node = let h = above_le d node in omega arith

above_order : (d a b : ℕ) → a ≤ b → above d a ≤ above d b
unfolding above
above_order zero a b le = le
above_order (suc d) a b le = let h = above_order d a b le in omega arith

above_twice : (first height : ℕ) → AreLevels first height → (d q : ℕ) → d ≤ height → q < 2 * first → above d q < 2 * above d first
unfolding above
above_twice first height l zero q le lt = lt
above_twice first height l (suc d) q le lt =
    let h = above_twice first height l d q (omega arith) lt in
    let each : 64 * (above d first / 64) ≡ above d first = l.each d (omega arith) in
    omega arith

pub one_level : AreLevels 64 1
unfolding above
one_level = record {
  top = refl;
  some = λ d le. at d le;
  each = λ d lt. let z : d ≡ 0 = omega arith in subst (λ (n : ℕ). 64 * (above n 64 / 64) ≡ above n 64) (sym z) refl;
}
  where
    at : (d : ℕ) → d ≤ 1 → 0 < above d 64
    at zero le = omega arith
    at (suc zero) le = omega arith
    at (suc (suc d)) le = absurd (omega arith)

pub level_more : (first height : ℕ) → AreLevels first height → AreLevels (first * 64) (height + 1)
unfolding above
level_more first height l = record {
  top = subst (λ (n : ℕ). above n (first * 64) ≡ 1) (let e : suc height ≡ height + 1 = omega arith in e) (next height ∙ l.top);
  some = λ d le. at d le;
  each = λ d lt. each d lt;
}
  where
    next : (d : ℕ) → above (suc d) (first * 64) ≡ above d first
    next d = above_next d (first * 64) ∙ ap (λ (n : ℕ). above d n) (let e : first * 64 / 64 ≡ first = omega arith in e)

    at : (d : ℕ) → d ≤ height + 1 → 0 < above d (first * 64)
    at zero le = let s : 0 < first = l.some 0 (omega arith) in omega arith
    at (suc d) le = let s = l.some d (omega arith) in let n = next d in omega arith

    each : (d : ℕ) → d < height + 1 → 64 * above (suc d) (first * 64) ≡ above d (first * 64)
    each zero lt = let n = next 0 in omega arith
    each (suc d) lt = ap (λ (n : ℕ). 64 * n) (next (suc d)) ∙ l.each d (omega arith) ∙ sym (next d)

-- each level has whole words
pub top_level : (first height : ℕ) → AreLevels first height → 0 < height → 64 * (first / 64) ≡ first
unfolding above
top_level first height l some = l.each 0 some

-- ---- the walk down

-- what a set bit of a place says of those above it
set_above : (first height q : ℕ) (words : List ℕ) → AreLevels first height → AreSummaries first words → first ≤ q → q < 2 * first → bit_of words q ≡ 1
    → (d : ℕ) → d < height → bit_of words (above d q) ≡ 1
unfolding above
set_above first height q words l s le lt one zero h = one
set_above first height q words l s le lt one (suc d) h =
    let below = set_above first height q words l s le lt one d (omega arith) in
    let word : 0 < get_or words (above d q / 64) 0 = word_of_bit words (above d q) below in
    let low : above (suc d) first ≤ above d q / 64 = above_order (suc d) first q le in
    let high : above d q / 64 < 2 * above (suc d) first = above_twice first height l (suc d) q (omega arith) lt in
    let part : above (suc d) first ≤ first / 64 = above_le d first in
    let some : 0 < above (suc (suc d)) first = l.some (suc (suc d)) h in
    let each : 64 * above (suc (suc d)) first ≡ above (suc d) first = l.each (suc d) h in
    let sum = s (above d q / 64) (omega arith) (omega arith) in
    omega arith

-- the last bit of each word so far
pub record Descending (first : ℕ) (words : List ℕ) (d node : ℕ) : Type 0 where
  pub low : above d first ≤ node
  pub high : node < 2 * above d first
  pub leaf : d ≡ 0 → bit_of words node ≡ 1
  pub inner : 0 < d → 0 < get_or words node 0
  pub last : (q : ℕ) → first ≤ q → bit_of words q ≡ 1 → above d q ≤ node

-- a place with a bit is one of the words
bit_inside : (first q : ℕ) (words : List ℕ) → 64 * length words ≤ 2 * first → bit_of words q ≡ 1 → q < 2 * first
bit_inside first q words room one = let i = in_range words (q / 64) (word_of_bit words q one) in omega arith

pub descent_starts : (first height : ℕ) (words : List ℕ) → AreLevels first height → 0 < height → 64 * length words ≤ 2 * first → 0 < get_or words 1 0
    → Descending first words height 1
descent_starts first height words l some room has = record {
  low = let t = l.top in omega arith;
  high = let t = l.top in omega arith;
  leaf = λ e. absurd (omega arith);
  inner = λ h. has;
  last = λ q le one.
      let t = l.top in
      let b = above_twice first height l height q (omega arith) (bit_inside first q words room one) in
      omega arith;
}

top_bit : (w b : ℕ) → 2 ^ b ≤ w → w < 2 * 2 ^ b → bit_at w b ≡ 1
top_bit w b le lt =
    let p = pow_pos b in
    let low = le-div 1 w (2 ^ b) p (omega arith) in
    let high = div_below w (2 ^ b) 2 p lt in
    omega arith

pub descent_more : (first height d b : ℕ) (words : List ℕ) (node : ℕ) → AreLevels first height → AreSummaries first words → 64 * length words ≤ 2 * first
    → d < height → Descending first words (suc d) node → b < 64 → 2 ^ b ≤ get_or words node 0 → get_or words node 0 < 2 * 2 ^ b
    → Descending first words d (64 * node + b)
unfolding above
descent_more first height d b words node l s room lt at small le most =
    let each : 64 * (above d first / 64) ≡ above d first = l.each d lt in
    let low : above d first / 64 ≤ node = at.low in
    let high : node < 2 * (above d first / 64) = at.high in
    let up : (64 * node + b) / 64 ≡ node = omega arith in
    let place : (64 * node + b) % 64 ≡ b = omega arith in
    let one : bit_of words (64 * node + b) ≡ 1 =
    ap (λ (k : ℕ). bit_at (get_or words k 0) ((64 * node + b) % 64)) up ∙
    ap (λ (i : ℕ). bit_at (get_or words node 0) i) place ∙ top_bit (get_or words node 0) b le most
    in
    record {
      low = omega arith;
      high = omega arith;
      leaf = λ e. one;
      inner = λ more. inner d more lt low high one;
      last = λ q from set. elim (cases_lt (above d q / 64) node) [
        | inl before ↦ omega arith
        | inr least ↦
            let most_is : above d q / 64 ≤ node = at.last q from set in
            let same : above d q / 64 ≡ node = omega arith in
            let bit = set_above first height q words l s from (bit_inside first q words room set) set d lt in
            let here = ap (λ (k : ℕ). bit_at (get_or words k 0) (above d q % 64)) (sym same) ∙ bit in
            elim (cases_lt b (above d q % 64)) [
              | inl past ↦ absurd (let z = bit_at_above (get_or words node 0) (suc b) (above d q % 64) (double b most) past in omega arith)
              | inr within ↦ omega arith
            ]
      ];
    }
  where
    double : (b : ℕ) → get_or words node 0 < 2 * 2 ^ b → get_or words node 0 < 2 ^ suc b
    double b most = let e = pow-add 2 1 b in omega arith

    inner : (d : ℕ) → 0 < d → d < height → above d first / 64 ≤ node → node < 2 * (above d first / 64) → bit_of words (64 * node + b) ≡ 1
        → 0 < get_or words (64 * node + b) 0
    inner zero more lt low high one = absurd (omega arith)
    inner (suc e) more lt low high one =
        let each : 64 * (above (suc e) first / 64) ≡ above (suc e) first = l.each (suc e) lt in
        let part : above (suc e) first ≤ first / 64 = above_le e first in
        let some : 0 < above (suc (suc e)) first = l.some (suc (suc e)) lt in
        let sum = s (64 * node + b) (omega arith) (omega arith) in
        omega arith

pub descent_ends : (first : ℕ) (words : List ℕ) (node d : ℕ) → d ≤ 0 → Descending first words d node → IsLastLeaf first words node
unfolding above
descent_ends first words node zero le at = record { leaf = at.low; there = at.leaf refl; last = at.last }
descent_ends first words node (suc d) le at = absurd (omega arith)

-- no word at the top, no place
pub none_set : (first height q : ℕ) (words : List ℕ) → AreLevels first height → AreSummaries first words → 0 < height → 64 * length words ≤ 2 * first
    → get_or words 1 0 ≡ 0 → first ≤ q → bit_of words q ≡ 1 → ⊥
unfolding above
none_set first zero q words l s some room none le one = omega arith
none_set first (suc d) q words l s some room none le one =
    let inside = bit_inside first q words room one in
    let bit = set_above first (suc d) q words l s le inside one d (omega arith) in
    let word : 0 < get_or words (above d q / 64) 0 = word_of_bit words (above d q) bit in
    let low : above (suc d) first ≤ above d q / 64 = above_order (suc d) first q le in
    let high : above d q / 64 < 2 * above (suc d) first = above_twice first (suc d) l (suc d) q (omega arith) inside in
    let top = l.top in
    let at : above d q / 64 ≡ 1 = omega arith in
    let same = ap (λ (k : ℕ). get_or words k 0) at in
    omega arith

-- ---- words of zeros

zeros : ℕ → List ℕ
zeros n = replicate n 0

no_word : (n k : ℕ) → get_or (zeros n) k 0 ≡ 0
unfolding zeros
no_word zero k = refl
no_word (suc n) zero = refl
no_word (suc n) (suc k) = no_word n k

pub zero_bits : (n k : ℕ) → bit_of (replicate n 0) k ≡ 0
unfolding zeros
zero_bits n k = ap (λ (w : ℕ). bit_at w (k % 64)) (no_word n (k / 64)) ∙ bit_at-zero (k % 64)

pub zero_summaries : (n first : ℕ) → AreSummaries first (replicate n 0)
unfolding zeros
zero_summaries n first k more less = let bit = zero_bits n k in let word = no_word n k in omega arith
