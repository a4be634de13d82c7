-- Bits of words as places, and how many are set.
use Rattle.std.proofs.Common.{◌≡◌, ℕ, zero, suc, ◌+◌, ◌-◌, ◌*◌, ◌/◌, ◌%◌, ◌^◌, ◌<◌, ◌≤◌, List, [], ◌∷◌, ◌++◌, length, get_or, set, take, replicate, count_ones, refl, sym, ap, ◌∙◌, arith}
use Rattle.std.specs.Int.{bit_at}
use Rattle.std.proofs.lemmas.List.{length-append, get_or_default, set-append_left, set-append_right, get_or_append_left, get_or-append_right, take-append-le}
use Rattle.std.proofs.Math.Seq.{take-append-add}
use Rattle.std.proofs.lemmas.Nat.{mod-pow-add, ones_cat}
use Rattle.std.proofs.lemmas.Nat.Bits.{bit_at_lowest, bit_at-suc}
use Rattle.stack_dist.specs.Tree.{total, raised}
use Rattle.stack_dist.specs.Gaps.{bits, all_bits, bit_counts}
use Rattle.stack_dist.proofs.TreeLaws.{total-set, total-replicate}

-- ---- one word

pub length-bits : (n word : ℕ) → length (bits n word) ≡ n
unfolding bits
length-bits zero word = refl
length-bits (suc n) word = ap suc (length-bits n (word / 2))

-- words that have the same bits
bits_same : (n word new : ℕ) → ((i : ℕ) → i < n → bit_at new i ≡ bit_at word i) → bits n new ≡ bits n word
unfolding bits
bits_same zero word new same = refl
bits_same (suc n) word new same =
    let first : new % 2 ≡ word % 2 = sym (bit_at_lowest new) ∙ same 0 (omega arith) ∙ bit_at_lowest word in
    let rest = bits_same n (word / 2) (new / 2) (λ i lt. sym (bit_at-suc new i) ∙ same (suc i) (omega arith) ∙ bit_at-suc word i) in
    ap (λ (b : ℕ). b ∷ bits n (new / 2)) first ∙ ap (λ (bs : List ℕ). word % 2 ∷ bs) rest

-- a word with one more bit
pub bits_set : (n word new k : ℕ) → k < n → bit_at new k ≡ 1 → ((i : ℕ) → i < n → (i ≡ k → ⊥) → bit_at new i ≡ bit_at word i)
    → bits n new ≡ set (bits n word) k 1
unfolding bits
bits_set zero word new k lt one same = absurd (omega arith)
bits_set (suc n) word new zero lt one same =
    let first : new % 2 ≡ 1 = sym (bit_at_lowest new) ∙ one in
    let rest = bits_same n (word / 2) (new / 2) (λ i lt. sym (bit_at-suc new i) ∙ same (suc i) (omega arith) (λ e. omega arith) ∙ bit_at-suc word i) in
    ap (λ (b : ℕ). b ∷ bits n (new / 2)) first ∙ ap (λ (bs : List ℕ). 1 ∷ bs) rest
bits_set (suc n) word new (suc k) lt one same =
    let first : new % 2 ≡ word % 2 = sym (bit_at_lowest new) ∙ same 0 (omega arith) (λ e. omega arith) ∙ bit_at_lowest word in
    let rest =
    bits_set n (word / 2) (new / 2) k (omega arith) (sym (bit_at-suc new k) ∙ one)
    (λ i lt ne. sym (bit_at-suc new i) ∙ same (suc i) (omega arith) (λ e. ne (omega arith)) ∙ bit_at-suc word i)
    in
    ap (λ (b : ℕ). b ∷ bits n (new / 2)) first ∙ ap (λ (bs : List ℕ). word % 2 ∷ bs) rest

-- how many of the lowest bits are set
pub bits_counted : (n word k : ℕ) → k ≤ n → total (take k (bits n word)) ≡ count_ones (word % 2 ^ k)
unfolding bits total lib.Count.ones
bits_counted n word zero le = let e : word % 2 ^ 0 ≡ 0 = omega arith in sym (ap count_ones e)
bits_counted zero word (suc k) le = absurd (omega arith)
bits_counted (suc n) word (suc k) le =
    let h = bits_counted n (word / 2) k (omega arith) in
    let split = ap count_ones (mod-pow-add word k 1) in
    let cat = ones_cat 1 (word / 2 % 2 ^ k) (word % 2) (omega arith) in
    let low = low_bit (word % 2) (omega arith) in
    let power : k + 1 ≡ suc k = omega arith in
    let same = ap (λ (m : ℕ). count_ones (word % 2 ^ m)) power in
    omega arith
  where
    low_bit : (b : ℕ) → b < 2 → count_ones b ≡ b
    low_bit zero lt = refl
    low_bit (suc zero) lt = refl
    low_bit (suc (suc b)) lt = absurd (omega arith)

-- ---- all words

total-append : (xs ys : List ℕ) → total (xs ++ ys) ≡ total xs + total ys
unfolding total
total-append [] ys = omega arith
total-append (x ∷ xs) ys = let h = total-append xs ys in omega arith

pub length-all_bits : (words : List ℕ) → length (all_bits words) ≡ 64 * length words
unfolding all_bits
length-all_bits [] = refl
length-all_bits (word ∷ words) =
    let h = length-all_bits words in
    let here = length-bits 64 word in
    let both = length-append (bits 64 word) (all_bits words) in
    omega arith

pub length-bit_counts : (words : List ℕ) → length (bit_counts words) ≡ length words
unfolding bit_counts
length-bit_counts [] = refl
length-bit_counts (word ∷ words) = ap suc (length-bit_counts words)

pub total-bit_counts : (words : List ℕ) → total (bit_counts words) ≡ total (all_bits words)
unfolding bit_counts all_bits total
total-bit_counts [] = refl
total-bit_counts (word ∷ words) =
    let h = total-bit_counts words in let both = total-append (bits 64 word) (all_bits words) in omega arith

-- the bits before a place are those of the words before and of its own
pub bits_before : (words : List ℕ) (j k : ℕ) → j < length words → k < 64
    → total (take (64 * j + k) (all_bits words)) ≡ total (take j (bit_counts words)) + total (take k (bits 64 (get_or words j 0)))
unfolding bit_counts all_bits total
bits_before [] j k lt small = absurd (omega arith)
bits_before (word ∷ words) zero k lt small =
    let len = length-bits 64 word in
    let here : 64 * 0 + k ≡ k = omega arith in
    let place = ap (λ (m : ℕ). total (take m (bits 64 word ++ all_bits words))) here in
    let first = ap total (take-append-le k (bits 64 word) (all_bits words) (omega arith)) in
    omega arith
bits_before (word ∷ words) (suc j) k lt small =
    let h = bits_before words j k (omega arith) small in
    let len = length-bits 64 word in
    let far : 64 * suc j + k ≡ length (bits 64 word) + (64 * j + k) = omega arith in
    let past = ap (λ (m : ℕ). total (take m (bits 64 word ++ all_bits words))) far ∙ ap total (take-append-add (bits 64 word) (all_bits words) (64 * j + k)) in
    let both = total-append (bits 64 word) (take (64 * j + k) (all_bits words)) in
    omega arith

pub bit_in_word : (words : List ℕ) (j k : ℕ) → j < length words → k < 64 → get_or (all_bits words) (64 * j + k) 0 ≡ get_or (bits 64 (get_or words j 0)) k 0
unfolding all_bits
bit_in_word [] j k lt small = absurd (omega arith)
bit_in_word (word ∷ words) zero k lt small =
    let len = length-bits 64 word in
    let here : 64 * 0 + k ≡ k = omega arith in
    ap (λ (m : ℕ). get_or (bits 64 word ++ all_bits words) m 0) here ∙ get_or_append_left (bits 64 word) (all_bits words) 0 k (omega arith)
bit_in_word (word ∷ words) (suc j) k lt small =
    let rest : 64 * suc j + k - 64 ≡ 64 * j + k = omega arith in
    get_or-append_right (bits 64 word) (all_bits words) 64 (64 * suc j + k) 0 (length-bits 64 word) (omega arith) ∙
    ap (λ (m : ℕ). get_or (all_bits words) m 0) rest ∙ bit_in_word words j k (omega arith) small

-- one more bit in a word is one more in all
pub bit_set_in_all : (words : List ℕ) (j k new : ℕ) → j < length words → k < 64 → bits 64 new ≡ set (bits 64 (get_or words j 0)) k 1
    → all_bits (set words j new) ≡ set (all_bits words) (64 * j + k) 1
unfolding all_bits
bit_set_in_all [] j k new lt small is = absurd (omega arith)
bit_set_in_all (word ∷ words) zero k new lt small is =
    let len = length-bits 64 word in
    let here : k ≡ 64 * 0 + k = omega arith in
    ap (λ (bs : List ℕ). bs ++ all_bits words) is ∙ sym (set-append_left (bits 64 word) (all_bits words) k 1 (omega arith)) ∙
    ap (λ (m : ℕ). set (bits 64 word ++ all_bits words) m 1) here
bit_set_in_all (word ∷ words) (suc j) k new lt small is =
    let rest : 64 * j + k ≡ 64 * suc j + k - 64 = omega arith in
    ap (λ (bs : List ℕ). bits 64 word ++ bs) (bit_set_in_all words j k new (omega arith) small is ∙ ap (λ (m : ℕ). set (all_bits words) m 1) rest) ∙
    sym (set-append_right (bits 64 word) (all_bits words) 64 (64 * suc j + k) 1 (length-bits 64 word) (omega arith))

-- and its count is one more
pub bit_counted : (words : List ℕ) (j k new : ℕ) → j < length words → k < 64 → get_or (bits 64 (get_or words j 0)) k 0 ≡ 0
    → bits 64 new ≡ set (bits 64 (get_or words j 0)) k 1 → bit_counts (set words j new) ≡ raised (bit_counts words) j
unfolding bit_counts
bit_counted [] j k new lt small none is = absurd (omega arith)
bit_counted (word ∷ words) zero k new lt small none is =
    let len = length-bits 64 word in
    let more = total-set (bits 64 word) k 1 (omega arith) in
    let sum = ap total is in
    let one : total (bits 64 new) ≡ total (bits 64 word) + 1 = omega arith in
    ap (λ (c : ℕ). c ∷ bit_counts words) one
bit_counted (word ∷ words) (suc j) k new lt small none is =
    ap (λ (cs : List ℕ). total (bits 64 word) ∷ cs) (bit_counted words j k new (omega arith) small none is)

-- ---- the place of a gap

at_place : (at : ℕ) → 64 * (at / 64) + at % 64 ≡ at
at_place at = omega arith

pub word_there : (words places : List ℕ) (at : ℕ) → all_bits words ≡ places → at < length places → at / 64 < length words
word_there words places at is lt =
    let len = length-all_bits words in let same = ap (λ (xs : List ℕ). length xs) is in omega arith

pub counts_total : (words counts places : List ℕ) → all_bits words ≡ places → counts ≡ bit_counts words → total counts ≡ total places
counts_total words counts places is are = ap total are ∙ total-bit_counts words ∙ ap total is

pub gaps_before : (words counts places : List ℕ) (at word x y : ℕ) → all_bits words ≡ places → counts ≡ bit_counts words → at < length places
    → word ≡ get_or words (at / 64) word → x ≡ total (take (at / 64) counts) → y ≡ total (take (at % 64) (bits 64 word)) → x + y ≡ total (take at places)
gaps_before words counts places at word x y is are lt here before within =
    let there = word_there words places at is lt in
    let all = bits_before words (at / 64) (at % 64) there (omega arith) in
    let place = ap (λ (m : ℕ). total (take m (all_bits words))) (at_place at) in
    let same = ap (λ (xs : List ℕ). total (take at xs)) is in
    let low = before ∙ ap (λ (cs : List ℕ). total (take (at / 64) cs)) are in
    let high = within ∙ ap (λ (w : ℕ). total (take (at % 64) (bits 64 w))) (here ∙ get_or_default words (at / 64) word 0 there) in
    omega arith

no_bit : (words places : List ℕ) (at : ℕ) → all_bits words ≡ places → at < length places → get_or places at 0 ≡ 0
    → get_or (bits 64 (get_or words (at / 64) 0)) (at % 64) 0 ≡ 0
no_bit words places at is lt none =
    sym (bit_in_word words (at / 64) (at % 64) (word_there words places at is lt) (omega arith)) ∙
    ap (λ (m : ℕ). get_or (all_bits words) m 0) (at_place at) ∙ ap (λ (xs : List ℕ). get_or xs at 0) is ∙ none

pub gap_left : (words places : List ℕ) (at word new : ℕ) → all_bits words ≡ places → at < length places → get_or places at 0 ≡ 0
    → word ≡ get_or words (at / 64) word → bits 64 new ≡ set (bits 64 word) (at % 64) 1 → all_bits (set words (at / 64) new) ≡ raised places at
gap_left words places at word new is lt none here more =
    let one : 1 ≡ get_or places at 0 + 1 = omega arith in
    bit_set_in_all words (at / 64) (at % 64) new (word_there words places at is lt) (omega arith)
    (more ∙ ap (λ (w : ℕ). set (bits 64 w) (at % 64) 1) (here ∙ get_or_default words (at / 64) word 0 (word_there words places at is lt))) ∙
    ap (λ (m : ℕ). set (all_bits words) m 1) (at_place at) ∙ ap (λ (xs : List ℕ). set xs at 1) is ∙ ap (λ (v : ℕ). set places at v) one

pub gap_counted : (words counts places : List ℕ) (at word new : ℕ) → all_bits words ≡ places → counts ≡ bit_counts words → at < length places
    → get_or places at 0 ≡ 0 → word ≡ get_or words (at / 64) word → bits 64 new ≡ set (bits 64 word) (at % 64) 1
    → raised counts (at / 64) ≡ bit_counts (set words (at / 64) new)
gap_counted words counts places at word new is are lt none here more =
    ap (λ (cs : List ℕ). raised cs (at / 64)) are ∙
    sym (bit_counted words (at / 64) (at % 64) new (word_there words places at is lt) (omega arith) (no_bit words places at is lt none)
    (more ∙ ap (λ (w : ℕ). set (bits 64 w) (at % 64) 1) (here ∙ get_or_default words (at / 64) word 0 (word_there words places at is lt))))

-- ---- words of zeros

bits_zero : (n : ℕ) → bits n 0 ≡ replicate n 0
unfolding bits
bits_zero zero = refl
bits_zero (suc n) = ap (λ (bs : List ℕ). 0 ∷ bs) (bits_zero n)

zeros : ℕ → List ℕ
zeros n = replicate n 0

zeros_append : (m n : ℕ) → zeros m ++ zeros n ≡ zeros (m + n)
unfolding zeros
zeros_append zero n = let e : n ≡ 0 + n = omega arith in ap zeros e
zeros_append (suc m) n =
    let e : suc (m + n) ≡ suc m + n = omega arith in ap (λ (xs : List ℕ). 0 ∷ xs) (zeros_append m n) ∙ ap zeros e

pub all_zeros : (n : ℕ) → all_bits (replicate n 0) ≡ replicate (64 * n) 0
unfolding all_bits zeros
all_zeros zero = refl
all_zeros (suc n) =
    let e : 64 + 64 * n ≡ 64 * suc n = omega arith in
    ap (λ (bs : List ℕ). bs ++ all_bits (replicate n 0)) (bits_zero 64) ∙
    ap (λ (bs : List ℕ). replicate 64 0 ++ bs) (all_zeros n) ∙ zeros_append 64 (64 * n) ∙ ap (λ (k : ℕ). replicate k 0) e

pub counts_zero : (n : ℕ) → bit_counts (replicate n 0) ≡ replicate n 0
unfolding bit_counts
counts_zero zero = refl
counts_zero (suc n) =
    let none : total (bits 64 0) ≡ 0 = ap total (bits_zero 64) ∙ total-replicate 64 in
    ap (λ (c : ℕ). c ∷ bit_counts (replicate n 0)) none ∙ ap (λ (cs : List ℕ). 0 ∷ cs) (counts_zero n)
