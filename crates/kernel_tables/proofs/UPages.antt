-- The longwords of a u page.
use Rattle.std.proofs.Common.{◌≡◌, ℕ, zero, suc, ◌+◌, ◌*◌, ◌<◌, ◌≤◌, ◌^◌, List, [], ◌∷◌, ◌++◌, length, take, drop, get_or, refl, sym, ap, ◌∙◌, subst, length-append, arith}
use Rattle.std.specs.Prelude.{flat_map, replicate, slice_index}
use Rattle.std.proofs.lemmas.List.{take_at, drop-replicate, take-append-drop, drop-append-le, ext_get_or}
use Rattle.std.proofs.Math.Seq.{drop-append-add}
use Rattle.std.proofs.lemmas.Grind.{flat_map-append}
use Rattle.byteorder.specs.Endian.{little_number, IsRead}
use Rattle.vm_facts.specs.declared.regs.Regs.{Regs}
use Rattle.aout_image.specs.Image.{word_bytes}
use Rattle.kernel_model.specs.UPage.{u_page, codes_of, longwords, AllLongwords}

words_length : (ws : List ℕ) → length (flat_map word_bytes ws) ≡ 4 * length ws
words_length [] = refl
words_length (w ∷ ws) = let h = words_length ws in let n = length-append (word_bytes w) (flat_map word_bytes ws) in omega arith

-- words after those at the front of a page of zeros
front_is : (ws : List ℕ) → length ws ≡ 16 → (p0 p1 : List ℕ) → p0 ≡ replicate 1024 0
    → p1 ≡ take 0 p0 ++ flat_map word_bytes ws ++ drop (0 + 4 * length ws) p0 → p1 ≡ flat_map word_bytes ws ++ replicate 960 0
front_is ws n p0 p1 z e =
    let m : 0 + 4 * length ws ≡ 64 = omega (arith, n) in
    e ∙ ap (λ (k : ℕ). flat_map word_bytes ws ++ drop k p0) m
    ∙ ap (λ (p : List ℕ). flat_map word_bytes ws ++ drop 64 p) z
    ∙ ap (λ (p : List ℕ). flat_map word_bytes ws ++ p) (drop-replicate 64 1024 0)

pub made : (regs : Regs) (d s : ℕ) (p0 p1 p2 : List ℕ) → length regs.r ≡ 16 → p0 ≡ replicate 1024 0
    → p1 ≡ take 0 p0 ++ flat_map word_bytes regs.r ++ drop (0 + 4 * length regs.r) p0
    → p2 ≡ take 64 p1 ++ flat_map word_bytes (codes_of regs ∷ d ∷ s ∷ []) ++ drop 76 p1 → p2 ≡ u_page regs d s
unfolding u_page
made regs d s p0 p1 p2 n z e1 e2 =
    let behind : (xs : List ℕ) → length xs ≡ 64 → drop 76 (xs ++ replicate 960 0) ≡ replicate 948 0 = λ xs l.
    let m : 76 ≡ length xs + 12 = omega (arith, l) in
    ap (λ (k : ℕ). drop k (xs ++ replicate {A = ℕ} 960 0)) m ∙ drop-append-add xs (replicate 960 0) 12 ∙ drop-replicate 12 960 0 in
    let ws = regs.r in
    let vs : List ℕ = codes_of regs ∷ d ∷ s ∷ [] in
    let rest : List ℕ = replicate 960 0 in
    let is : p1 ≡ flat_map word_bytes ws ++ rest = front_is ws n p0 p1 z e1 in
    let l : length (flat_map word_bytes ws) ≡ 64 = omega (arith, n, words_length ws) in
    e2
    ∙ ap (λ (p : List ℕ). take 64 p ++ flat_map word_bytes vs ++ drop 76 p) is
    ∙ ap (λ (p : List ℕ). p ++ flat_map word_bytes vs ++ drop 76 (flat_map word_bytes ws ++ rest)) (take_at (flat_map word_bytes ws) rest 64 l)
    ∙ ap (λ (p : List ℕ). (flat_map word_bytes ws ++ flat_map word_bytes vs) ++ p) (behind (flat_map word_bytes ws) l)
    ∙ ap (λ (p : List ℕ). p ++ replicate 948 0) (sym (flat_map-append word_bytes ws vs))

-- Reading.

words_count : (n : ℕ) (bytes : List ℕ) → 4 * n ≤ length bytes → length (longwords n bytes) ≡ n
words_count zero bytes l = refl
words_count (suc n) [] l = absurd (omega arith)
words_count (suc n) (a ∷ []) l = absurd (omega arith)
words_count (suc n) (a ∷ b ∷ []) l = absurd (omega arith)
words_count (suc n) (a ∷ b ∷ c ∷ []) l = absurd (omega arith)
words_count (suc n) (a ∷ b ∷ c ∷ d ∷ bytes) l = let h = words_count n bytes (omega arith) in omega arith

word_at : (n k : ℕ) (bytes : List ℕ) → k < n → 4 * n ≤ length bytes → get_or (longwords n bytes) k 0 ≡ little_number 4 (drop (4 * k) bytes)
word_at zero k bytes h l = absurd (omega arith)
word_at (suc n) k [] h l = absurd (omega arith)
word_at (suc n) k (a ∷ []) h l = absurd (omega arith)
word_at (suc n) k (a ∷ b ∷ []) h l = absurd (omega arith)
word_at (suc n) k (a ∷ b ∷ c ∷ []) h l = absurd (omega arith)
word_at (suc n) zero (a ∷ b ∷ c ∷ d ∷ bytes) h l = omega arith
word_at (suc n) (suc k) (a ∷ b ∷ c ∷ d ∷ bytes) h l =
    let four : (k : ℕ) → suc (suc (suc (suc (4 * k)))) ≡ 4 * suc k = λ k. omega arith in
    word_at n k bytes (omega arith) (omega arith) ∙ ap (λ (m : ℕ). little_number 4 (drop m (a ∷ b ∷ c ∷ d ∷ bytes))) (four k)

words_front : (n : ℕ) (xs ys : List ℕ) → 4 * n ≤ length xs → longwords n (xs ++ ys) ≡ longwords n xs
words_front zero xs ys l = refl
words_front (suc n) [] ys l = absurd (omega arith)
words_front (suc n) (a ∷ []) ys l = absurd (omega arith)
words_front (suc n) (a ∷ b ∷ []) ys l = absurd (omega arith)
words_front (suc n) (a ∷ b ∷ c ∷ []) ys l = absurd (omega arith)
words_front (suc n) (a ∷ b ∷ c ∷ d ∷ xs) ys l = ap (λ (ws : List ℕ). (a + 2 ^ 8 * b + 2 ^ 16 * c + 2 ^ 24 * d) ∷ ws) (words_front n xs ys (omega arith))

pub words_are : (page read : List ℕ) → length page ≡ 1024 → length read ≡ 16
    → IsRead (λ n xs. little_number n xs) 4 (take (4 * length read) page) read → read ≡ longwords 16 page
words_are page read lp lr h =
    let four : 4 * length read ≡ 64 = omega (arith, lr) in
    let l : length (take 64 page) ≡ 64 = Rattle.std.proofs.lemmas.List.length-take-le 64 page (omega (arith, lp)) in
    let c : length (longwords 16 (take 64 page)) ≡ 16 = words_count 16 (take 64 page) (omega (arith, l)) in
    let g : IsRead (λ n xs. little_number n xs) 4 (take 64 page) read = subst (λ (m : ℕ). IsRead (λ n xs. little_number n xs) 4 (take m page) read) four h in
    ext_get_or 0 read (longwords 16 (take 64 page)) (lr ∙ sym c) (λ k b. g k b ∙ sym (word_at 16 k (take 64 page) (omega (arith, lr, b)) (omega (arith, l))))
    ∙ sym (words_front 16 (take 64 page) (drop 64 page) (omega (arith, l)))
    ∙ ap (longwords 16) (take-append-drop 64 page)

pub codes_are : (page : List ℕ) (word : ℕ) → length page ≡ 1024 → word ≡ little_number 4 (drop 64 page) → word ≡ get_or (longwords 17 page) 16 0
codes_are page word l e = e ∙ sym (word_at 17 16 page (omega arith) (omega arith))

-- all are longwords where each is
pub longwords_each : (ws : List ℕ) → ((k : ℕ) → k < length ws → slice_index ws k < 2 ^ 32) → AllLongwords ws
longwords_each [] h = tt
longwords_each (w ∷ ws) h = (h 0 (omega arith), longwords_each ws (λ k b. h (suc k) (omega arith)))
