-- The registers that go out into a u page come back from it.
use Rattle.std.proofs.Common.{◌≡◌, ℕ, zero, suc, ◌+◌, ◌*◌, ◌/◌, ◌%◌, ◌^◌, ◌<◌, ◌≤◌, Bool, true, false, List, [], ◌∷◌, ◌++◌, length, take, get_or, refl, sym, ap, ◌∙◌, subst, append_assoc, arith}
use Rattle.std.proofs.lemmas.List.{take_at}
use Rattle.std.specs.Prelude.{flat_map, replicate}
use Rattle.vm_facts.specs.declared.regs.Regs.{Regs}
use Rattle.aout_image.specs.Image.{word_bytes}
use Rattle.kernel_model.specs.UPage.{bit_of, codes_of, u_page, longwords, regs_from, regs_in, AllLongwords, AreRegs}

word_is : (w : ℕ) → w < 2 ^ 32 → w % 2 ^ 8 + 2 ^ 8 * (w / 2 ^ 8 % 2 ^ 8) + 2 ^ 16 * (w / 2 ^ 16 % 2 ^ 8) + 2 ^ 24 * (w / 2 ^ 24 % 2 ^ 8) ≡ w
word_is w h = omega arith

words_read : (n : ℕ) (ws rest : List ℕ) → n ≤ length ws → AllLongwords ws → longwords n (flat_map word_bytes ws ++ rest) ≡ take n ws
words_read zero ws rest l a = refl
words_read (suc n) [] rest l a = absurd (omega arith)
words_read (suc n) (w ∷ ws) rest l a = ap (λ (x : ℕ). x ∷ longwords n (flat_map word_bytes ws ++ rest)) (word_is w a.0) ∙ ap (λ (xs : List ℕ). w ∷ xs) (words_read n ws rest (omega arith) a.1)

words_more : (ws vs : List ℕ) → AllLongwords ws → AllLongwords vs → AllLongwords (ws ++ vs)
words_more [] vs a b = b
words_more (w ∷ ws) vs a b = (a.0, words_more ws vs a.1 b)

get_at : (n : ℕ) (ws : List ℕ) (x : ℕ) (vs : List ℕ) → length ws ≡ n → get_or (take (suc n) (ws ++ x ∷ vs)) n 0 ≡ x
get_at zero [] x vs l = refl
get_at zero (w ∷ ws) x vs l = absurd (omega arith)
get_at (suc n) [] x vs l = absurd (omega arith)
get_at (suc n) (w ∷ ws) x vs l = get_at n ws x vs (omega arith)

-- the codes of four bits
codes_back : (r : List ℕ) (n z v c : Bool)
    → regs_from r (codes_of (record { r = r; n = n; z = z; v = v; c = c })) ≡ record { r = r; n = n; z = z; v = v; c = c }
codes_back r true true true true = refl
codes_back r true true true false = refl
codes_back r true true false true = refl
codes_back r true true false false = refl
codes_back r true false true true = refl
codes_back r true false true false = refl
codes_back r true false false true = refl
codes_back r true false false false = refl
codes_back r false true true true = refl
codes_back r false true true false = refl
codes_back r false true false true = refl
codes_back r false true false false = refl
codes_back r false false true true = refl
codes_back r false false true false = refl
codes_back r false false false true = refl
codes_back r false false false false = refl

codes_small : (n z v c : Bool) → bit_of n 8 + bit_of z 4 + bit_of v 2 + bit_of c 1 < 16
codes_small n z v c = omega (arith, one n 8, one z 4, one v 2, one c 1)
  where
    one : (b : Bool) (w : ℕ) → bit_of b w ≤ w
    one true w = omega arith
    one false w = omega arith

words_joined : (ws vs : List ℕ) → flat_map word_bytes (ws ++ vs) ≡ flat_map word_bytes ws ++ flat_map word_bytes vs
words_joined [] vs = refl
words_joined (w ∷ ws) vs = ap (λ (l : List ℕ). w % 2 ^ 8 ∷ w / 2 ^ 8 % 2 ^ 8 ∷ w / 2 ^ 16 % 2 ^ 8 ∷ w / 2 ^ 24 % 2 ^ 8 ∷ l) (words_joined ws vs)

-- whatever stands after them
pub regs_back_any : (regs : Regs) (data_pages stack_pages : ℕ) → AreRegs regs → regs_in (u_page regs data_pages stack_pages) ≡ regs
unfolding u_page
regs_back_any regs d s a =
    let ws : List ℕ = regs.r ++ codes_of regs ∷ [] in
    let rest : List ℕ = flat_map word_bytes (d ∷ s ∷ []) ++ replicate 948 0 in
    let k : AllLongwords ws = words_more regs.r (codes_of regs ∷ []) a.each (let h = codes_small regs.n regs.z regs.v regs.c in omega arith, tt) in
    let n : length ws ≡ length regs.r + 1 = Rattle.std.proofs.Common.length-append regs.r (codes_of regs ∷ []) in
    let r : longwords 16 (flat_map word_bytes ws ++ rest) ≡ regs.r = words_read 16 ws rest (omega (arith, a.count, n)) k ∙ take_at regs.r (codes_of regs ∷ []) 16 a.count in
    let c : get_or (longwords 17 (flat_map word_bytes ws ++ rest)) 16 0 ≡ codes_of regs =
    ap (λ (xs : List ℕ). get_or xs 16 0) (words_read 17 ws rest (omega (arith, a.count, n)) k) ∙ get_at 16 regs.r (codes_of regs) [] a.count in
    ap (λ (l : List ℕ). regs_in (l ++ replicate 948 0)) (ap (flat_map word_bytes) (parted regs.r (codes_of regs) d s) ∙ words_joined ws (d ∷ s ∷ []))
    ∙ ap regs_in (append_assoc (flat_map word_bytes ws) (flat_map word_bytes (d ∷ s ∷ [])) (replicate 948 0))
    ∙ (ap (λ (x : List ℕ). regs_from x (get_or (longwords 17 (flat_map word_bytes ws ++ rest)) 16 0)) r ∙ ap (regs_from regs.r) c ∙ codes_back regs.r regs.n regs.z regs.v regs.c)
  where
    parted : (xs : List ℕ) (x y z : ℕ) → xs ++ x ∷ y ∷ z ∷ [] ≡ (xs ++ x ∷ []) ++ y ∷ z ∷ []
    parted [] x y z = refl
    parted (w ∷ xs) x y z = ap (λ (l : List ℕ). w ∷ l) (parted xs x y z)

pub regs_back : (regs : Regs) (data_pages stack_pages : ℕ) → AreRegs regs → data_pages < 2 ^ 32 → stack_pages < 2 ^ 32
    → regs_in (u_page regs data_pages stack_pages) ≡ regs
regs_back regs d s a ld ls = regs_back_any regs d s a
