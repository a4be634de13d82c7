-- Shifts by the width of a longword and more.
use Rattle.std.proofs.Common.{◌≡◌, ◌∙◌, ℕ, zero, suc, ◌+◌, ◌-◌, ◌*◌, ◌/◌, ◌%◌, ◌^◌, ◌<◌, ◌≤◌, Bool, true, false, ℤ, pos, negsuc, ◌*ℤ◌, FitsSigned, w32, refl, ap, sym, inl, inr, arith, neg_ℤ, min}
use Rattle.std.specs.Prelude.{◌==◌}
use Rattle.std.specs.Int.{int_shr, int_div_euclid}
use Rattle.std.proofs.Math.Pow.{pow-add}
use Rattle.std.proofs.Math.Nat.{mul-mod_left, mul_assoc, pow-le-pow_right, div-eq_of_lt}
use Rattle.std.proofs.lemmas.Int.{to_z_pos}
use Rattle.std.proofs.lemmas.Bool.{cases_lt, le-ltb}
use Rattle.std.proofs.lemmas.Bool.Decides.{nat_tests}
use Rattle.vax_alu.specs.Words.{signed, low_longword, fits_word}

-- ---- to the left: nothing is left of the low 32 bits

split : (k : ℕ) → 32 ≤ k → 2 ^ k ≡ 2 ^ (k - 32) * 2 ^ 32
split k h = let e : k ≡ (k - 32) + 32 = omega arith in ap (λ n. 2 ^ n) e ∙ pow-add 2 (k - 32) 32

product_mod : (a k : ℕ) → 32 ≤ k → (a * 2 ^ k) % 2 ^ 32 ≡ 0
product_mod a k h = ap (λ n. (a * n) % 2 ^ 32) (split k h) ∙ ap (λ n. n % 2 ^ 32) (sym (mul_assoc a (2 ^ (k - 32)) (2 ^ 32))) ∙ mul-mod_left (a * 2 ^ (k - 32)) (2 ^ 32)

low-neg : (p : ℕ) → p % 2 ^ 32 ≡ 0 → low_longword (neg_ℤ (pos p)) ≡ 0
low-neg zero h = refl
low-neg (suc p) h = omega arith

pub low_shifted : (z : ℤ) (k : ℕ) → 32 ≤ k → low_longword (z *ℤ pos (2 ^ k)) ≡ 0
low_shifted (pos n) k h = product_mod n k h
low_shifted (negsuc n) k h = low-neg (suc n * 2 ^ k) (product_mod (suc n) k h)

-- and only 0 fits

too_large : (p : ℕ) → 2 ^ 32 ≤ p → fits_word (pos p) ≡ false
too_large p h = grind arith

too_small : (p : ℕ) → 2 ^ 32 ≤ p → fits_word (neg_ℤ (pos p)) ≡ false
too_small zero h = absurd (omega arith)
too_small (suc p) h = grind arith

large_product : (n w : ℕ) → 2 ^ 32 ≤ w → 2 ^ 32 ≤ suc n * w
large_product n w h = grind arith

is_zero : ℤ → Bool
is_zero (pos zero) = true
is_zero (pos (suc n)) = false
is_zero (negsuc n) = false

fits-product : (z : ℤ) (w : ℕ) → 2 ^ 32 ≤ w → fits_word (z *ℤ pos w) ≡ is_zero z
unfolding is_zero
fits-product (pos zero) w h = let e : 0 * w ≡ 0 = omega arith in rw e refl
fits-product (pos (suc n)) w h = too_large (suc n * w) (large_product n w h)
fits-product (negsuc n) w h = too_small (suc n * w) (large_product n w h)

zero_pos : (a : ℕ) → is_zero (pos a) ≡ (a == 0)
unfolding is_zero
zero_pos zero = refl
zero_pos (suc a) = grind (arith, nat_tests)

not_zero : (a : ℕ) → 2 ^ 31 ≤ a → false ≡ (a == 0)
not_zero zero h = absurd (omega arith)
not_zero (suc a) h = grind (arith, nat_tests)

zero_of_signed : (a : ℕ) → is_zero (signed a) ≡ (a == 0)
unfolding is_zero
zero_of_signed a =
    elim (cases_lt a (2 ^ 31)) [
      | inl below ↦ rw (to_z_pos w32 a below) (zero_pos a)
      | inr above ↦ rw (le-ltb a (2 ^ 31) above) (not_zero a above)
    ]

pub fits_shifted : (a k : ℕ) → 32 ≤ k → fits_word (signed a *ℤ pos (2 ^ k)) ≡ (a == 0)
fits_shifted a k h = fits-product (signed a) (2 ^ k) (pow-le-pow_right {n = 2} (omega arith) h) ∙ zero_of_signed a

-- ---- to the right: from 31 places on only the sign is left

quotient_far : (a j : ℕ) → a < 2 ^ 31 → 31 ≤ j → a / 2 ^ 31 ≡ a / 2 ^ j
quotient_far a j small h =
    let wide : 2 ^ 31 ≤ 2 ^ j = pow-le-pow_right {n = 2} (omega arith) h in
    let far : a / 2 ^ j ≡ 0 = div-eq_of_lt (omega arith) in
    div-eq_of_lt small ∙ sym far

far : (z : ℤ) (k : ℕ) → FitsSigned w32 z → 31 ≤ k → int_shr z 31 ≡ int_div_euclid z (pos (2 ^ k))
far (pos a) k fits h = ap pos (quotient_far a k fits.sfits h)
far (negsuc a) k fits h = ap negsuc (quotient_far a k fits.sfits h)

near : (z : ℤ) (k : ℕ) → int_shr z k ≡ int_div_euclid z (pos (2 ^ k))
near (pos a) k = refl
near (negsuc a) k = refl

pub shr_min : (z : ℤ) (k j : ℕ) → FitsSigned w32 z → j ≡ k → int_shr z (min k 31) ≡ int_div_euclid z (pos (2 ^ j))
shr_min z k j fits same =
    rw same
    (elim (cases_lt 31 k) [
      | inl above ↦ let e : min k 31 ≡ 31 = omega arith in rw e (far z k fits (omega arith))
      | inr below ↦ let e : min k 31 ≡ k = omega arith in rw e (near z k)
    ])
