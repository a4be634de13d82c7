-- The digits of a number.
use Rattle.std.proofs.Common.{◌≡◌, ◌≢◌, ◌⊎◌, ℕ, ◌<◌, suc, zero, Bool, true, false, List, [], ◌∷◌, length, get_or, refl, arith, IsTrue}
use Rattle.std.specs.Prelude.{if◌then◌else◌}
use Rattle.std.specs.Int.{IsInRange}
use Rattle.std.specs.Char.{digit_value}
use Rattle.std.specs.Str.{IsUtf8}
use Rattle.std.specs.Str.Parse.{AllDigits, IsNumeral, without_leading_plus}
use Rattle.std.proofs.lemmas.Str.{IsUtf8-from_ascii}
use Rattle.std.proofs.lemmas.Str.Parse.{without_leading_plus_none}
use Rattle.std.proofs.lemmas.Bool.Decides.{nat_tests}
use Rattle.asm_grammar.specs.Text.{front_of}
use Rattle.asm_grammar.specs.Numbers.{is_digit, AreDigits}

pub is_true : (t : Bool) → t ≡ true → IsTrue t
is_true t e = grind (arith, nat_tests)

are_by : (base : ℕ) (t : Bool) (x : ℕ) (xs : List ℕ) → is_digit base x ≡ t → AreDigits base (front_of (is_digit base) xs)
    → AreDigits base (if t then x ∷ front_of (is_digit base) xs else [])
are_by base true x xs e h = (is_true (is_digit base x) e, h)
are_by base false x xs e h = tt

pub are_digits : (base : ℕ) (xs : List ℕ) → AreDigits base (front_of (is_digit base) xs)
are_digits base [] = tt
are_digits base (x ∷ xs) = are_by base (is_digit base x) x xs refl (are_digits base xs)

digit_range : (base c : ℕ) → IsTrue (is_digit base c) → IsInRange 48 57 c ⊎ ((base ≡ 16) × IsInRange 97 102 c)
digit_range base c h = grind (arith, nat_tests)

digit_small : (base c : ℕ) → IsTrue (is_digit base c) → (c < 128) × (c ≢ 43)
digit_small base c h = grind (arith, nat_tests, digit_range base c h)

digit_fits : (base c : ℕ) → (base ≡ 10) ⊎ (base ≡ 16) → IsTrue (is_digit base c) → digit_value c < base
digit_fits base c b h = grind (arith, nat_tests, digit_range base c h, b)

ascii : (base : ℕ) (xs : List ℕ) → AreDigits base xs → (i : ℕ) → get_or xs i 0 < 128
ascii base [] h i = omega arith
ascii base (x ∷ xs) h zero = (digit_small base x h.0).0
ascii base (x ∷ xs) h (suc i) = ascii base xs h.1 i

pub digits_utf8 : (base : ℕ) (xs : List ℕ) → AreDigits base xs → IsUtf8 xs
digits_utf8 base xs h = IsUtf8-from_ascii xs (ascii base xs h)

all : (base : ℕ) (xs : List ℕ) → (base ≡ 10) ⊎ (base ≡ 16) → AreDigits base xs → AllDigits base xs
all base [] b h = tt
all base (x ∷ xs) b h = (digit_fits base x b h.0, all base xs b h.1)

pub without_plus : (base : ℕ) (xs : List ℕ) → AreDigits base xs → without_leading_plus xs ≡ xs
without_plus base [] h = refl
without_plus base (x ∷ xs) h = without_leading_plus_none (x ∷ xs) (digit_small base x h.0).1

pub numeral : (base : ℕ) (xs : List ℕ) → (base ≡ 10) ⊎ (base ≡ 16) → AreDigits base xs → 0 < length xs → IsNumeral base xs
numeral base xs b h some = (some, all base xs b h)
