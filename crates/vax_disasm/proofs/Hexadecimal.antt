-- Hexadecimal digits.
use Rattle.std.proofs.Common.{◌≡◌, ℕ, zero, suc, ◌-◌, ◌/◌, ◌%◌, ◌<◌, ◌≤◌, true, false, [], ◌∷◌, ◌++◌, refl, ap, arith}
use Rattle.std.specs.Prelude.{nat_lt}
use Rattle.std.proofs.lemmas.Bool.Decides.{nat_tests}
use Rattle.vax_disasm.specs.Showing.{hexadecimal_digit, hexadecimal}

pub lt_is : (a b : ℕ) → a < b → nat_lt a b ≡ true
lt_is a b h = grind (arith, nat_tests)

pub ge_is : (a b : ℕ) → b ≤ a → nat_lt a b ≡ false
ge_is a b h = grind (arith, nat_tests)

pub hexadecimal_none : (places number : ℕ) → places ≡ 0 → hexadecimal places number ≡ []
hexadecimal_none zero number e = refl
hexadecimal_none (suc places) number e = absurd (omega arith)

pub hexadecimal_last : (places number : ℕ) → 0 < places → number < 16 → hexadecimal places number ≡ hexadecimal_digit (number % 16) ∷ []
hexadecimal_last zero number some small = absurd (omega arith)
hexadecimal_last (suc places) number some small =
    let same : number ≡ number % 16 = omega arith in
    rw (lt_is number 16 small) (ap (λ (n : ℕ). hexadecimal_digit n ∷ []) same)

pub hexadecimal_step : (places number : ℕ) → 0 < places → 16 ≤ number
    → hexadecimal places number ≡ hexadecimal (places - 1) (number / 16) ++ (hexadecimal_digit (number % 16) ∷ [])
hexadecimal_step zero number some large = absurd (omega arith)
hexadecimal_step (suc places) number some large =
    let same : places ≡ suc places - 1 = omega arith in
    rw (ge_is number 16 large) (ap (λ (k : ℕ). hexadecimal k (number / 16) ++ (hexadecimal_digit (number % 16) ∷ [])) same)
