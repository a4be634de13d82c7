-- Two comparisons of numbers.
use Rattle.std.proofs.Common.{◌≡◌, ◌⊎◌, ℕ, ◌<◌, ◌≤◌, ◌==◌, true, refl, arith}
use Rattle.std.proofs.lemmas.Bool.{eq-eqb}

pub eq_self : (n : ℕ) → (n == n) ≡ true
eq_self n = eq-eqb n n refl

-- beside std's `cases_lt`, with the other order first
pub cases_le : (m n : ℕ) → (m ≤ n) ⊎ (n < m)
cases_le m n = grind arith
