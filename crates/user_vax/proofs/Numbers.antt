-- Addresses, one after another.
use Rattle.std.proofs.Common.{◌≡◌, ℕ, ◌+◌, ◌<◌, ◌^◌, arith}
use Rattle.user_vax.specs.Operands.{past}

pub past-past : (address more : ℕ) → past (past address more) 1 ≡ past address (more + 1)
past-past address more = grind arith

pub past-none : (address : ℕ) → address < 2 ^ 32 → past address 0 ≡ address
past-none address small = grind arith
