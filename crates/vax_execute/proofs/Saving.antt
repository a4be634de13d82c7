-- Saving registers, one after another.
use Rattle.std.proofs.Common.{◌≡◌, ℕ, suc, ◌+◌, ◌-◌, ◌<◌, List, ◌∷◌, cond, Bool, true, false, ◌++◌, get_or, refl, arith}
use Rattle.user_vax.specs.Frames.{saved, bit}

pub saved_more : (done : ℕ) (registers : List ℕ) (mask : ℕ) → done < 12
    → saved (12 - done) registers mask
    ≡ cond (bit mask (11 - done)) (get_or registers (11 - done) 0 ∷ saved (12 - (done + 1)) registers mask) (saved (12 - (done + 1)) registers mask)
unfolding saved
saved_more done registers mask below =
    let left : 12 - done ≡ suc (11 - done) = omega arith in
    let next : 12 - (done + 1) ≡ 11 - done = omega arith in
    rw (left, next) refl

pub cond_append : (test : Bool) (value : ℕ) (some values : List ℕ)
    → cond test (value ∷ some) some ++ values ≡ cond test (value ∷ (some ++ values)) (some ++ values)
cond_append true value some values = refl
cond_append false value some values = refl
