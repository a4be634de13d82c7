-- Addresses a little after another one.
use Rattle.std.proofs.Common.{◌≡◌, ℕ, ◌+◌, ◌-◌, ◌*◌, ◌/◌, ◌%◌, ◌^◌, ◌≤◌, List, [], ◌∷◌, ◌++◌, ◌⊎◌, inl, inr, arith}
use Rattle.user_vax.specs.Operands.{past, back}

-- an address is so many bytes at most after a start; addresses wrap
abbrev pub IsAt : ℕ → ℕ → ℕ → Type 0
IsAt start most x = (k : ℕ) × (k ≤ most) × (x % 2 ^ 32 ≡ (start + k) % 2 ^ 32)

pub at_self : (start : ℕ) → IsAt start 0 start
at_self start = (0, omega arith, omega arith)

pub at_past : (start most by x : ℕ) → IsAt start most x → IsAt start (most + by) (past x by)
at_past start most by x h = (h.0 + by, (let l = h.1 in omega arith), (let e = h.2 in omega arith))

pub at_more : (start most more x : ℕ) → most ≤ more → IsAt start most x → IsAt start more x
at_more start most more x l h = (h.0, (let k = h.1 in omega arith), h.2)

-- an address is so many bytes at least after a start, and no more than 1,023
abbrev pub IsFrom : ℕ → ℕ → ℕ → Type 0
IsFrom start least x = (k : ℕ) × (least ≤ k) × (k ≤ 1023) × (x % 2 ^ 32 ≡ (start + k) % 2 ^ 32)

pub from_back : (x : ℕ) → IsFrom (back x 200) 200 x
from_back x = (200, omega arith, omega arith, omega arith)

pub from_less : (start least less x : ℕ) → less ≤ least → IsFrom start least x → IsFrom start less x
from_less start least less x l h = (h.0, (let k = h.1 in omega arith), h.2, h.3)

-- four bytes less
pub from_pushed : (start least x : ℕ) → IsFrom start (least + 4) x → IsFrom start least (back x 4)
from_pushed start least x h =
    let l = h.1 in
    let m = h.2 in
    let e = h.3 in
    (h.0 - 4, omega arith, omega arith, omega arith)

-- where a longword is pushed
pub at_pushed : (start least x : ℕ) → IsFrom start (least + 4) x → IsAt start 1019 (back x 4)
at_pushed start least x h =
    let l = h.1 in
    let m = h.2 in
    let e = h.3 in
    (h.0 - 4, omega arith, omega arith)

-- up to three bytes less
pub from_aligned : (start least x : ℕ) → IsFrom start (least + 3) x → IsFrom start least (x / 4 * 4)
from_aligned start least x h =
    let l = h.1 in
    let m = h.2 in
    let e = h.3 in
    (h.0 - x % 4, omega arith, omega arith, omega arith)

-- near one of some starts
abbrev pub IsNear : List ℕ → ℕ → Type 0
IsNear [] x = ⊥
IsNear (start ∷ starts) x = IsAt start 1023 x ⊎ IsNear starts x

pub near_left : (some more : List ℕ) (x : ℕ) → IsNear some x → IsNear (some ++ more) x
near_left [] more x h = absurd h
near_left (start ∷ some) more x (inl h) = inl h
near_left (start ∷ some) more x (inr h) = inr (near_left some more x h)

pub near_right : (some more : List ℕ) (x : ℕ) → IsNear more x → IsNear (some ++ more) x
near_right [] more x h = h
near_right (start ∷ some) more x h = inr (near_right some more x h)
