-- What the spot of an address says of the address.
use Rattle.std.proofs.Common.{◌≡◌, ℕ, ◌+◌, ◌-◌, ◌*◌, ◌<◌, ◌≤◌, Bool, true, false, ltb, leb, refl, sym, arith}
use Rattle.std.proofs.lemmas.Bool.{ltb-true, and_parts}
use Rattle.std.proofs.lemmas.Bool.Decides.{nat_tests}
use Rattle.flat_state.specs.declared.spot.Spot.TheVariants.{Text, Data, Stack}
use Rattle.flat_state.specs.Space.{spot_by, spot_at, stack_top, stack_index}

by_text : (b c d e : Bool) (t a i : ℕ) → spot_by b c d e t a ≡ Text i → (b ≡ true) × (a ≡ i)
by_text true c d e t a i h = (refl, cc)
by_text false true d e t a i h = cc
by_text false false true e t a i h = cc
by_text false false false true t a i h = cc
by_text false false false false t a i h = cc

by_data : (b c d e : Bool) (t a i : ℕ) → spot_by b c d e t a ≡ Data i → (b ≡ false) × (c ≡ true) × (a - t ≡ i)
by_data true c d e t a i h = cc
by_data false true d e t a i h = (refl, refl, cc)
by_data false false true e t a i h = cc
by_data false false false true t a i h = cc
by_data false false false false t a i h = cc

by_stack : (b c d e : Bool) (t a i : ℕ) → spot_by b c d e t a ≡ Stack i → (d ≡ true) × (stack_index a ≡ i)
by_stack true c d e t a i h = cc
by_stack false true d e t a i h = cc
by_stack false false true e t a i h = (refl, cc)
by_stack false false false true t a i h = cc
by_stack false false false false t a i h = cc

-- a byte of the text
pub text_spot : (t d s a i : ℕ) → spot_at t d s a ≡ Text i → (a ≡ i) × (i < t)
unfolding spot_at
text_spot t d s a i h =
    let found = by_text (ltb a t) (ltb a (t + d)) _ _ t a i h in
    let below : a < t = ltb-true a t found.0 in
    (found.1, omega arith)

-- a byte of the data
pub data_spot : (t d s a i : ℕ) → spot_at t d s a ≡ Data i → (a ≡ t + i) × (i < d)
unfolding spot_at
data_spot t d s a i h =
    let found = by_data (ltb a t) (ltb a (t + d)) _ _ t a i h in
    let below : a < t + d = ltb-true a (t + d) found.1 in
    let above : t ≤ a = (let e : ltb a t ≡ false = found.0 in grind (arith, nat_tests)) in
    (omega arith, omega arith)

-- a byte of the stack
pub record OfStack (s a i : ℕ) : Type 0 where
  pub index : i ≡ stack_index a
  pub above : stack_top - s ≤ a
  pub below : a < stack_top

pub stack_spot : (t d s a i : ℕ) → spot_at t d s a ≡ Stack i → OfStack s a i
unfolding spot_at
stack_spot t d s a i h =
    let found = by_stack (ltb a t) (ltb a (t + d)) _ _ t a i h in
    let tests = and_parts (leb (stack_top - s) a) (ltb a stack_top) found.0 in
    let low : leb (stack_top - s) a ≡ true = tests.0 in
    record {
      index = sym found.1;
      above = grind (arith, nat_tests);
      below = ltb-true a stack_top tests.1;
    }

-- an address of the stack is known by its byte
pub stack_index_once : (a b : ℕ) → a < stack_top → b < stack_top → stack_index a ≡ stack_index b → a ≡ b
stack_index_once a b below_a below_b e = omega arith

-- a byte of a stack of whole pages is one of its bytes
pub stack_index_within : (pages a : ℕ) → stack_top - 1024 * pages ≤ a → a < stack_top → stack_index a < 1024 * pages
stack_index_within pages a above below = omega arith
