-- The bytes beside one that an address names.
use Rattle.std.proofs.Common.{◌≡◌, ◌∙◌, ℕ, ◌+◌, ◌-◌, ◌%◌, ◌<◌, ◌≤◌, ◌&&◌, Bool, true, false, ltb, leb, refl, ap, arith}
use Rattle.std.proofs.lemmas.Bool.Decides.{nat_tests}
use Rattle.flat_state.specs.declared.spot.Spot.TheVariants.{Text, Data, Stack}
use Rattle.flat_state.specs.Space.{spot_by, spot_at, stack_top, stack_reach, stack_index}
use Rattle.flat_state.proofs.Spots.{text_spot, data_spot, stack_spot, OfStack}

pub by_stack_alone : (b c d e : Bool) (t a i : ℕ) → spot_by b c d e t a ≡ Stack i → (b ≡ false) × (c ≡ false)
by_stack_alone true c d e t a i h = cc
by_stack_alone false true d e t a i h = cc
by_stack_alone false false true e t a i h = (refl, refl)
by_stack_alone false false false true t a i h = cc
by_stack_alone false false false false t a i h = cc

-- the spot by the first test that holds

first_holds : (b c d e : Bool) (t a : ℕ) → b ≡ true → spot_by b c d e t a ≡ Text a
first_holds true c d e t a h = refl
first_holds false c d e t a h = absurd cc

second_holds : (b c d e : Bool) (t a : ℕ) → b ≡ false → c ≡ true → spot_by b c d e t a ≡ Data (a - t)
second_holds false true d e t a h i = refl
second_holds true c d e t a h i = absurd cc
second_holds false false d e t a h i = absurd cc

third_holds : (b c d e : Bool) (t a : ℕ) → b ≡ false → c ≡ false → d ≡ true → spot_by b c d e t a ≡ Stack (stack_index a)
third_holds false false true e t a h i j = refl
third_holds true c d e t a h i j = absurd cc
third_holds false true d e t a h i j = absurd cc
third_holds false false false e t a h i j = absurd cc

-- the next bytes of the text
pub text_beside : (t d s a i by : ℕ) → spot_at t d s a ≡ Text i → i + by < t → spot_at t d s (a + by) ≡ Text (i + by)
unfolding spot_at
text_beside t d s a i by h near =
    let at : (a ≡ i) × (i < t) = text_spot t d s a i h in
    let same : a ≡ i = at.0 in
    let inside : a + by < t = omega (arith, same, near) in
    let test : ltb (a + by) t ≡ true = grind (arith, nat_tests) in
    first_holds (ltb (a + by) t) (ltb (a + by) (t + d)) (leb (stack_top - s) (a + by) && ltb (a + by) stack_top) (leb (stack_top - stack_reach) (a + by) && ltb (a + by) stack_top) t (a + by) test
    ∙ ap (λ (k : ℕ). Text (k + by)) same

-- the next bytes of the data
pub data_beside : (t d s a i by : ℕ) → spot_at t d s a ≡ Data i → i + by < d → spot_at t d s (a + by) ≡ Data (i + by)
unfolding spot_at
data_beside t d s a i by h near =
    let at : (a ≡ t + i) × (i < d) = data_spot t d s a i h in
    let same : a ≡ t + i = at.0 in
    let above : t ≤ a + by = omega (arith, same) in
    let inside : a + by < t + d = omega (arith, same, near) in
    let first : ltb (a + by) t ≡ false = grind (arith, nat_tests) in
    let second : ltb (a + by) (t + d) ≡ true = grind (arith, nat_tests) in
    let place : a + by - t ≡ i + by = omega (arith, same) in
    second_holds (ltb (a + by) t) (ltb (a + by) (t + d)) (leb (stack_top - s) (a + by) && ltb (a + by) stack_top) (leb (stack_top - stack_reach) (a + by) && ltb (a + by) stack_top) t
    (a + by) first second ∙ ap (λ (k : ℕ). Data k) place

-- the next bytes of a page of the stack
pub stack_beside : (t d s a i by : ℕ) → spot_at t d s a ≡ Stack i → i % 1024 + by < 1024 → spot_at t d s (a + by) ≡ Stack (i + by)
unfolding spot_at
stack_beside t d s a i by h near =
    let at : OfStack s a i = stack_spot t d s a i h in
    let alone = by_stack_alone (ltb a t) (ltb a (t + d)) _ _ t a i h in
    let before : ltb a t ≡ false = alone.0 in
    let after : ltb a (t + d) ≡ false = alone.1 in
    let above_text : t ≤ a = grind (arith, nat_tests) in
    let above_data : t + d ≤ a = grind (arith, nat_tests) in
    let index : i ≡ stack_index a = at.index in
    let low : stack_top - s ≤ a = at.above in
    let high : a < stack_top = at.below in
    let column : a % 1024 + by < 1024 = omega (arith, index, near) in
    let under : a + by < stack_top = omega (arith, high, column) in
    let over : stack_top - s ≤ a + by = omega (arith, low) in
    let beyond_text : t ≤ a + by = omega (arith, above_text) in
    let beyond_data : t + d ≤ a + by = omega (arith, above_data) in
    let first : ltb (a + by) t ≡ false = grind (arith, nat_tests) in
    let second : ltb (a + by) (t + d) ≡ false = grind (arith, nat_tests) in
    let third : leb (stack_top - s) (a + by) ≡ true = grind (arith, nat_tests) in
    let fourth : ltb (a + by) stack_top ≡ true = grind (arith, nat_tests) in
    let place : stack_index (a + by) ≡ i + by = omega (arith, index, high, column) in
    third_holds (ltb (a + by) t) (ltb (a + by) (t + d)) (leb (stack_top - s) (a + by) && ltb (a + by) stack_top) (leb (stack_top - stack_reach) (a + by) && ltb (a + by) stack_top) t
    (a + by) first second (ap (λ (x : Bool). x && ltb (a + by) stack_top) third ∙ fourth)
    ∙ ap (λ (k : ℕ). Stack k) place
