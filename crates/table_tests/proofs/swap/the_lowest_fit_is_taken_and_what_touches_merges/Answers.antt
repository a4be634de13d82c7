use Rattle.std.proofs.Common.{rules, arith, ◌≡◌, ℕ, ◌+◌, ◌-◌, ◌<◌, ◌≤◌, Bool, true, false, List, ◌++◌, length, replicate, Some, None, Option, refl, ap, ◌∙◌}
use Rattle.std.proofs.lemmas.Bool.{agree_below, agree_below_at}
use Rattle.resource_map.specs.Blocks.{Blocks, is_free_block, marked, taken, freed, all_free}
use Rattle.table_tests.proofs.swap.the_lowest_fit_is_taken_and_what_touches_merges.Goals as goal

-- four blocks at 0 and four at 4 are taken, of ten
eight_taken : (m0 m1 m2 m3 : Blocks) → m0 ≡ all_free 10 → m1 ≡ taken m0 4 (Some 0) → m2 ≡ taken m1 4 (Some 4) → m3 ≡ taken m2 3 None
    → m3.free ≡ replicate 8 false ++ replicate 2 true
unfolding marked
eight_taken m0 m1 m2 m3 e0 e1 e2 e3 =
    ap (λ (m : Blocks). m.free) (e3 ∙ e2 ∙ ap (λ (m : Blocks). taken m 4 (Some 4)) (e1 ∙ ap (λ (m : Blocks). taken m 4 (Some 0)) e0))

-- of those the first four are given back, and two of these taken again
six_taken : (m0 m1 m2 m3 : Blocks) → m0.free ≡ replicate 8 false ++ replicate 2 true → m1 ≡ freed m0 0 4 → m2 ≡ taken m1 2 (Some 0) → m3 ≡ taken m2 3 None
    → m3.free ≡ replicate 2 false ++ replicate 2 true ++ replicate 4 false ++ replicate 2 true
unfolding marked
six_taken m0 m1 m2 m3 e0 e1 e2 e3 =
    ap (λ (m : Blocks). m.free) (e3 ∙ e2) ∙
    ap (λ (m : Blocks). marked m.free 0 2 false) e1 ∙
    ap (λ (free : List Bool). marked (marked free 0 4 true) 0 2 false) e0

-- what a test at each of n places says of the places from a start on
all_false : (free fs : List Bool) (start n : ℕ) → free ≡ fs → agree_below (λ k. is_free_block fs (start + k)) (λ k. false) n ≡ true
    → (b : ℕ) → start ≤ b → b < start + n → is_free_block free b ≡ false
all_false free fs start n e all b low high =
    ap (λ (xs : List Bool). is_free_block xs b) e ∙
    ap (is_free_block fs) (omega arith) ∙
    agree_below_at (λ k. is_free_block fs (start + k)) (λ k. false) n (b - start) all (omega arith)

pub free-requires-clause-within : goal.free-requires-clause-within
free-requires-clause-within g c =
    let e0 : c.expect-map.result ≡ all_free 10 = search rules in
    let eight = eight_taken _ _ _ _ e0 c.takes.ensures c.takes-2.ensures c.refuses.ensures in
    let l = ap (λ (xs : List Bool). length xs) eight in
    omega arith

pub free-requires-clause-not_free : goal.free-requires-clause-not_free
free-requires-clause-not_free g c =
    let e0 : c.expect-map.result ≡ all_free 10 = search rules in
    let eight = eight_taken _ _ _ _ e0 c.takes.ensures c.takes-2.ensures c.refuses.ensures in
    all_false _ _ 0 4 eight refl

pub free-requires-2-clause-within : goal.free-requires-2-clause-within
free-requires-2-clause-within g c =
    let e0 : c.expect-map.result ≡ all_free 10 = search rules in
    let eight = eight_taken _ _ _ _ e0 c.takes.ensures c.takes-2.ensures c.refuses.ensures in
    let e4 : c.free.new.self ≡ freed c.refuses.new.blocks 0 4 = search rules in
    let six = six_taken _ _ _ _ eight e4 c.takes-3.ensures c.refuses-2.ensures in
    let l = ap (λ (xs : List Bool). length xs) six in
    omega arith

pub free-requires-2-clause-not_free : goal.free-requires-2-clause-not_free
free-requires-2-clause-not_free g c =
    let e0 : c.expect-map.result ≡ all_free 10 = search rules in
    let eight = eight_taken _ _ _ _ e0 c.takes.ensures c.takes-2.ensures c.refuses.ensures in
    let e4 : c.free.new.self ≡ freed c.refuses.new.blocks 0 4 = search rules in
    let six = six_taken _ _ _ _ eight e4 c.takes-3.ensures c.refuses-2.ensures in
    all_false _ _ 4 4 six refl
