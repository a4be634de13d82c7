-- One more entry of a journal in its counts.
use Rattle.std.proofs.Common.{◌≡◌, ◌<◌, ◌≤◌, ◌+◌, ℕ, Bool, true, false, List, [], ◌∷◌, length, take, get_or, sym, ap, ◌∙◌, arith}
use Rattle.std.specs.Prelude.{if◌then◌else◌}
use Rattle.std.specs.List.{sum_by}
use Rattle.std.proofs.lemmas.List.{take_more}
use Rattle.std.proofs.lemmas.List.Sums.{sum_by_more}
use Rattle.vm_facts.specs.declared.entry.Entry.{Entry}
use Rattle.flat_state.specs.Journal.{counted, instructions_of}
use Rattle.flat_state.proofs.Joins.{count-append}

pub instructions_more : (journal : List Entry) (i n k : ℕ) (e : Entry) → i < length journal → e ≡ get_or journal i e
    → n ≡ instructions_of (take i journal) → k ≡ counted e → n + k ≡ instructions_of (take (i + 1) journal)
instructions_more journal i n k e lt is so_far here =
    let there : counted e ≡ counted (get_or journal i e) = ap counted is in
    let one : instructions_of (take (i + 1) journal) ≡ instructions_of (take i journal) + (counted (get_or journal i e) + 0) =
    ap instructions_of (take_more journal i e lt) ∙ count-append (take i journal) (get_or journal i e ∷ []) in
    step n k (instructions_of (take i journal)) (counted e) (counted (get_or journal i e)) (instructions_of (take (i + 1) journal))
    so_far here there one
  where
    step : (n k a b d t : ℕ) → n ≡ a → k ≡ b → b ≡ d → t ≡ a + (d + 0) → n + k ≡ t
    step n k a b d t e f g h = omega (arith, e, f, g, h)

pub sum_more : (f : Entry → ℕ) (journal : List Entry) (base i n k : ℕ) (e : Entry)
    → i < length journal → e ≡ get_or journal i e → n ≡ base + sum_by f (take i journal) → k ≡ f e → n + k ≡ base + sum_by f (take (i + 1) journal)
sum_more f journal base i n k e lt is so_far here =
    step base n k (sum_by f (take i journal)) (f e) (f (get_or journal i e)) (sum_by f (take (i + 1) journal)) so_far here (ap f is) (sum_by_more f journal i e lt)
  where
    step : (base n k a b d t : ℕ) → n ≡ base + a → k ≡ b → b ≡ d → t ≡ a + d → n + k ≡ base + t
    step base n k a b d t e f g h = omega (arith, e, f, g, h)

pub sum_more_alone : (f : Entry → ℕ) (journal : List Entry) (i n k : ℕ) (e : Entry) → i < length journal → e ≡ get_or journal i e
    → n ≡ sum_by f (take i journal) → k ≡ f e → n + k ≡ sum_by f (take (i + 1) journal)
sum_more_alone f journal i n k e lt is so_far here =
    sum_more f journal 0 i n k e lt is (so_far ∙ from_zero (sum_by f (take i journal))) here ∙ sym (from_zero (sum_by f (take (i + 1) journal)))
  where
    from_zero : (n : ℕ) → n ≡ 0 + n
    from_zero n = omega arith

one_at_most : (b : Bool) → (if b then 1 else 0) ≤ 1
one_at_most true = omega arith
one_at_most false = omega arith

-- a count has room for one more
pub one_more_fits : (most i n k : ℕ) (b : Bool) → n ≤ most + i → k ≡ (if b then 1 else 0) → n + k ≤ most + (i + 1)
one_more_fits most i n k b few is = let one = one_at_most b in step (if b then 1 else 0) few is one
  where
    step : (o : ℕ) → n ≤ most + i → k ≡ o → o ≤ 1 → n + k ≤ most + (i + 1)
    step o e f g = omega (arith, e, f, g)
