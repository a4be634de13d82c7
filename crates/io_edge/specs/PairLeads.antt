-- Why the relation of a pair of devices is one of a device.
use Rattle.std.proofs.Common.{◌≡◌, ◌≤◌, ◌+◌, ℕ, zero, suc, Option, inl, inr, arith}
use Rattle.io_edge.specs.Count.{count_after}
use Rattle.io_edge.specs.Striping.{of_device}
use Rattle.io_edge.specs.PairFailures.{AddsFailures}

-- no more failed calls are none
pub none_after : (count : ℕ) → count ≡ count_after count 0
none_after count = omega arith

-- so many failed calls, and then so many more, are as many together
pub more_after : (a b c k l : ℕ) → b ≡ count_after a k → c ≡ count_after b l → c ≡ count_after a (k + l)
more_after a b c k l first then = omega (arith, first, then)

-- the same of the calls of two devices together
pub both_after : (a b c even_k odd_k even_l odd_l : ℕ) → b ≡ count_after a (even_k + odd_k) → c ≡ count_after b (even_l + odd_l)
    → c ≡ count_after a ((even_k + even_l) + (odd_k + odd_l))
both_after a b c even_k odd_k even_l odd_l first then = omega (arith, first, then)

-- a device on which calls failed in the first row, or in the second, is one on which calls failed
failed_first : (device even_k odd_k even_l odd_l : ℕ) → 1 ≤ of_device device even_k odd_k → 1 ≤ of_device device (even_k + even_l) (odd_k + odd_l)
failed_first zero even_k odd_k even_l odd_l some = omega (arith, some)
failed_first (suc _) even_k odd_k even_l odd_l some = omega (arith, some)

failed_then : (device even_k odd_k even_l odd_l : ℕ) → 1 ≤ of_device device even_l odd_l → 1 ≤ of_device device (even_k + even_l) (odd_k + odd_l)
failed_then zero even_k odd_k even_l odd_l some = omega (arith, some)
failed_then (suc _) even_k odd_k even_l odd_l some = omega (arith, some)

-- a row of no calls adds no failure
pub adds_nothing : (count : ℕ) (last : Option ℕ) (even odd : ℕ) → AddsFailures count count last last even even odd odd
adds_nothing count last even odd = record {
  on_zero = 0;
  on_one = 0;
  together = none_after count;
  zero = none_after even;
  one = none_after odd;
  named = λ device same. inl same;
}

-- the failures of one row of calls and then of another are those of both rows as one
pub adds_through : (count_a count_b count_c : ℕ) (last_a last_b last_c : Option ℕ) (zero_a zero_b zero_c one_a one_b one_c : ℕ)
    → AddsFailures count_a count_b last_a last_b zero_a zero_b one_a one_b → AddsFailures count_b count_c last_b last_c zero_b zero_c one_b one_c
    → AddsFailures count_a count_c last_a last_c zero_a zero_c one_a one_c
adds_through count_a count_b count_c last_a last_b last_c zero_a zero_b zero_c one_a one_b one_c first then = record {
  on_zero = first.on_zero + then.on_zero;
  on_one = first.on_one + then.on_one;
  together = both_after count_a count_b count_c first.on_zero first.on_one then.on_zero then.on_one first.together then.together;
  zero = more_after zero_a zero_b zero_c first.on_zero then.on_zero first.zero then.zero;
  one = more_after one_a one_b one_c first.on_one then.on_one first.one then.one;
  named = λ device named.
      elim (then.named device named) [
        | inl before ↦ elim (first.named device before) [
          | inl at_first ↦ inl at_first
          | inr some ↦ inr (failed_first device first.on_zero first.on_one then.on_zero then.on_one some)
        ]
        | inr some ↦ inr (failed_then device first.on_zero first.on_one then.on_zero then.on_one some)
      ];
}

-- the pair's count never falls
pub adds_grow : (old_count new_count : ℕ) (old_last new_last : Option ℕ) (old_zero new_zero old_one new_one : ℕ)
    → AddsFailures old_count new_count old_last new_last old_zero new_zero old_one new_one → old_count ≤ new_count
adds_grow old_count new_count old_last new_last old_zero new_zero old_one new_one adds = let risen = adds.together in omega (arith, risen)
