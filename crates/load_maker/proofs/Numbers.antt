-- Numbers below a bound, tested one by one: indices that fall, addresses that rise, and the words of the programs.
use Rattle.std.proofs.Common.{◌≡◌, ℕ, zero, suc, ◌+◌, ◌*◌, ◌^◌, ◌<◌, ◌==◌, Bool, true, false, ◌&&◌, nat_le, refl, sym, ap, ◌∙◌, subst, arith}
use Rattle.std.proofs.lemmas.Bool.{eqb-true, and_parts}
use Rattle.std.proofs.lemmas.Bool.Decides.{nat_tests}
use Rattle.std.specs.Int.{w32, from_le_bytes}
use Rattle.aout_image.specs.Image.{word_bytes}
use Rattle.vax_alu.specs.declared.Sum.{Sum}
use Rattle.vax_alu.specs.Results.{sum_of, difference_of}

-- all numbers below the bound pass
unfoldable pub all_below : (ℕ → Bool) → ℕ → Bool
all_below test zero = true
all_below test (suc n) = test n && all_below test n

pub below : (test : ℕ → Bool) (n k : ℕ) → all_below test n ≡ true → k < n → test k ≡ true
unfolding all_below
below test zero k all lt = absurd (let no : k < 0 = lt in omega arith)
below test (suc n) k all lt = go (λ less. below test n k both.1 less) (k == n) refl
  where
    both : (test n ≡ true) × (all_below test n ≡ true)
    both = and_parts (test n) (all_below test n) all

    go : (k < n → test k ≡ true) → (b : Bool) → (k == n) ≡ b → test k ≡ true
    go later true e = subst (λ (x : ℕ). test x ≡ true) (sym (eqb-true k n e)) both.0
    go later false e = later (grind (arith, nat_tests))

-- an index that goes down by one
fall : ℕ → Sum
fall left = difference_of (left + 1) 1

value_of : Sum → ℕ
value_of sum = sum.value

falls : all_below (λ left. value_of (fall left) == left) 65 ≡ true
unfolding all_below fall value_of
falls = refl

pub record Fallen (sum : Sum) (left : ℕ) : Type 0 where
  pub value : sum.value ≡ left
  pub n : sum.n ≡ false
  pub z : sum.z ≡ (left == 0)

pub fallen : (left : ℕ) → left < 65 → Fallen (difference_of (left + 1) 1) left
unfolding fall value_of
fallen left lt =
    let v : value_of (fall left) ≡ left = eqb-true (value_of (fall left)) left (below (λ x. value_of (fall x) == x) 65 left falls lt) in
    record {
      value = v;
      n = ap (nat_le (2 ^ 31)) v ∙ small left lt;
      z = ap (λ x. x == 0) v;
    }
  where
    small : (x : ℕ) → x < 65 → nat_le (2 ^ 31) x ≡ false
    small x l = grind (arith, nat_tests)

-- an address that goes up by a page
rise : ℕ → Sum
rise at = sum_of (1024 * at) 1024

rises : all_below (λ at. value_of (rise at) == 1024 * (at + 1)) 65 ≡ true
unfolding all_below rise value_of
rises = refl

pub risen : (at : ℕ) → at < 65 → (let sum : Sum = sum_of (1024 * at) 1024 in sum.value) ≡ 1024 * (at + 1)
unfolding rise value_of
risen at lt = eqb-true (value_of (rise at)) (1024 * (at + 1)) (below (λ x. value_of (rise x) == 1024 * (x + 1)) 65 at rises lt)

-- the number of pages, as the programs have it
page_words : all_below (λ pages. from_le_bytes w32 (word_bytes pages) == pages) 65 ≡ true
unfolding all_below
page_words = refl

pub page_word : (pages : ℕ) → pages < 65 → from_le_bytes w32 (word_bytes pages) ≡ pages
page_word pages lt = eqb-true (from_le_bytes w32 (word_bytes pages)) pages (below (λ x. from_le_bytes w32 (word_bytes x) == x) 65 pages page_words lt)
