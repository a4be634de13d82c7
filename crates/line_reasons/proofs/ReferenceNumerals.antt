-- The decimal of a number.
use Rattle.std.proofs.Common.{◌≡◌, ◌≢◌, ◌∙◌, ℕ, ◌^◌, ◌<◌, ◌≤◌, Bool, true, false, List, refl, sym, ap, Option, Some, None, is_some, bytes_eq, decimal, arith}
use Rattle.std.specs.Prelude.{nat_le, MatchOption}
use Rattle.std.specs.Str.Parse.{digits_value}
use Rattle.std.proofs.lemmas.Bool.{and_parts, and_from, leb-true, le-leb}
use Rattle.std.proofs.lemmas.Slice.Eq.{bytes_eq-Decides}
use Rattle.run_text.proofs.Words.{decimal_value}
use Rattle.line_reasons.specs.ReferenceReasons.{is_number}

-- the word is the decimal of this number of 32 bits
pub record IsDecimal (word : List ℕ) : Type 0 where
  pub value : ℕ
  pub small : value < 2 ^ 32
  pub is : word ≡ decimal value

pub number_read : (word : List ℕ) → is_number word ≡ true → IsDecimal word
unfolding is_number
number_read word e =
    let parts = and_parts (bytes_eq word (decimal (digits_value 10 word))) (nat_le (digits_value 10 word) 4294967295) e in
    let most : digits_value 10 word ≤ 4294967295 = leb-true (digits_value 10 word) 4294967295 parts.1 in
    record { value = digits_value 10 word; small = omega (arith, most); is = (bytes_eq-Decides word (decimal (digits_value 10 word))).0 parts.0 }

pub number_so : (word : List ℕ) (n : ℕ) → n < 2 ^ 32 → word ≡ decimal n → is_number word ≡ true
unfolding is_number
number_so word n small is =
    let value : digits_value 10 word ≡ n = ap (λ (w : List ℕ). digits_value 10 w) is ∙ (decimal_value n small).1 in
    and_from _ _ ((bytes_eq-Decides word (decimal (digits_value 10 word))).1 (is ∙ ap decimal (sym value))) (le-leb (digits_value 10 word) 4294967295 (omega (arith, value, small)))

-- a word that is no number's decimal
no_number : (word : List ℕ) (t : Bool) → is_number word ≡ t → ((n : ℕ) → n < 2 ^ 32 → word ≢ decimal n) → is_number word ≡ false
no_number word true e none = let d = number_read word e in absurd (none d.value d.small d.is)
no_number word false e none = e

-- what is read tells it
pub tells_number : (word : List ℕ) (read : Option ℕ)
    → MatchOption read ((n : ℕ) → n < 2 ^ 32 → word ≢ decimal n) (λ n. (word ≡ decimal n) × (n < 2 ^ 32)) → is_some read ≡ is_number word
tells_number word None none = sym (no_number word _ refl none)
tells_number word (Some n) is = sym (number_so word n is.1 is.0)
