-- The number that a word writes.
use Rattle.std.proofs.Common.{◌≡◌, ℕ, ◌^◌, ◌<◌, ◌≤◌, true, List, [], ◌∷◌, length, refl, ap, Some, Result, Ok, Err, arith, rules}
use Rattle.std.specs.Char.{is_ascii_digit}
use Rattle.std.specs.List.{list_all}
use Rattle.std.specs.Result.{result_ok}
use Rattle.std.specs.Str.Parse.{ParsesUnsigned, digits_value}
use Rattle.std.proofs.lemmas.Bool.{le-leb}
use Rattle.std.proofs.lemmas.Str.Parse.{IsNumeralModel, numerals_by_value, parse_digits, digits_value_short}
use Rattle.command_words.specs.Words.{has_up_to, decimal_of}

-- digits alone are a numeral in decimal
pub digits_alone : IsNumeralModel (λ word. list_all is_ascii_digit word ≡ true) (digits_value 10)
digits_alone = numerals_by_value _ (search rules)

-- up to eight digits are parsed as their number, unless there are none
pub parsed : {E : Type 0} (word : List ℕ) (outcome : Result ℕ E) → ParsesUnsigned 32 10 word outcome
    → list_all is_ascii_digit word ≡ true → length word ≤ 8 → result_ok outcome ≡ decimal_of word
unfolding decimal_of has_up_to
parsed {E} word (Ok number) parses digits short =
    let read = parse_digits digits_alone {E = E} 32 word (Ok number) parses digits in
    rw (le-leb 1 (length word) read.0.0, le-leb (length word) 8 short, digits) (ap (λ (n : ℕ). Some n) read.1)
parsed {E} [] (Err error) parses digits short = refl
parsed {E} (byte ∷ rest) (Err error) parses digits short =
    let word : List ℕ = byte ∷ rest in
    let unread = parse_digits digits_alone {E = E} 32 word (Err error) parses digits in
    let small : digits_value 10 word < 2 ^ 32 = omega (arith, digits_value_short digits_alone word 8 digits short) in
    absurd (unread (omega arith, small))
