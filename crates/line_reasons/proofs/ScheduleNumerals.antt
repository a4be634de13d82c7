-- The number that a word writes.
use Rattle.std.proofs.Common.{◌≡◌, ℕ, ◌^◌, ◌<◌, ◌≤◌, true, List, length, ap, Some, Result, Ok, Err, arith}
use Rattle.std.specs.Char.{is_ascii_digit}
use Rattle.std.specs.List.{list_all}
use Rattle.std.specs.Result.{result_ok}
use Rattle.std.specs.Str.Parse.{ParsesUnsigned, digits_value}
use Rattle.std.proofs.lemmas.Bool.{le-leb}
use Rattle.std.proofs.lemmas.Str.Parse.{parse_digits, digits_value_short}
use Rattle.command_words.proofs.Numerals.{digits_alone}
use Rattle.line_reasons.specs.Digits.{decimal_of}

-- one to eight digits are parsed as their number
pub parsed : {E : Type 0} (word : List ℕ) (outcome : Result ℕ E) → ParsesUnsigned 32 10 word outcome
    → list_all is_ascii_digit word ≡ true → 1 ≤ length word → length word ≤ 8 → result_ok outcome ≡ decimal_of word
unfolding decimal_of
parsed {E} word (Ok number) parses digits some short =
    let read = parse_digits digits_alone {E = E} 32 word (Ok number) parses digits in
    rw (le-leb 1 (length word) some, le-leb (length word) 8 short, digits) (ap (λ (n : ℕ). Some n) read.1)
parsed {E} word (Err error) parses digits some short =
    let unread = parse_digits digits_alone {E = E} 32 word (Err error) parses digits in
    let small : digits_value 10 word < 2 ^ 32 = omega (arith, digits_value_short digits_alone word 8 digits short) in
    absurd (unread (some, small))
