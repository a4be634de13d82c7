-- Digits are UTF-8, and are parsed.
use Rattle.std.proofs.Common.{◌≡◌, ◌≤◌, ◌∙◌, ℕ, List, length, sym, rules, subst}
use Rattle.std.specs.Str.Parse.{ParsesUnsigned}
use Rattle.std.proofs.lemmas.Str.{IsUtf8-from_ascii}
use Rattle.std.proofs.lemmas.Fmt.{IsAscii-from_digits}
use Rattle.command_words.proofs.Numerals.{digits_alone}
use Rattle.line_reasons.proofs.ScheduleNumerals.{parsed}
use Rattle.line_reasons.proofs.digits.decimal_of.Goals as goal

pub returns-in-Ok : goal.returns-in-Ok
returns-in-Ok c =
    let some : 1 ≤ length c.args.word.now = search rules in
    let short : length c.args.word.now ≤ 8 = search rules in
    let same : c.in-Ok.digits.now ≡ c.args.word.now = c.in-Ok.ensures.cases.0 in
    c.ok.ensures.value ∙ parsed c.args.word.now c.parse.result (subst (λ (w : List ℕ). ParsesUnsigned 32 10 w c.parse.result) same c.parse.ensures.value.0)
    (sym c.are_digits.ensures ∙ c.if-are_digits.true) some short

pub returns-in-Err : goal.returns-in-Err
returns-in-Err c =
    absurd (c.in-Err.ensures.cases.0 (IsUtf8-from_ascii c.args.word.now (IsAscii-from_digits c.args.word.now (digits_alone.to c.args.word.now (sym c.are_digits.ensures ∙ c.if-are_digits.true)))))
