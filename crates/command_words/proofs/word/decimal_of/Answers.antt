use Rattle.std.proofs.Common.{sym, ◌∙◌}
use Rattle.command_words.proofs.Numerals.{parsed}
use Rattle.command_words.proofs.word.decimal_of.Goals as goal

pub returns-then-are_digits : goal.returns-then-are_digits
returns-then-are_digits c =
    c.ok.ensures.value ∙ parsed c.args.word.now c.parse.result c.parse.ensures.value.0 (sym c.are_digits.ensures ∙ c.if-are_digits.true) c.if-word-le8.true
