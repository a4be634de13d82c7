-- The word after the space is no number.
use Rattle.run_text.proofs.Words.{no_word}
use Rattle.run_text.proofs.numbers.read_part.Goals as goal

pub returns-in_default-read_decimal : goal.returns-in_default-read_decimal
returns-in_default-read_decimal c =
    no_word c.args.text.now c.in-Some.after.now c.split_at_space.result.0.now c.split_at_space.result.1.now c.in-Some.ensures c.split_at_space.ensures.cut c.split_at_space.ensures.word
    c.split_at_space.ensures.rest c.in_default-read_decimal.ensures
