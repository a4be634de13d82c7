-- Digits are UTF-8.
use Rattle.std.proofs.lemmas.Str.{IsUtf8-from_ascii}
use Rattle.std.proofs.lemmas.Fmt.{IsAscii-from_digits}
use Rattle.run_text.proofs.pieces.read_digits.Goals as goal

pub returns-in_default : goal.returns-in_default
returns-in_default c numeral small = c.in_default.ensures.cases.0 (IsUtf8-from_ascii c.args.text.now (IsAscii-from_digits c.args.text.now numeral.1))
