-- A zero in front, no digits, or the digits of a number.
use Rattle.std.proofs.Common.{arith}
use Rattle.run_text.proofs.Words.{is_decimal, zero_in_front, no_digits}
use Rattle.run_text.proofs.pieces.read_decimal.Goals as goal

pub returns-then-has_zero_in_front : goal.returns-then-has_zero_in_front
returns-then-has_zero_in_front c n small is =
    zero_in_front c.args.text.now n small is c.if-has_zero_in_front.ensures.0 c.if-has_zero_in_front.ensures.1

pub returns-in_default : goal.returns-in_default
returns-in_default c n small is = no_digits c.args.text.now n small is c.in_default.ensures

pub returns : goal.returns
returns c = (
  is_decimal c.args.text.now c.in-Some.number c.in-Some.ensures.0 c.in-Some.ensures.1 c.in-Some.ensures.2
      (λ zero_first. omega (arith, c.if-has_zero_in_front.ensures zero_first, c.in-Some.ensures.0.0)),
  c.in-Some.ensures.2,
)
