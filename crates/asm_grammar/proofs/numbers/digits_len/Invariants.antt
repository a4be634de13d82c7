use Rattle.std.proofs.Common.{◌≡◌, ◌+◌, drop, length}
use Rattle.asm_grammar.specs.Text.{front_of}
use Rattle.asm_grammar.specs.Numbers.{is_digit}
use Rattle.asm_grammar.proofs.numbers.digits_len.Given as goal

abbrev pub invariant-loop-i : goal.invariant-loop-i
invariant-loop-i l = l.i + length (front_of (is_digit l.base) (drop l.i l.text)) ≡ length (front_of (is_digit l.base) l.text)
