use Rattle.std.proofs.Common.{◌≡◌, ◌+◌, drop, length, not}
use Rattle.std.specs.Prelude.{◌==◌}
use Rattle.asm_grammar.specs.Text.{front_of}
use Rattle.asm_grammar.proofs.lines.line_len.Given as goal

abbrev pub invariant-loop-i : goal.invariant-loop-i
invariant-loop-i l = l.i + length (front_of (λ byte. not (byte == 10)) (drop l.i l.text)) ≡ length (front_of (λ byte. not (byte == 10)) l.text)
