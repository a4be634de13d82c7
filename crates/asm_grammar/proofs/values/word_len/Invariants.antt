use Rattle.std.proofs.Common.{◌≡◌, ◌+◌, drop, length}
use Rattle.asm_grammar.specs.Text.{front_of}
use Rattle.asm_grammar.specs.Values.{is_word_byte}
use Rattle.asm_grammar.proofs.values.word_len.Given as goal

abbrev pub invariant-loop-i : goal.invariant-loop-i
invariant-loop-i l = l.i + length (front_of is_word_byte (drop l.i l.text)) ≡ length (front_of is_word_byte l.text)
