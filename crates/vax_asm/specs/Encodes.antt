-- What encoding one line answers, by the functions and by the grammar.
use Rattle.std.specs.Prelude.{◌≡◌, ◌≤◌, ℕ, List, [], length, take, Some, None}
use Rattle.asm_grammar.specs.Encoding.{sentence_bytes, named_instruction, IsCodeOf}
use Rattle.asm_grammar.specs.declared.syntax.Sentence.{Sentence}
use Rattle.asm_grammar.specs.Grammar.{IsInstructionText}
use Rattle.vax_asm.specs.declared.answers.Encoded.{Encoded}
use Rattle.vax_asm.specs.declared.answers.Encoded.TheVariants as encodings

-- what encoding a line at an address answers
abbrev pub EncodesAs : List ℕ → ℕ → Encoded → Type 0
EncodesAs line at (encodings.Is bytes count) = IsCodeOf line [] at (take count bytes) × (count ≤ 24)
EncodesAs line at encodings.Bad = named_instruction line [] at ≡ None

-- the line is an instruction of the grammar, of at most 120 bytes, that has these bytes at an address
pub record IsEncodedAs (line : List ℕ) (at : ℕ) (bytes : List ℕ) : Type 0 where
  pub few : length line ≤ 120
  pub sentence : Sentence
  pub says : IsInstructionText line sentence
  pub has : sentence_bytes [] at sentence ≡ Some bytes

-- the same told by the grammar: the bytes of the line where it is an instruction that has some, and no bytes are its own where it's bad
abbrev pub EncodesByGrammar : List ℕ → ℕ → Encoded → Type 0
EncodesByGrammar line at (encodings.Is bytes count) = IsEncodedAs line at (take count bytes)
EncodesByGrammar line at encodings.Bad = (bytes : List ℕ) → ¬ IsEncodedAs line at bytes
