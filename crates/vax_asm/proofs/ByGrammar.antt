-- What is encoded and assembled, told by the grammar.
use Rattle.std.proofs.Common.{◌≡◌, ℕ, List, [], length, take, Some, None, refl}
use Rattle.asm_grammar.specs.Text.{◌>>=◌}
use Rattle.asm_grammar.specs.Sentences.{sentence_of, is_short}
use Rattle.asm_grammar.specs.Encoding.{sentence_bytes, named_instruction, named_bytes, IsCodeOf}
use Rattle.asm_grammar.specs.Lines.{items_in}
use Rattle.asm_grammar.proofs.Spelled.{bind_some, some_if, le_of}
use Rattle.asm_grammar.proofs.Naming.{code_of}
use Rattle.asm_grammar.specs.Grammar.{SaysLines}
use Rattle.asm_grammar.proofs.Reading.{le_true}
use Rattle.asm_grammar.proofs.LineTexts.{instruction_law}
use Rattle.asm_grammar.proofs.Sources.{source_law}
use Rattle.vax_asm.specs.declared.answers.Encoded.{Encoded}
use Rattle.vax_asm.specs.declared.answers.Encoded.TheVariants as encodings
use Rattle.vax_asm.specs.Encodes.{EncodesAs, IsEncodedAs, EncodesByGrammar}

named_says : (line : List ℕ) (at : ℕ) (bytes : List ℕ) → named_bytes line [] at ≡ Some bytes → IsEncodedAs line at bytes
unfolding named_bytes
named_says line at bytes e =
    let short = some_if (is_short line) (sentence_of line >>= λ sentence. sentence_bytes [] at sentence) bytes e in
    let s = bind_some (sentence_of line) (λ sentence. sentence_bytes [] at sentence) bytes short.1 in
    record { few = le_of (length line) 120 short.0; sentence = s.0; says = (instruction_law line s.0).0 s.1; has = s.2 }

none_says : (line : List ℕ) (at : ℕ) → named_instruction line [] at ≡ None → (bytes : List ℕ) → ¬ IsEncodedAs line at bytes
none_says line at none bytes is =
    let code : IsCodeOf line [] at bytes = code_of line [] at is.sentence bytes (le_true (length line) 120 is.few) ((instruction_law line is.sentence).1 is.says) is.has in
    let named : named_instruction line [] at ≡ Some code.instr = code.named in
    absurd (cc)

pub encodes_by_grammar : (line : List ℕ) (at : ℕ) (answer : Encoded) → EncodesAs line at answer → EncodesByGrammar line at answer
encodes_by_grammar line at (encodings.Is bytes count) h = (let code : IsCodeOf line [] at (take count bytes) = h.0 in named_says line at (take count bytes) code.bytes_named)
encodes_by_grammar line at encodings.Bad h = none_says line at h

pub source_says_items : (source : List ℕ) → SaysLines source (items_in source)
source_says_items source = (source_law source (items_in source)).0 refl
