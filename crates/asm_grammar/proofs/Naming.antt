-- A line that names an instruction, and its bytes.
use Rattle.std.proofs.Common.{◌≡◌, ℕ, true, false, List, [], ◌∷◌, length, Some, None, refl, sym, ◌∙◌, ap, subst}
use Rattle.std.proofs.lemmas.List.{append-nil}
use Rattle.vax_code.specs.declared.table.Row.{Row}
use Rattle.vax_code.specs.declared.instr.Instr.{Instr}
use Rattle.vax_code.specs.declared.instr.Decoded.TheVariants as decodings
use Rattle.vax_code.specs.Table.{row_for}
use Rattle.vax_code.specs.Reading.{decoded}
use Rattle.vax_code.specs.Grammar.{IsInstruction}
use Rattle.vax_code.proofs.Law.{is_decoded}
use Rattle.vax_code.proofs.Lengths.{whole_length}
use Rattle.asm_grammar.specs.Text.{front_of, behind}
use Rattle.asm_grammar.specs.Values.{is_word_byte}
use Rattle.asm_grammar.specs.Mnemonics.{row_named}
use Rattle.asm_grammar.specs.Sentences.{sentence_of, operands_at, place_of_row_at, ended, is_short}
use Rattle.asm_grammar.specs.Encoding.{sentence_bytes, named_instruction, named_bytes, IsCodeOf}
use Rattle.asm_grammar.specs.declared.syntax.Sentence.{Sentence}
use Rattle.asm_grammar.specs.declared.syntax.Definition.{Definition}
use Rattle.asm_grammar.proofs.Spelled.{bind_some, some_same, sentence_encodes, sentence_none}
use Rattle.asm_grammar.proofs.Rows.{named_is_listed}

row_of_ended : (row : Row) (s r : Sentence) (rest : List ℕ) → r.row ≡ row → ended r rest ≡ Some s → s.row ≡ row
row_of_ended row s r [] e h = ap (λ (x : Sentence). x.row) (sym (some_same _ _ h)) ∙ e
row_of_ended row s r (byte ∷ rest) e h = absurd (cc)

operands_row : (row : Row) (text : List ℕ) (s : Sentence) → operands_at row text ≡ Some s → s.row ≡ row
unfolding operands_at
operands_row row text s e =
    let a = bind_some (place_of_row_at row 0 text) _ s e in
    let b = bind_some (place_of_row_at row 1 a.0.1) _ s a.2 in
    let c = bind_some (place_of_row_at row 2 b.0.1) _ s b.2 in
    row_of_ended row s (record { row = row; a = a.0.0; b = b.0.0; c = c.0.0 }) c.0.1 refl c.2

pub sentence_listed : (text : List ℕ) (s : Sentence) → sentence_of text ≡ Some s → row_for s.row.op ≡ Some s.row
unfolding sentence_of
sentence_listed text s e =
    let r = bind_some (row_named (front_of is_word_byte text)) (λ row. operands_at row (behind is_word_byte text)) s e in
    subst (λ (row : Row). row_for row.op ≡ Some row) (sym (operands_row r.0 (behind is_word_byte text) s r.2)) (named_is_listed (front_of is_word_byte text) r.0 r.1)

-- the whole of the bytes is an instruction
pub whole_decodes : (bytes : List ℕ) (instr : Instr) → IsInstruction bytes instr → (decoded bytes ≡ decodings.Is instr) × (length bytes ≡ instr.length)
whole_decodes bytes instr h =
    (is_decoded bytes instr (record { front = bytes; rest = []; split = sym (append-nil bytes); whole = h }), (whole_length bytes instr h).2)

module _ (line : List ℕ) (labels : List Definition) (at : ℕ) where
  pub code_of : (s : Sentence) (bytes : List ℕ) → is_short line ≡ true → sentence_of line ≡ Some s
      → sentence_bytes labels at s ≡ Some bytes → IsCodeOf line labels at bytes
  unfolding named_instruction named_bytes
  code_of s bytes short is e =
      let n = sentence_encodes labels at s bytes (sentence_listed line s is) e in
      let d = whole_decodes bytes n.0 n.2 in
      record {
        instr = n.0;
        named = rw short (rw is n.1);
        bytes_named = rw short (rw is e);
        decodes = d.0;
        sized = d.1;
      }

  pub long_is_none : is_short line ≡ false → named_instruction line labels at ≡ None
  unfolding named_instruction
  long_is_none e = rw e refl

  pub no_sentence_is_none : is_short line ≡ true → sentence_of line ≡ None → named_instruction line labels at ≡ None
  unfolding named_instruction
  no_sentence_is_none short e = rw short (rw e refl)

  pub no_bytes_is_none : (s : Sentence) → is_short line ≡ true → sentence_of line ≡ Some s
      → sentence_bytes labels at s ≡ None → named_instruction line labels at ≡ None
  unfolding named_instruction
  no_bytes_is_none s short is e = rw short (rw is (sentence_none labels at s e))
