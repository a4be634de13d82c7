-- Showing, and encoding what is shown.
use Rattle.std.proofs.Common.{◌≡◌, ℕ, ◌+◌, ◌-◌, ◌≤◌, true, List, [], ◌∷◌, ◌++◌, length, take, drop, Some, refl, sym, ◌∙◌, ap, subst, arith, length-append}
use Rattle.std.proofs.lemmas.Bool.Decides.{nat_tests}
use Rattle.vax_code.specs.Grammar.{AreOctets, BeginsWith}
use Rattle.vax_code.proofs.Law.{is_decoded}
use Rattle.vax_code.proofs.Lengths.{whole_length}
use Rattle.asm_grammar.specs.Sentences.{sentence_of, is_short}
use Rattle.asm_grammar.specs.Encoding.{IsCodeOf}
use Rattle.vax_disasm.specs.Showing.{sentence_shown, sentence_text, IsTextOf}
use Rattle.asm_grammar.specs.declared.syntax.Sentence.{Sentence}
use Rattle.asm_grammar.proofs.Spelled.{sentence_encodes}
use Rattle.asm_grammar.proofs.Naming.{code_of}
use Rattle.asm_grammar.specs.Grammar.{IsInstructionText}
use Rattle.asm_grammar.proofs.LineTexts.{instruction_law}
use Rattle.vax_disasm.proofs.Respelled.{SentenceBack, sentence_back}
use Rattle.vax_disasm.proofs.Grammatical.{sentence_says}

take_all : (xs ys : List ℕ) → take (length xs) (xs ++ ys) ≡ xs
take_all [] [] = refl
take_all [] (y ∷ ys) = refl
take_all (x ∷ xs) ys = ap (λ (l : List ℕ). x ∷ l) (take_all xs ys)

drop_all : (xs ys : List ℕ) → drop (length xs) (xs ++ ys) ≡ ys
drop_all [] [] = refl
drop_all [] (y ∷ ys) = refl
drop_all (x ∷ xs) ys = drop_all xs ys

is_short_line : (text : List ℕ) → length text ≤ 120 → is_short text ≡ true
is_short_line text h = grind (arith, nat_tests)

shown_by : (bytes rest front : List ℕ) (at : ℕ) (s : Sentence) (text : List ℕ) → (back : SentenceBack at bytes rest s) → back.front ≡ front
    → sentence_shown at bytes ≡ Some (s, rest) → text ≡ sentence_text s → length text ≤ 120 → IsTextOf bytes at text (length front)
shown_by bytes rest front at s text back is shown written few =
    let split : bytes ≡ front ++ rest = back.split ∙ ap (λ (l : List ℕ). l ++ rest) is in
    let spells = back.spells ∙ ap (λ (l : List ℕ). Some l) is in
    let n = sentence_encodes [] at s front back.listed spells in
    let lengths = whole_length front n.0 n.2 in
    let begins : BeginsWith bytes n.0 = record { front = front; rest = rest; split = split; whole = n.2 } in
    let says : IsInstructionText text s =
    subst (λ (l : List ℕ). IsInstructionText l s) (sym written) (sentence_says s back.listed back.good_a back.good_b back.good_c) in
    let named : sentence_of text ≡ Some s = (instruction_law text s).1 says in
    let code : IsCodeOf text [] at front = code_of text [] at s front (is_short_line text few) named spells in
    let taken : take (length front) bytes ≡ front = ap (take (length front)) split ∙ take_all front rest in
    let left : drop (length front) bytes ≡ rest = ap (drop (length front)) split ∙ drop_all front rest in
    let sizes : length bytes ≡ length front + length rest = ap length split ∙ length-append front rest in
    record {
      sentence = s;
      shown = shown ∙ ap (λ (l : List ℕ). Some (s, l)) (sym left);
      written = written;
      says = says;
      instr = n.0;
      decodes = is_decoded bytes n.0 begins;
      sized = sym lengths.2;
      within = omega (arith, sizes);
      encodes = subst (λ (l : List ℕ). IsCodeOf text [] at l) (sym taken) code;
    }

pub shown_text : (bytes rest : List ℕ) (at : ℕ) (s : Sentence) (text : List ℕ) (size : ℕ) → AreOctets bytes → sentence_shown at bytes ≡ Some (s, rest)
    → text ≡ sentence_text s → length text ≤ 120 → size ≡ length bytes - length rest → IsTextOf bytes at text size
shown_text bytes rest at s text size octets shown written few is =
    let back = sentence_back at bytes rest s octets shown in
    let sizes : length bytes ≡ length back.front + length rest = ap length back.split ∙ length-append back.front rest in
    let same : length back.front ≡ size = omega (arith, sizes, is) in
    subst (λ (n : ℕ). IsTextOf bytes at text n) same (shown_by bytes rest back.front at s text back refl shown written few)
