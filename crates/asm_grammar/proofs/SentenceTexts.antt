-- An instruction: its text is read as what it says, and what is read of a text is what it says.
use Rattle.std.proofs.Common.{◌≡◌, ℕ, ◌<◌, ◌≤◌, Bool, true, false, List, [], ◌∷◌, ◌++◌, Option, Some, None, refl, sym, ◌∙◌, ap, subst, arith, append_assoc}
use Rattle.std.specs.Prelude.{if◌then◌else◌, nat_lt}
use Rattle.std.proofs.lemmas.List.{append-nil}
use Rattle.std.proofs.lemmas.Bool.Decides.{nat_tests}
use Rattle.vax_code.specs.declared.table.Row.{Row}
use Rattle.vax_code.specs.Table.{row_for, slot_in}
use Rattle.vax_code.specs.Operands.{is_branch}
use Rattle.asm_grammar.specs.Text.{◌>>=◌, Text, behind_byte, front_of, behind}
use Rattle.asm_grammar.specs.Values.{is_word_byte}
use Rattle.asm_grammar.specs.Mnemonics.{mnemonic, row_named}
use Rattle.asm_grammar.specs.Operands.{operand_at}
use Rattle.asm_grammar.specs.Sentences.{separator, place_of_row_at, ended, operands_at, sentence_of}
use Rattle.asm_grammar.specs.declared.syntax.Written.{Written}
use Rattle.asm_grammar.specs.declared.syntax.Written.TheVariants as writtens
use Rattle.asm_grammar.specs.declared.syntax.Sentence.{Sentence}
use Rattle.asm_grammar.proofs.Spelled.{bind_some, some_same, lt_of, ge_of}
use Rattle.asm_grammar.proofs.Rows.{named_is_listed}
use Rattle.asm_grammar.proofs.MnemonicTexts.{mnemonic_read, mnemonic_word, mnemonic_is}
use Rattle.asm_grammar.specs.Grammar.{IsOperand, IsInPlace, Present, Lacking, IsInstructionText, Mnemonic}
use Rattle.asm_grammar.proofs.FrontSplits.{Begins, cut, front_split, after_splits, after_itself}
use Rattle.asm_grammar.proofs.Reading.{Ends}
use Rattle.asm_grammar.proofs.OperandTexts.{OperandEnds, operand_ends, operand_read}
use Rattle.asm_grammar.proofs.Specifying.{operand_says}

-- ---- places of the row

lt_true : (a b : ℕ) → a < b → nat_lt a b ≡ true
lt_true a b h = grind (arith, nat_tests)

lt_false : (a b : ℕ) → b ≤ a → nat_lt a b ≡ false
lt_false a b h = grind (arith, nat_tests)

in_place_read : (row : Row) (place : ℕ) (i : List ℕ) (written : Written) (rest : List ℕ) → IsInPlace row place i written → OperandEnds rest
    → place_of_row_at row place (i ++ rest) ≡ Some (written, rest)
unfolding place_of_row_at
in_place_read row place i written rest (Present {o} here is) ends =
    rw (lt_true place row.count here)
    (ap (λ (t : Option (List ℕ)). t >>= operand_at (is_branch (slot_in row place).access)) (after_itself (separator place) (o ++ rest))
    ∙ operand_read (is_branch (slot_in row place).access) o written rest is ends)
in_place_read row place i written rest (Lacking past) ends = rw (lt_false place row.count past) refl

-- a comma, or what comes after
in_place_ends : (row : Row) (place : ℕ) (i : List ℕ) (written : Written) (rest : List ℕ) → IsInPlace row place i written → separator place ≡ 44
    → OperandEnds rest → OperandEnds (i ++ rest)
in_place_ends row place i written rest (Present here is) comma ends = comma
in_place_ends row place i written rest (Lacking past) comma ends = ends

-- a space, or what comes after
first_ends : (row : Row) (i : List ℕ) (written : Written) (rest : List ℕ) → IsInPlace row 0 i written → OperandEnds rest → Ends (i ++ rest)
first_ends row i written rest (Present here is) ends = refl
first_ends row i written rest (Lacking past) ends = operand_ends rest ends

in_place_by : (row : Row) (place : ℕ) (text : List ℕ) (r : Written × List ℕ) (here : Bool) → nat_lt place row.count ≡ here
    → (if here then (behind_byte (separator place) text >>= operand_at (is_branch (slot_in row place).access)) else Some (writtens.Absent, text)) ≡ Some r
    → Begins (IsInPlace row place) text r.0 r.1
in_place_by row place text r true here e =
    let rest = bind_some (behind_byte (separator place) text) (operand_at (is_branch (slot_in row place).access)) r e in
    let o : Begins (IsOperand (is_branch (slot_in row place).access)) rest.0 r.0 r.1 = operand_says (is_branch (slot_in row place).access) rest.0 r rest.2 in
    record {
      front = separator place ∷ o.front;
      split = after_splits (separator place) text rest.0 rest.1 ∙ ap (λ (l : List ℕ). separator place ∷ l) o.split;
      says = Present (lt_of place row.count here) o.says;
    }
in_place_by row place text r false past e =
    let same : (writtens.Absent, text) ≡ r = some_same _ _ e in
    subst (λ (q : Written × List ℕ). Begins (IsInPlace row place) text q.0 q.1) same (record { front = []; split = refl; says = Lacking (ge_of place row.count past) })

in_place_says : (row : Row) (place : ℕ) (text : List ℕ) (r : Written × List ℕ) → place_of_row_at row place text ≡ Some r
    → Begins (IsInPlace row place) text r.0 r.1
unfolding place_of_row_at
in_place_says row place text r e = in_place_by row place text r (nat_lt place row.count) refl e

-- ---- instructions

-- the operands stand behind the mnemonic, whatever comes first
operands_follow : (row : Row) (one two three : List ℕ) (a b c : Written) → IsInPlace row 0 one a → IsInPlace row 1 two b → IsInPlace row 2 three c
    → (operands_at row (one ++ (two ++ three)) ≡ Some (record { row = row; a = a; b = b; c = c })) × Ends (one ++ (two ++ three))
    × OperandEnds (two ++ three)
unfolding operands_at
operands_follow row one two three a b c first second third =
    let nil : three ++ [] ≡ three = append-nil three in
    let ends_c : OperandEnds three = subst (λ (l : List ℕ). OperandEnds l) nil (in_place_ends row 2 three c [] third refl tt) in
    let ends_b : OperandEnds (two ++ three) = in_place_ends row 1 two b three second refl ends_c in
    let read_c : place_of_row_at row 2 three ≡ Some (c, []) = ap (place_of_row_at row 2) (sym nil) ∙ in_place_read row 2 three c [] third tt in (
      ap (λ (o : Text Written). o >>= λ a. place_of_row_at row 1 a.1 >>= λ b. place_of_row_at row 2 b.1 >>= λ c. ended (record { row = row; a = a.0; b = b.0; c = c.0 }) c.1)
          (in_place_read row 0 one a (two ++ three) first ends_b)
          ∙ ap (λ (o : Text Written). o >>= λ b. place_of_row_at row 2 b.1 >>= λ c. ended (record { row = row; a = a; b = b.0; c = c.0 }) c.1)
          (in_place_read row 1 two b three second ends_c)
          ∙ ap (λ (o : Text Written). o >>= λ c. ended (record { row = row; a = a; b = b; c = c.0 }) c.1) read_c,
      first_ends row one a (two ++ three) first ends_b,
      ends_b,
    )

-- the text begins with the mnemonic of a row, which is a word
pub record Named (text : List ℕ) (sentence : Sentence) : Type 0 where
  pub rest : List ℕ
  pub split : text ≡ mnemonic sentence.row.name ++ rest
  pub listed : row_for sentence.row.op ≡ Some sentence.row
  pub ends : Ends rest
  pub operands : operands_at sentence.row rest ≡ Some sentence
  pub no_colon : behind_byte 58 rest ≡ None

no_colon_by : (row : Row) (i : List ℕ) (written : Written) (rest : List ℕ) → IsInPlace row 0 i written → OperandEnds rest → behind_byte 58 (i ++ rest) ≡ None
unfolding behind_byte
no_colon_by row i written rest (Present here is) ends = refl
no_colon_by row i written [] (Lacking past) ends = refl
no_colon_by row i written (byte ∷ rest) (Lacking past) ends = subst (λ (b : ℕ). behind_byte 58 (b ∷ rest) ≡ None) (sym ends) refl

pub named : (text : List ℕ) (sentence : Sentence) → IsInstructionText text sentence → Named text sentence
named text sentence (Mnemonic {row} {one} {two} {three} {a} {b} {c} listed first second third) =
    let follow = operands_follow row one two three a b c first second third in
    record {
      rest = one ++ (two ++ three);
      split = append_assoc (mnemonic row.name ++ one) two three ∙ append_assoc (mnemonic row.name) one (two ++ three);
      listed = listed;
      ends = follow.1;
      operands = follow.0;
      no_colon = no_colon_by row one a (two ++ three) first follow.2;
    }

pub sentence_read : (text : List ℕ) (sentence : Sentence) → IsInstructionText text sentence → sentence_of text ≡ Some sentence
unfolding sentence_of
sentence_read text sentence is =
    let n : Named text sentence = named text sentence is in
    let parts = cut is_word_byte (mnemonic sentence.row.name) n.rest (mnemonic_word sentence.row n.listed) n.ends in
    ap (λ (l : List ℕ). row_named (front_of is_word_byte l) >>= λ row. operands_at row (behind is_word_byte l)) n.split
    ∙ ap (λ (l : List ℕ). row_named l >>= λ row. operands_at row (behind is_word_byte (mnemonic sentence.row.name ++ n.rest))) parts.0
    ∙ ap (λ (o : Option Row). o >>= λ row. operands_at row (behind is_word_byte (mnemonic sentence.row.name ++ n.rest))) (mnemonic_read sentence.row n.listed)
    ∙ ap (operands_at sentence.row) parts.1 ∙ n.operands

pub ended_is : {A : Type 0} (x y : A) (rest : List ℕ) → ended x rest ≡ Some y → (rest ≡ []) × (x ≡ y)
ended_is x y [] e = (refl, some_same x y e)
ended_is x y (byte ∷ rest) e = absurd (cc)

operands_split : (word text one rest two back three last : List ℕ) → text ≡ one ++ rest → rest ≡ two ++ back → back ≡ three ++ last → last ≡ []
    → word ++ text ≡ word ++ one ++ two ++ three
operands_split word text one rest two back three last e f g h =
    ap (λ (l : List ℕ). word ++ l) (e ∙ ap (λ (l : List ℕ). one ++ l) (f ∙ ap (λ (l : List ℕ). two ++ l) (g ∙ ap (λ (l : List ℕ). three ++ l) h ∙ append-nil three)))
    ∙ sym (append_assoc (word ++ one) two three ∙ append_assoc word one (two ++ three))

operands_say : (row : Row) (text : List ℕ) (s : Sentence) → row_for row.op ≡ Some row → operands_at row text ≡ Some s
    → IsInstructionText (mnemonic row.name ++ text) s
unfolding operands_at
operands_say row text s listed e =
    let a = bind_some (place_of_row_at row 0 text) _ s e in
    let b = bind_some (place_of_row_at row 1 a.0.1) _ s a.2 in
    let c = bind_some (place_of_row_at row 2 b.0.1) _ s b.2 in
    let end = ended_is (record { row = row; a = a.0.0; b = b.0.0; c = c.0.0 }) s c.0.1 c.2 in
    let one : Begins (IsInPlace row 0) text a.0.0 a.0.1 = in_place_says row 0 text a.0 a.1 in
    let two : Begins (IsInPlace row 1) a.0.1 b.0.0 b.0.1 = in_place_says row 1 a.0.1 b.0 b.1 in
    let three : Begins (IsInPlace row 2) b.0.1 c.0.0 c.0.1 = in_place_says row 2 b.0.1 c.0 c.1 in
    let split : mnemonic row.name ++ text ≡ mnemonic row.name ++ one.front ++ two.front ++ three.front =
    operands_split (mnemonic row.name) text one.front a.0.1 two.front b.0.1 three.front c.0.1 one.split two.split three.split end.0 in
    subst (λ (q : Sentence). IsInstructionText (mnemonic row.name ++ text) q) end.1
    (subst (λ (l : List ℕ). IsInstructionText l (record { row = row; a = a.0.0; b = b.0.0; c = c.0.0 })) (sym split)
    (Mnemonic listed one.says two.says three.says))

pub sentence_says : (text : List ℕ) (s : Sentence) → sentence_of text ≡ Some s → IsInstructionText text s
unfolding sentence_of
sentence_says text s e =
    let r = bind_some (row_named (front_of is_word_byte text)) (λ row. operands_at row (behind is_word_byte text)) s e in
    let split : text ≡ mnemonic r.0.name ++ behind is_word_byte text =
    front_split is_word_byte text ∙ ap (λ (l : List ℕ). l ++ behind is_word_byte text) (sym (mnemonic_is (front_of is_word_byte text) r.0 r.1)) in
    subst (λ (l : List ℕ). IsInstructionText l s) (sym split)
    (operands_say r.0 (behind is_word_byte text) s (named_is_listed (front_of is_word_byte text) r.0 r.1) r.2)
