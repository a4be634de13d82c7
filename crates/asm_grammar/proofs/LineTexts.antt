-- A statement and a line: their text is read as what it says, and what is read of a text is what it says.
use Rattle.std.proofs.Common.{◌≡◌, ℕ, ◌↔◌, Bool, true, false, List, [], ◌∷◌, ◌++◌, length, Option, Some, None, refl, sym, ◌∙◌, ap, subst, arith, append_assoc}
use Rattle.std.specs.Prelude.{◌==◌, ◌&&◌, if◌then◌else◌, codes, nat_le}
use Rattle.std.specs.List.{list_all}
use Rattle.std.specs.Cmp.Lexicographic.{same_text}
use Rattle.std.proofs.lemmas.List.{append-nil}
use Rattle.std.proofs.lemmas.Bool.Decides.{nat_tests}
use Rattle.vax_code.specs.declared.table.Row.{Row}
use Rattle.vax_code.specs.Table.{all_rows}
use Rattle.asm_grammar.specs.Text.{◌>>=◌, Text, behind_byte, front_of, behind}
use Rattle.asm_grammar.specs.Numbers.{spelled_number_at}
use Rattle.asm_grammar.specs.Values.{is_label_start, is_word_byte, padded, label_of_word, label_at, value_at}
use Rattle.asm_grammar.specs.Mnemonics.{mnemonic, row_named, same_text as has_text}
use Rattle.asm_grammar.specs.Sentences.{ended, is_short, sentence_of}
use Rattle.asm_grammar.specs.Lines.{whole_value, whole_number, directive_by, directive_of, instruction_of, statement_of, label_before, unlabelled, labelled, behind_label, by_label, empty_line, line_by, line_of}
use Rattle.asm_grammar.specs.declared.syntax.Number.{Number}
use Rattle.asm_grammar.specs.declared.syntax.Label.{Label}
use Rattle.asm_grammar.specs.declared.syntax.Value.{Value}
use Rattle.asm_grammar.specs.declared.syntax.Sentence.{Sentence}
use Rattle.asm_grammar.specs.declared.syntax.Statement.{Statement}
use Rattle.asm_grammar.specs.declared.syntax.Statement.TheVariants as statements
use Rattle.asm_grammar.specs.declared.syntax.SourceLine.{SourceLine}
use Rattle.asm_grammar.proofs.Spelled.{bind_some, some_same, some_if, both, le_of}
use Rattle.asm_grammar.proofs.MnemonicTexts.{mnemonic_read, mnemonic_word}
use Rattle.asm_grammar.specs.Grammar.{IsNumber, IsValue, IsLabel, Name, IsInstructionText, IsStatement, Byte, Word, Long, Space, Bss, Instruction, IsLineText, Empty, Comment, Unlabelled, LabelAlone, Labelled, IsLine}
use Rattle.asm_grammar.proofs.FrontSplits.{Begins, cut, front_split, after_splits, eq_of}
use Rattle.asm_grammar.proofs.Reading.{Ends, le_true, number_read, label_read, value_read}
use Rattle.asm_grammar.proofs.Saying.{number_says, label_says, value_says}
use Rattle.asm_grammar.proofs.SentenceTexts.{Named, named, sentence_read, sentence_says, ended_is}

-- ---- statements

whole_value_read : (x : List ℕ) (value : Value) → IsValue x value → whole_value x ≡ Some value
unfolding whole_value
whole_value_read x value is =
    ap (λ (l : List ℕ). value_at l >>= λ r. ended r.0 r.1) (sym (append-nil x)) ∙ ap (λ (o : Text Value). o >>= λ r. ended r.0 r.1) (value_read x value [] is tt)

whole_number_read : (n : List ℕ) (number : Number) → IsNumber n number → whole_number n ≡ Some number
unfolding whole_number
whole_number_read n number is =
    ap (λ (l : List ℕ). spelled_number_at l >>= λ r. ended r.0 r.1) (sym (append-nil n)) ∙ ap (λ (o : Text Number). o >>= λ r. ended r.0 r.1) (number_read n number [] is tt)

-- a whole text is what its front says
whole_says : {A : Type 0} {Says : List ℕ → A → Type 0} (text : List ℕ) (x : A) (rest : List ℕ) (y : A) → Begins Says text x rest
    → ended x rest ≡ Some y → Says text y
whole_says {Says = Says} text x rest y b e =
    let end = ended_is x y rest e in
    let whole : text ≡ b.front = b.split ∙ ap (λ (l : List ℕ). b.front ++ l) end.0 ∙ append-nil b.front in
    subst (λ z. Says text z) end.1 (subst (λ (l : List ℕ). Says l x) (sym whole) b.says)

whole_value_says : (text : List ℕ) (value : Value) → whole_value text ≡ Some value → IsValue text value
unfolding whole_value
whole_value_says text value e =
    let r = bind_some (value_at text) _ value e in
    whole_says text r.0.0 r.0.1 value (value_says text r.0 r.1) r.2

whole_number_says : (text : List ℕ) (number : Number) → whole_number text ≡ Some number → IsNumber text number
unfolding whole_number
whole_number_says text number e =
    let r = bind_some (spelled_number_at text) _ number e in
    whole_says text r.0.0 r.0.1 number (number_says text r.0 r.1) r.2

no_mnemonic_empty : row_named [] ≡ None
unfolding row_named all_rows
no_mnemonic_empty = refl

no_point : (byte : ℕ) → is_word_byte byte ≡ true → ((byte == 46) ≡ false) × ((byte == 35) ≡ false)
no_point byte h = (grind (arith, nat_tests), grind (arith, nat_tests))

-- a word is no directive and no comment
word_statement : (word rest : List ℕ) (row : Row) → list_all is_word_byte word ≡ true → row_named word ≡ Some row
    → (statement_of (word ++ rest) ≡ instruction_of (word ++ rest))
    × (line_by (word ++ rest) ≡ by_label (word ++ rest) (label_before (word ++ rest)))
unfolding statement_of line_by
word_statement [] rest row all e = absurd (let none : None ≡ Some row = sym no_mnemonic_empty ∙ e in cc)
word_statement (byte ∷ word) rest row all e =
    let other = no_point byte (both (is_word_byte byte) (list_all is_word_byte word) all).0 in
    (rw other.0 refl, rw other.1 refl)

instruction_read : (text : List ℕ) (sentence : Sentence) → IsInstructionText text sentence → statement_of text ≡ Some (statements.Instruction sentence)
unfolding instruction_of
instruction_read text sentence is =
    let n : Named text sentence = named text sentence is in
    let word = word_statement (mnemonic sentence.row.name) n.rest sentence.row (mnemonic_word sentence.row n.listed) (mnemonic_read sentence.row n.listed) in
    ap statement_of n.split ∙ word.0 ∙ ap instruction_of (sym n.split)
    ∙ ap (λ (o : Option Sentence). o >>= λ s. Some (statements.Instruction s)) (sentence_read text sentence is)

statement_read : (text : List ℕ) (statement : Statement) → IsStatement text statement → statement_of text ≡ Some statement
unfolding statement_of directive_of directive_by behind_byte
statement_read text statement (Byte {x} {value} is) = ap (λ (o : Option Value). o >>= λ v. Some (statements.Byte v)) (whole_value_read x value is)
statement_read text statement (Word {x} {value} is) = ap (λ (o : Option Value). o >>= λ v. Some (statements.Word v)) (whole_value_read x value is)
statement_read text statement (Long {x} {value} is) = ap (λ (o : Option Value). o >>= λ v. Some (statements.Long v)) (whole_value_read x value is)
statement_read text statement (Space {n} {number} is) = ap (λ (o : Option Number). o >>= λ v. Some (statements.Space v)) (whole_number_read n number is)
statement_read text statement (Bss {n} {number} is) = ap (λ (o : Option Number). o >>= λ v. Some (statements.Bss v)) (whole_number_read n number is)
statement_read text statement (Instruction {sentence = sentence} is) = instruction_read text sentence is

directive_says_by : (word text : List ℕ) (statement : Statement) (byte short long space bss : Bool)
    → byte ≡ has_text word (codes "byte") → short ≡ has_text word (codes "word") → long ≡ has_text word (codes "long")
    → space ≡ has_text word (codes "space") → bss ≡ has_text word (codes "bss")
    → (if byte then (whole_value text >>= λ value. Some (statements.Byte value))
    else (if short then (whole_value text >>= λ value. Some (statements.Word value))
    else (if long then (whole_value text >>= λ value. Some (statements.Long value))
    else (if space then (whole_number text >>= λ number. Some (statements.Space number))
    else (if bss then (whole_number text >>= λ number. Some (statements.Bss number))
    else None))))) ≡ Some statement
    → IsStatement (46 ∷ (word ++ 32 ∷ text)) statement
directive_says_by word text statement true short long space bss is_byte is_short is_long is_space is_bss e =
    let v = bind_some (whole_value text) (λ value. Some (statements.Byte value)) statement e in
    subst (λ (s : Statement). IsStatement (46 ∷ (word ++ 32 ∷ text)) s) (some_same _ _ v.2)
    (subst (λ (w : List ℕ). IsStatement (46 ∷ (w ++ 32 ∷ text)) (statements.Byte v.0)) (sym (same_text word (codes "byte") is_byte))
    (Byte (whole_value_says text v.0 v.1)))
directive_says_by word text statement false true long space bss is_byte is_short is_long is_space is_bss e =
    let v = bind_some (whole_value text) (λ value. Some (statements.Word value)) statement e in
    subst (λ (s : Statement). IsStatement (46 ∷ (word ++ 32 ∷ text)) s) (some_same _ _ v.2)
    (subst (λ (w : List ℕ). IsStatement (46 ∷ (w ++ 32 ∷ text)) (statements.Word v.0)) (sym (same_text word (codes "word") is_short))
    (Word (whole_value_says text v.0 v.1)))
directive_says_by word text statement false false true space bss is_byte is_short is_long is_space is_bss e =
    let v = bind_some (whole_value text) (λ value. Some (statements.Long value)) statement e in
    subst (λ (s : Statement). IsStatement (46 ∷ (word ++ 32 ∷ text)) s) (some_same _ _ v.2)
    (subst (λ (w : List ℕ). IsStatement (46 ∷ (w ++ 32 ∷ text)) (statements.Long v.0)) (sym (same_text word (codes "long") is_long))
    (Long (whole_value_says text v.0 v.1)))
directive_says_by word text statement false false false true bss is_byte is_short is_long is_space is_bss e =
    let v = bind_some (whole_number text) (λ number. Some (statements.Space number)) statement e in
    subst (λ (s : Statement). IsStatement (46 ∷ (word ++ 32 ∷ text)) s) (some_same _ _ v.2)
    (subst (λ (w : List ℕ). IsStatement (46 ∷ (w ++ 32 ∷ text)) (statements.Space v.0)) (sym (same_text word (codes "space") is_space))
    (Space (whole_number_says text v.0 v.1)))
directive_says_by word text statement false false false false true is_byte is_short is_long is_space is_bss e =
    let v = bind_some (whole_number text) (λ number. Some (statements.Bss number)) statement e in
    subst (λ (s : Statement). IsStatement (46 ∷ (word ++ 32 ∷ text)) s) (some_same _ _ v.2)
    (subst (λ (w : List ℕ). IsStatement (46 ∷ (w ++ 32 ∷ text)) (statements.Bss v.0)) (sym (same_text word (codes "bss") is_bss))
    (Bss (whole_number_says text v.0 v.1)))
directive_says_by word text statement false false false false false is_byte is_short is_long is_space is_bss e = absurd (cc)

directive_says : (text : List ℕ) (statement : Statement) → directive_of text ≡ Some statement → IsStatement (46 ∷ text) statement
unfolding directive_of directive_by
directive_says text statement e =
    let rest = bind_some (behind_byte 32 (behind is_word_byte text)) _ statement e in
    let split : text ≡ front_of is_word_byte text ++ 32 ∷ rest.0 =
    front_split is_word_byte text ∙ ap (λ (l : List ℕ). front_of is_word_byte text ++ l) (after_splits 32 (behind is_word_byte text) rest.0 rest.1) in
    subst (λ (l : List ℕ). IsStatement (46 ∷ l) statement) (sym split)
    (directive_says_by (front_of is_word_byte text) rest.0 statement _ _ _ _ _ refl refl refl refl refl rest.2)

instruction_says : (text : List ℕ) (statement : Statement) → instruction_of text ≡ Some statement → IsStatement text statement
unfolding instruction_of
instruction_says text statement e =
    let s = bind_some (sentence_of text) _ statement e in
    subst (λ (t : Statement). IsStatement text t) (some_same (statements.Instruction s.0) statement s.2) (Instruction (sentence_says text s.0 s.1))

statement_by : (first : ℕ) (rest : List ℕ) (statement : Statement) (point : Bool) → (first == 46) ≡ point
    → (if point then directive_of rest else instruction_of (first ∷ rest)) ≡ Some statement → IsStatement (first ∷ rest) statement
statement_by first rest statement true is e = subst (λ (b : ℕ). IsStatement (b ∷ rest) statement) (sym (eq_of first 46 is)) (directive_says rest statement e)
statement_by first rest statement false is e = instruction_says (first ∷ rest) statement e

statement_says : (text : List ℕ) (statement : Statement) → statement_of text ≡ Some statement → IsStatement text statement
unfolding statement_of
statement_says [] statement e = absurd (cc)
statement_says (first ∷ rest) statement e = statement_by first rest statement (first == 46) refl e

-- ---- lines

-- a label, where a `:` stands after it
abbrev kept : Label → Option (List ℕ) → Text Label
kept label o = o >>= λ back. Some (label, back)

abbrev before_colon : Text Label → Text Label
before_colon o = o >>= λ label. kept label.0 (behind_byte 58 label.1)

no_colon : (t : Bool) (label : Label) (rest : List ℕ) → behind_byte 58 rest ≡ None → before_colon (if t then Some (label, rest) else None) ≡ None
no_colon true label rest e = ap (kept label) e
no_colon false label rest e = refl

no_label_by : (word rest : List ℕ) → behind_byte 58 rest ≡ None → before_colon (label_of_word word rest) ≡ None
no_label_by [] rest e = refl
no_label_by (first ∷ more) rest e = no_colon (is_label_start first && nat_le (length (first ∷ more)) 16) (record { bytes = padded (first ∷ more) }) rest e

-- a word without a `:` after it is no label
no_label : (word rest : List ℕ) → list_all is_word_byte word ≡ true → Ends rest → behind_byte 58 rest ≡ None → label_before (word ++ rest) ≡ None
unfolding label_before label_at
no_label word rest all ends e =
    let parts = cut is_word_byte word rest all ends in
    ap (λ (l : List ℕ). before_colon (label_of_word l (behind is_word_byte (word ++ rest)))) parts.0
    ∙ ap (λ (l : List ℕ). before_colon (label_of_word word l)) parts.1 ∙ no_label_by word rest e

-- a directive begins with no label
no_label_point : (rest : List ℕ) → label_before (46 ∷ rest) ≡ None
unfolding label_before label_at
no_label_point rest = refl

point_line : (rest : List ℕ) → line_by (46 ∷ rest) ≡ by_label (46 ∷ rest) None
unfolding line_by
point_line rest = ap (by_label (46 ∷ rest)) (no_label_point rest)

instruction_line : (text : List ℕ) (sentence : Sentence) → IsInstructionText text sentence → line_by text ≡ by_label text None
instruction_line text sentence is =
    let n : Named text sentence = named text sentence is in
    let word = word_statement (mnemonic sentence.row.name) n.rest sentence.row (mnemonic_word sentence.row n.listed) (mnemonic_read sentence.row n.listed) in
    ap line_by n.split ∙ word.1
    ∙ ap (by_label (mnemonic sentence.row.name ++ n.rest)) (no_label (mnemonic sentence.row.name) n.rest (mnemonic_word sentence.row n.listed) n.ends n.no_colon)
    ∙ ap (λ (l : List ℕ). by_label l None) (sym n.split)

-- a statement is a line without a label
statement_line : (text : List ℕ) (statement : Statement) → IsStatement text statement → line_by text ≡ by_label text None
statement_line text statement (Byte {x} is) = point_line (codes "byte " ++ x)
statement_line text statement (Word {x} is) = point_line (codes "word " ++ x)
statement_line text statement (Long {x} is) = point_line (codes "long " ++ x)
statement_line text statement (Space {n} is) = point_line (codes "space " ++ n)
statement_line text statement (Bss {n} is) = point_line (codes "bss " ++ n)
statement_line text statement (Instruction {sentence = sentence} is) = instruction_line text sentence is

label_read_before : (l : List ℕ) (label : Label) (rest : List ℕ) → IsLabel l label → label_before (l ++ 58 ∷ rest) ≡ Some (label, rest)
unfolding label_before behind_byte
label_read_before l label rest is = ap (λ (o : Text Label). o >>= λ r. behind_byte 58 r.1 >>= λ back. Some (r.0, back)) (label_read l label (58 ∷ rest) is refl)

no_comment : (byte : ℕ) → is_label_start byte ≡ true → (byte == 35) ≡ false
no_comment byte h = grind (arith, nat_tests)

label_line : (l : List ℕ) (label : Label) (rest : List ℕ) → IsLabel l label → line_by (l ++ 58 ∷ rest) ≡ behind_label label rest
unfolding line_by
label_line l label rest (Name {first} {more} start word few) =
    rw (no_comment first start) (ap (by_label ((first ∷ more) ++ 58 ∷ rest)) (label_read_before (first ∷ more) label rest (Name start word few)))

line_text_read : (text : List ℕ) (line : SourceLine) → IsLineText text line → line_by text ≡ Some line
unfolding line_by behind_label
line_text_read text line Empty = refl
line_text_read text line (Comment {c}) = refl
line_text_read text line (Unlabelled {statement = statement} is) =
    statement_line text statement is ∙ ap (λ (o : Option Statement). o >>= λ s. Some (unlabelled s)) (statement_read text statement is)
line_text_read text line (LabelAlone {l} {label} is) = label_line l label [] is
line_text_read text line (Labelled {l} {s} {label} {statement} is says) =
    ap line_by (append_assoc l (codes ": ") s) ∙ label_line l label (32 ∷ s) is ∙ ap (λ (o : Option Statement). o >>= λ t. Some (labelled label t)) (statement_read s statement says)

label_behind : (text : List ℕ) (label : Label) (first : ℕ) (rest : List ℕ) (line : SourceLine) (space : Bool) → (first == 32) ≡ space
    → Begins IsLabel text label (58 ∷ first ∷ rest)
    → (if space then (statement_of rest >>= λ statement. Some (labelled label statement)) else None) ≡ Some line → IsLineText text line
label_behind text label first rest line true is b e =
    let s = bind_some (statement_of rest) (λ statement. Some (labelled label statement)) line e in
    let split : text ≡ b.front ++ codes ": " ++ rest = b.split ∙ ap (λ (c : ℕ). b.front ++ 58 ∷ c ∷ rest) (eq_of first 32 is) ∙ sym (append_assoc b.front (codes ": ") rest) in
    subst (λ (q : SourceLine). IsLineText text q) (some_same (labelled label s.0) line s.2)
    (subst (λ (l : List ℕ). IsLineText l (labelled label s.0)) (sym split) (Labelled b.says (statement_says rest s.0 s.1)))
label_behind text label first rest line false is b e = absurd (cc)

label_says_line : (text : List ℕ) (label : Label) (rest : List ℕ) (line : SourceLine) → Begins IsLabel text label (58 ∷ rest)
    → behind_label label rest ≡ Some line → IsLineText text line
unfolding behind_label
label_says_line text label [] line b e =
    subst (λ (q : SourceLine). IsLineText text q) (some_same (record { label = Some label; statement = None }) line e)
    (subst (λ (l : List ℕ). IsLineText l (record { label = Some label; statement = None })) (sym b.split) (LabelAlone b.says))
label_says_line text label (first ∷ rest) line b e = label_behind text label first rest line (first == 32) refl b e

label_before_says : (text : List ℕ) (r : Label × List ℕ) → label_before text ≡ Some r → Begins IsLabel text r.0 (58 ∷ r.1)
unfolding label_before
label_before_says text r e =
    let l = bind_some (label_at text) _ r e in
    let c = bind_some (behind_byte 58 l.0.1) _ r l.2 in
    let same : (l.0.0, c.0) ≡ r = some_same _ _ c.2 in
    let b : Begins IsLabel text l.0.0 l.0.1 = label_says text l.0 l.1 in
    subst (λ (q : Label × List ℕ). Begins IsLabel text q.0 (58 ∷ q.1)) same
    (record { front = b.front; split = b.split ∙ ap (λ (t : List ℕ). b.front ++ t) (after_splits 58 l.0.1 c.0 c.1); says = b.says })

by_label_says : (text : List ℕ) (o : Option (Label × List ℕ)) (line : SourceLine) → label_before text ≡ o → by_label text o ≡ Some line → IsLineText text line
by_label_says text None line is e =
    let s = bind_some (statement_of text) (λ statement. Some (unlabelled statement)) line e in
    subst (λ (q : SourceLine). IsLineText text q) (some_same (unlabelled s.0) line s.2) (Unlabelled (statement_says text s.0 s.1))
by_label_says text (Some r) line is e = label_says_line text r.0 r.1 line (label_before_says text r is) e

line_text_by : (first : ℕ) (rest : List ℕ) (line : SourceLine) (sharp : Bool) → (first == 35) ≡ sharp
    → (if sharp then Some empty_line else by_label (first ∷ rest) (label_before (first ∷ rest))) ≡ Some line → IsLineText (first ∷ rest) line
line_text_by first rest line true is e =
    subst (λ (q : SourceLine). IsLineText (first ∷ rest) q) (some_same empty_line line e)
    (subst (λ (b : ℕ). IsLineText (b ∷ rest) empty_line) (sym (eq_of first 35 is)) Comment)
line_text_by first rest line false is e = by_label_says (first ∷ rest) (label_before (first ∷ rest)) line refl e

line_text_says : (text : List ℕ) (line : SourceLine) → line_by text ≡ Some line → IsLineText text line
unfolding line_by
line_text_says [] line e = subst (λ (q : SourceLine). IsLineText [] q) (some_same empty_line line e) Empty
line_text_says (first ∷ rest) line e = line_text_by first rest line (first == 35) refl e

-- ---- the laws

pub line_read : (text : List ℕ) (line : SourceLine) → IsLine text line → line_of text ≡ Some line
unfolding line_of
line_read text line is = rw (le_true (length text) 120 is.few) (line_text_read text line is.says)

pub line_says : (text : List ℕ) (line : SourceLine) → line_of text ≡ Some line → IsLine text line
unfolding line_of
line_says text line e =
    let found = some_if (is_short text) (line_by text) line e in
    record { few = le_of (length text) 120 found.0; says = line_text_says text line found.1 }

pub instruction_law : (text : List ℕ) (sentence : Sentence) → (sentence_of text ≡ Some sentence) ↔ IsInstructionText text sentence
instruction_law text sentence = (sentence_says text sentence, sentence_read text sentence)

pub line_law : (text : List ℕ) (line : SourceLine) → (line_of text ≡ Some line) ↔ IsLine text line
line_law text line = (line_says text line, line_read text line)
