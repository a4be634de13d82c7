-- The bytes of each line stand at its address.
use Rattle.std.proofs.Common.{◌≡◌, ℕ, ◌+◌, Bool, true, false, List, [], ◌∷◌, ◌++◌, length, take, drop, map, Option, Some, None, refl, sym, ◌∙◌, ap, length-append, append_assoc}
use Rattle.std.specs.Prelude.{if◌then◌else◌, is_some, ◌==◌, codes}
use Rattle.std.proofs.lemmas.List.{append-nil}
use Rattle.vax_code.specs.declared.instr.Instr.{Instr}
use Rattle.vax_code.specs.declared.instr.Decoded.TheVariants as decodings
use Rattle.vax_code.specs.Table.{row_for}
use Rattle.vax_code.specs.Reading.{decoded}
use Rattle.vax_code.specs.Grammar.{BeginsWith}
use Rattle.vax_code.proofs.Law.{is_decoded}
use Rattle.asm_grammar.specs.Text.{◌>>=◌, front_of, behind, behind_byte}
use Rattle.asm_grammar.specs.Values.{is_word_byte}
use Rattle.asm_grammar.specs.Mnemonics.{same_text}
use Rattle.asm_grammar.specs.Sentences.{sentence_of, is_short}
use Rattle.asm_grammar.specs.Encoding.{sentence_bytes, sentence_instruction}
use Rattle.asm_grammar.specs.Lines.{whole_value, whole_number, directive_by, directive_of, instruction_of, statement_of, label_before, unlabelled, labelled, behind_label, by_label, empty_line, line_by, line_of, lines_in, item_of, items_in}
use Rattle.vax_asm.specs.Program.{item_size, address_after, definitions, bss_found, statement_bytes, line_bytes, laid, StandsAt}
use Rattle.asm_grammar.specs.declared.syntax.Label.{Label}
use Rattle.asm_grammar.specs.declared.syntax.Sentence.{Sentence}
use Rattle.asm_grammar.specs.declared.syntax.Statement.{Statement}
use Rattle.asm_grammar.specs.declared.syntax.Statement.TheVariants as statements
use Rattle.asm_grammar.specs.declared.syntax.SourceLine.{SourceLine}
use Rattle.asm_grammar.specs.declared.syntax.Definition.{Definition}
use Rattle.asm_grammar.proofs.Spelled.{bind_some, some_same, sentence_encodes}
use Rattle.asm_grammar.proofs.Naming.{sentence_listed}
use Rattle.vax_asm.proofs.Sizes.{behind_parts, line_long}

-- ---- an instruction of a line is one of the table

IsListed : Option Statement → Type 0
IsListed statement = (sentence : Sentence) → statement ≡ Some (statements.Instruction sentence) → row_for sentence.row.op ≡ Some sentence.row

-- whether a statement is an instruction
abbrev instruction_in : Option Statement → Option Sentence
instruction_in (Some (statements.Instruction sentence)) = Some sentence
instruction_in _ = None

value_none : {A : Type 0} (o : Option A) (f : A → Statement) → ((x : A) → instruction_in (Some (f x)) ≡ None) → instruction_in (o >>= λ x. Some (f x)) ≡ None
value_none None f h = refl
value_none (Some x) f h = h x

if_none : (t : Bool) (a b : Option Statement) → instruction_in a ≡ None → instruction_in b ≡ None → instruction_in (if t then a else b) ≡ None
if_none true a b h k = h
if_none false a b h k = k

directive_none : (word text : List ℕ) → instruction_in (directive_by word text) ≡ None
unfolding directive_by
directive_none word text =
    if_none (same_text word (codes "byte")) _ _ (value_none (whole_value text) (λ v. statements.Byte v) (λ v. refl))
    (if_none (same_text word (codes "word")) _ _ (value_none (whole_value text) (λ v. statements.Word v) (λ v. refl))
    (if_none (same_text word (codes "long")) _ _ (value_none (whole_value text) (λ v. statements.Long v) (λ v. refl))
    (if_none (same_text word (codes "space")) _ _ (value_none (whole_number text) (λ v. statements.Space v) (λ v. refl))
    (if_none (same_text word (codes "bss")) _ _ (value_none (whole_number text) (λ v. statements.Bss v) (λ v. refl)) refl))))

bind_none : (o : Option (List ℕ)) (f : List ℕ → Option Statement) → ((l : List ℕ) → instruction_in (f l) ≡ None) → instruction_in (o >>= f) ≡ None
bind_none None f h = refl
bind_none (Some l) f h = h l

directives_none : (text : List ℕ) → instruction_in (directive_of text) ≡ None
unfolding directive_of
directives_none text = bind_none (behind_byte 32 (behind is_word_byte text)) (λ rest. directive_by (front_of is_word_byte text) rest) (λ rest. directive_none (front_of is_word_byte text) rest)

instruction_sentence : (text : List ℕ) (sentence : Sentence) → instruction_in (instruction_of text) ≡ Some sentence → sentence_of text ≡ Some sentence
unfolding instruction_of
instruction_sentence text sentence e = by_sentence (sentence_of text) e
  where
    by_sentence : (o : Option Sentence) → instruction_in (o >>= λ s. Some (statements.Instruction s)) ≡ Some sentence → o ≡ Some sentence
    by_sentence None f = absurd (cc)
    by_sentence (Some s) f = f

statement_listed_by : (first : ℕ) (rest : List ℕ) (sentence : Sentence) (t : Bool)
    → instruction_in (if t then directive_of rest else instruction_of (first ∷ rest)) ≡ Some sentence → row_for sentence.row.op ≡ Some sentence.row
statement_listed_by first rest sentence true e = (let none : instruction_in (directive_of rest) ≡ None = directives_none rest in absurd (cc))
statement_listed_by first rest sentence false e = sentence_listed (first ∷ rest) sentence (instruction_sentence (first ∷ rest) sentence e)

statement_listed : (text : List ℕ) (sentence : Sentence) → instruction_in (statement_of text) ≡ Some sentence → row_for sentence.row.op ≡ Some sentence.row
unfolding statement_of
statement_listed [] sentence e = absurd (cc)
statement_listed (first ∷ rest) sentence e = statement_listed_by first rest sentence (first == 46) e

-- the statement of a line
abbrev statement_in : Option SourceLine → Option Statement
statement_in None = None
statement_in (Some line) = line.statement

by_statement : (o : Option Statement) (f : Statement → SourceLine) (sentence : Sentence) → ((s : Statement) → (f s).statement ≡ Some s)
    → instruction_in (statement_in (o >>= λ s. Some (f s))) ≡ Some sentence → instruction_in o ≡ Some sentence
by_statement None f sentence h e = e
by_statement (Some s) f sentence h e = ap instruction_in (sym (h s)) ∙ e

behind_listed_by : (label : Label) (rest : List ℕ) (sentence : Sentence) (t : Bool)
    → instruction_in (statement_in (if t then (statement_of rest >>= λ statement. Some (labelled label statement)) else None)) ≡ Some sentence
    → row_for sentence.row.op ≡ Some sentence.row
behind_listed_by label rest sentence true e = statement_listed rest sentence (by_statement (statement_of rest) (labelled label) sentence (λ s. refl) e)
behind_listed_by label rest sentence false e = absurd (cc)

behind_listed : (label : Label) (text : List ℕ) (sentence : Sentence) → instruction_in (statement_in (behind_label label text)) ≡ Some sentence
    → row_for sentence.row.op ≡ Some sentence.row
unfolding behind_label
behind_listed label [] sentence e = absurd (cc)
behind_listed label (first ∷ rest) sentence e = behind_listed_by label rest sentence (first == 32) e

label_listed : (text : List ℕ) (o : Option (Label × List ℕ)) (sentence : Sentence) → instruction_in (statement_in (by_label text o)) ≡ Some sentence
    → row_for sentence.row.op ≡ Some sentence.row
label_listed text None sentence e = statement_listed text sentence (by_statement (statement_of text) unlabelled sentence (λ s. refl) e)
label_listed text (Some label) sentence e = behind_listed label.0 label.1 sentence e

comment_listed : (first : ℕ) (rest : List ℕ) (sentence : Sentence) (t : Bool)
    → instruction_in (statement_in (if t then Some empty_line else by_label (first ∷ rest) (label_before (first ∷ rest)))) ≡ Some sentence
    → row_for sentence.row.op ≡ Some sentence.row
comment_listed first rest sentence true e = absurd (cc)
comment_listed first rest sentence false e = label_listed (first ∷ rest) (label_before (first ∷ rest)) sentence e

line_by_listed : (text : List ℕ) (sentence : Sentence) → instruction_in (statement_in (line_by text)) ≡ Some sentence
    → row_for sentence.row.op ≡ Some sentence.row
unfolding line_by
line_by_listed [] sentence e = absurd (cc)
line_by_listed (first ∷ rest) sentence e = comment_listed first rest sentence (first == 35) e

short_listed : (text : List ℕ) (sentence : Sentence) (t : Bool) → instruction_in (statement_in (if t then line_by text else None)) ≡ Some sentence
    → row_for sentence.row.op ≡ Some sentence.row
short_listed text sentence true e = line_by_listed text sentence e
short_listed text sentence false e = absurd (cc)

item_listed : (line : Option (List ℕ)) (sentence : Sentence) → instruction_in (statement_in (item_of line)) ≡ Some sentence
    → row_for sentence.row.op ≡ Some sentence.row
unfolding line_of
item_listed None sentence e = absurd (cc)
item_listed (Some text) sentence e = short_listed text sentence (is_short text) e

-- an item among others comes of a line
from_line : (lines : List (Option (List ℕ))) (before : List (Option SourceLine)) (item : Option SourceLine) (others : List (Option SourceLine))
    → map item_of lines ≡ before ++ item ∷ others → (line : Option (List ℕ)) × (item_of line ≡ item)
from_line [] [] item others e = absurd (cc)
from_line [] (x ∷ before) item others e = absurd (cc)
from_line (line ∷ lines) [] item others e = (line, heads (item_of line) item (map item_of lines) others e)
  where
    heads : (x y : Option SourceLine) (xs ys : List (Option SourceLine)) → x ∷ xs ≡ y ∷ ys → x ≡ y
    heads x y xs ys e = cc
from_line (line ∷ lines) (x ∷ before) item others e = from_line lines before item others (tails (item_of line) x (map item_of lines) (before ++ item ∷ others) e)
  where
    tails : (x y : Option SourceLine) (xs ys : List (Option SourceLine)) → x ∷ xs ≡ y ∷ ys → xs ≡ ys
    tails x y xs ys e = cc

source_listed : (source : List ℕ) (before : List (Option SourceLine)) (item : Option SourceLine) (others : List (Option SourceLine))
    (label : Option Label) (sentence : Sentence)
    → items_in source ≡ before ++ item ∷ others → item ≡ Some (record { label = label; statement = Some (statements.Instruction sentence) })
    → row_for sentence.row.op ≡ Some sentence.row
unfolding items_in
source_listed source before item others label sentence e is =
    let l = from_line (lines_in source) before item others e in
    item_listed l.0 sentence (ap (λ (i : Option SourceLine). instruction_in (statement_in i)) (l.1 ∙ is))

-- ---- addresses

-- where the bytes of a line stand among those of all lines
record Stands (labels : List Definition) (outer before : List (Option SourceLine)) (item : Option SourceLine) (bytes : List ℕ) : Type 0 where
  front : List ℕ
  own : List ℕ
  back : List ℕ
  split : bytes ≡ front ++ (own ++ back)
  place : length front ≡ address_after before
  own_bytes : line_bytes labels (outer ++ before) item ≡ Some own

stands : (labels : List Definition) (outer before : List (Option SourceLine)) (item : Option SourceLine) (others : List (Option SourceLine)) (bytes : List ℕ)
    → laid labels outer (before ++ item ∷ others) ≡ Some bytes → Stands labels outer before item bytes
stands labels outer [] item others bytes e =
    let a = bind_some (line_bytes labels outer item) (λ own. laid labels (outer ++ item ∷ []) others >>= λ rest. Some (own ++ rest)) bytes e in
    let b = bind_some (laid labels (outer ++ item ∷ []) others) (λ rest. Some (a.0 ++ rest)) bytes a.2 in
    record {
      front = [];
      own = a.0;
      back = b.0;
      split = sym (some_same _ _ b.2);
      place = refl;
      own_bytes = ap (λ (l : List (Option SourceLine)). line_bytes labels l item) (append-nil outer) ∙ a.1;
    }
stands labels outer (x ∷ before) item others bytes e =
    let a = bind_some (line_bytes labels outer x) (λ own. laid labels (outer ++ x ∷ []) (before ++ item ∷ others) >>= λ rest. Some (own ++ rest)) bytes e in
    let b = bind_some (laid labels (outer ++ x ∷ []) (before ++ item ∷ others)) (λ rest. Some (a.0 ++ rest)) bytes a.2 in
    let more = stands labels (outer ++ x ∷ []) before item others b.0 b.1 in
    let long : length a.0 ≡ item_size x = line_long labels outer x a.0 a.1 in
    let sizes : length (a.0 ++ more.front) ≡ length a.0 + length more.front = length-append a.0 more.front in
    record {
      front = a.0 ++ more.front;
      own = more.own;
      back = more.back;
      split = sym (some_same _ _ b.2) ∙ ap (λ (l : List ℕ). a.0 ++ l) more.split ∙ sym (append_assoc a.0 more.front (more.own ++ more.back));
      place = sizes ∙ ap (λ (n : ℕ). n + length more.front) long ∙ ap (λ (n : ℕ). item_size x + n) more.place;
      own_bytes = ap (λ (l : List (Option SourceLine)). line_bytes labels l item) (sym (append_assoc outer (x ∷ []) before)) ∙ more.own_bytes;
    }

drop_front : (xs ys : List ℕ) → drop (length xs) (xs ++ ys) ≡ ys
drop_front [] [] = refl
drop_front [] (y ∷ ys) = refl
drop_front (x ∷ xs) ys = drop_front xs ys

take_front : (xs ys : List ℕ) → take (length xs) (xs ++ ys) ≡ xs
take_front [] [] = refl
take_front [] (y ∷ ys) = refl
take_front (x ∷ xs) ys = ap (λ (l : List ℕ). x ∷ l) (take_front xs ys)

instruction_bytes : (labels : List Definition) (before : List (Option SourceLine)) (label : Option Label) (sentence : Sentence) (own : List ℕ)
    → line_bytes labels before (Some (record { label = label; statement = Some (statements.Instruction sentence) })) ≡ Some own
    → sentence_bytes labels (address_after before) sentence ≡ Some own
unfolding line_bytes statement_bytes
instruction_bytes labels before label sentence own e =
    (behind_parts labels (definitions 0 before) (is_some (bss_found before)) (address_after before) (record { label = label; statement = Some (statements.Instruction sentence) }) own e).0

pub stands_at : (source : List ℕ) (labels : List Definition) (bytes : List ℕ) → laid labels [] (items_in source) ≡ Some bytes
    → (before : List (Option SourceLine)) (item : Option SourceLine) (others : List (Option SourceLine)) → items_in source ≡ before ++ item ∷ others
    → StandsAt labels before item bytes
stands_at source labels bytes whole before item others e =
    let s = stands labels [] before item others bytes (ap (laid labels []) (sym e) ∙ whole) in
    let left : drop (address_after before) bytes ≡ s.own ++ s.back = ap (λ (n : ℕ). drop n bytes) (sym s.place) ∙ ap (drop (length s.front)) s.split ∙ drop_front s.front (s.own ++ s.back) in
    record {
      own = s.own;
      own_bytes = s.own_bytes;
      stands = ap (take (length s.own)) left ∙ take_front s.own s.back;
      sized = line_long labels before item s.own s.own_bytes;
      decodes = λ label sentence is. decodes_at labels before item label sentence s.own s.back (drop (address_after before) bytes) left s.own_bytes is
          (source_listed source before item others label sentence e is);
    }
  where
    decodes_at : (labels : List Definition) (before : List (Option SourceLine)) (item : Option SourceLine) (label : Option Label) (sentence : Sentence) (own back there : List ℕ) → there ≡ own ++ back
        → line_bytes labels before item ≡ Some own → item ≡ Some (record { label = label; statement = Some (statements.Instruction sentence) }) → row_for sentence.row.op ≡ Some sentence.row
        → (instr : Instr) × (sentence_instruction labels (address_after before) sentence ≡ Some instr) × (decoded there ≡ decodings.Is instr)
    decodes_at labels before item label sentence own back there split own_bytes is listed =
        let spells : sentence_bytes labels (address_after before) sentence ≡ Some own = instruction_bytes labels before label sentence own (ap (line_bytes labels before) (sym is) ∙ own_bytes) in
        let n = sentence_encodes labels (address_after before) sentence own listed spells in
        let begins : BeginsWith there n.0 = record { front = own; rest = back; split = split; whole = n.2 } in
        (n.0, n.1, is_decoded there n.0 begins)
