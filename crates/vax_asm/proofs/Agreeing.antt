-- There is a reason exactly where a line has no bytes.
use Rattle.std.proofs.Common.{◌≡◌, ℕ, ◌+◌, Bool, true, false, not, ◌&&◌, List, [], ◌∷◌, ◌++◌, length, replicate, Option, Some, None, refl, sym, ◌∙◌, ap}
use Rattle.std.specs.Prelude.{if◌then◌else◌, is_some, is_none, nat_le, nat_lt}
use Rattle.std.specs.Option.{option_or}
use Rattle.std.specs.Int.{to_le_bytes}
use Rattle.vax_code.specs.declared.table.Slot.{Slot}
use Rattle.vax_code.specs.declared.table.Row.{Row}
use Rattle.vax_code.specs.Table.{slot_in}
use Rattle.vax_code.specs.Operands.{width_of, is_read, is_address, is_branch}
use Rattle.vax_code.specs.Grammar.{specifier}
use Rattle.asm_grammar.specs.Text.{◌>>=◌}
use Rattle.asm_grammar.specs.Encoding.{value_bits, displacement_bits, found, number_of_value, bits_of_value, plain_specifier, with_number, displacement_mode, displaced_bytes, place_bytes, leaves_index, indexed_bytes, literal_bytes, immediate_bytes, distance, branch_bits, target_bytes, branch_bytes, specifier_bytes, absent_bytes, operand_bytes, sentence_bytes}
use Rattle.vax_asm.specs.Program.{operand_size, is_up_to, optional_size, value_bytes, statement_bytes, optional_bytes, within, bounded, is_new, bytes_behind}
use Rattle.vax_asm.specs.Reasons.{unless, address_reason, value_reason, register_reason, place_reason, indexed_reason, target_reason, branch_reason, specifier_reason, absent_reason, operand_reason, sentence_reason, statement_reason, optional_reason, label_reason, line_reason}
use Rattle.asm_grammar.specs.declared.syntax.Number.{Number}
use Rattle.asm_grammar.specs.declared.syntax.Label.{Label}
use Rattle.asm_grammar.specs.declared.syntax.Value.{Value}
use Rattle.asm_grammar.specs.declared.syntax.Value.TheVariants as values
use Rattle.asm_grammar.specs.declared.syntax.Place.{Place}
use Rattle.asm_grammar.specs.declared.syntax.Place.TheVariants as places
use Rattle.asm_grammar.specs.declared.syntax.Written.{Written}
use Rattle.asm_grammar.specs.declared.syntax.Written.TheVariants as writtens
use Rattle.asm_grammar.specs.declared.syntax.Sentence.{Sentence}
use Rattle.asm_grammar.specs.declared.syntax.Statement.{Statement}
use Rattle.asm_grammar.specs.declared.syntax.Statement.TheVariants as statements
use Rattle.asm_grammar.specs.declared.syntax.SourceLine.{SourceLine}
use Rattle.asm_grammar.specs.declared.syntax.Definition.{Definition}
use Rattle.vax_asm.specs.declared.answers.Reason.{Reason}
use Rattle.vax_asm.specs.declared.answers.Reason.TheVariants as reasons
use Rattle.vax_asm.proofs.Sizes.{operand_long, optional_long}

-- ---- reasons and values

unless_is : (t : Bool) (reason : Reason) → is_none (unless t reason) ≡ t
unless_is true reason = refl
unless_is false reason = refl

unless_if : {A : Type 0} (t : Bool) (reason : Reason) (x : A) → is_none (unless t reason) ≡ is_some (if t then Some x else None)
unless_if true reason x = refl
unless_if false reason x = refl

bind_some_is : {A B : Type 0} (o : Option A) (f : A → B) → is_some (o >>= λ x. Some (f x)) ≡ is_some o
bind_some_is None f = refl
bind_some_is (Some x) f = refl

or_none_is : (a b : Option Reason) → is_none (option_or a b) ≡ (is_none a && is_none b)
or_none_is None b = refl
or_none_is (Some reason) b = refl

choice : (t : Bool) (a b : Option Reason) (o p : Option (List ℕ)) → is_none a ≡ is_some o → is_none b ≡ is_some p
    → is_none (if t then a else b) ≡ is_some (if t then o else p)
choice true a b o p e f = e
choice false a b o p e f = f

-- one reason after another, and one value by another
chain : (a b : Option Reason) (o : Option (List ℕ)) (f : List ℕ → Option (List ℕ)) → is_none a ≡ is_some o
    → ((x : List ℕ) → o ≡ Some x → is_none b ≡ is_some (f x)) → is_none (option_or a b) ≡ is_some (o >>= f)
chain a b None f e g = or_none_is a b ∙ ap (λ (t : Bool). t && is_none b) e
chain a b (Some x) f e g = or_none_is a b ∙ ap (λ (t : Bool). t && is_none b) e ∙ g x refl

-- ---- operands

address_agrees : (size : ℕ) (label : Label) (o : Option Definition)
    → is_none (address_reason size label o)
    ≡ is_some ((o >>= λ definition. Some (record { negative = false; magnitude = definition.address })) >>= value_bits size)
address_agrees size label None = refl
address_agrees size label (Some definition) = unless_is (is_some (value_bits size (record { negative = false; magnitude = definition.address }))) reasons.ValueOutOfRange

value_agrees : (labels : List Definition) (size : ℕ) (value : Value) → is_none (value_reason labels size value) ≡ is_some (bits_of_value labels size value)
unfolding value_reason bits_of_value number_of_value
value_agrees labels size (values.Number number) = unless_is (is_some (value_bits size number)) reasons.ValueOutOfRange
value_agrees labels size (values.Label label) = address_agrees size label (found labels label)

register_agrees : (mode reg : ℕ) → is_none (register_reason reg) ≡ is_some (plain_specifier mode reg)
register_agrees mode reg = unless_if (nat_lt reg 15) reasons.OperandRefused (specifier mode reg ∷ [])

displaced_agrees : (size reg : ℕ) (by : Number) (deferred : Bool)
    → is_none (unless (is_some (displacement_bits size by)) reasons.ValueOutOfRange) ≡ is_some (displaced_bytes size reg by deferred)
unfolding displaced_bytes
displaced_agrees size reg by deferred =
    unless_is (is_some (displacement_bits size by)) reasons.ValueOutOfRange
    ∙ sym (bind_some_is (displacement_bits size by) (λ bits. with_number (specifier (displacement_mode size deferred) reg) size bits))

place_agrees : (labels : List Definition) (place : Place) → is_none (place_reason labels place) ≡ is_some (place_bytes labels place)
unfolding place_reason place_bytes
place_agrees labels (places.Deferred reg) = register_agrees 6 reg
place_agrees labels (places.AutoDec reg) = register_agrees 7 reg
place_agrees labels (places.AutoInc reg) = register_agrees 8 reg
place_agrees labels (places.AutoIncDef reg) = register_agrees 9 reg
place_agrees labels (places.Absolute address) = value_agrees labels 4 address ∙ sym (bind_some_is (bits_of_value labels 4 address) (λ bits. with_number 159 4 bits))
place_agrees labels (places.Disp size reg by deferred) =
    choice (nat_lt reg 16) (unless (is_some (displacement_bits size by)) reasons.ValueOutOfRange) (Some reasons.OperandRefused) (displaced_bytes size reg by deferred) None
    (displaced_agrees size reg by deferred) refl

indexed_agrees : (labels : List Definition) (index : ℕ) (base : Place) → is_none (indexed_reason labels index base) ≡ is_some (indexed_bytes labels index base)
unfolding indexed_reason indexed_bytes
indexed_agrees labels index base =
    choice (nat_lt index 15 && leaves_index index base) (place_reason labels base) (Some reasons.OperandRefused) (place_bytes labels base >>= λ bytes. Some (specifier 4 index ∷ bytes)) None
    (place_agrees labels base ∙ sym (bind_some_is (place_bytes labels base) (λ bytes. specifier 4 index ∷ bytes))) refl

bind_and : (o : Option ℕ) (f : ℕ → Option (List ℕ)) → (is_some o && is_some (o >>= f)) ≡ is_some (o >>= f)
bind_and None f = refl
bind_and (Some x) f = refl

module _ (labels : List Definition) (from : ℕ) (slot : Slot) where
  bits_first : (target : Value)
      → (is_some (bits_of_value labels 4 target) && is_some (target_bytes labels from slot target)) ≡ is_some (target_bytes labels from slot target)
  unfolding target_bytes
  bits_first target =
      bind_and (bits_of_value labels 4 target) (λ address. branch_bits slot.size (distance address (from + slot.size)) >>= λ bits. Some (to_le_bytes (width_of slot.size) bits))

  target_agrees : (target : Value) → is_none (target_reason labels from slot target) ≡ is_some (target_bytes labels from slot target)
  unfolding target_reason
  target_agrees target =
      or_none_is (value_reason labels 4 target) (unless (is_some (target_bytes labels from slot target)) reasons.BranchOutOfRange) ∙
      ap (λ (t : Bool). t && is_none (unless (is_some (target_bytes labels from slot target)) reasons.BranchOutOfRange)) (value_agrees labels 4 target) ∙
      ap (λ (t : Bool). is_some (bits_of_value labels 4 target) && t) (unless_is (is_some (target_bytes labels from slot target)) reasons.BranchOutOfRange) ∙
      bits_first target

  branch_agrees : (written : Written) → is_none (branch_reason labels from slot written) ≡ is_some (branch_bytes labels from slot written)
  unfolding branch_reason branch_bytes
  branch_agrees writtens.Absent = refl
  branch_agrees (writtens.Literal number) = refl
  branch_agrees (writtens.Register reg) = refl
  branch_agrees (writtens.Immediate value) = refl
  branch_agrees (writtens.Plain base) = refl
  branch_agrees (writtens.Indexed index base) = refl
  branch_agrees (writtens.Misindexed immediate) = refl
  branch_agrees (writtens.Target target) = target_agrees target

immediate_agrees : (labels : List Definition) (slot : Slot) (value : Value)
    → is_none (value_reason labels slot.size value) ≡ is_some (immediate_bytes labels slot value)
unfolding immediate_bytes
immediate_agrees labels slot value = value_agrees labels slot.size value ∙ sym (bind_some_is (bits_of_value labels slot.size value) (λ bits. with_number 143 slot.size bits))

specifier_agrees : (labels : List Definition) (slot : Slot) (written : Written)
    → is_none (specifier_reason labels slot written) ≡ is_some (specifier_bytes labels slot written)
unfolding specifier_reason specifier_bytes
specifier_agrees labels slot writtens.Absent = refl
specifier_agrees labels slot (writtens.Literal number) =
    choice (is_read slot.access) (unless (is_some (literal_bytes number)) reasons.ValueOutOfRange) (Some reasons.OperandRefused) (literal_bytes number) None
    (unless_is (is_some (literal_bytes number)) reasons.ValueOutOfRange) refl
specifier_agrees labels slot (writtens.Register reg) =
    choice (is_address slot.access) (Some reasons.OperandRefused) (register_reason reg) None (plain_specifier 5 reg) refl (register_agrees 5 reg)
specifier_agrees labels slot (writtens.Immediate value) =
    choice (is_read slot.access) (value_reason labels slot.size value) (Some reasons.OperandRefused) (immediate_bytes labels slot value) None (immediate_agrees labels slot value) refl
specifier_agrees labels slot (writtens.Plain base) = place_agrees labels base
specifier_agrees labels slot (writtens.Indexed index base) = indexed_agrees labels index base
specifier_agrees labels slot (writtens.Misindexed immediate) = refl
specifier_agrees labels slot (writtens.Target target) = refl

absent_agrees : (written : Written) → is_none (absent_reason written) ≡ is_some (absent_bytes written)
absent_agrees writtens.Absent = refl
absent_agrees (writtens.Literal number) = refl
absent_agrees (writtens.Register reg) = refl
absent_agrees (writtens.Immediate value) = refl
absent_agrees (writtens.Plain base) = refl
absent_agrees (writtens.Indexed index base) = refl
absent_agrees (writtens.Misindexed immediate) = refl
absent_agrees (writtens.Target target) = refl

two_choices : (t u : Bool) (a b d : Option Reason) (o p q : Option (List ℕ)) → is_none a ≡ is_some o → is_none b ≡ is_some p → is_none d ≡ is_some q
    → is_none (if t then (if u then a else b) else d) ≡ is_some (if t then (if u then o else p) else q)
two_choices t u a b d o p q e f g = choice t (if u then a else b) d (if u then o else p) q (choice u a b o p e f) g

operand_agrees : (labels : List Definition) (from : ℕ) (row : Row) (place : ℕ) (written : Written)
    → is_none (operand_reason labels from row place written) ≡ is_some (operand_bytes labels from row place written)
unfolding operand_reason operand_bytes
operand_agrees labels from row place written =
    two_choices (nat_lt place row.count) (is_branch (slot_in row place).access)
    (branch_reason labels from (slot_in row place) written) (specifier_reason labels (slot_in row place) written) (absent_reason written)
    (branch_bytes labels from (slot_in row place) written) (specifier_bytes labels (slot_in row place) written) (absent_bytes written)
    (branch_agrees labels from (slot_in row place) written) (specifier_agrees labels (slot_in row place) written) (absent_agrees written)

-- ---- statements

third_agrees : (labels : List Definition) (at size next : ℕ) (s : Sentence) (a b : List ℕ) → length a ≡ size → length b ≡ next
    → is_none (operand_reason labels (at + 1 + size + next) s.row 2 s.c)
    ≡ is_some (operand_bytes labels (at + 1 + length a + length b) s.row 2 s.c >>= λ c. Some (s.row.op ∷ (a ++ (b ++ c))))
third_agrees labels at size next s a b e f =
    ap (λ (n : ℕ). is_none (operand_reason labels (at + 1 + n + next) s.row 2 s.c)) (sym e) ∙
    ap (λ (n : ℕ). is_none (operand_reason labels (at + 1 + length a + n) s.row 2 s.c)) (sym f) ∙
    operand_agrees labels (at + 1 + length a + length b) s.row 2 s.c ∙
    sym (bind_some_is (operand_bytes labels (at + 1 + length a + length b) s.row 2 s.c) (λ c. s.row.op ∷ (a ++ (b ++ c))))

second_agrees : (labels : List Definition) (at size : ℕ) (s : Sentence) (a : List ℕ) → length a ≡ size
    → is_none (option_or (operand_reason labels (at + 1 + size) s.row 1 s.b) (operand_reason labels (at + 1 + size + operand_size s.row 1 s.b) s.row 2 s.c))
    ≡ is_some
    (operand_bytes labels (at + 1 + length a) s.row 1 s.b >>= λ b. operand_bytes labels (at + 1 + length a + length b) s.row 2 s.c >>= λ c.
    Some (s.row.op ∷ (a ++ (b ++ c))))
second_agrees labels at size s a e =
    chain (operand_reason labels (at + 1 + size) s.row 1 s.b) (operand_reason labels (at + 1 + size + operand_size s.row 1 s.b) s.row 2 s.c) (operand_bytes labels (at + 1 + length a) s.row 1 s.b)
    (λ b. operand_bytes labels (at + 1 + length a + length b) s.row 2 s.c >>= λ c. Some (s.row.op ∷ (a ++ (b ++ c))))
    (ap (λ (n : ℕ). is_none (operand_reason labels (at + 1 + n) s.row 1 s.b)) (sym e) ∙ operand_agrees labels (at + 1 + length a) s.row 1 s.b)
    (λ b f. third_agrees labels at size (operand_size s.row 1 s.b) s a b e (operand_long labels (at + 1 + length a) s.row 1 s.b b f))

sentence_agrees : (labels : List Definition) (at : ℕ) (s : Sentence) → is_none (sentence_reason labels at s) ≡ is_some (sentence_bytes labels at s)
unfolding sentence_reason sentence_bytes
sentence_agrees labels at s =
    chain (operand_reason labels (at + 1) s.row 0 s.a)
    (option_or (operand_reason labels (at + 1 + operand_size s.row 0 s.a) s.row 1 s.b) (operand_reason labels (at + 1 + operand_size s.row 0 s.a + operand_size s.row 1 s.b) s.row 2 s.c))
    (operand_bytes labels (at + 1) s.row 0 s.a)
    (λ a. operand_bytes labels (at + 1 + length a) s.row 1 s.b >>= λ b. operand_bytes labels (at + 1 + length a + length b) s.row 2 s.c >>= λ c. Some (s.row.op ∷ (a ++ (b ++ c))))
    (operand_agrees labels (at + 1) s.row 0 s.a)
    (λ a e. second_agrees labels at (operand_size s.row 0 s.a) s a (operand_long labels (at + 1) s.row 0 s.a a e))

value_bytes_agree : (labels : List Definition) (size : ℕ) (value : Value) → is_none (value_reason labels size value) ≡ is_some (value_bytes labels size value)
unfolding value_bytes
value_bytes_agree labels size value = value_agrees labels size value ∙ sym (bind_some_is (bits_of_value labels size value) (λ bits. to_le_bytes (width_of size) bits))

bss_agrees : (with_bss small : Bool)
    → is_none (option_or (unless small reasons.ValueOutOfRange) (unless (not with_bss) reasons.SecondBss))
    ≡ is_some {T = List ℕ} (if not with_bss && small then Some [] else None)
bss_agrees true true = refl
bss_agrees true false = refl
bss_agrees false true = refl
bss_agrees false false = refl

statement_agrees : (labels : List Definition) (with_bss : Bool) (at : ℕ) (statement : Statement)
    → is_none (statement_reason labels with_bss at statement) ≡ is_some (statement_bytes labels with_bss at statement)
unfolding statement_reason statement_bytes
statement_agrees labels with_bss at (statements.Byte value) = value_bytes_agree labels 1 value
statement_agrees labels with_bss at (statements.Word value) = value_bytes_agree labels 2 value
statement_agrees labels with_bss at (statements.Long value) = value_bytes_agree labels 4 value
statement_agrees labels with_bss at (statements.Space number) = unless_if (is_up_to 65536 number) reasons.ValueOutOfRange (replicate number.magnitude 0)
statement_agrees labels with_bss at (statements.Bss number) = bss_agrees with_bss (is_up_to 4194304 number)
statement_agrees labels with_bss at (statements.Instruction sentence) = sentence_agrees labels at sentence

optional_agrees : (labels : List Definition) (with_bss : Bool) (at : ℕ) (statement : Option Statement)
    → is_none (optional_reason labels with_bss at statement) ≡ is_some (optional_bytes labels with_bss at statement)
optional_agrees labels with_bss at None = refl
optional_agrees labels with_bss at (Some statement) = statement_agrees labels with_bss at statement

-- ---- lines

label_agrees : (earlier : List Definition) (label : Option Label) → is_none (label_reason earlier label) ≡ is_new earlier label
label_agrees earlier None = refl
label_agrees earlier (Some label) = unless_is (is_none (found earlier label)) (reasons.LabelTwice label)

and_if : (t : Bool) (o : Option (List ℕ)) → (t && is_some o) ≡ is_some (if t then o else None)
and_if true o = refl
and_if false o = refl

within_agrees : (at size : ℕ) (own : List ℕ) → length own ≡ size → is_none (unless (nat_le (at + size) 65536) reasons.ProgramTooLong) ≡ is_some (within at own)
within_agrees at size own e =
    ap (λ (n : ℕ). is_none (unless (nat_le (at + n) 65536) reasons.ProgramTooLong)) (sym e) ∙ unless_if (nat_le (at + length own) 65536) reasons.ProgramTooLong own

-- what is looked at after a line's label
abbrev behind_label : List Definition → Bool → ℕ → Option Statement → Option Reason
behind_label labels with_bss at statement =
    option_or (optional_reason labels with_bss at statement) (unless (nat_le (at + optional_size statement) 65536) reasons.ProgramTooLong)

pub line_agrees : (labels earlier : List Definition) (with_bss : Bool) (at : ℕ) (line : SourceLine)
    → is_none (line_reason labels earlier with_bss at line) ≡ is_some (bytes_behind labels earlier with_bss at line)
unfolding line_reason
line_agrees labels earlier with_bss at line =
    or_none_is (label_reason earlier line.label) (behind_label labels with_bss at line.statement) ∙
    ap (λ (t : Bool). t && is_none (behind_label labels with_bss at line.statement)) (label_agrees earlier line.label) ∙
    ap (λ (t : Bool). is_new earlier line.label && t)
    (chain (optional_reason labels with_bss at line.statement) (unless (nat_le (at + optional_size line.statement) 65536) reasons.ProgramTooLong)
    (optional_bytes labels with_bss at line.statement) (within at)
    (optional_agrees labels with_bss at line.statement) (λ own e. within_agrees at (optional_size line.statement) own (optional_long labels with_bss at line.statement own e))) ∙
    and_if (is_new earlier line.label) (bounded at (optional_bytes labels with_bss at line.statement))
