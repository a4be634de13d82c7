-- The bytes of a line are as many as its form says.
use Rattle.std.proofs.Common.{◌≡◌, ◌⊎◌, inl, inr, ℕ, suc, ◌+◌, ◌≤◌, Bool, true, false, not, List, [], ◌∷◌, ◌++◌, length, Option, Some, None, refl, sym, ◌∙◌, ap, subst, arith, length-append, replicate}
use Rattle.std.specs.Prelude.{if◌then◌else◌, nat_lt, nat_le, ◌==◌, ◌&&◌, is_some}
use Rattle.std.specs.Int.{to_le_bytes}
use Rattle.vax_code.specs.declared.table.Slot.{Slot}
use Rattle.vax_code.specs.declared.table.Row.{Row}
use Rattle.vax_code.specs.Table.{slot_in}
use Rattle.vax_code.specs.Operands.{width_of, is_read, is_address, is_branch}
use Rattle.vax_code.specs.Grammar.{specifier}
use Rattle.std.proofs.lemmas.List.{length-replicate}
use Rattle.asm_grammar.specs.Text.{◌>>=◌}
use Rattle.asm_grammar.specs.Encoding.{bits_of_value, displacement_bits, displacement_mode, plain_specifier, with_number, displaced_bytes, place_bytes, leaves_index, indexed_bytes, literal_bytes, immediate_bytes, distance, branch_bits, target_bytes, branch_bytes, specifier_bytes, absent_bytes, operand_bytes, sentence_bytes}
use Rattle.vax_asm.specs.Program.{number_size, place_size, operand_size, sentence_size, is_up_to, statement_size, optional_size, item_size, definitions, address_after, bss_found, value_bytes, statement_bytes, optional_bytes, within, bounded, is_new, bytes_behind, line_bytes}
use Rattle.asm_grammar.specs.declared.syntax.Number.{Number}
use Rattle.asm_grammar.specs.declared.syntax.Value.{Value}
use Rattle.asm_grammar.specs.declared.syntax.Place.{Place}
use Rattle.asm_grammar.specs.declared.syntax.Place.TheVariants as places
use Rattle.asm_grammar.specs.declared.syntax.Written.{Written}
use Rattle.asm_grammar.specs.declared.syntax.Written.TheVariants as writtens
use Rattle.asm_grammar.specs.declared.syntax.Sentence.{Sentence}
use Rattle.asm_grammar.specs.declared.syntax.Statement.{Statement}
use Rattle.asm_grammar.specs.declared.syntax.Statement.TheVariants as statements
use Rattle.asm_grammar.specs.declared.syntax.SourceLine.{SourceLine}
use Rattle.asm_grammar.specs.declared.syntax.Definition.{Definition}
use Rattle.asm_grammar.proofs.Spelled.{bind_some, some_same, some_if, some_unless, le_of, kind_sized}

-- ---- operands

number_long_by : (size bits : ℕ) (one two : Bool) → (size == 1) ≡ one → (size == 2) ≡ two → length (to_le_bytes (width_of size) bits) ≡ number_size size
number_long_by size bits true two a b = rw a refl
number_long_by size bits false true a b = rw a (rw b refl)
number_long_by size bits false false a b = rw a (rw b refl)

number_long : (size bits : ℕ) → length (to_le_bytes (width_of size) bits) ≡ number_size size
number_long size bits = number_long_by size bits (size == 1) (size == 2) refl refl

with_number_long : (first size bits : ℕ) → length (with_number first size bits) ≡ 1 + number_size size
with_number_long first size bits = (let long : length (to_le_bytes (width_of size) bits) ≡ number_size size = number_long size bits in omega (arith, long))

sized_is : (size : ℕ) → (size ≡ 1) ⊎ (size ≡ 2) ⊎ (size ≡ 4) → number_size size ≡ size
sized_is size (inl e) = subst (λ (s : ℕ). number_size s ≡ s) (sym e) refl
sized_is size (inr (inl e)) = subst (λ (s : ℕ). number_size s ≡ s) (sym e) refl
sized_is size (inr (inr e)) = subst (λ (s : ℕ). number_size s ≡ s) (sym e) refl

slot_sized : (row : Row) (place : ℕ) → number_size (slot_in row place).size ≡ (slot_in row place).size
slot_sized row place = sized_is (slot_in row place).size (kind_sized (if place == 0 then row.a else (if place == 1 then row.b else row.c)))

plain_long : (mode reg : ℕ) (bytes : List ℕ) → plain_specifier mode reg ≡ Some bytes → length bytes ≡ 1
plain_long mode reg bytes e =
    let p = some_if (nat_lt reg 15) (Some (specifier mode reg ∷ [])) bytes e in
    ap length (sym (some_same _ _ p.1))

displaced_long : (size reg : ℕ) (by : Number) (deferred : Bool) (bytes : List ℕ) → displaced_bytes size reg by deferred ≡ Some bytes
    → length bytes ≡ 1 + number_size size
unfolding displaced_bytes
displaced_long size reg by deferred bytes e =
    let b = bind_some (displacement_bits size by) (λ bits. Some (with_number (specifier (displacement_mode size deferred) reg) size bits)) bytes e in
    ap length (sym (some_same _ _ b.2)) ∙ with_number_long (specifier (displacement_mode size deferred) reg) size b.0

place_long : (labels : List Definition) (place : Place) (bytes : List ℕ) → place_bytes labels place ≡ Some bytes → length bytes ≡ place_size place
unfolding place_bytes
place_long labels (places.Deferred reg) bytes e = plain_long 6 reg bytes e
place_long labels (places.AutoDec reg) bytes e = plain_long 7 reg bytes e
place_long labels (places.AutoInc reg) bytes e = plain_long 8 reg bytes e
place_long labels (places.AutoIncDef reg) bytes e = plain_long 9 reg bytes e
place_long labels (places.Absolute address) bytes e =
    let b = bind_some (bits_of_value labels 4 address) (λ bits. Some (with_number 159 4 bits)) bytes e in
    ap length (sym (some_same _ _ b.2))
place_long labels (places.Disp size reg by deferred) bytes e =
    displaced_long size reg by deferred bytes (some_if (nat_lt reg 16) (displaced_bytes size reg by deferred) bytes e).1

indexed_long : (labels : List Definition) (index : ℕ) (place : Place) (bytes : List ℕ) → indexed_bytes labels index place ≡ Some bytes
    → length bytes ≡ 1 + place_size place
unfolding indexed_bytes
indexed_long labels index place bytes e =
    let p = some_if (nat_lt index 15 && leaves_index index place) (place_bytes labels place >>= λ bytes. Some (specifier 4 index ∷ bytes)) bytes e in
    let b = bind_some (place_bytes labels place) (λ bytes. Some (specifier 4 index ∷ bytes)) bytes p.1 in
    let long : length b.0 ≡ place_size place = place_long labels place b.0 b.1 in
    let same : length bytes ≡ length (specifier 4 index ∷ b.0) = ap length (sym (some_same _ _ b.2)) in
    omega (arith, long, same)

literal_long : (slot : Slot) (number : Number) (bytes : List ℕ) → (if is_read slot.access then literal_bytes number else None) ≡ Some bytes → length bytes ≡ 1
literal_long slot number bytes e =
    let p = some_if (is_read slot.access) (literal_bytes number) bytes e in
    let q = some_if (not number.negative && nat_lt number.magnitude 64) (Some (number.magnitude ∷ [])) bytes p.1 in
    ap length (sym (some_same _ _ q.1))

immediate_long : (labels : List Definition) (slot : Slot) (value : Value) (bytes : List ℕ) → number_size slot.size ≡ slot.size
    → (if is_read slot.access then immediate_bytes labels slot value else None) ≡ Some bytes → length bytes ≡ 1 + slot.size
unfolding immediate_bytes
immediate_long labels slot value bytes sized e =
    let p = some_if (is_read slot.access) (bits_of_value labels slot.size value >>= λ bits. Some (with_number 143 slot.size bits)) bytes e in
    let b = bind_some (bits_of_value labels slot.size value) (λ bits. Some (with_number 143 slot.size bits)) bytes p.1 in
    ap length (sym (some_same _ _ b.2)) ∙ with_number_long 143 slot.size b.0 ∙ ap (λ (n : ℕ). 1 + n) sized

target_long : (labels : List Definition) (from : ℕ) (slot : Slot) (target : Value) (bytes : List ℕ) → number_size slot.size ≡ slot.size
    → target_bytes labels from slot target ≡ Some bytes → length bytes ≡ slot.size
unfolding target_bytes
target_long labels from slot target bytes sized e =
    let a = bind_some (bits_of_value labels 4 target) (λ address. branch_bits slot.size (distance address (from + slot.size)) >>= λ bits. Some (to_le_bytes (width_of slot.size) bits)) bytes e in
    let b = bind_some (branch_bits slot.size (distance a.0 (from + slot.size))) (λ bits. Some (to_le_bytes (width_of slot.size) bits)) bytes a.2 in
    ap length (sym (some_same _ _ b.2)) ∙ number_long slot.size b.0 ∙ sized

specifier_long : (labels : List Definition) (row : Row) (place : ℕ) (written : Written) (bytes : List ℕ)
    → specifier_bytes labels (slot_in row place) written ≡ Some bytes → length bytes ≡ operand_size row place written
unfolding specifier_bytes
specifier_long labels row place writtens.Absent bytes e = absurd (cc)
specifier_long labels row place (writtens.Literal number) bytes e = literal_long (slot_in row place) number bytes e
specifier_long labels row place (writtens.Register reg) bytes e = plain_long 5 reg bytes (some_unless (is_address (slot_in row place).access) (plain_specifier 5 reg) bytes e).1
specifier_long labels row place (writtens.Immediate value) bytes e = immediate_long labels (slot_in row place) value bytes (slot_sized row place) e
specifier_long labels row place (writtens.Plain base) bytes e = place_long labels base bytes e
specifier_long labels row place (writtens.Indexed index base) bytes e = indexed_long labels index base bytes e
specifier_long labels row place (writtens.Misindexed immediate) bytes e = absurd (cc)
specifier_long labels row place (writtens.Target target) bytes e = absurd (cc)

branch_long : (labels : List Definition) (from : ℕ) (row : Row) (place : ℕ) (written : Written) (bytes : List ℕ)
    → branch_bytes labels from (slot_in row place) written ≡ Some bytes → length bytes ≡ operand_size row place written
unfolding branch_bytes
branch_long labels from row place writtens.Absent bytes e = absurd (cc)
branch_long labels from row place (writtens.Literal number) bytes e = absurd (cc)
branch_long labels from row place (writtens.Register reg) bytes e = absurd (cc)
branch_long labels from row place (writtens.Immediate value) bytes e = absurd (cc)
branch_long labels from row place (writtens.Plain base) bytes e = absurd (cc)
branch_long labels from row place (writtens.Indexed index base) bytes e = absurd (cc)
branch_long labels from row place (writtens.Misindexed immediate) bytes e = absurd (cc)
branch_long labels from row place (writtens.Target target) bytes e = target_long labels from (slot_in row place) target bytes (slot_sized row place) e

absent_long : (row : Row) (place : ℕ) (written : Written) (bytes : List ℕ) → absent_bytes written ≡ Some bytes → length bytes ≡ operand_size row place written
absent_long row place writtens.Absent bytes e = ap length (sym (some_same _ _ e))
absent_long row place (writtens.Literal number) bytes e = absurd (cc)
absent_long row place (writtens.Register reg) bytes e = absurd (cc)
absent_long row place (writtens.Immediate value) bytes e = absurd (cc)
absent_long row place (writtens.Plain base) bytes e = absurd (cc)
absent_long row place (writtens.Indexed index base) bytes e = absurd (cc)
absent_long row place (writtens.Misindexed immediate) bytes e = absurd (cc)
absent_long row place (writtens.Target target) bytes e = absurd (cc)

module _ (labels : List Definition) (from : ℕ) (row : Row) (place : ℕ) (written : Written) (bytes : List ℕ) where
  by_branch : (branch : Bool)
      → (if branch then branch_bytes labels from (slot_in row place) written else specifier_bytes labels (slot_in row place) written) ≡ Some bytes
      → length bytes ≡ operand_size row place written
  by_branch true e = branch_long labels from row place written bytes e
  by_branch false e = specifier_long labels row place written bytes e

  by_place : (here : Bool)
      → (if here then (if is_branch (slot_in row place).access then branch_bytes labels from (slot_in row place) written else specifier_bytes labels
      (slot_in row place) written) else absent_bytes written) ≡ Some bytes
      → length bytes ≡ operand_size row place written
  by_place true e = by_branch (is_branch (slot_in row place).access) e
  by_place false e = absent_long row place written bytes e

  pub operand_long : operand_bytes labels from row place written ≡ Some bytes → length bytes ≡ operand_size row place written
  unfolding operand_bytes
  operand_long e = by_place (nat_lt place row.count) e

sentence_long : (labels : List Definition) (at : ℕ) (s : Sentence) (bytes : List ℕ) → sentence_bytes labels at s ≡ Some bytes → length bytes ≡ sentence_size s
unfolding sentence_bytes sentence_size
sentence_long labels at s bytes e =
    let a = bind_some (operand_bytes labels (at + 1) s.row 0 s.a)
    (λ a. operand_bytes labels (at + 1 + length a) s.row 1 s.b >>= λ b. operand_bytes labels (at + 1 + length a + length b) s.row 2 s.c >>= λ c. Some (s.row.op ∷ (a ++ (b ++ c)))) bytes e in
    let b = bind_some (operand_bytes labels (at + 1 + length a.0) s.row 1 s.b)
    (λ b. operand_bytes labels (at + 1 + length a.0 + length b) s.row 2 s.c >>= λ c. Some (s.row.op ∷ (a.0 ++ (b ++ c)))) bytes a.2 in
    let c = bind_some (operand_bytes labels (at + 1 + length a.0 + length b.0) s.row 2 s.c) (λ c. Some (s.row.op ∷ (a.0 ++ (b.0 ++ c)))) bytes b.2 in
    let whole : length bytes ≡ length (s.row.op ∷ (a.0 ++ (b.0 ++ c.0))) = ap length (sym (some_same _ _ c.2)) in
    let one : length a.0 ≡ operand_size s.row 0 s.a = operand_long labels (at + 1) s.row 0 s.a a.0 a.1 in
    let two : length b.0 ≡ operand_size s.row 1 s.b = operand_long labels (at + 1 + length a.0) s.row 1 s.b b.0 b.1 in
    let three : length c.0 ≡ operand_size s.row 2 s.c = operand_long labels (at + 1 + length a.0 + length b.0) s.row 2 s.c c.0 c.1 in
    let outer : length (a.0 ++ (b.0 ++ c.0)) ≡ length a.0 + length (b.0 ++ c.0) = length-append a.0 (b.0 ++ c.0) in
    let inner : length (b.0 ++ c.0) ≡ length b.0 + length c.0 = length-append b.0 c.0 in
    sums (length bytes) (length a.0) (length b.0) (length c.0) (length (b.0 ++ c.0)) (length (a.0 ++ (b.0 ++ c.0))) (operand_size s.row 0 s.a) (operand_size s.row 1 s.b) (operand_size s.row 2 s.c)
    (whole ∙ suc_is (length (a.0 ++ (b.0 ++ c.0)))) one two three outer inner
  where
    suc_is : (n : ℕ) → suc n ≡ 1 + n
    suc_is n = omega arith

    sums : (t a b c bc abc x y z : ℕ) → t ≡ 1 + abc → a ≡ x → b ≡ y → c ≡ z → abc ≡ a + bc → bc ≡ b + c → t ≡ 1 + x + y + z
    sums t a b c bc abc x y z e f g h i j = omega arith

-- ---- statements

value_long : (labels : List Definition) (size : ℕ) (value : Value) (bytes : List ℕ) → value_bytes labels size value ≡ Some bytes
    → length bytes ≡ number_size size
unfolding value_bytes
value_long labels size value bytes e =
    let b = bind_some (bits_of_value labels size value) (λ bits. Some (to_le_bytes (width_of size) bits)) bytes e in
    ap length (sym (some_same _ _ b.2)) ∙ number_long size b.0

abbrev zeros : ℕ → List ℕ
zeros n = replicate n 0

zeros_long : (n : ℕ) → length (zeros n) ≡ n
zeros_long n = length-replicate n 0

statement_long : (labels : List Definition) (with_bss : Bool) (at : ℕ) (statement : Statement) (bytes : List ℕ)
    → statement_bytes labels with_bss at statement ≡ Some bytes → length bytes ≡ statement_size statement
unfolding statement_bytes statement_size
statement_long labels with_bss at (statements.Byte value) bytes e = value_long labels 1 value bytes e
statement_long labels with_bss at (statements.Word value) bytes e = value_long labels 2 value bytes e
statement_long labels with_bss at (statements.Long value) bytes e = value_long labels 4 value bytes e
statement_long labels with_bss at (statements.Space number) bytes e =
    let p = some_if (is_up_to 65536 number) (Some (replicate number.magnitude 0)) bytes e in
    ap length (sym (some_same _ _ p.1)) ∙ zeros_long number.magnitude ∙ sym (rw p.0 refl)
statement_long labels with_bss at (statements.Bss number) bytes e =
    let p = some_if (not with_bss && is_up_to 4194304 number) (Some []) bytes e in
    ap length (sym (some_same _ _ p.1))
statement_long labels with_bss at (statements.Instruction sentence) bytes e = sentence_long labels at sentence bytes e

pub optional_long : (labels : List Definition) (with_bss : Bool) (at : ℕ) (statement : Option Statement) (bytes : List ℕ)
    → optional_bytes labels with_bss at statement ≡ Some bytes → length bytes ≡ optional_size statement
optional_long labels with_bss at None bytes e = ap length (sym (some_same _ _ e))
optional_long labels with_bss at (Some statement) bytes e = statement_long labels with_bss at statement bytes e

-- what a line that has no fault has
pub behind_parts : (labels earlier : List Definition) (with_bss : Bool) (at : ℕ) (line : SourceLine) (own : List ℕ)
    → bytes_behind labels earlier with_bss at line ≡ Some own
    → (optional_bytes labels with_bss at line.statement ≡ Some own) × (length own ≡ optional_size line.statement)
behind_parts labels earlier with_bss at line own e =
    let p = some_if (is_new earlier line.label) (bounded at (optional_bytes labels with_bss at line.statement)) own e in
    let b = bind_some (optional_bytes labels with_bss at line.statement) (within at) own p.1 in
    let q = some_if (nat_le (at + length b.0) 65536) (Some b.0) own b.2 in
    let same : b.0 ≡ own = some_same _ _ q.1 in
    let is : optional_bytes labels with_bss at line.statement ≡ Some own = b.1 ∙ ap (λ (l : List ℕ). Some l) same in
    (is, optional_long labels with_bss at line.statement own is)

pub behind_within : (labels earlier : List Definition) (with_bss : Bool) (at : ℕ) (line : SourceLine) (own : List ℕ)
    → bytes_behind labels earlier with_bss at line ≡ Some own → at + length own ≤ 65536
behind_within labels earlier with_bss at line own e =
    let p = some_if (is_new earlier line.label) (bounded at (optional_bytes labels with_bss at line.statement)) own e in
    let b = bind_some (optional_bytes labels with_bss at line.statement) (within at) own p.1 in
    let q = some_if (nat_le (at + length b.0) 65536) (Some b.0) own b.2 in
    let same : b.0 ≡ own = some_same _ _ q.1 in
    subst (λ (l : List ℕ). at + length l ≤ 65536) same (le_of (at + length b.0) 65536 q.0)

pub line_long : (labels : List Definition) (before : List (Option SourceLine)) (item : Option SourceLine) (own : List ℕ)
    → line_bytes labels before item ≡ Some own → length own ≡ item_size item
unfolding line_bytes
line_long labels before None own e = absurd (cc)
line_long labels before (Some line) own e = (behind_parts labels (definitions 0 before) (is_some (bss_found before)) (address_after before) line own e).1
