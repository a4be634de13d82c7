-- What is encoded is what is decoded.
use Rattle.std.proofs.Common.{◌≡◌, ◌≢◌, ◌⊎◌, inl, inr, ℕ, ◌+◌, ◌-◌, ◌%◌, ◌<◌, ◌≤◌, Bool, true, false, not, List, [], ◌∷◌, ◌++◌, length, Option, Some, None, refl, sym, ◌∙◌, ap, subst, arith, IsTrue, ℤ, pos, neg_ℤ}
use Rattle.std.specs.Prelude.{if◌then◌else◌, nat_lt, nat_le, ◌==◌, ◌&&◌, ◌||◌}
use Rattle.std.specs.Int.{to_le_bytes, cast_signed, w8, w16, w32}
use Rattle.std.proofs.lemmas.Nat.{from_le_bytes-to_le_bytes_2, from_le_bytes-to_le_bytes_4}
use Rattle.std.proofs.lemmas.Bool.Decides.{nat_tests}
use Rattle.vax_code.specs.declared.table.Slot.{Slot}
use Rattle.vax_code.specs.declared.table.Row.{Row}
use Rattle.vax_code.specs.declared.table.Kind.{Kind}
use Rattle.vax_code.specs.declared.table.Kind.TheVariants as kinds
use Rattle.vax_code.specs.declared.instr.Base.TheVariants as bases
use Rattle.vax_code.specs.declared.instr.Operand.{Operand}
use Rattle.vax_code.specs.declared.instr.Operand.TheVariants as operands
use Rattle.vax_code.specs.declared.instr.Instr.{Instr}
use Rattle.vax_code.specs.Table.{slot_of, slot_in, row_for}
use Rattle.vax_code.specs.Operands.{width_of, is_read, is_address, is_branch, assembled}
use Rattle.vax_code.specs.Grammar.{SpellsNumber, SpellsSigned, SpellsPlain, SpellsOnPc, SpellsDisplaced, SpellsBase, LeavesIndex, SpellsIndexed, SpellsSpecifier, SpellsBranch, SpellsOperand, SpellsPlace, IsInstruction, specifier, spelled}
use Rattle.vax_code.proofs.Spelling.{of_base, not_true}
use Rattle.asm_grammar.specs.Text.{◌>>=◌}
use Rattle.asm_grammar.specs.Encoding.{whole_of, half_of, value_bits, displacement_bits, as_signed, number_of_value, bits_of_value, plain_specifier, with_number, displacement_mode, displaced_bytes, place_bytes, leaves_index, indexed_bytes, literal_bytes, immediate_bytes, distance, branch_bits, target_bytes, branch_bytes, specifier_bytes, absent_bytes, operand_bytes, sentence_bytes, or_zero, named_base, named_operand, sentence_instruction}
use Rattle.asm_grammar.specs.declared.syntax.Number.{Number}
use Rattle.asm_grammar.specs.declared.syntax.Value.{Value}
use Rattle.asm_grammar.specs.declared.syntax.Place.{Place}
use Rattle.asm_grammar.specs.declared.syntax.Place.TheVariants as places
use Rattle.asm_grammar.specs.declared.syntax.Written.{Written}
use Rattle.asm_grammar.specs.declared.syntax.Written.TheVariants as writtens
use Rattle.asm_grammar.specs.declared.syntax.Sentence.{Sentence}
use Rattle.asm_grammar.specs.declared.syntax.Definition.{Definition}
use Rattle.asm_grammar.proofs.Digits.{is_true}

-- ---- options

pub bind_some : {A B : Type 0} (o : Option A) (f : A → Option B) (y : B) → (o >>= f) ≡ Some y → (x : A) × (o ≡ Some x) × (f x ≡ Some y)
bind_some (Some x) f y e = (x, refl, e)
bind_some None f y e = absurd (cc)

pub some_same : {A : Type 0} (x y : A) → Some x ≡ Some y → x ≡ y
some_same x y e = cc

pub some_if : {A : Type 0} (t : Bool) (o : Option A) (y : A) → (if t then o else None) ≡ Some y → (t ≡ true) × (o ≡ Some y)
some_if true o y e = (refl, e)
some_if false o y e = absurd (cc)

pub some_unless : {A : Type 0} (t : Bool) (o : Option A) (y : A) → (if t then None else o) ≡ Some y → (t ≡ false) × (o ≡ Some y)
some_unless true o y e = absurd (cc)
some_unless false o y e = (refl, e)

-- ---- numbers

pub lt_of : (a b : ℕ) → nat_lt a b ≡ true → a < b
lt_of a b e = grind (arith, nat_tests)

pub ge_of : (a b : ℕ) → nat_lt a b ≡ false → b ≤ a
ge_of a b e = grind (arith, nat_tests)

pub le_of : (a b : ℕ) → nat_le a b ≡ true → a ≤ b
le_of a b e = grind (arith, nat_tests)

-- the sizes of the table
pub IsSize : ℕ → Type 0
IsSize size = (size ≡ 1) ⊎ (size ≡ 2) ⊎ (size ≡ 4)

pub kind_sized : (kind : Kind) → ((slot_of kind).size ≡ 1) ⊎ ((slot_of kind).size ≡ 2) ⊎ ((slot_of kind).size ≡ 4)
kind_sized kinds.Ab = inl refl
kind_sized kinds.Al = inr (inr refl)
kind_sized kinds.Bb = inl refl
kind_sized kinds.Bw = inr (inl refl)
kind_sized kinds.Mb = inl refl
kind_sized kinds.Ml = inr (inr refl)
kind_sized kinds.Rb = inl refl
kind_sized kinds.Rl = inr (inr refl)
kind_sized kinds.Rw = inr (inl refl)
kind_sized kinds.Wb = inl refl
kind_sized kinds.Wl = inr (inr refl)
kind_sized kinds.Ww = inr (inl refl)

spells_1 : (n : ℕ) → n < 256 → SpellsNumber 1 n (to_le_bytes w8 n)
spells_1 n small = record { sized = refl; valued = omega arith }

spells_2 : (n : ℕ) → n < 65536 → SpellsNumber 2 n (to_le_bytes w16 n)
spells_2 n small = record { sized = refl; valued = sym (from_le_bytes-to_le_bytes_2 n (omega arith)) }

spells_4 : (n : ℕ) → n < 4294967296 → SpellsNumber 4 n (to_le_bytes w32 n)
spells_4 n small = record { sized = refl; valued = sym (from_le_bytes-to_le_bytes_4 n (omega arith)) }

pub spells_number : (size n : ℕ) → (size ≡ 1) ⊎ (size ≡ 2) ⊎ (size ≡ 4) → n < whole_of size → SpellsNumber size n (to_le_bytes (width_of size) n)
spells_number size n (inl e) small = subst (λ (s : ℕ). SpellsNumber s n (to_le_bytes (width_of s) n)) (sym e) (spells_1 n (subst (λ (s : ℕ). n < whole_of s) e small))
spells_number size n (inr (inl e)) small = subst (λ (s : ℕ). SpellsNumber s n (to_le_bytes (width_of s) n)) (sym e) (spells_2 n (subst (λ (s : ℕ). n < whole_of s) e small))
spells_number size n (inr (inr e)) small = subst (λ (s : ℕ). SpellsNumber s n (to_le_bytes (width_of s) n)) (sym e) (spells_4 n (subst (λ (s : ℕ). n < whole_of s) e small))

pub bits_fit : (size bits : ℕ) (number : Number) → value_bits size number ≡ Some bits → bits < whole_of size
unfolding value_bits
bits_fit size bits number e = grind (arith, nat_tests, e)

displacement_value : (size bits : ℕ) (number : Number) → displacement_bits size number ≡ Some bits → value_bits size number ≡ Some bits
unfolding displacement_bits
displacement_value size bits number e = (some_if (number.negative || nat_lt number.magnitude (half_of size)) (value_bits size number) bits e).1

-- ---- signed numbers

plus_1 : (n : ℕ) → n < 128 → cast_signed w8 n ≡ pos n
plus_1 n h = grind (arith, nat_tests)

plus_2 : (n : ℕ) → n < 32768 → cast_signed w16 n ≡ pos n
plus_2 n h = grind (arith, nat_tests)

plus_4 : (n : ℕ) → n < 2147483648 → cast_signed w32 n ≡ pos n
plus_4 n h = grind (arith, nat_tests)

minus_1 : (m : ℕ) → m ≤ 128 → cast_signed w8 ((256 - m) % 256) ≡ neg_ℤ (pos m)
minus_1 m h = grind (arith, nat_tests)

minus_2 : (m : ℕ) → m ≤ 32768 → cast_signed w16 ((65536 - m) % 65536) ≡ neg_ℤ (pos m)
minus_2 m h = grind (arith, nat_tests)

minus_4 : (m : ℕ) → m ≤ 2147483648 → cast_signed w32 ((4294967296 - m) % 4294967296) ≡ neg_ℤ (pos m)
minus_4 m h = grind (arith, nat_tests)

-- the bits of a displacement are its number in two's complement
signed_by : (half whole bits : ℕ) (w : (ℕ → ℤ)) (number : Number) → half ≤ whole → ((n : ℕ) → n < half → w n ≡ pos n)
    → ((m : ℕ) → m ≤ half → w ((whole - m) % whole) ≡ neg_ℤ (pos m)) → (negative : Bool) → number.negative ≡ negative
    → (if negative || nat_lt number.magnitude half then (if negative then (if nat_le number.magnitude half then Some ((whole - number.magnitude) % whole)
    else None) else (if nat_lt number.magnitude whole then Some number.magnitude else None)) else None) ≡ Some bits
    → (if negative then neg_ℤ (pos number.magnitude) else pos number.magnitude) ≡ w bits
signed_by half whole bits w number below plus minus true e h =
    let p : (nat_le number.magnitude half ≡ true) × (Some ((whole - number.magnitude) % whole) ≡ Some bits) =
    some_if (nat_le number.magnitude half) (Some ((whole - number.magnitude) % whole)) bits h in
    let q : (whole - number.magnitude) % whole ≡ bits = some_same _ _ p.1 in
    sym (minus number.magnitude (le_of number.magnitude half p.0)) ∙ ap w q
signed_by half whole bits w number below plus minus false e h =
    let o : Option ℕ = if nat_lt number.magnitude whole then Some number.magnitude else None in
    let p : (nat_lt number.magnitude half ≡ true) × (o ≡ Some bits) = some_if (nat_lt number.magnitude half) o bits h in
    let q : (nat_lt number.magnitude whole ≡ true) × (Some number.magnitude ≡ Some bits) = some_if (nat_lt number.magnitude whole) (Some number.magnitude) bits p.1 in
    let r : number.magnitude ≡ bits = some_same _ _ q.1 in
    sym (plus number.magnitude (lt_of number.magnitude half p.0)) ∙ ap w r

signed_1 : (bits : ℕ) (by : Number) → displacement_bits 1 by ≡ Some bits → as_signed by ≡ cast_signed w8 bits
unfolding displacement_bits value_bits
signed_1 bits by e = signed_by 128 256 bits (λ n. cast_signed w8 n) by (omega arith) plus_1 minus_1 by.negative refl e

signed_2 : (bits : ℕ) (by : Number) → displacement_bits 2 by ≡ Some bits → as_signed by ≡ cast_signed w16 bits
unfolding displacement_bits value_bits
signed_2 bits by e = signed_by 32768 65536 bits (λ n. cast_signed w16 n) by (omega arith) plus_2 minus_2 by.negative refl e

signed_4 : (bits : ℕ) (by : Number) → displacement_bits 4 by ≡ Some bits → as_signed by ≡ cast_signed w32 bits
unfolding displacement_bits value_bits
signed_4 bits by e = signed_by 2147483648 4294967296 bits (λ n. cast_signed w32 n) by (omega arith) plus_4 minus_4 by.negative refl e

-- a displacement in 1, 2 or 4 bytes
spells_signed : (size bits : ℕ) (by : ℤ) → SpellsNumber size bits (to_le_bytes (width_of size) bits) → by ≡ cast_signed (width_of size) bits
    → SpellsSigned size by (to_le_bytes (width_of size) bits)
spells_signed size bits by h e = record { sized = h.sized; valued = e ∙ ap (λ (n : ℕ). cast_signed (width_of size) n) h.valued }

spells_displaced : (mode size reg bits : ℕ) (by : ℤ) → reg < 16 → SpellsSigned size by (to_le_bytes (width_of size) bits)
    → SpellsDisplaced mode size reg by (with_number (specifier mode reg) size bits)
spells_displaced mode size reg bits by r h = record { register = r; digits = to_le_bytes (width_of size) bits; split = refl; spells = h }

displaced_as : (size reg : ℕ) (by : Number) (deferred : Bool) (bytes : List ℕ) → displaced_bytes size reg by deferred ≡ Some bytes
    → (bits : ℕ) × (displacement_bits size by ≡ Some bits) × (with_number (specifier (displacement_mode size deferred) reg) size bits ≡ bytes)
unfolding displaced_bytes
displaced_as size reg by deferred bytes e =
    let b = bind_some (displacement_bits size by) (λ bits. Some (with_number (specifier (displacement_mode size deferred) reg) size bits)) bytes e in
    (b.0, b.1, some_same _ _ b.2)

displaced_1 : (reg : ℕ) (by : Number) (deferred : Bool) (bytes : List ℕ) → reg < 16 → displaced_bytes 1 reg by deferred ≡ Some bytes
    → SpellsDisplaced (displacement_mode 1 deferred) 1 reg (as_signed by) bytes
displaced_1 reg by deferred bytes r e =
    let b = displaced_as 1 reg by deferred bytes e in
    subst (λ (l : List ℕ). SpellsDisplaced (displacement_mode 1 deferred) 1 reg (as_signed by) l) b.2
    (spells_displaced (displacement_mode 1 deferred) 1 reg b.0 (as_signed by) r
    (spells_signed 1 b.0 (as_signed by) (spells_1 b.0 (bits_fit 1 b.0 by (displacement_value 1 b.0 by b.1))) (signed_1 b.0 by b.1)))

displaced_2 : (reg : ℕ) (by : Number) (deferred : Bool) (bytes : List ℕ) → reg < 16 → displaced_bytes 2 reg by deferred ≡ Some bytes
    → SpellsDisplaced (displacement_mode 2 deferred) 2 reg (as_signed by) bytes
displaced_2 reg by deferred bytes r e =
    let b = displaced_as 2 reg by deferred bytes e in
    subst (λ (l : List ℕ). SpellsDisplaced (displacement_mode 2 deferred) 2 reg (as_signed by) l) b.2
    (spells_displaced (displacement_mode 2 deferred) 2 reg b.0 (as_signed by) r
    (spells_signed 2 b.0 (as_signed by) (spells_2 b.0 (bits_fit 2 b.0 by (displacement_value 2 b.0 by b.1))) (signed_2 b.0 by b.1)))

displaced_4 : (reg : ℕ) (by : Number) (deferred : Bool) (bytes : List ℕ) → reg < 16 → displaced_bytes 4 reg by deferred ≡ Some bytes
    → SpellsDisplaced (displacement_mode 4 deferred) 4 reg (as_signed by) bytes
displaced_4 reg by deferred bytes r e =
    let b = displaced_as 4 reg by deferred bytes e in
    subst (λ (l : List ℕ). SpellsDisplaced (displacement_mode 4 deferred) 4 reg (as_signed by) l) b.2
    (spells_displaced (displacement_mode 4 deferred) 4 reg b.0 (as_signed by) r
    (spells_signed 4 b.0 (as_signed by) (spells_4 b.0 (bits_fit 4 b.0 by (displacement_value 4 b.0 by b.1))) (signed_4 b.0 by b.1)))

-- a size other than 1 and 2 is written as 4
displacement_other : (size : ℕ) (by : Number) (one two : Bool) → (size == 1) ≡ one → (size == 2) ≡ two → one ≡ false → two ≡ false
    → displacement_bits size by ≡ displacement_bits 4 by
unfolding displacement_bits value_bits
displacement_other size by one two a b c d = rw (a ∙ c) (rw (b ∙ d) refl)

displaced_other : (size reg : ℕ) (by : Number) (deferred : Bool) → (size == 1) ≡ false → (size == 2) ≡ false
    → displaced_bytes size reg by deferred ≡ displaced_bytes 4 reg by deferred
unfolding displaced_bytes
displaced_other size reg by deferred a b = rw (displacement_other size by (size == 1) (size == 2) refl refl a b) (rw a (rw b refl))

pub size_is : (size n : ℕ) → (size == n) ≡ true → size ≡ n
size_is size n e = grind (arith, nat_tests)

displaced_spelled : (size reg : ℕ) (by : Number) (deferred one two : Bool) (bytes : List ℕ) → (size == 1) ≡ one → (size == 2) ≡ two → reg < 16
    → displaced_bytes size reg by deferred ≡ Some bytes
    → SpellsDisplaced (displacement_mode 1 deferred) 1 reg (as_signed by) bytes ⊎ SpellsDisplaced (displacement_mode 2 deferred) 2 reg (as_signed by) bytes
    ⊎ SpellsDisplaced (displacement_mode 4 deferred) 4 reg (as_signed by) bytes
displaced_spelled size reg by deferred true two bytes a b r e =
    inl (displaced_1 reg by deferred bytes r (subst (λ (s : ℕ). displaced_bytes s reg by deferred ≡ Some bytes) (size_is size 1 a) e))
displaced_spelled size reg by deferred false true bytes a b r e =
    inr (inl (displaced_2 reg by deferred bytes r (subst (λ (s : ℕ). displaced_bytes s reg by deferred ≡ Some bytes) (size_is size 2 b) e)))
displaced_spelled size reg by deferred false false bytes a b r e =
    inr (inr (displaced_4 reg by deferred bytes r (sym (displaced_other size reg by deferred a b) ∙ e)))

spells_base_displaced : (reg : ℕ) (by : ℤ) (deferred : Bool) (bytes : List ℕ)
    → SpellsDisplaced (displacement_mode 1 deferred) 1 reg by bytes ⊎ SpellsDisplaced (displacement_mode 2 deferred) 2 reg by bytes
    ⊎ SpellsDisplaced (displacement_mode 4 deferred) 4 reg by bytes
    → SpellsBase (bases.Disp reg by deferred) bytes
spells_base_displaced reg by false bytes h = h
spells_base_displaced reg by true bytes h = h

-- ---- places

spells_plain : (mode reg : ℕ) (bytes : List ℕ) → plain_specifier mode reg ≡ Some bytes → SpellsPlain mode reg bytes
spells_plain mode reg bytes e =
    let p = some_if (nat_lt reg 15) (Some (specifier mode reg ∷ [])) bytes e in
    record { register = lt_of reg 15 p.0; split = sym (some_same _ _ p.1) }

value_fits : (labels : List Definition) (size bits : ℕ) (value : Value) → bits_of_value labels size value ≡ Some bits → bits < whole_of size
unfolding bits_of_value
value_fits labels size bits value e =
    let b = bind_some (number_of_value labels value) (value_bits size) bits e in
    bits_fit size bits b.0 b.2

-- a number after a specifier on PC
spells_on_pc : (labels : List Definition) (mode size : ℕ) (value : Value) (bytes : List ℕ) → (size ≡ 1) ⊎ (size ≡ 2) ⊎ (size ≡ 4)
    → (bits_of_value labels size value >>= λ bits. Some (with_number (specifier mode 15) size bits)) ≡ Some bytes
    → SpellsOnPc mode size (or_zero (bits_of_value labels size value)) bytes
spells_on_pc labels mode size value bytes sized e =
    let b = bind_some (bits_of_value labels size value) (λ bits. Some (with_number (specifier mode 15) size bits)) bytes e in
    let is : b.0 ≡ or_zero (bits_of_value labels size value) = ap or_zero (sym b.1) in
    let split : with_number (specifier mode 15) size b.0 ≡ bytes = some_same _ _ b.2 in
    record {
      digits = to_le_bytes (width_of size) b.0;
      split = sym split;
      spells = subst (λ (n : ℕ). SpellsNumber size n (to_le_bytes (width_of size) b.0)) is (spells_number size b.0 sized (value_fits labels size b.0 value b.1));
    }

spells_place : (labels : List Definition) (place : Place) (bytes : List ℕ) → place_bytes labels place ≡ Some bytes → SpellsBase (named_base labels place) bytes
unfolding place_bytes
spells_place labels (places.Deferred reg) bytes e = spells_plain 6 reg bytes e
spells_place labels (places.AutoDec reg) bytes e = spells_plain 7 reg bytes e
spells_place labels (places.AutoInc reg) bytes e = spells_plain 8 reg bytes e
spells_place labels (places.AutoIncDef reg) bytes e = spells_plain 9 reg bytes e
spells_place labels (places.Absolute address) bytes e = spells_on_pc labels 9 4 address bytes (inr (inr refl)) e
spells_place labels (places.Disp size reg by deferred) bytes e =
    let p = some_if (nat_lt reg 16) (displaced_bytes size reg by deferred) bytes e in
    spells_base_displaced reg (as_signed by) deferred bytes (displaced_spelled size reg by deferred (size == 1) (size == 2) bytes refl refl (lt_of reg 16 p.0) p.1)

other_of : (reg index : ℕ) → not (reg == index) ≡ true → reg ≢ index
other_of reg index e = grind (arith, nat_tests)

leaves : (labels : List Definition) (index : ℕ) (place : Place) → leaves_index index place ≡ true → LeavesIndex index (named_base labels place)
leaves labels index (places.Deferred reg) e = tt
leaves labels index (places.AutoDec reg) e = other_of reg index e
leaves labels index (places.AutoInc reg) e = other_of reg index e
leaves labels index (places.AutoIncDef reg) e = other_of reg index e
leaves labels index (places.Absolute address) e = tt
leaves labels index (places.Disp size reg by deferred) e = tt

pub both : (a b : Bool) → (a && b) ≡ true → (a ≡ true) × (b ≡ true)
both true b e = (refl, e)
both false b e = absurd (cc)

spells_indexed : (labels : List Definition) (index : ℕ) (place : Place) (bytes : List ℕ) → indexed_bytes labels index place ≡ Some bytes
    → SpellsIndexed index (named_base labels place) bytes
unfolding indexed_bytes
spells_indexed labels index place bytes e =
    let p = some_if (nat_lt index 15 && leaves_index index place) (place_bytes labels place >>= λ bytes. Some (specifier 4 index ∷ bytes)) bytes e in
    let tests = both (nat_lt index 15) (leaves_index index place) p.0 in
    let b = bind_some (place_bytes labels place) (λ bytes. Some (specifier 4 index ∷ bytes)) bytes p.1 in
    record {
      register = lt_of index 15 tests.0;
      other = leaves labels index place tests.1;
      rest = b.0;
      split = sym (some_same _ _ b.2);
      spells = spells_place labels place b.0 b.1;
    }

-- ---- operands

spells_literal : (slot : Slot) (number : Number) (bytes : List ℕ) → (if is_read slot.access then literal_bytes number else None) ≡ Some bytes
    → IsTrue (is_read slot.access) × (number.magnitude < 64) × (bytes ≡ number.magnitude ∷ [])
spells_literal slot number bytes e =
    let p = some_if (is_read slot.access) (literal_bytes number) bytes e in
    let q = some_if (not number.negative && nat_lt number.magnitude 64) (Some (number.magnitude ∷ [])) bytes p.1 in
    let tests = both (not number.negative) (nat_lt number.magnitude 64) q.0 in
    (is_true (is_read slot.access) p.0, lt_of number.magnitude 64 tests.1, sym (some_same _ _ q.1))

spells_register : (slot : Slot) (reg : ℕ) (bytes : List ℕ) → (if is_address slot.access then None else plain_specifier 5 reg) ≡ Some bytes
    → IsTrue (not (is_address slot.access)) × SpellsPlain 5 reg bytes
spells_register slot reg bytes e =
    let p = some_unless (is_address slot.access) (plain_specifier 5 reg) bytes e in
    (not_true (is_address slot.access) p.0, spells_plain 5 reg bytes p.1)

spells_immediate : (labels : List Definition) (slot : Slot) (value : Value) (bytes : List ℕ) → (slot.size ≡ 1) ⊎ (slot.size ≡ 2) ⊎ (slot.size ≡ 4)
    → (if is_read slot.access then immediate_bytes labels slot value else None) ≡ Some bytes
    → IsTrue (is_read slot.access) × SpellsOnPc 8 slot.size (or_zero (bits_of_value labels slot.size value)) bytes
unfolding immediate_bytes
spells_immediate labels slot value bytes sized e =
    let p = some_if (is_read slot.access) (bits_of_value labels slot.size value >>= λ bits. Some (with_number 143 slot.size bits)) bytes e in
    (is_true (is_read slot.access) p.0, spells_on_pc labels 8 slot.size value bytes sized p.1)

spells_specifier : (labels : List Definition) (from : ℕ) (slot : Slot) (written : Written) (bytes : List ℕ)
    → (slot.size ≡ 1) ⊎ (slot.size ≡ 2) ⊎ (slot.size ≡ 4) → specifier_bytes labels slot written ≡ Some bytes
    → SpellsSpecifier slot (named_operand labels from slot written) bytes
unfolding specifier_bytes
spells_specifier labels from slot writtens.Absent bytes sized e = absurd (cc)
spells_specifier labels from slot (writtens.Literal number) bytes sized e = spells_literal slot number bytes e
spells_specifier labels from slot (writtens.Register reg) bytes sized e = spells_register slot reg bytes e
spells_specifier labels from slot (writtens.Immediate value) bytes sized e = spells_immediate labels slot value bytes sized e
spells_specifier labels from slot (writtens.Plain place) bytes sized e = of_base slot (named_base labels place) bytes (spells_place labels place bytes e)
spells_specifier labels from slot (writtens.Indexed index base) bytes sized e = spells_indexed labels index base bytes e
spells_specifier labels from slot (writtens.Misindexed immediate) bytes sized e = absurd (cc)
spells_specifier labels from slot (writtens.Target target) bytes sized e = absurd (cc)

-- ---- branches

distance_small : (target end : ℕ) → distance target end < 4294967296
distance_small target end = omega arith

branch_1 : (by bits : ℕ) → by < 4294967296 → branch_bits 1 by ≡ Some bits → (bits < 256) × (cast_signed w32 by ≡ cast_signed w8 bits)
branch_1 by bits small e = (grind (arith, nat_tests, e), grind (arith, nat_tests, e))

branch_2 : (by bits : ℕ) → by < 4294967296 → branch_bits 2 by ≡ Some bits → (bits < 65536) × (cast_signed w32 by ≡ cast_signed w16 bits)
branch_2 by bits small e = (grind (arith, nat_tests, e), grind (arith, nat_tests, e))

branch_4 : (by bits : ℕ) → by < 4294967296 → branch_bits 4 by ≡ Some bits → (bits < 4294967296) × (cast_signed w32 by ≡ cast_signed w32 bits)
branch_4 by bits small e = (grind (arith, nat_tests, e), grind (arith, nat_tests, e))

branch_value : (size by bits : ℕ) → (size ≡ 1) ⊎ (size ≡ 2) ⊎ (size ≡ 4) → by < 4294967296 → branch_bits size by ≡ Some bits
    → (bits < whole_of size) × (cast_signed w32 by ≡ cast_signed (width_of size) bits)
branch_value size by bits (inl e) small h =
    subst (λ (s : ℕ). (bits < whole_of s) × (cast_signed w32 by ≡ cast_signed (width_of s) bits)) (sym e) (branch_1 by bits small (subst (λ (s : ℕ). branch_bits s by ≡ Some bits) e h))
branch_value size by bits (inr (inl e)) small h =
    subst (λ (s : ℕ). (bits < whole_of s) × (cast_signed w32 by ≡ cast_signed (width_of s) bits)) (sym e) (branch_2 by bits small (subst (λ (s : ℕ). branch_bits s by ≡ Some bits) e h))
branch_value size by bits (inr (inr e)) small h =
    subst (λ (s : ℕ). (bits < whole_of s) × (cast_signed w32 by ≡ cast_signed (width_of s) bits)) (sym e) (branch_4 by bits small (subst (λ (s : ℕ). branch_bits s by ≡ Some bits) e h))

module _ (labels : List Definition) (from : ℕ) (slot : Slot) where
  spells_target : (target : Value) (bytes : List ℕ) → (slot.size ≡ 1) ⊎ (slot.size ≡ 2) ⊎ (slot.size ≡ 4) → target_bytes labels from slot target ≡ Some bytes
      → SpellsSigned slot.size (cast_signed w32 (distance (or_zero (bits_of_value labels 4 target)) (from + slot.size))) bytes
  unfolding target_bytes
  spells_target target bytes sized e =
      let after_address = λ (address : ℕ). branch_bits slot.size (distance address (from + slot.size)) >>= λ bits. Some (to_le_bytes (width_of slot.size) bits) in
      let a = bind_some (bits_of_value labels 4 target) after_address bytes e in
      let b = bind_some (branch_bits slot.size (distance a.0 (from + slot.size))) (λ bits. Some (to_le_bytes (width_of slot.size) bits)) bytes a.2 in
      let is : a.0 ≡ or_zero (bits_of_value labels 4 target) = ap or_zero (sym a.1) in
      let value = branch_value slot.size (distance a.0 (from + slot.size)) b.0 sized (distance_small a.0 (from + slot.size)) b.1 in
      let split : to_le_bytes (width_of slot.size) b.0 ≡ bytes = some_same _ _ b.2 in
      subst (λ (l : List ℕ). SpellsSigned slot.size (cast_signed w32 (distance (or_zero (bits_of_value labels 4 target)) (from + slot.size))) l) split
      (subst (λ (n : ℕ). SpellsSigned slot.size (cast_signed w32 (distance n (from + slot.size))) (to_le_bytes (width_of slot.size) b.0)) is
      (spells_signed slot.size b.0 (cast_signed w32 (distance a.0 (from + slot.size))) (spells_number slot.size b.0 sized value.0) value.1))

  spells_branch : (written : Written) (bytes : List ℕ) → (slot.size ≡ 1) ⊎ (slot.size ≡ 2) ⊎ (slot.size ≡ 4)
      → branch_bytes labels from slot written ≡ Some bytes → SpellsBranch slot (named_operand labels from slot written) bytes
  unfolding branch_bytes
  spells_branch writtens.Absent bytes sized e = absurd (cc)
  spells_branch (writtens.Literal number) bytes sized e = absurd (cc)
  spells_branch (writtens.Register reg) bytes sized e = absurd (cc)
  spells_branch (writtens.Immediate value) bytes sized e = absurd (cc)
  spells_branch (writtens.Plain place) bytes sized e = absurd (cc)
  spells_branch (writtens.Indexed index base) bytes sized e = absurd (cc)
  spells_branch (writtens.Misindexed immediate) bytes sized e = absurd (cc)
  spells_branch (writtens.Target target) bytes sized e = spells_target target bytes sized e

  -- ---- places of the row

  spells_absent : (written : Written) (bytes : List ℕ) → absent_bytes written ≡ Some bytes
      → (named_operand labels from slot written ≡ operands.Literal 0) × (bytes ≡ [])
  spells_absent writtens.Absent bytes e = (refl, sym (some_same _ _ e))
  spells_absent (writtens.Literal number) bytes e = absurd (cc)
  spells_absent (writtens.Register reg) bytes e = absurd (cc)
  spells_absent (writtens.Immediate value) bytes e = absurd (cc)
  spells_absent (writtens.Plain place) bytes e = absurd (cc)
  spells_absent (writtens.Indexed index base) bytes e = absurd (cc)
  spells_absent (writtens.Misindexed immediate) bytes e = absurd (cc)
  spells_absent (writtens.Target target) bytes e = absurd (cc)

  spells_operand : (branch : Bool) (written : Written) (bytes : List ℕ) → (slot.size ≡ 1) ⊎ (slot.size ≡ 2) ⊎ (slot.size ≡ 4)
      → (if branch then branch_bytes labels from slot written else specifier_bytes labels slot written) ≡ Some bytes
      → SpellsOperand branch slot (named_operand labels from slot written) bytes
  spells_operand true written bytes sized e = spells_branch written bytes sized e
  spells_operand false written bytes sized e = spells_specifier labels from slot written bytes sized e

  spells_by : (here : Bool) (written : Written) (bytes : List ℕ)
      → (slot.size ≡ 1) ⊎ (slot.size ≡ 2) ⊎ (slot.size ≡ 4)
      → (if here then (if is_branch slot.access then branch_bytes labels from slot written else specifier_bytes labels slot written) else absent_bytes written)
      ≡ Some bytes
      → SpellsPlace here slot (named_operand labels from slot written) bytes
  spells_by true written bytes sized e = spells_operand (is_branch slot.access) written bytes sized e
  spells_by false written bytes sized e = spells_absent written bytes e

pub spells_row_place : (labels : List Definition) (from : ℕ) (row : Row) (place : ℕ) (written : Written) (bytes : List ℕ)
    → operand_bytes labels from row place written ≡ Some bytes
    → SpellsPlace (nat_lt place row.count) (slot_in row place) (named_operand labels from (slot_in row place) written) bytes
unfolding operand_bytes
spells_row_place labels from row place written bytes e =
    spells_by labels from (slot_in row place) (nat_lt place row.count) written bytes (kind_sized (if place == 0 then row.a else (if place == 1 then row.b else row.c))) e

-- ---- instructions

pub three_binds : {A B C D : Type 0} (o : Option A) (p : A → Option B) (q : A → B → Option C) (f : A → B → C → D) (a : A) (b : B) (c : C) → o ≡ Some a
    → p a ≡ Some b → q a b ≡ Some c → (o >>= λ a. p a >>= λ b. q a b >>= λ c. Some (f a b c)) ≡ Some (f a b c)
three_binds o p q f a b c d e g = rw d (rw e (rw g refl))

pub sentence_encodes : (labels : List Definition) (at : ℕ) (sentence : Sentence) (bytes : List ℕ) → row_for sentence.row.op ≡ Some sentence.row
    → sentence_bytes labels at sentence ≡ Some bytes
    → (instr : Instr) × (sentence_instruction labels at sentence ≡ Some instr) × IsInstruction bytes instr
unfolding sentence_bytes sentence_instruction
sentence_encodes labels at s bytes listed e =
    let a = bind_some (operand_bytes labels (at + 1) s.row 0 s.a)
    (λ a. operand_bytes labels (at + 1 + length a) s.row 1 s.b >>= λ b. operand_bytes labels (at + 1 + length a + length b) s.row 2 s.c >>= λ c. Some (s.row.op ∷ (a ++ (b ++ c)))) bytes e in
    let b = bind_some (operand_bytes labels (at + 1 + length a.0) s.row 1 s.b)
    (λ b. operand_bytes labels (at + 1 + length a.0 + length b) s.row 2 s.c >>= λ c. Some (s.row.op ∷ (a.0 ++ (b ++ c)))) bytes a.2 in
    let c = bind_some (operand_bytes labels (at + 1 + length a.0 + length b.0) s.row 2 s.c) (λ c. Some (s.row.op ∷ (a.0 ++ (b.0 ++ c)))) bytes b.2 in
    let split : s.row.op ∷ (a.0 ++ (b.0 ++ c.0)) ≡ bytes = some_same _ _ c.2 in
    let one : Operand = named_operand labels (at + 1) (slot_in s.row 0) s.a in
    let two : Operand = named_operand labels (at + 1 + length a.0) (slot_in s.row 1) s.b in
    let three : Operand = named_operand labels (at + 1 + length a.0 + length b.0) (slot_in s.row 2) s.c in (
      assembled s.row.op s.row (spelled one a.0) (spelled two b.0) (spelled three c.0),
      three_binds (operand_bytes labels (at + 1) s.row 0 s.a) (λ a. operand_bytes labels (at + 1 + length a) s.row 1 s.b) (λ a b. operand_bytes labels (at + 1 + length a + length b) s.row 2 s.c)
          (λ a b c. assembled s.row.op s.row
          (spelled (named_operand labels (at + 1) (slot_in s.row 0) s.a) a)
          (spelled (named_operand labels (at + 1 + length a) (slot_in s.row 1) s.b) b)
          (spelled (named_operand labels (at + 1 + length a + length b) (slot_in s.row 2) s.c) c)) a.0 b.0 c.0 a.1 b.1 c.1,
      record {
        op = s.row.op;
        row = s.row;
        first = one;
        second = two;
        third = three;
        one = a.0;
        two = b.0;
        three = c.0;
        split = sym split;
        listed = listed;
        spells_first = spells_row_place labels (at + 1) s.row 0 s.a a.0 a.1;
        spells_second = spells_row_place labels (at + 1 + length a.0) s.row 1 s.b b.0 b.1;
        spells_third = spells_row_place labels (at + 1 + length a.0 + length b.0) s.row 2 s.c c.0 c.1;
        made = refl;
      },
    )

none_through : {A B C : Type 0} (o : Option A) (f : A → Option B) (g : A → Option C) → ((x : A) → f x ≡ None → g x ≡ None) → (o >>= f) ≡ None → (o >>= g) ≡ None
none_through (Some x) f g h e = h x e
none_through None f g h e = refl

pub sentence_none : (labels : List Definition) (at : ℕ) (sentence : Sentence) → sentence_bytes labels at sentence ≡ None
    → sentence_instruction labels at sentence ≡ None
unfolding sentence_bytes sentence_instruction
sentence_none labels at s e =
    none_through (operand_bytes labels (at + 1) s.row 0 s.a) _ _ (λ a f.
    none_through (operand_bytes labels (at + 1 + length a) s.row 1 s.b) _ _ (λ b g.
    none_through (operand_bytes labels (at + 1 + length a + length b) s.row 2 s.c) _ _ (λ c h. absurd (cc)) g) f) e
