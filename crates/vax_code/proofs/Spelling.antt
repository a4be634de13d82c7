-- What is read from some bytes as a whole is what they spell, and the other way round.
use Rattle.std.proofs.Common.{◌≡◌, ◌≢◌, ◌∙◌, ℕ, ◌+◌, ◌-◌, ◌*◌, ◌/◌, ◌%◌, ◌<◌, ◌≤◌, Bool, true, false, not, cond, List, [], ◌∷◌, ◌++◌, length, take, drop, Ok, Err, refl, ap, sym, subst, arith, length-drop, nat_lt, ◌&&◌, ◌||◌, Option, Some, None, IsTrue, inl, inr, ℤ}
use Rattle.std.specs.Prelude.{◌==◌}
use Rattle.std.specs.Int.{cast_signed, from_le_bytes}
use Rattle.std.proofs.lemmas.Bool.{ltb-true, ltb-false, eqb-true, cases_eq, and_parts, or_parts}
use Rattle.std.proofs.lemmas.Bool.Decides.{nat_tests}
use Rattle.std.proofs.lemmas.Grind.{common_steps}
use Rattle.vax_code.specs.Operands.{Spelled}
use Rattle.vax_code.specs.declared.instr.Instr.{Instr}
use Rattle.vax_code.specs.declared.instr.Operand.{Operand}
use Rattle.vax_code.specs.declared.instr.Operand.TheVariants as operands
use Rattle.vax_code.specs.declared.instr.Base.{Base}
use Rattle.vax_code.specs.declared.instr.Base.TheVariants as bases
use Rattle.vax_code.specs.declared.table.Slot.{Slot}
use Rattle.vax_code.specs.declared.table.Row.{Row}
use Rattle.vax_code.specs.Reading.{Read, ◌>>=◌, next_byte, next_number, next_signed, next_displacement, base_at, indexed_at, next_specifier, next_operand, with_count, operand_in_place, next_operands, instruction_at, row_or_bad}
use Rattle.vax_code.specs.Operands.{width_of, operand_of, is_read, is_address, is_branch, assembled}
use Rattle.vax_code.specs.Table.{slot_in, row_for}
use Rattle.vax_code.specs.Grammar.{AreOctets, SpellsNumber, SpellsSigned, specifier, SpellsPlain, SpellsOnPc, SpellsDisplaced, SpellsBase, LeavesIndex, SpellsIndexed, SpellsSpecifier, SpellsBranch, SpellsOperand, SpellsPlace, spelled, IsInstruction}
use Rattle.vax_code.proofs.Readers.{bind_ok, parts, number_exact, number_long, counted_parts, with_size}
use Rattle.vax_code.proofs.Reading.{place_reader}

-- ---- choices and values

-- by the branch that a choice took
by_test : {A P : Type 0} (test : Bool) {x y v : A} → cond test x y ≡ v → (test ≡ true → x ≡ v → P) → (test ≡ false → y ≡ v → P) → P
by_test true h on_true on_false = on_true refl h
by_test false h on_true on_false = on_false refl h

-- the parts of a value made of what was read
abbrev pub mapping : {A B : Type 0} → (A → B) → A × List ℕ → Read B
mapping g r = Ok (g r.0, r.1)

pub mapped_parts : {A B : Type 0} (read : Read A) (g : A → B) (y : B) (rest : List ℕ) → (read >>= mapping g) ≡ Ok (y, rest)
    → (x : A) × (read ≡ Ok (x, rest)) × (y ≡ g x)
mapped_parts (Ok x) g y rest h =
    let both = parts (g x.0) y x.1 rest h in (x.0, ap (λ (l : List ℕ). Ok (x.0, l)) both.1, sym both.0)
mapped_parts (Err e) g y rest h = absurd (cc)

-- ---- numbers

nothing_left : (size : ℕ) (bytes : List ℕ) → size ≤ length bytes → [] ≡ drop size bytes → length bytes ≡ size
nothing_left size bytes h k = omega (arith, length-drop size bytes, ap (λ (l : List ℕ). length l) k)

take_all : (bytes : List ℕ) (size : ℕ) → length bytes ≡ size → take size bytes ≡ bytes
take_all bytes size h = grind (arith, common_steps)

number_spelled : (size n : ℕ) (bytes : List ℕ) → next_number size bytes ≡ Ok (n, []) → SpellsNumber size n bytes
number_spelled size n bytes h =
    let long = number_long size bytes n [] h in
    let sized : length bytes ≡ size = nothing_left size bytes long.0 long.2 in
    record { sized = sized; valued = long.1 ∙ ap (λ (l : List ℕ). from_le_bytes (width_of size) l) (take_all bytes size sized) }

pub number_read : (size n : ℕ) (bytes : List ℕ) → SpellsNumber size n bytes → next_number size bytes ≡ Ok (n, [])
number_read size n bytes h = number_exact size bytes h.sized ∙ ap (λ (m : ℕ). Ok (m, [])) (sym h.valued)

signed_spelled : (size : ℕ) (by : ℤ) (bytes : List ℕ) → next_signed size bytes ≡ Ok (by, []) → SpellsSigned size by bytes
unfolding next_signed
signed_spelled size by bytes h =
    let number = mapped_parts (next_number size bytes) (cast_signed (width_of size)) by [] h in
    let spells = number_spelled size number.0 bytes number.1 in
    record { sized = spells.sized; valued = number.2 ∙ ap (cast_signed (width_of size)) spells.valued }

pub signed_read : (size : ℕ) (by : ℤ) (bytes : List ℕ) → SpellsSigned size by bytes → next_signed size bytes ≡ Ok (by, [])
unfolding next_signed
signed_read size by bytes h = rw (number_exact size bytes h.sized) (ap (λ (b : ℤ). Ok (b, [])) (sym h.valued))

-- ---- bases, as they are read

base_leaf : (found base : Base) (first : ℕ) (tail : List ℕ) → (let read : Read Base = Ok (found, tail) in read) ≡ Ok (base, [])
    → SpellsBase found (first ∷ []) → SpellsBase base (first ∷ tail)
base_leaf found base first tail h spells =
    let both = parts found base tail [] h in
    subst (λ (b : Base). SpellsBase b (first ∷ tail)) both.0 (subst (λ (l : List ℕ). SpellsBase found (first ∷ l)) (sym both.1) spells)

plain : (mode known reg : ℕ) → mode ≡ known → reg < 15 → SpellsPlain known reg (specifier mode reg ∷ [])
plain mode known reg same small = record { register = small; split = ap (λ (m : ℕ). specifier m reg ∷ []) same }

below_pc : (reg : ℕ) → reg < 16 → (reg == 15) ≡ false → reg < 15
below_pc reg small h = grind (arith, nat_tests)

by_mode : (P : ℕ → Type 0) → P 10 → P 11 → P 12 → P 13 → P 14 → P 15 → (mode : ℕ) → 9 < mode → mode < 16 → P mode
by_mode P a b c d e f mode low high =
    elim (cases_eq 10 mode) [
      | inl same ↦ subst P same a
      | inr na ↦ elim (cases_eq 11 mode) [
        | inl same ↦ subst P same b
        | inr nb ↦ elim (cases_eq 12 mode) [
          | inl same ↦ subst P same c
          | inr nc ↦ elim (cases_eq 13 mode) [
            | inl same ↦ subst P same d
            | inr nd ↦ elim (cases_eq 14 mode) [
              | inl same ↦ subst P same e
              | inr ne ↦ let same : 15 ≡ mode = omega arith in subst P same f
            ]
          ]
        ]
      ]
    ]

-- what a displacement of this mode spells
Displaces : ℕ → List ℕ → ℕ → Type 0
Displaces reg tail mode =
    (by : ℤ) → reg < 16 → SpellsSigned (cond (nat_lt mode 12) 1 (cond (nat_lt mode 14) 2 4)) by tail → SpellsBase (bases.Disp reg by (mode % 2 == 1)) (specifier mode reg ∷ tail)

displaced : (mode size reg : ℕ) (by : ℤ) (tail : List ℕ) → reg < 16 → SpellsSigned size by tail → SpellsDisplaced mode size reg by (specifier mode reg ∷ tail)
displaced mode size reg by tail small spells = record { register = small; digits = tail; split = refl; spells = spells }

displaces : (reg : ℕ) (tail : List ℕ) (mode : ℕ) → 9 < mode → mode < 16 → Displaces reg tail mode
unfolding Displaces
displaces reg tail = by_mode (Displaces reg tail)
    (λ by small s. inl (displaced 10 1 reg by tail small s))
    (λ by small s. inl (displaced 11 1 reg by tail small s))
    (λ by small s. inr (inl (displaced 12 2 reg by tail small s)))
    (λ by small s. inr (inl (displaced 13 2 reg by tail small s)))
    (λ by small s. inr (inr (displaced 14 4 reg by tail small s)))
    (λ by small s. inr (inr (displaced 15 4 reg by tail small s)))

displacement_spelled : (mode reg : ℕ) (tail : List ℕ) (base : Base) → 9 < mode → mode < 16 → reg < 16 → next_displacement mode reg tail ≡ Ok (base, [])
    → SpellsBase base (specifier mode reg ∷ tail)
unfolding next_displacement Displaces
displacement_spelled mode reg tail base low high small h =
    let size = cond (nat_lt mode 12) 1 (cond (nat_lt mode 14) 2 4) in
    let by = mapped_parts (next_signed size tail) (λ by. bases.Disp reg by (mode % 2 == 1)) base [] h in
    subst (λ (b : Base). SpellsBase b (specifier mode reg ∷ tail)) (sym by.2)
    (displaces reg tail mode low high by.0 small (signed_spelled size by.0 tail by.1))

number_leaf : (mode number : ℕ) (tail : List ℕ) (reg known size : ℕ) → mode ≡ known → reg ≡ 15 → SpellsNumber size number tail
    → SpellsOnPc known size number (specifier mode reg ∷ tail)
number_leaf mode number tail reg known size e f spells =
    record { digits = tail; split = ap (λ (m : ℕ). specifier m reg ∷ tail) e ∙ ap (λ (r : ℕ). specifier known r ∷ tail) f; spells = spells }

absolute_spelled : (mode reg : ℕ) (tail : List ℕ) (base : Base) → ((mode == 9) && (reg == 15)) ≡ true
    → (next_number 4 tail >>= mapping bases.Absolute) ≡ Ok (base, []) → SpellsBase base (specifier mode reg ∷ tail)
absolute_spelled mode reg tail base test h =
    let both = and_parts (mode == 9) (reg == 15) test in
    let number = mapped_parts (next_number 4 tail) bases.Absolute base [] h in
    subst (λ (b : Base). SpellsBase b (specifier mode reg ∷ tail)) (sym number.2)
    (number_leaf mode number.0 tail reg 9 4 (eqb-true mode 9 both.0) (eqb-true reg 15 both.1) (number_spelled 4 number.0 tail number.1))

plain_spelled : (mode reg : ℕ) (tail : List ℕ) (base : Base) → 5 < mode → mode < 10 → reg < 15
    → cond (mode == 6) (Ok (bases.Deferred reg, tail)) (cond (mode == 7) (Ok (bases.AutoDec reg, tail))
    (cond (mode == 8) (Ok (bases.AutoInc reg, tail)) (Ok (bases.AutoIncDef reg, tail)))) ≡ (let read : Read Base = Ok (base, []) in read)
    → SpellsBase base (specifier mode reg ∷ tail)
plain_spelled mode reg tail base low high small h =
    by_test (mode == 6) h
    (λ six k. base_leaf (bases.Deferred reg) base (specifier mode reg) tail k (plain mode 6 reg (eqb-true mode 6 six) small))
    (λ not_six k. by_test (mode == 7) k
    (λ seven k. base_leaf (bases.AutoDec reg) base (specifier mode reg) tail k (plain mode 7 reg (eqb-true mode 7 seven) small))
    (λ not_seven k. by_test (mode == 8) k
    (λ eight k. base_leaf (bases.AutoInc reg) base (specifier mode reg) tail k (plain mode 8 reg (eqb-true mode 8 eight) small))
    (λ not_eight k. let nine : mode ≡ 9 = grind (arith, nat_tests) in
    base_leaf (bases.AutoIncDef reg) base (specifier mode reg) tail k (plain mode 9 reg nine small))))

base_spelled : (mode reg : ℕ) (tail : List ℕ) (base : Base) → mode < 16 → reg < 16 → base_at mode reg tail ≡ Ok (base, [])
    → SpellsBase base (specifier mode reg ∷ tail)
unfolding base_at
base_spelled mode reg tail base high small h =
    by_test (nat_lt mode 6) h
    (λ below k. absurd (cc))
    (λ six k. by_test (nat_lt 9 mode) k
    (λ ten k. displacement_spelled mode reg tail base (ltb-true 9 mode ten) high small k)
    (λ below_ten k. by_test ((mode == 9) && (reg == 15)) k
    (λ absolute k. absolute_spelled mode reg tail base absolute k)
    (λ plain k. by_test (reg == 15) k
    (λ pc k. absurd (cc))
    (λ not_pc k. plain_spelled mode reg tail base (ltb-false mode 6 six) (let low : mode ≤ 9 = ltb-false 9 mode below_ten in omega arith) (below_pc reg small not_pc) k))))

-- ---- an index and its base, as they are read

pub halves : (byte : ℕ) → specifier (byte / 16) (byte % 16) ≡ byte
halves byte = omega arith

pub high_half : (mode reg : ℕ) → reg < 16 → specifier mode reg / 16 ≡ mode
high_half mode reg h = omega arith

pub low_half : (mode reg : ℕ) → reg < 16 → specifier mode reg % 16 ≡ reg
low_half mode reg h = omega arith

-- the test that refuses a base on the index register
unfoldable pub changes : ℕ → ℕ → ℕ → Bool
changes index mode reg = nat_lt 6 mode && nat_lt mode 10 && (reg == index)

changed : (index mode known reg named : ℕ) → changes index mode reg ≡ false → 6 < known → known < 10 → mode ≡ known → reg ≡ named → named ≢ index
unfolding changes
changed index mode known reg named h low high e f same = grind (arith, nat_tests)

byte_modes : (mode reg known named : ℕ) (tail rest : List ℕ) → reg < 16 → named < 15 → specifier mode reg ∷ tail ≡ specifier known named ∷ rest
    → (mode ≡ known) × (reg ≡ named)
byte_modes mode reg known named tail rest small below h = let e : specifier mode reg ≡ specifier known named = cc in (omega arith, omega arith)

leaves_index : (index mode reg : ℕ) (tail : List ℕ) (base : Base) → reg < 16 → changes index mode reg ≡ false
    → SpellsBase base (specifier mode reg ∷ tail) → LeavesIndex index base
leaves_index index mode reg tail (bases.Deferred r) small h s = tt
leaves_index index mode reg tail (bases.AutoDec r) small h s =
    let e = byte_modes mode reg 7 r tail [] small s.register s.split in changed index mode 7 reg r h (omega arith) (omega arith) e.0 e.1
leaves_index index mode reg tail (bases.AutoInc r) small h s =
    let e = byte_modes mode reg 8 r tail [] small s.register s.split in changed index mode 8 reg r h (omega arith) (omega arith) e.0 e.1
leaves_index index mode reg tail (bases.AutoIncDef r) small h s =
    let e = byte_modes mode reg 9 r tail [] small s.register s.split in changed index mode 9 reg r h (omega arith) (omega arith) e.0 e.1
leaves_index index mode reg tail (bases.Absolute address) small h s = tt
leaves_index index mode reg tail (bases.Disp r by deferred) small h s = tt

index_rest : (index byte : ℕ) (tail : List ℕ) (operand : Operand) → index < 15 → byte < 256 → changes index (byte / 16) (byte % 16) ≡ false
    → (base_at (byte / 16) (byte % 16) tail >>= mapping (operands.Indexed index)) ≡ Ok (operand, [])
    → (base : Base) × (operand ≡ operands.Indexed index base) × SpellsIndexed index base (specifier 4 index ∷ (byte ∷ tail))
index_rest index byte tail operand small octet test h =
    let base = mapped_parts (base_at (byte / 16) (byte % 16) tail) (operands.Indexed index) operand [] h in
    let spells = base_spelled (byte / 16) (byte % 16) tail base.0 (omega arith) (omega arith) base.1 in (
      base.0,
      base.2,
      record {
        register = small;
        other = leaves_index index (byte / 16) (byte % 16) tail base.0 (omega arith) test spells;
        rest = byte ∷ tail;
        split = refl;
        spells = subst (λ (b : ℕ). SpellsBase base.0 (b ∷ tail)) (halves byte) spells;
      },
    )

indexed_spelled : (index : ℕ) (tail : List ℕ) (operand : Operand) → index < 15 → AreOctets tail → indexed_at index tail ≡ Ok (operand, [])
    → (base : Base) × (operand ≡ operands.Indexed index base) × SpellsIndexed index base (specifier 4 index ∷ tail)
unfolding indexed_at next_byte changes
indexed_spelled index [] operand small octets h = absurd (cc)
indexed_spelled index (byte ∷ tail) operand small octets h =
    by_test (nat_lt 6 (byte / 16) && nat_lt (byte / 16) 10 && (byte % 16 == index)) h
    (λ test k. absurd (cc))
    (λ test k. index_rest index byte tail operand small octets.0 test k)

-- ---- specifiers, as they are read

operand_leaf : (slot : Slot) (found operand : Operand) (first : ℕ) (tail : List ℕ)
    → (let read : Read Operand = Ok (found, tail) in read) ≡ Ok (operand, []) → SpellsSpecifier slot found (first ∷ [])
    → SpellsSpecifier slot operand (first ∷ tail)
operand_leaf slot found operand first tail h spells =
    let both = parts found operand tail [] h in
    subst (λ (o : Operand). SpellsSpecifier slot o (first ∷ tail)) both.0 (subst (λ (l : List ℕ). SpellsSpecifier slot found (first ∷ l)) (sym both.1) spells)

index_leaf : (slot : Slot) (mode reg : ℕ) (tail : List ℕ) (operand : Operand) (base : Base) → mode ≡ 4 → operand ≡ operands.Indexed reg base
    → SpellsIndexed reg base (specifier 4 reg ∷ tail) → SpellsSpecifier slot operand (specifier mode reg ∷ tail)
index_leaf slot mode reg tail operand base e f spells =
    subst (λ (o : Operand). SpellsSpecifier slot o (specifier mode reg ∷ tail)) (sym f)
    (subst (λ (m : ℕ). SpellsIndexed reg base (specifier m reg ∷ tail)) (sym e) spells)

pub not_true : (a : Bool) → a ≡ false → IsTrue (not a)
not_true true h = absurd (cc)
not_true false h = refl

immediate_spelled : (slot : Slot) (mode reg : ℕ) (tail : List ℕ) (operand : Operand) → ((mode == 8) && (reg == 15)) ≡ true
    → is_read slot.access ≡ true → (next_number slot.size tail >>= mapping operands.Immediate) ≡ Ok (operand, [])
    → SpellsSpecifier slot operand (specifier mode reg ∷ tail)
immediate_spelled slot mode reg tail operand test reads h =
    let both = and_parts (mode == 8) (reg == 15) test in
    let number = mapped_parts (next_number slot.size tail) operands.Immediate operand [] h in
    subst (λ (o : Operand). SpellsSpecifier slot o (specifier mode reg ∷ tail)) (sym number.2)
    (reads, number_leaf mode number.0 tail reg 8 slot.size (eqb-true mode 8 both.0) (eqb-true reg 15 both.1) (number_spelled slot.size number.0 tail number.1))

pub of_base : (slot : Slot) (base : Base) (bytes : List ℕ) → SpellsBase base bytes → SpellsSpecifier slot (operand_of base) bytes
of_base slot (bases.Deferred reg) bytes h = h
of_base slot (bases.AutoDec reg) bytes h = h
of_base slot (bases.AutoInc reg) bytes h = h
of_base slot (bases.AutoIncDef reg) bytes h = h
of_base slot (bases.Absolute address) bytes h = h
of_base slot (bases.Disp reg by deferred) bytes h = h

specifier_spelled : (slot : Slot) (mode reg : ℕ) (tail : List ℕ) (operand : Operand) → mode < 16 → reg < 16 → AreOctets tail
    → next_specifier slot mode reg tail ≡ Ok (operand, []) → SpellsSpecifier slot operand (specifier mode reg ∷ tail)
unfolding next_specifier
specifier_spelled slot mode reg tail operand high small octets h =
    by_test (nat_lt mode 4) h
    (λ literal k. by_test (is_read slot.access) k
    (λ reads k. operand_leaf slot (operands.Literal (16 * mode + reg)) operand (specifier mode reg) tail k
    (reads, (let low : mode < 4 = ltb-true mode 4 literal in omega arith), refl))
    (λ refused k. absurd (cc)))
    (λ four k. by_test (mode == 4) k
    (λ is_four k. by_test (reg == 15) k
    (λ pc k. absurd (cc))
    (λ not_pc k.
    let index = indexed_spelled reg tail operand (below_pc reg small not_pc) octets k in
    index_leaf slot mode reg tail operand index.0 (eqb-true mode 4 is_four) index.1 index.2))
    (λ not_four k. by_test (mode == 5) k
    (λ is_five k. by_test ((reg == 15) || is_address slot.access) k
    (λ refused k. absurd (cc))
    (λ test k.
    let both = or_parts (reg == 15) (is_address slot.access) test in
    operand_leaf slot (operands.Register reg) operand (specifier mode reg) tail k
    (not_true (is_address slot.access) both.1, plain mode 5 reg (eqb-true mode 5 is_five) (below_pc reg small both.0))))
    (λ not_five k. by_test ((mode == 8) && (reg == 15)) k
    (λ immediate k. by_test (is_read slot.access) k
    (λ reads k. immediate_spelled slot mode reg tail operand immediate reads k)
    (λ refused k. absurd (cc)))
    (λ other k.
    let base = mapped_parts (base_at mode reg tail) operand_of operand [] k in
    subst (λ (o : Operand). SpellsSpecifier slot o (specifier mode reg ∷ tail)) (sym base.2)
    (of_base slot base.0 (specifier mode reg ∷ tail) (base_spelled mode reg tail base.0 high small base.1))))))

with_specifier : (slot : Slot) (byte : ℕ) (tail : List ℕ) (operand : Operand) → byte < 256 → AreOctets tail
    → next_specifier slot (byte / 16) (byte % 16) tail ≡ Ok (operand, []) → SpellsSpecifier slot operand (byte ∷ tail)
with_specifier slot byte tail operand octet octets h =
    subst (λ (b : ℕ). SpellsSpecifier slot operand (b ∷ tail)) (halves byte)
    (specifier_spelled slot (byte / 16) (byte % 16) tail operand (omega arith) (omega arith) octets h)

-- ---- operands and places, as they are read

branch_spelled : (slot : Slot) (bytes : List ℕ) (operand : Operand) → (next_signed slot.size bytes >>= mapping operands.Branch) ≡ Ok (operand, [])
    → SpellsBranch slot operand bytes
branch_spelled slot bytes operand h =
    let by = mapped_parts (next_signed slot.size bytes) operands.Branch operand [] h in
    subst (λ (o : Operand). SpellsBranch slot o bytes) (sym by.2) (signed_spelled slot.size by.0 bytes by.1)

specified : (slot : Slot) (bytes : List ℕ) (operand : Operand) → AreOctets bytes
    → (next_byte bytes >>= λ first. next_specifier slot (first.0 / 16) (first.0 % 16) first.1) ≡ Ok (operand, []) → SpellsSpecifier slot operand bytes
unfolding next_byte
specified slot [] operand octets h = absurd (cc)
specified slot (byte ∷ tail) operand octets h = with_specifier slot byte tail operand octets.0 octets.1 h

operand_spelled : (slot : Slot) (bytes : List ℕ) (operand : Operand) → AreOctets bytes → next_operand slot bytes ≡ Ok (operand, [])
    → SpellsOperand (is_branch slot.access) slot operand bytes
unfolding next_operand
operand_spelled slot bytes operand octets h =
    by_test (is_branch slot.access) h
    (λ is k. subst (λ (b : Bool). SpellsOperand b slot operand bytes) (sym is) (branch_spelled slot bytes operand k))
    (λ is k. subst (λ (b : Bool). SpellsOperand b slot operand bytes) (sym is) (specified slot bytes operand octets k))

-- what a place of the row spells
record Placed (row : Row) (place : ℕ) (found : Spelled) (bytes : List ℕ) : Type 0 where
  pub operand : Operand
  pub sized : found ≡ spelled operand bytes
  pub spells : SpellsPlace (nat_lt place row.count) (slot_in row place) operand bytes

module _ (row : Row) (place : ℕ) (bytes : List ℕ) (found : Spelled) where
  counted_place : AreOctets bytes → nat_lt place row.count ≡ true
      → with_count (next_operand (slot_in row place)) bytes ≡ Ok (found, []) → Placed row place found bytes
  counted_place octets is h =
      let slot = slot_in row place in
      let read = counted_parts (next_operand slot) bytes found [] h in
      let none : List ℕ = [] in
      let size : length bytes - length none ≡ length bytes = omega arith in
      record {
        operand = read.0;
        sized = read.2 ∙ ap (λ (n : ℕ). with_size read.0 n) size;
        spells = subst (λ (b : Bool). SpellsPlace b slot read.0 bytes) (sym is) (operand_spelled slot bytes read.0 octets read.1);
      }

  empty_place : nat_lt place row.count ≡ false
      → (let read : Read Spelled = Ok (record { operand = operands.Literal 0; size = 0 }, bytes) in read) ≡ Ok (found, []) → Placed row place found bytes
  empty_place is h =
      let both = parts (record { operand = operands.Literal 0; size = 0 }) found bytes [] h in
      record {
        operand = operands.Literal 0;
        sized = sym both.0 ∙ ap (λ (l : List ℕ). spelled (operands.Literal 0) l) (sym both.1);
        spells = subst (λ (b : Bool). SpellsPlace b (slot_in row place) (operands.Literal 0) bytes) (sym is) (refl, both.1);
      }

  place_spelled : AreOctets bytes → operand_in_place row place bytes ≡ Ok (found, []) → Placed row place found bytes
  unfolding operand_in_place
  place_spelled octets h =
      by_test (nat_lt place row.count) h
      (λ is k. counted_place octets is k)
      (λ is k. empty_place is k)

-- the same of a front
record Fronted (row : Row) (place : ℕ) (found : Spelled) (bytes rest : List ℕ) : Type 0 where
  pub front : List ℕ
  pub split : bytes ≡ front ++ rest
  pub octets : AreOctets rest
  pub placed : Placed row place found front

pub octets_front : (xs ys : List ℕ) → AreOctets (xs ++ ys) → AreOctets xs
octets_front [] ys h = tt
octets_front (x ∷ xs) ys h = (h.0, octets_front xs ys h.1)

pub octets_rest : (xs ys : List ℕ) → AreOctets (xs ++ ys) → AreOctets ys
octets_rest [] ys h = h
octets_rest (x ∷ xs) ys h = octets_rest xs ys h.1

front_spelled : (row : Row) (place : ℕ) (bytes rest : List ℕ) (found : Spelled) → AreOctets bytes → operand_in_place row place bytes ≡ Ok (found, rest)
    → Fronted row place found bytes rest
front_spelled row place bytes rest found octets h =
    let front = (place_reader row place).fronts bytes found rest h in
    let both = subst (λ (l : List ℕ). AreOctets l) front.1 octets in
    record {
      front = front.0;
      split = front.1;
      octets = octets_rest front.0 rest both;
      placed = place_spelled row place front.0 found (octets_front front.0 rest both) front.2;
    }

-- ---- instructions, as they are read

whole : (op : ℕ) (row : Row) (a b c : Spelled) (bytes after_a after_b : List ℕ) (instr : Instr) → row_for op ≡ Some row
    → Fronted row 0 a bytes after_a → Fronted row 1 b after_a after_b → Placed row 2 c after_b → instr ≡ assembled op row a b c
    → IsInstruction (op ∷ bytes) instr
whole op row a b c bytes after_a after_b instr listed one two three made = record {
  op = op;
  row = row;
  first = one.placed.operand;
  second = two.placed.operand;
  third = three.operand;
  one = one.front;
  two = two.front;
  three = after_b;
  split = ap (λ (l : List ℕ). op ∷ l) (one.split ∙ ap (λ (l : List ℕ). one.front ++ l) two.split);
  listed = listed;
  spells_first = one.placed.spells;
  spells_second = two.placed.spells;
  spells_third = three.spells;
  made = made ∙ ap (λ (x : Spelled). assembled op row x b c) one.placed.sized
      ∙ ap (λ (x : Spelled). assembled op row (spelled one.placed.operand one.front) x c) two.placed.sized
      ∙ ap (λ (x : Spelled). assembled op row (spelled one.placed.operand one.front) (spelled two.placed.operand two.front) x) three.sized;
}

abbrev last_at : ℕ → Row → Spelled → Spelled × List ℕ → Read Instr
last_at op row a b = operand_in_place row 2 b.1 >>= mapping (λ c. assembled op row a b.0 c)

abbrev later_at : ℕ → Row → Spelled × List ℕ → Read Instr
later_at op row a = operand_in_place row 1 a.1 >>= last_at op row a.0

operands_spelled : (op : ℕ) (row : Row) (bytes : List ℕ) (instr : Instr) → row_for op ≡ Some row → AreOctets bytes
    → next_operands op row bytes ≡ Ok (instr, []) → IsInstruction (op ∷ bytes) instr
unfolding next_operands
operands_spelled op row bytes instr listed octets h =
    let a = bind_ok (operand_in_place row 0 bytes) (later_at op row) (instr, []) h in
    let one = front_spelled row 0 bytes a.0.1 a.0.0 octets a.1 in
    let b = bind_ok (operand_in_place row 1 a.0.1) (last_at op row a.0.0) (instr, []) a.2 in
    let two = front_spelled row 1 a.0.1 b.0.1 b.0.0 one.octets b.1 in
    let c = mapped_parts (operand_in_place row 2 b.0.1) (λ c. assembled op row a.0.0 b.0.0 c) instr [] b.2 in
    let three = place_spelled row 2 b.0.1 c.0 two.octets c.1 in
    whole op row a.0.0 b.0.0 c.0 bytes a.0.1 b.0.1 instr listed one two three c.2

listed_spelled : (op : ℕ) (found : Option Row) (bytes : List ℕ) (instr : Instr) → row_for op ≡ found → AreOctets bytes
    → (row_or_bad found >>= λ row. next_operands op row bytes) ≡ Ok (instr, []) → IsInstruction (op ∷ bytes) instr
listed_spelled op None bytes instr listed octets h = absurd (cc)
listed_spelled op (Some row) bytes instr listed octets h = operands_spelled op row bytes instr listed octets h

pub instruction_spelled : (bytes : List ℕ) (instr : Instr) → AreOctets bytes → instruction_at bytes ≡ Ok (instr, []) → IsInstruction bytes instr
unfolding instruction_at next_byte
instruction_spelled [] instr octets h = absurd (cc)
instruction_spelled (op ∷ bytes) instr octets h = listed_spelled op (row_for op) bytes instr refl octets.1 h
