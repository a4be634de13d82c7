-- What some bytes spell is read from them.
use Rattle.std.proofs.Common.{◌≡◌, ◌∙◌, ℕ, ◌+◌, ◌-◌, ◌*◌, ◌/◌, ◌%◌, ◌<◌, Bool, true, false, not, cond, List, [], ◌∷◌, ◌++◌, length, Ok, refl, ap, sym, arith, nat_lt, ◌&&◌, IsTrue, inl, inr, ℤ}
use Rattle.std.specs.Prelude.{◌==◌}
use Rattle.std.proofs.lemmas.Bool.{ne_eqb, lt-ltb, le-ltb, and_left, not-true}
use Rattle.std.proofs.lemmas.Bool.Decides.{nat_tests}
use Rattle.vax_code.specs.Operands.{Spelled}
use Rattle.vax_code.specs.declared.instr.Instr.{Instr}
use Rattle.vax_code.specs.declared.instr.Operand.{Operand}
use Rattle.vax_code.specs.declared.instr.Operand.TheVariants as operands
use Rattle.vax_code.specs.declared.instr.Base.{Base}
use Rattle.vax_code.specs.declared.instr.Base.TheVariants as bases
use Rattle.vax_code.specs.declared.table.Slot.{Slot}
use Rattle.vax_code.specs.declared.table.Row.{Row}
use Rattle.vax_code.specs.Reading.{Read, ◌>>=◌, next_byte, next_signed, next_displacement, base_at, indexed_at, next_specifier, next_operand, with_count, operand_in_place, next_operands, instruction_at}
use Rattle.vax_code.specs.Operands.{operand_of, is_read, is_address, is_branch}
use Rattle.vax_code.specs.Table.{slot_in}
use Rattle.vax_code.specs.Grammar.{SpellsNumber, SpellsSigned, specifier, SpellsDisplaced, SpellsBase, LeavesIndex, SpellsSpecifier, SpellsBranch, SpellsOperand, SpellsPlace, spelled, IsInstruction}
use Rattle.vax_code.proofs.Readers.{counted_ok, with_size}
use Rattle.vax_code.proofs.Reading.{place_reader}
use Rattle.vax_code.proofs.Spelling.{mapping, number_read, signed_read, high_half, low_half, changes}

-- ---- bases

-- the first byte of a base that some bytes spell, and what is read after it
record BaseBegun (base : Base) (bytes : List ℕ) : Type 0 where
  pub mode : ℕ
  pub reg : ℕ
  pub rest : List ℕ
  pub register : reg < 16
  pub split : bytes ≡ specifier mode reg ∷ rest
  pub above : 5 < mode
  pub not_immediate : ((mode == 8) && (reg == 15)) ≡ false
  pub free : (index : ℕ) → index < 15 → LeavesIndex index base → changes index mode reg ≡ false
  pub reads : base_at mode reg rest ≡ Ok (base, [])

pub not_pc : (reg : ℕ) → reg < 15 → (reg == 15) ≡ false
not_pc reg h = grind (arith, nat_tests)

pc_free : (index : ℕ) → index < 15 → (15 == index) ≡ false
pc_free index h = grind (arith, nat_tests)

plain_6 : (reg : ℕ) → reg < 15 → base_at 6 reg [] ≡ Ok (bases.Deferred reg, [])
unfolding base_at
plain_6 reg h = rw (not_pc reg h) refl

plain_7 : (reg : ℕ) → reg < 15 → base_at 7 reg [] ≡ Ok (bases.AutoDec reg, [])
unfolding base_at
plain_7 reg h = rw (not_pc reg h) refl

plain_8 : (reg : ℕ) → reg < 15 → base_at 8 reg [] ≡ Ok (bases.AutoInc reg, [])
unfolding base_at
plain_8 reg h = rw (not_pc reg h) refl

plain_9 : (reg : ℕ) → reg < 15 → base_at 9 reg [] ≡ Ok (bases.AutoIncDef reg, [])
unfolding base_at
plain_9 reg h = rw (not_pc reg h) refl

absolute_9 : (address : ℕ) (digits : List ℕ) → SpellsNumber 4 address digits → base_at 9 15 digits ≡ Ok (bases.Absolute address, [])
unfolding base_at
absolute_9 address digits h = rw (number_read 4 address digits h) refl

displaced_read : (mode size reg : ℕ) (by : ℤ) (digits : List ℕ) → cond (nat_lt mode 12) 1 (cond (nat_lt mode 14) 2 4) ≡ size
    → SpellsSigned size by digits → next_displacement mode reg digits ≡ Ok (bases.Disp reg by (mode % 2 == 1), [])
unfolding next_displacement
displaced_read mode size reg by digits e h = rw (e, signed_read size by digits h) refl

displaced_base : (mode reg : ℕ) (digits : List ℕ) → 9 < mode → base_at mode reg digits ≡ next_displacement mode reg digits
unfolding base_at
displaced_base mode reg digits h = rw (le-ltb mode 6 (omega arith), lt-ltb 9 mode h) refl

displaced_free : (index mode reg : ℕ) → 9 < mode → changes index mode reg ≡ false
unfolding changes
displaced_free index mode reg h = grind (arith, nat_tests)

above_8 : (mode : ℕ) → 9 < mode → (mode == 8) ≡ false
above_8 mode h = grind (arith, nat_tests)

displaced_begun : (mode size reg : ℕ) (by : ℤ) (bytes : List ℕ) → 9 < mode → cond (nat_lt mode 12) 1 (cond (nat_lt mode 14) 2 4) ≡ size
    → SpellsDisplaced mode size reg by bytes → BaseBegun (bases.Disp reg by (mode % 2 == 1)) bytes
displaced_begun mode size reg by bytes high e h = record {
  mode = mode;
  reg = reg;
  rest = h.digits;
  register = h.register;
  split = h.split;
  above = omega arith;
  not_immediate = and_left (mode == 8) (reg == 15) (above_8 mode high);
  free = λ index small leaves. displaced_free index mode reg high;
  reads = displaced_base mode reg h.digits high ∙ displaced_read mode size reg by h.digits e h.spells;
}

base_begun : (base : Base) (bytes : List ℕ) → SpellsBase base bytes → BaseBegun base bytes
unfolding changes
base_begun (bases.Deferred reg) bytes h = record {
  mode = 6;
  reg = reg;
  rest = [];
  register = let small : reg < 15 = h.register in omega arith;
  split = h.split;
  above = omega arith;
  not_immediate = refl;
  free = λ index small leaves. refl;
  reads = plain_6 reg h.register;
}
base_begun (bases.AutoDec reg) bytes h = record {
  mode = 7;
  reg = reg;
  rest = [];
  register = let small : reg < 15 = h.register in omega arith;
  split = h.split;
  above = omega arith;
  not_immediate = refl;
  free = λ index small leaves. ne_eqb reg index leaves;
  reads = plain_7 reg h.register;
}
base_begun (bases.AutoInc reg) bytes h = record {
  mode = 8;
  reg = reg;
  rest = [];
  register = let small : reg < 15 = h.register in omega arith;
  split = h.split;
  above = omega arith;
  not_immediate = not_pc reg h.register;
  free = λ index small leaves. ne_eqb reg index leaves;
  reads = plain_8 reg h.register;
}
base_begun (bases.AutoIncDef reg) bytes h = record {
  mode = 9;
  reg = reg;
  rest = [];
  register = let small : reg < 15 = h.register in omega arith;
  split = h.split;
  above = omega arith;
  not_immediate = refl;
  free = λ index small leaves. ne_eqb reg index leaves;
  reads = plain_9 reg h.register;
}
base_begun (bases.Absolute address) bytes h = record {
  mode = 9;
  reg = 15;
  rest = h.digits;
  register = omega arith;
  split = h.split;
  above = omega arith;
  not_immediate = refl;
  free = λ index small leaves. pc_free index small;
  reads = absolute_9 address h.digits h.spells;
}
base_begun (bases.Disp reg by false) bytes (inl h) = displaced_begun 10 1 reg by bytes (omega arith) refl h
base_begun (bases.Disp reg by false) bytes (inr (inl h)) = displaced_begun 12 2 reg by bytes (omega arith) refl h
base_begun (bases.Disp reg by false) bytes (inr (inr h)) = displaced_begun 14 4 reg by bytes (omega arith) refl h
base_begun (bases.Disp reg by true) bytes (inl h) = displaced_begun 11 1 reg by bytes (omega arith) refl h
base_begun (bases.Disp reg by true) bytes (inr (inl h)) = displaced_begun 13 2 reg by bytes (omega arith) refl h
base_begun (bases.Disp reg by true) bytes (inr (inr h)) = displaced_begun 15 4 reg by bytes (omega arith) refl h

-- ---- specifiers

indexed_read : (index : ℕ) (base : Base) (bytes : List ℕ) → index < 15 → LeavesIndex index base → SpellsBase base bytes
    → indexed_at index bytes ≡ Ok (operands.Indexed index base, [])
unfolding indexed_at next_byte changes
indexed_read index base bytes small leaves h =
    let b = base_begun base bytes h in
    rw (b.split, high_half b.mode b.reg b.register, low_half b.mode b.reg b.register, b.free index small leaves, b.reads) refl

-- the first byte of an operand that some bytes spell, and what is read after it
record SpecifierBegun (slot : Slot) (operand : Operand) (bytes : List ℕ) : Type 0 where
  pub mode : ℕ
  pub reg : ℕ
  pub rest : List ℕ
  pub register : reg < 16
  pub split : bytes ≡ specifier mode reg ∷ rest
  pub reads : next_specifier slot mode reg rest ≡ Ok (operand, [])

isnt : (mode other : ℕ) → other < mode → (mode == other) ≡ false
isnt mode other h = grind (arith, nat_tests)

base_specifier : (slot : Slot) (mode reg : ℕ) (rest : List ℕ) → 5 < mode → ((mode == 8) && (reg == 15)) ≡ false
    → next_specifier slot mode reg rest ≡ (base_at mode reg rest >>= mapping operand_of)
unfolding next_specifier
base_specifier slot mode reg rest high h =
    rw (le-ltb mode 4 (omega arith), isnt mode 4 (omega arith), isnt mode 5 (omega arith), h) refl

base_begins : (slot : Slot) (base : Base) (bytes : List ℕ) → SpellsBase base bytes → SpecifierBegun slot (operand_of base) bytes
base_begins slot base bytes h =
    let b = base_begun base bytes h in
    record {
      mode = b.mode;
      reg = b.reg;
      rest = b.rest;
      register = b.register;
      split = b.split;
      reads = base_specifier slot b.mode b.reg b.rest b.above b.not_immediate ∙ ap (λ (r : Read Base). r >>= mapping operand_of) b.reads;
    }

literal_read : (slot : Slot) (value : ℕ) → is_read slot.access ≡ true → value < 64
    → next_specifier slot (value / 16) (value % 16) [] ≡ Ok (operands.Literal value, [])
unfolding next_specifier
literal_read slot value reads small =
    let low : value / 16 < 4 = omega arith in
    let same : 16 * (value / 16) + value % 16 ≡ value = omega arith in
    rw (lt-ltb (value / 16) 4 low, reads, same) refl

register_read : (slot : Slot) (reg : ℕ) → IsTrue (not (is_address slot.access)) → reg < 15 → next_specifier slot 5 reg [] ≡ Ok (operands.Register reg, [])
unfolding next_specifier
register_read slot reg value small = rw (not_pc reg small, not-true (is_address slot.access) value) refl

immediate_read : (slot : Slot) (number : ℕ) (digits : List ℕ) → is_read slot.access ≡ true → SpellsNumber slot.size number digits
    → next_specifier slot 8 15 digits ≡ Ok (operands.Immediate number, [])
unfolding next_specifier
immediate_read slot number digits reads h = rw (reads, number_read slot.size number digits h) refl

mode_4_read : (slot : Slot) (index : ℕ) (base : Base) (rest : List ℕ) → index < 15 → LeavesIndex index base → SpellsBase base rest
    → next_specifier slot 4 index rest ≡ Ok (operands.Indexed index base, [])
unfolding next_specifier
mode_4_read slot index base rest small leaves h = rw (not_pc index small) (indexed_read index base rest small leaves h)

specifier_begun : (slot : Slot) (operand : Operand) (bytes : List ℕ) → SpellsSpecifier slot operand bytes → SpecifierBegun slot operand bytes
specifier_begun slot (operands.Literal value) bytes h = record {
  mode = value / 16;
  reg = value % 16;
  rest = [];
  register = omega arith;
  split = let same : value ≡ specifier (value / 16) (value % 16) = omega arith in h.2 ∙ ap (λ (n : ℕ). n ∷ []) same;
  reads = literal_read slot value h.0 h.1;
}
specifier_begun slot (operands.Register reg) bytes h = record {
  mode = 5;
  reg = reg;
  rest = [];
  register = let small : reg < 15 = h.1.register in omega arith;
  split = h.1.split;
  reads = register_read slot reg h.0 h.1.register;
}
specifier_begun slot (operands.Deferred reg) bytes h = base_begins slot (bases.Deferred reg) bytes h
specifier_begun slot (operands.AutoDec reg) bytes h = base_begins slot (bases.AutoDec reg) bytes h
specifier_begun slot (operands.AutoInc reg) bytes h = base_begins slot (bases.AutoInc reg) bytes h
specifier_begun slot (operands.AutoIncDef reg) bytes h = base_begins slot (bases.AutoIncDef reg) bytes h
specifier_begun slot (operands.Immediate number) bytes h = record {
  mode = 8;
  reg = 15;
  rest = h.1.digits;
  register = omega arith;
  split = h.1.split;
  reads = immediate_read slot number h.1.digits h.0 h.1.spells;
}
specifier_begun slot (operands.Absolute address) bytes h = base_begins slot (bases.Absolute address) bytes h
specifier_begun slot (operands.Disp reg by deferred) bytes h = base_begins slot (bases.Disp reg by deferred) bytes h
specifier_begun slot (operands.Indexed index base) bytes h = record {
  mode = 4;
  reg = index;
  rest = h.rest;
  register = let small : index < 15 = h.register in omega arith;
  split = h.split;
  reads = mode_4_read slot index base h.rest h.register h.other h.spells;
}
specifier_begun slot (operands.Branch by) bytes h = absurd h

-- ---- operands and places

branch_read : (slot : Slot) (operand : Operand) (bytes : List ℕ) → SpellsBranch slot operand bytes
    → (next_signed slot.size bytes >>= mapping operands.Branch) ≡ Ok (operand, [])
branch_read slot (operands.Branch by) bytes h = ap (λ (r : Read ℤ). r >>= mapping operands.Branch) (signed_read slot.size by bytes h)
branch_read slot (operands.Literal value) bytes h = absurd h
branch_read slot (operands.Register reg) bytes h = absurd h
branch_read slot (operands.Deferred reg) bytes h = absurd h
branch_read slot (operands.AutoDec reg) bytes h = absurd h
branch_read slot (operands.AutoInc reg) bytes h = absurd h
branch_read slot (operands.AutoIncDef reg) bytes h = absurd h
branch_read slot (operands.Immediate number) bytes h = absurd h
branch_read slot (operands.Absolute address) bytes h = absurd h
branch_read slot (operands.Disp reg by deferred) bytes h = absurd h
branch_read slot (operands.Indexed index base) bytes h = absurd h

specifier_read : (slot : Slot) (operand : Operand) (bytes : List ℕ) → SpellsSpecifier slot operand bytes
    → (next_byte bytes >>= λ first. next_specifier slot (first.0 / 16) (first.0 % 16) first.1) ≡ Ok (operand, [])
unfolding next_byte
specifier_read slot operand bytes h =
    let s = specifier_begun slot operand bytes h in
    rw (s.split, high_half s.mode s.reg s.register, low_half s.mode s.reg s.register) s.reads

either_read : (branch : Bool) (slot : Slot) (operand : Operand) (bytes : List ℕ) → SpellsOperand branch slot operand bytes
    → cond branch (next_signed slot.size bytes >>= mapping operands.Branch)
    (next_byte bytes >>= λ first. next_specifier slot (first.0 / 16) (first.0 % 16) first.1)
    ≡ Ok (operand, [])
either_read true slot operand bytes h = branch_read slot operand bytes h
either_read false slot operand bytes h = specifier_read slot operand bytes h

operand_read : (slot : Slot) (operand : Operand) (bytes : List ℕ) → SpellsOperand (is_branch slot.access) slot operand bytes
    → next_operand slot bytes ≡ Ok (operand, [])
unfolding next_operand
operand_read slot operand bytes h = either_read (is_branch slot.access) slot operand bytes h

counted_read : (slot : Slot) (operand : Operand) (bytes : List ℕ) → SpellsOperand (is_branch slot.access) slot operand bytes
    → with_count (next_operand slot) bytes ≡ Ok (spelled operand bytes, [])
counted_read slot operand bytes h =
    let none : List ℕ = [] in
    let size : length bytes - length none ≡ length bytes = omega arith in
    counted_ok (next_operand slot) bytes operand [] (operand_read slot operand bytes h) ∙ ap (λ (n : ℕ). Ok (with_size operand n, [])) size

filled_read : (operand : Operand) (bytes : List ℕ) → operand ≡ operands.Literal 0 → bytes ≡ []
    → (let read : Read Spelled = Ok (record { operand = operands.Literal 0; size = 0 }, bytes) in read) ≡ Ok (spelled operand bytes, [])
filled_read operand bytes e f = rw (e, f) refl

present_read : (present : Bool) (slot : Slot) (operand : Operand) (bytes : List ℕ) → SpellsPlace present slot operand bytes
    → cond present (with_count (next_operand slot) bytes) (Ok (record { operand = operands.Literal 0; size = 0 }, bytes)) ≡ Ok (spelled operand bytes, [])
present_read true slot operand bytes h = counted_read slot operand bytes h
present_read false slot operand bytes h = filled_read operand bytes h.0 h.1

place_read : (row : Row) (place : ℕ) (operand : Operand) (bytes : List ℕ) → SpellsPlace (nat_lt place row.count) (slot_in row place) operand bytes
    → operand_in_place row place bytes ≡ Ok (spelled operand bytes, [])
unfolding operand_in_place
place_read row place operand bytes h = present_read (nat_lt place row.count) (slot_in row place) operand bytes h

-- ---- instructions

front_read : (row : Row) (place : ℕ) (operand : Operand) (front rest : List ℕ)
    → SpellsPlace (nat_lt place row.count) (slot_in row place) operand front → operand_in_place row place (front ++ rest) ≡ Ok (spelled operand front, rest)
front_read row place operand front rest h =
    (place_reader row place).extends front rest (spelled operand front) [] (place_read row place operand front h)

operands_read : (bytes : List ℕ) (instr : Instr) (h : IsInstruction bytes instr) → next_operands h.op h.row (h.one ++ (h.two ++ h.three)) ≡ Ok (instr, [])
unfolding next_operands
operands_read bytes instr h =
    rw (
      front_read h.row 0 h.first h.one (h.two ++ h.three) h.spells_first,
      front_read h.row 1 h.second h.two h.three h.spells_second,
      place_read h.row 2 h.third h.three h.spells_third,
    )
    (ap (λ (i : Instr). Ok (i, [])) (sym h.made))

pub instruction_read : (bytes : List ℕ) (instr : Instr) → IsInstruction bytes instr → instruction_at bytes ≡ Ok (instr, [])
unfolding instruction_at next_byte
instruction_read bytes instr h = rw (h.split, h.listed) (operands_read bytes instr h)
