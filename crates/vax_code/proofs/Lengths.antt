-- How long an instruction is.
use Rattle.std.proofs.Common.{◌≡◌, ◌≢◌, ◌∙◌, ℕ, ◌+◌, ◌<◌, ◌≤◌, suc, Bool, true, false, List, [], ◌∷◌, ◌++◌, length, refl, ap, cond, arith, length-append, inl, inr, nat_lt, ℤ}
use Rattle.std.specs.Prelude.{◌==◌}
use Rattle.vax_code.specs.declared.instr.Instr.{Instr}
use Rattle.vax_code.specs.declared.instr.Decoded.{Decoded}
use Rattle.vax_code.specs.declared.instr.Decoded.TheVariants as decodings
use Rattle.vax_code.specs.declared.instr.Operand.{Operand}
use Rattle.vax_code.specs.declared.instr.Operand.TheVariants as operands
use Rattle.vax_code.specs.declared.instr.Base.{Base}
use Rattle.vax_code.specs.declared.instr.Base.TheVariants as bases
use Rattle.vax_code.specs.declared.table.Slot.{Slot}
use Rattle.vax_code.specs.declared.table.Row.{Row}
use Rattle.vax_code.specs.declared.table.Kind.{Kind}
use Rattle.vax_code.specs.declared.table.Kind.TheVariants as kinds
use Rattle.vax_code.specs.Operands.{is_branch}
use Rattle.vax_code.specs.Table.{slot_in, slot_of}
use Rattle.vax_code.specs.Grammar.{SpellsPlain, SpellsOnPc, SpellsDisplaced, SpellsBase, SpellsSpecifier, SpellsBranch, SpellsOperand, SpellsPlace, IsInstruction, BeginsWith, IsProperPrefix, DecodesAs, HasLength}

plain_length : (mode reg : ℕ) (bytes : List ℕ) → SpellsPlain mode reg bytes → length bytes ≤ 5
plain_length mode reg bytes h = omega (arith, ap length h.split)

on_pc_length : (mode size number : ℕ) (bytes : List ℕ) → size ≤ 4 → SpellsOnPc mode size number bytes → length bytes ≤ 5
on_pc_length mode size number bytes small h = omega (arith, ap length h.split, h.spells.sized)

displaced_length : (mode size reg : ℕ) (by : ℤ) (bytes : List ℕ) → size ≤ 4 → SpellsDisplaced mode size reg by bytes → length bytes ≤ 5
displaced_length mode size reg by bytes small h = omega (arith, ap length h.split, h.spells.sized)

base_length : (base : Base) (bytes : List ℕ) → SpellsBase base bytes → length bytes ≤ 5
base_length (bases.Deferred reg) bytes h = plain_length 6 reg bytes h
base_length (bases.AutoDec reg) bytes h = plain_length 7 reg bytes h
base_length (bases.AutoInc reg) bytes h = plain_length 8 reg bytes h
base_length (bases.AutoIncDef reg) bytes h = plain_length 9 reg bytes h
base_length (bases.Absolute address) bytes h = on_pc_length 9 4 address bytes (omega arith) h
base_length (bases.Disp reg by false) bytes (inl h) = displaced_length 10 1 reg by bytes (omega arith) h
base_length (bases.Disp reg by false) bytes (inr (inl h)) = displaced_length 12 2 reg by bytes (omega arith) h
base_length (bases.Disp reg by false) bytes (inr (inr h)) = displaced_length 14 4 reg by bytes (omega arith) h
base_length (bases.Disp reg by true) bytes (inl h) = displaced_length 11 1 reg by bytes (omega arith) h
base_length (bases.Disp reg by true) bytes (inr (inl h)) = displaced_length 13 2 reg by bytes (omega arith) h
base_length (bases.Disp reg by true) bytes (inr (inr h)) = displaced_length 15 4 reg by bytes (omega arith) h

further : (n : ℕ) → n ≤ 5 → n ≤ 6
further n h = omega arith

specifier_length : (slot : Slot) (operand : Operand) (bytes : List ℕ) → slot.size ≤ 4 → SpellsSpecifier slot operand bytes → length bytes ≤ 6
specifier_length slot (operands.Literal value) bytes small h = omega (arith, ap length h.2)
specifier_length slot (operands.Register reg) bytes small h = further (length bytes) (plain_length 5 reg bytes h.1)
specifier_length slot (operands.Deferred reg) bytes small h = further (length bytes) (base_length (bases.Deferred reg) bytes h)
specifier_length slot (operands.AutoDec reg) bytes small h = further (length bytes) (base_length (bases.AutoDec reg) bytes h)
specifier_length slot (operands.AutoInc reg) bytes small h = further (length bytes) (base_length (bases.AutoInc reg) bytes h)
specifier_length slot (operands.AutoIncDef reg) bytes small h = further (length bytes) (base_length (bases.AutoIncDef reg) bytes h)
specifier_length slot (operands.Immediate number) bytes small h = further (length bytes) (on_pc_length 8 slot.size number bytes small h.1)
specifier_length slot (operands.Absolute address) bytes small h = further (length bytes) (base_length (bases.Absolute address) bytes h)
specifier_length slot (operands.Disp reg by deferred) bytes small h = further (length bytes) (base_length (bases.Disp reg by deferred) bytes h)
specifier_length slot (operands.Indexed index base) bytes small h = omega (arith, ap length h.split, base_length base h.rest h.spells)
specifier_length slot (operands.Branch by) bytes small h = absurd h

branch_length : (slot : Slot) (operand : Operand) (bytes : List ℕ) → slot.size ≤ 4 → SpellsBranch slot operand bytes → length bytes ≤ 6
branch_length slot (operands.Branch by) bytes small h = omega (arith, h.sized)
branch_length slot (operands.Literal value) bytes small h = absurd h
branch_length slot (operands.Register reg) bytes small h = absurd h
branch_length slot (operands.Deferred reg) bytes small h = absurd h
branch_length slot (operands.AutoDec reg) bytes small h = absurd h
branch_length slot (operands.AutoInc reg) bytes small h = absurd h
branch_length slot (operands.AutoIncDef reg) bytes small h = absurd h
branch_length slot (operands.Immediate number) bytes small h = absurd h
branch_length slot (operands.Absolute address) bytes small h = absurd h
branch_length slot (operands.Disp reg by deferred) bytes small h = absurd h
branch_length slot (operands.Indexed index base) bytes small h = absurd h

operand_length : (branch : Bool) (slot : Slot) (operand : Operand) (bytes : List ℕ) → slot.size ≤ 4 → SpellsOperand branch slot operand bytes → length bytes ≤ 6
operand_length true slot operand bytes small h = branch_length slot operand bytes small h
operand_length false slot operand bytes small h = specifier_length slot operand bytes small h

kind_size : (kind : Kind) → (slot_of kind).size ≤ 4
kind_size kinds.Ab = omega arith
kind_size kinds.Al = omega arith
kind_size kinds.Bb = omega arith
kind_size kinds.Bw = omega arith
kind_size kinds.Mb = omega arith
kind_size kinds.Ml = omega arith
kind_size kinds.Rb = omega arith
kind_size kinds.Rl = omega arith
kind_size kinds.Rw = omega arith
kind_size kinds.Wb = omega arith
kind_size kinds.Wl = omega arith
kind_size kinds.Ww = omega arith

place_length : (present : Bool) (row : Row) (place : ℕ) (operand : Operand) (bytes : List ℕ) → SpellsPlace present (slot_in row place) operand bytes
    → length bytes ≤ 6
place_length true row place operand bytes h =
    operand_length (is_branch (slot_in row place).access) (slot_in row place) operand bytes (kind_size (cond (place == 0) row.a (cond (place == 1) row.b row.c))) h
place_length false row place operand bytes h = omega (arith, ap length h.1)

pub whole_length : (bytes : List ℕ) (instr : Instr) → IsInstruction bytes instr → (0 < instr.length) × (instr.length ≤ 19) × (length bytes ≡ instr.length)
whole_length bytes instr h =
    let made : instr.length ≡ 1 + length h.one + length h.two + length h.three = ap (λ (i : Instr). i.length) h.made in
    let all : length bytes ≡ suc (length (h.one ++ (h.two ++ h.three))) = ap length h.split in
    let sums : length (h.one ++ (h.two ++ h.three)) ≡ length h.one + (length h.two + length h.three) =
    length-append h.one (h.two ++ h.three) ∙ ap (λ (n : ℕ). length h.one + n) (length-append h.two h.three) in
    let first : length h.one ≤ 6 = place_length (nat_lt 0 h.row.count) h.row 0 h.first h.one h.spells_first in
    let second : length h.two ≤ 6 = place_length (nat_lt 1 h.row.count) h.row 1 h.second h.two h.spells_second in
    let third : length h.three ≤ 6 = place_length (nat_lt 2 h.row.count) h.row 2 h.third h.three h.spells_third in
    (omega arith, omega arith, omega arith)

begun_length : (bytes : List ℕ) (instr : Instr) → BeginsWith bytes instr → HasLength bytes (decodings.Is instr)
begun_length bytes instr h =
    let long = whole_length h.front instr h.whole in
    let sum : length bytes ≡ length h.front + length h.rest = ap length h.split ∙ length-append h.front h.rest in
    let same : length h.front ≡ instr.length = long.2 in
    (long.0, long.1, omega arith)

some_length : (more : List ℕ) → more ≢ [] → 0 < length more
some_length [] h = absurd (h refl)
some_length (b ∷ bs) h = omega arith

prefix_length : (bytes : List ℕ) → IsProperPrefix bytes → length bytes < 19
prefix_length bytes h =
    let long = whole_length (bytes ++ h.more) h.instr h.whole in
    let sum : length (bytes ++ h.more) ≡ length bytes + length h.more = length-append bytes h.more in
    let same : length (bytes ++ h.more) ≡ h.instr.length = long.2 in
    let most : h.instr.length ≤ 19 = long.1 in
    let some : 0 < length h.more = some_length h.more h.some in
    omega arith

pub has_length : (bytes : List ℕ) (found : Decoded) → DecodesAs bytes found → HasLength bytes found
has_length bytes (decodings.Is instr) h = begun_length bytes instr ((h.is instr).0 refl)
has_length bytes decodings.NeedMore h = prefix_length bytes (h.need_more.0 refl)
has_length bytes decodings.Reserved h = tt
