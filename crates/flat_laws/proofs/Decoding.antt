-- Decoded instructions tell longwords, and what an instruction comes to over bytes is an effect that fits.
use Rattle.std.proofs.Common.{◌≡◌, ℕ, zero, suc, ◌+◌, ◌<◌, ◌^◌, ◌==◌, nat_lt, Bool, true, false, List, [], ◌∷◌, ◌++◌, length, refl, sym, subst, arith}
use Rattle.std.specs.Int.{from_le_bytes, int_wrapping_sub, w32}
use Rattle.std.specs.Prelude.{if◌then◌else◌, pos}
use Rattle.vm_facts.specs.declared.regs.Regs.{Regs}
use Rattle.vm_facts.specs.Answers.{Answers}
use Rattle.vm_facts.specs.declared.memory.ByteRead.TheVariants as bytes
use Rattle.vax_code.specs.declared.instr.Operand.{Operand}
use Rattle.vax_code.specs.declared.instr.Operand.TheVariants as operands
use Rattle.vax_code.specs.declared.instr.Base.{Base}
use Rattle.vax_code.specs.declared.instr.Base.TheVariants as bases
use Rattle.vax_code.specs.declared.instr.Instr.{Instr}
use Rattle.vax_code.specs.declared.instr.Decoded.{Decoded}
use Rattle.vax_code.specs.declared.instr.Decoded.TheVariants as decodings
use Rattle.vax_code.specs.declared.table.Row.{Row}
use Rattle.vax_code.specs.declared.table.Slot.{Slot}
use Rattle.vax_code.specs.Operands.{width_of, is_branch, operand_of, base_from_end, from_end}
use Rattle.vax_code.specs.Table.{row_for, slot_in}
use Rattle.vax_code.specs.Reading.{decoded}
use Rattle.vax_code.specs.Grammar.{AreOctets, SpellsNumber, SpellsOnPc, SpellsBase, SpellsSpecifier, SpellsBranch, SpellsOperand, SpellsPlace, IsInstruction, BeginsWith}
use Rattle.vax_code.proofs.Law.{begins}
use Rattle.vax_code.proofs.Spelling.{octets_front, octets_rest}
use Rattle.vax_code.proofs.Readers.{octets-append}
use Rattle.user_vax.specs.Instruction.{on_decoded, fetch, execution_by, instruction}
use Rattle.user_vax.specs.Operands.{register, past}
use Rattle.user_vax.specs.Program.{Reads, run}
use Rattle.kernel_model.specs.UPage.{AreRegs}
use Rattle.flat_laws.specs.Longwords.{EffectFits, LeavesLongwords}
use Rattle.flat_laws.proofs.Octets.{index_octets}
use Rattle.flat_laws.proofs.Leaving.{AllLeave, leave_bind, IsLongBase, IsLongOperand, execution_by_leaves, run_leaves}

-- a number of 1, 2 or 4 bytes is a longword
number_long : (size : ℕ) (bs : List ℕ) → AreOctets bs → from_le_bytes (width_of size) bs < 2 ^ 32
number_long size bs a = go (size == 1) (size == 2)
  where
    go : (one two : Bool) → from_le_bytes (if one then Rattle.std.specs.Int.w8 else (if two then Rattle.std.specs.Int.w16 else w32)) bs < 2 ^ 32
    go true two = let x = index_octets bs 0 a in omega arith
    go false true = let x = index_octets bs 0 a in let y = index_octets bs 1 a in omega arith
    go false false = let x = index_octets bs 0 a in let y = index_octets bs 1 a in let z = index_octets bs 2 a in let w = index_octets bs 3 a in omega arith

on_pc_long : (mode size number : ℕ) (bs : List ℕ) → SpellsOnPc mode size number bs → AreOctets bs → number < 2 ^ 32
on_pc_long mode size number bs p a =
    let n : SpellsNumber size number p.digits = p.spells in
    let o = subst AreOctets p.split a in
    subst (λ (x : ℕ). x < 2 ^ 32) (sym n.valued) (number_long size p.digits o.1)

base_long : (base : Base) (bs : List ℕ) → SpellsBase base bs → AreOctets bs → IsLongBase base
base_long (bases.Absolute address) bs s a = on_pc_long 9 4 address bs s a
base_long _ bs s a = tt

specifier_long : (slot : Slot) (operand : Operand) (bs : List ℕ) → SpellsSpecifier slot operand bs → AreOctets bs → IsLongOperand operand
specifier_long slot (operands.Literal value) bs s a = let k = s.1 in omega arith
specifier_long slot (operands.Immediate number) bs s a = on_pc_long 8 slot.size number bs s.1 a
specifier_long slot (operands.Absolute address) bs s a = on_pc_long 9 4 address bs s a
specifier_long slot (operands.Indexed index base) bs s a = base_long base s.rest s.spells (let o = subst AreOctets s.split a in o.1)
specifier_long slot _ bs s a = tt

branch_long : (slot : Slot) (operand : Operand) (bs : List ℕ) → SpellsBranch slot operand bs → IsLongOperand operand
branch_long slot (operands.Branch by) bs s = tt
branch_long slot _ bs s = absurd s

place_long : (filled branch : Bool) (slot : Slot) (operand : Operand) (bs : List ℕ) → is_branch slot.access ≡ branch
    → SpellsPlace filled slot operand bs → AreOctets bs → IsLongOperand operand
place_long true true slot operand bs e s a = branch_long slot operand bs (subst (λ (b : Bool). SpellsOperand b slot operand bs) e s)
place_long true false slot operand bs e s a = specifier_long slot operand bs (subst (λ (b : Bool). SpellsOperand b slot operand bs) e s) a
place_long false branch slot operand bs e s a = subst IsLongOperand (sym s.0) (let z : 0 < 2 ^ 32 = omega arith in z)

-- counted from the end of the instruction they are as they were
from_end_base : (behind : ℕ) (base : Base) → IsLongBase base → IsLongBase (base_from_end behind base)
from_end_base behind (bases.Disp reg by deferred) l = go (reg == 15)
  where
    go : (b : Bool) → IsLongBase (if b then bases.Disp reg (int_wrapping_sub w32 by (pos behind)) deferred else bases.Disp reg by deferred)
    go true = tt
    go false = tt
from_end_base behind (bases.Absolute address) l = l
from_end_base behind _ l = tt

base_operand : (base : Base) → IsLongBase base → IsLongOperand (operand_of base)
base_operand (bases.Absolute address) l = l
base_operand _ l = tt

from_end_long : (behind : ℕ) (operand : Operand) → IsLongOperand operand → IsLongOperand (from_end behind operand)
from_end_long behind (operands.Disp reg by deferred) l = base_operand (base_from_end behind (bases.Disp reg by deferred)) (from_end_base behind (bases.Disp reg by deferred) tt)
from_end_long behind (operands.Indexed index base) l = from_end_base behind base l
from_end_long behind (operands.Literal value) l = l
from_end_long behind (operands.Immediate value) l = l
from_end_long behind (operands.Absolute address) l = l
from_end_long behind _ l = tt

-- a decoded instruction's operands
abbrev pub IsLong : Instr → Type 0
IsLong instr = IsLongOperand instr.a × IsLongOperand instr.b × IsLongOperand instr.c

whole_long : (bs : List ℕ) (instr : Instr) → IsInstruction bs instr → AreOctets bs → IsLong instr
whole_long bs instr w a =
    let o = subst AreOctets w.split a in
    let one = octets_front w.one (w.two ++ w.three) o.1 in
    let rest = octets_rest w.one (w.two ++ w.three) o.1 in
    let two = octets_front w.two w.three rest in
    let three = octets_rest w.two w.three rest in
    let row : Row = w.row in
    let first = place_long (nat_lt 0 row.count) (is_branch (slot_in row 0).access) (slot_in row 0) w.first w.one refl w.spells_first one in
    let second = place_long (nat_lt 1 row.count) (is_branch (slot_in row 1).access) (slot_in row 1) w.second w.two refl w.spells_second two in
    let third = place_long (nat_lt 2 row.count) (is_branch (slot_in row 2).access) (slot_in row 2) w.third w.three refl w.spells_third three in
    subst IsLong (sym w.made) (from_end_long (length w.two + length w.three) w.first first, from_end_long (length w.three) w.second second, third)

pub decoded_long : (bs : List ℕ) (instr : Instr) → AreOctets bs → decoded bs ≡ decodings.Is instr → IsLong instr
decoded_long bs instr a e =
    let k : BeginsWith bs instr = begins bs instr a e in
    whole_long k.front instr k.whole (octets_front k.front k.rest (subst AreOctets k.split a))

fetch_leaves : (more pc : ℕ) (bs : List ℕ) → AreOctets bs → AllLeave IsLong (fetch more pc bs)
unfolding fetch
fetch_leaves zero pc bs a = omega arith
fetch_leaves (suc more) pc bs a = go (λ byte small. fetch_leaves more pc (bs ++ byte ∷ []) (octets-append bs (byte ∷ []) a (small, tt))) (decoded bs) refl
  where
    go : ((byte : ℕ) → byte < 256 → AllLeave IsLong (fetch more pc (bs ++ byte ∷ []))) → (d : Decoded) → decoded bs ≡ d
        → AllLeave IsLong (on_decoded d (Reads (past pc (length bs)) (λ byte. fetch more pc (bs ++ byte ∷ []))))
    go later (decodings.Is instr) e = decoded_long bs instr a e
    go later decodings.Reserved e = omega arith
    go later decodings.NeedMore e = later

instruction_leaves : (regs : Regs) → AreRegs regs → AllLeave EffectFits (instruction regs)
unfolding instruction
instruction_leaves regs h =
    leave_bind IsLong EffectFits (fetch 20 (register regs 15) []) (λ instr. execution_by (row_for instr.op) regs instr) (fetch_leaves 20 (register regs 15) [] tt)
    (λ instr k. execution_by_leaves (row_for instr.op) regs instr k.0 k.1 k.2 h)

-- over bytes an instruction leaves longwords in registers, and writes bytes
pub leaves_longwords : (memory : Answers) (regs : Regs) → ((address byte : ℕ) → memory.read address ≡ bytes.Is byte → byte < 256) → AreRegs regs
    → LeavesLongwords (run memory (instruction regs))
leaves_longwords memory regs small h = run_leaves memory (instruction regs) small (instruction_leaves regs h)
