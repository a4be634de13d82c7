-- The instruction table: what each instruction computes from its operands and its registers, once PC stands
-- after it.
use Rattle.std.specs.Prelude.{true, false, ◌%◌, ◌^◌, not, ◌||◌, ◌==◌, [], Some, bit_or, bit_and, bit_xor, int_lt, int_le}
use Rattle.std.specs.Int.{w16, cast_signed}
use Rattle.vm_facts.specs.declared.regs.Regs.{Regs}
use Rattle.vax_alu.specs.Results.{sum_of, difference_of, product_of, compared, shifted, negated}
use Rattle.vax_alu.specs.Words.{signed}
use Rattle.vax_code.specs.declared.table.Name.{Name}
use Rattle.vax_code.specs.declared.table.Name.TheVariants as names
use Rattle.user_vax.specs.declared.operand.Evaluated.{Evaluated}
use Rattle.user_vax.specs.Program.{Program, Gives}
use Rattle.user_vax.specs.Operands.{register, with_register}
use Rattle.user_vax.specs.Bytes.{signed_byte, byte_after, byte_before, widened, narrowed}
use Rattle.user_vax.specs.Frames.{procedure_call, procedure_return}
use Rattle.user_vax.specs.Effects.{Effect, registers_only, with_codes, with_move_codes, with_test_codes, store_effect, move_effect, result_effect, push_effect, jump_effect, count_effect, division, entry_effect, subroutine_return, complement}

-- what the instruction of this name computes from its registers, with PC past it, and from its three operands
unfoldable pub computation : Name → Regs → Evaluated → Evaluated → Evaluated → Program Effect
computation names.Nop regs a b c = Gives (registers_only regs)
computation names.Ret regs a b c = procedure_return regs
computation names.Rsb regs a b c = subroutine_return regs
computation names.Bsbb regs a b c = Gives (entry_effect regs a.value)
computation names.Bsbw regs a b c = Gives (entry_effect regs a.value)
computation names.Jsb regs a b c = Gives (entry_effect regs a.value)
computation names.Brb regs a b c = Gives (registers_only (with_register regs 15 a.value))
computation names.Brw regs a b c = Gives (registers_only (with_register regs 15 a.value))
computation names.Jmp regs a b c = Gives (registers_only (with_register regs 15 a.value))
computation names.Bneq regs a b c = Gives (jump_effect (not regs.z) regs a.value)
computation names.Beql regs a b c = Gives (jump_effect regs.z regs a.value)
computation names.Bgtr regs a b c = Gives (jump_effect (not (regs.n || regs.z)) regs a.value)
computation names.Bleq regs a b c = Gives (jump_effect (regs.n || regs.z) regs a.value)
computation names.Bgeq regs a b c = Gives (jump_effect (not regs.n) regs a.value)
computation names.Blss regs a b c = Gives (jump_effect regs.n regs a.value)
computation names.Bgtru regs a b c = Gives (jump_effect (not (regs.c || regs.z)) regs a.value)
computation names.Blequ regs a b c = Gives (jump_effect (regs.c || regs.z) regs a.value)
computation names.Bvc regs a b c = Gives (jump_effect (not regs.v) regs a.value)
computation names.Bvs regs a b c = Gives (jump_effect regs.v regs a.value)
computation names.Bcc regs a b c = Gives (jump_effect (not regs.c) regs a.value)
computation names.Bcs regs a b c = Gives (jump_effect regs.c regs a.value)
computation names.Blbs regs a b c = Gives (jump_effect (a.value % 2 == 1) regs b.value)
computation names.Blbc regs a b c = Gives (jump_effect (a.value % 2 == 0) regs b.value)
computation names.Aoblss regs a b c =
    Gives (let next = sum_of b.value 1 in count_effect regs b.place next (int_lt (signed next.value) (signed a.value)) c.value)
computation names.Aobleq regs a b c =
    Gives (let next = sum_of b.value 1 in count_effect regs b.place next (int_le (signed next.value) (signed a.value)) c.value)
computation names.Sobgeq regs a b c = Gives (let next = difference_of a.value 1 in count_effect regs a.place next (not next.n) b.value)
computation names.Sobgtr regs a b c = Gives (let next = difference_of a.value 1 in count_effect regs a.place next (not (next.n || next.z)) b.value)
computation names.Movb regs a b c = Gives (move_effect regs 1 b.place a.value)
computation names.Movw regs a b c = Gives (move_effect regs 2 b.place a.value)
computation names.Movl regs a b c = Gives (move_effect regs 4 b.place a.value)
computation names.Movzbl regs a b c = Gives (move_effect regs 4 b.place a.value)
computation names.Movab regs a b c = Gives (move_effect regs 4 b.place a.value)
computation names.Moval regs a b c = Gives (move_effect regs 4 b.place a.value)
computation names.Mcoml regs a b c = Gives (move_effect regs 4 b.place (complement a.value))
computation names.Clrb regs a b c = Gives (move_effect regs 1 a.place 0)
computation names.Clrl regs a b c = Gives (move_effect regs 4 a.place 0)
computation names.Pushl regs a b c = Gives (push_effect (with_move_codes regs 4 a.value) a.value)
computation names.Pushab regs a b c = Gives (push_effect (with_move_codes regs 4 a.value) a.value)
computation names.Pushal regs a b c = Gives (push_effect (with_move_codes regs 4 a.value) a.value)
computation names.Bisl2 regs a b c = Gives (move_effect regs 4 b.place (bit_or b.value a.value))
computation names.Bisl3 regs a b c = Gives (move_effect regs 4 c.place (bit_or b.value a.value))
computation names.Bicl2 regs a b c = Gives (move_effect regs 4 b.place (bit_and b.value (complement a.value)))
computation names.Bicl3 regs a b c = Gives (move_effect regs 4 c.place (bit_and b.value (complement a.value)))
computation names.Xorl2 regs a b c = Gives (move_effect regs 4 b.place (bit_xor b.value a.value))
computation names.Xorl3 regs a b c = Gives (move_effect regs 4 c.place (bit_xor b.value a.value))
computation names.Bitl regs a b c = Gives (registers_only (with_move_codes regs 4 (bit_and a.value b.value)))
computation names.Cmpb regs a b c = Gives (registers_only (with_codes regs (compared a.value b.value 1)))
computation names.Cmpw regs a b c = Gives (registers_only (with_codes regs (compared a.value b.value 2)))
computation names.Cmpl regs a b c = Gives (registers_only (with_codes regs (compared a.value b.value 4)))
computation names.Tstb regs a b c = Gives (registers_only (with_test_codes regs 1 a.value))
computation names.Tstl regs a b c = Gives (registers_only (with_test_codes regs 4 a.value))
computation names.Cvtbl regs a b c = Gives (let value = widened a.value in store_effect (with_test_codes regs 4 value) 4 b.place value)
computation names.Cvtlb regs a b c = Gives (result_effect regs 1 b.place (narrowed a.value))
computation names.Addl2 regs a b c = Gives (result_effect regs 4 b.place (sum_of b.value a.value))
computation names.Addl3 regs a b c = Gives (result_effect regs 4 c.place (sum_of b.value a.value))
computation names.Incb regs a b c = Gives (result_effect regs 1 a.place (byte_after a.value))
computation names.Incl regs a b c = Gives (result_effect regs 4 a.place (sum_of a.value 1))
computation names.Subl2 regs a b c = Gives (result_effect regs 4 b.place (difference_of b.value a.value))
computation names.Subl3 regs a b c = Gives (result_effect regs 4 c.place (difference_of b.value a.value))
computation names.Decb regs a b c = Gives (result_effect regs 1 a.place (byte_before a.value))
computation names.Decl regs a b c = Gives (result_effect regs 4 a.place (difference_of a.value 1))
computation names.Mull2 regs a b c = Gives (result_effect regs 4 b.place (product_of b.value a.value))
computation names.Mull3 regs a b c = Gives (result_effect regs 4 c.place (product_of b.value a.value))
computation names.Divl2 regs a b c = division regs b.place b.value a.value
computation names.Divl3 regs a b c = division regs c.place b.value a.value
computation names.Ashl regs a b c = Gives (result_effect regs 4 c.place (shifted b.value (signed_byte a.value)))
computation names.Mnegl regs a b c = Gives (result_effect regs 4 b.place (negated a.value))
computation names.Chmk regs a b c = Gives (record { regs = regs; writes = []; call = Some (cast_signed w16 (a.value % 2 ^ 16)) })
computation names.Callg regs a b c = procedure_call (registers_only regs) false a.value b.value
computation names.Calls regs a b c = let before = push_effect regs a.value in procedure_call before true (register before.regs 14) b.value
