-- One instruction of a process, from its fetch to its effect, over what its memory answers.
use Rattle.std.specs.Prelude.{◌≡◌, ℕ, zero, suc, List, [], ◌∷◌, ◌++◌, length, ℤ, Option, Some, None, Result, Ok, Err}
use Rattle.vm_facts.specs.declared.regs.Regs.{Regs}
use Rattle.vm_facts.specs.Answers.{Answers, ByteWrite}
use Rattle.vm_facts.specs.declared.memory.MayWrite.TheVariants as tests
use Rattle.vax_code.specs.declared.instr.Instr.{Instr}
use Rattle.vax_code.specs.declared.instr.Decoded.{Decoded}
use Rattle.vax_code.specs.declared.instr.Decoded.TheVariants as decodings
use Rattle.vax_code.specs.declared.table.Row.{Row}
use Rattle.vax_code.specs.Table.{row_for, slot_in}
use Rattle.vax_code.specs.Reading.{decoded}
use Rattle.user_vax.specs.declared.refused.Refused.{Refused}
use Rattle.user_vax.specs.declared.refused.Refused.TheVariants as refusals
use Rattle.user_vax.specs.Signals.{sigill}
use Rattle.user_vax.specs.declared.operand.Evaluated.{Evaluated}
use Rattle.user_vax.specs.declared.stepped.Stepped.{Stepped}
use Rattle.user_vax.specs.declared.stepped.Stepped.TheVariants as answers
use Rattle.user_vax.specs.Program.{Program, Gives, Refuses, Reads, Tests, ◌>>=◌}
use Rattle.user_vax.specs.Operands.{register, with_register, past, evaluation}
use Rattle.user_vax.specs.Effects.{Effect}
use Rattle.user_vax.specs.Computation.{computation}

-- by what the bytes so far decode to: the instruction, SIGILL where they are reserved, or what more bytes give
abbrev pub on_decoded : Decoded → Program Instr → Program Instr
on_decoded (decodings.Is instr) more = Gives instr
on_decoded decodings.Reserved more = Refuses sigill
on_decoded decodings.NeedMore more = more

-- the instruction at pc, of which these bytes were read; so many more may come
unfoldable pub fetch : ℕ → ℕ → List ℕ → Program Instr
fetch zero pc bytes = Refuses sigill
fetch (suc more) pc bytes =
    on_decoded (decoded bytes) (Reads (past pc (length bytes)) (λ byte. fetch more pc (bytes ++ byte ∷ [])))

-- the registers after the three operands, which are evaluated from left to right, and the operands
unfoldable pub evaluations : Row → Regs → Instr → Program (Regs × Evaluated × Evaluated × Evaluated)
evaluations row regs instr = do
  a ← evaluation (slot_in row 0) regs instr.a
  b ← evaluation (slot_in row 1) a.0 instr.b
  c ← evaluation (slot_in row 2) b.0 instr.c
  Gives (c.0, a.1, b.1, c.1)

-- whether these bytes may be written, one after another
unfoldable pub write_tests : List ByteWrite → Program (Unit {0})
write_tests [] = Gives tt
write_tests (write ∷ writes) = Tests write.address (write_tests writes)

-- all these bytes may be written
abbrev pub MayAll : Answers → List ByteWrite → Type 0
MayAll memory [] = Unit {0}
MayAll memory (write ∷ writes) = (memory.may_write write.address ≡ tests.May) × MayAll memory writes

-- an effect, once all the bytes that it writes may be written
unfoldable pub tested_effect : Effect → Program Effect
tested_effect effect = write_tests effect.writes >>= λ _. Gives effect

-- the effect of an instruction of a row, from registers whose PC stands after it
unfoldable pub execution : Row → Regs → Instr → Program Effect
execution row regs instr = do
  all ← evaluations row regs instr
  effect ← computation row.name all.0 all.1 all.2 all.3
  tested_effect effect

-- the effect of an instruction by the row of its opcode, with PC moved past it; SIGILL where there is no row
unfoldable pub execution_by : Option Row → Regs → Instr → Program Effect
execution_by None regs instr = Refuses sigill
execution_by (Some row) regs instr = execution row (with_register regs 15 (past (register regs 15) instr.length)) instr

-- the instruction that PC names: it is fetched and decoded whole, its operands are evaluated, it computes,
-- and all that it will write is tested
unfoldable pub instruction : Regs → Program Effect
instruction regs = do
  instr ← fetch 20 (register regs 15) []
  execution_by (row_for instr.op) regs instr

-- a system call of the instruction, or that it is done
abbrev pub answer_of_call : Option ℤ → Stepped
answer_of_call None = answers.Done
answer_of_call (Some number) = answers.Call number

-- what `step` answers
abbrev pub answer_of : Result Effect Refused → Stepped
answer_of (Ok effect) = answer_of_call effect.call
answer_of (Err (refusals.Miss address write)) = answers.Miss address write
answer_of (Err (refusals.Below address)) = answers.Below address
answer_of (Err (refusals.Signal number)) = answers.Signal number

-- the registers afterwards: those before, where the instruction is refused
abbrev pub registers_after : Regs → Result Effect Refused → Regs
registers_after regs (Ok effect) = effect.regs
registers_after regs (Err refused) = regs

-- the bytes written: none, where the instruction is refused
abbrev pub writes_of : Result Effect Refused → List ByteWrite
writes_of (Ok effect) = effect.writes
writes_of (Err refused) = []
