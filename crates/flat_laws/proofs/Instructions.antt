-- Where one instruction reads and writes.
use Rattle.std.proofs.Common.{◌≡◌, ℕ, Bool, true, false, [], Option, Some, None, Ok, ℤ, refl, sym, ap, ◌∙◌, arith}
use Rattle.vm_facts.specs.Answers.{Answers}
use Rattle.vm_facts.specs.declared.regs.Regs.{Regs}
use Rattle.vax_code.specs.declared.instr.Instr.{Instr}
use Rattle.vax_code.specs.declared.table.Name.{Name}
use Rattle.vax_code.specs.declared.table.Name.TheVariants as names
use Rattle.vax_code.specs.declared.table.Row.{Row}
use Rattle.vax_code.specs.Table.{row_for}
use Rattle.vax_code.proofs.Filled.{is_chmk, call_filled}
use Rattle.user_vax.specs.declared.operand.Evaluated.{Evaluated}
use Rattle.user_vax.specs.Program.{Gives, ◌>>=◌, run}
use Rattle.user_vax.specs.Operands.{register, with_register, past}
use Rattle.user_vax.specs.Effects.{Effect}
use Rattle.user_vax.specs.Computation.{computation}
use Rattle.user_vax.specs.Instruction.{fetch, evaluations, write_tests, tested_effect, execution, execution_by, instruction}
use Rattle.user_vax.proofs.Runs.{ok_of_bind}
use Rattle.flat_laws.proofs.Cover.{within_yields, yields_ok, Covered, within_base, within_one, covered_more, covered_gives, covered_refuses, covered_bind, covered_along, covered_behind}
use Rattle.flat_laws.proofs.Fetched.{IsFetched, within_fetch, evaluations_covered, evaluation_covered}
use Rattle.flat_laws.proofs.Stack.{AreWrittenAt, within_tests, IsLight}
use Rattle.flat_laws.proofs.Computing.{computation_modest}

module _ (memory : Answers) (base : ℕ) where
  tested_covered : (start : ℕ) (effect : Effect) → AreWrittenAt start effect.writes → Covered memory base 1 (tested_effect effect)
  unfolding tested_effect
  tested_covered start effect h =
      covered_bind memory base 1 0 (write_tests effect.writes) _ (within_one memory base start (λ _. Unit {0}) (write_tests effect.writes) (within_tests start effect.writes h))
      (λ _ e. covered_gives memory base 0 effect)

  -- what an instruction other than a call computes, and the tests of its bytes
  modest_covered : (name : Name) (regs : Regs) (a b c : Evaluated) → is_chmk name ≡ false
      → Covered memory base 3 (computation name regs a b c >>= tested_effect)
  modest_covered name regs a b c other =
      let modest = computation_modest name regs a b c other in
      covered_bind memory base 2 1 (computation name regs a b c) tested_effect (modest.covered memory base) (λ effect e.
      let light : IsLight effect = yields_ok memory IsLight (computation name regs a b c) effect modest.light e in
      tested_covered light.start effect light.near)

  -- a call computes nothing of memory
  call_covered : (name : Name) (regs : Regs) (a b c : Evaluated) → is_chmk name ≡ true → Covered memory base 0 (computation name regs a b c >>= tested_effect)
  unfolding computation tested_effect write_tests
  call_covered names.Chmk regs a b c chmk = covered_gives memory base 0 _
  call_covered _ regs a b c chmk = absurd cc

  computed_covered : (name : Name) (regs : Regs) (a b c : Evaluated) → Covered memory base 3 (computation name regs a b c >>= tested_effect)
  computed_covered name regs a b c = go (is_chmk name) refl
    where
      go : (chmk : Bool) → is_chmk name ≡ chmk → Covered memory base 3 (computation name regs a b c >>= tested_effect)
      go true e = covered_more memory base 0 3 _ (omega arith) (call_covered name regs a b c e)
      go false e = modest_covered name regs a b c e

  execution_covered : (row : Row) (regs : Regs) (instr : Instr) → Covered memory base 9 (execution row regs instr)
  unfolding execution
  execution_covered row regs instr =
      covered_bind memory base 6 3 (evaluations row regs instr) _ (evaluations_covered memory base row regs instr) (λ all e. computed_covered row.name all.0 all.1 all.2 all.3)

  by_covered : (row : Option Row) (regs : Regs) (instr : Instr) → Covered memory base 9 (execution_by row regs instr)
  unfolding execution_by
  by_covered None regs instr = covered_refuses memory base 9 4
  by_covered (Some row) regs instr = execution_covered row (with_register regs 15 (past (register regs 15) instr.length)) instr

-- each access of an instruction is near PC or one of nine starts
pub instruction_covered : (memory : Answers) (regs : Regs) → Covered memory (register regs 15) 9 (instruction regs)
unfolding instruction
instruction_covered memory regs =
    covered_behind memory (register regs 15) 9 IsFetched (fetch 20 (register regs 15) []) _ (within_fetch 20 (register regs 15) [] (omega arith)) (λ instr _.
    by_covered memory (register regs 15) (row_for instr.op) regs instr)

-- Calls.

none_some : (o : Option ℤ) (number : ℤ) → o ≡ None → o ≡ Some number → ⊥
none_some o number e f = absurd cc

tested_same : (memory : Answers) (given effect : Effect) → run memory (tested_effect given) ≡ Ok effect → given ≡ effect
unfolding tested_effect
tested_same memory given effect k =
    let parts = ok_of_bind memory (write_tests given.writes) (λ _. Gives given) effect k in
    let last = parts.2 in cc

calls_alone : (memory : Answers) (name : Name) (regs : Regs) (a b c : Evaluated) (effect : Effect) (number : ℤ)
    → run memory (computation name regs a b c >>= tested_effect) ≡ Ok effect → effect.call ≡ Some number → is_chmk name ≡ true
calls_alone memory name regs a b c effect number h calls = go (is_chmk name) refl
  where
    go : (b : Bool) → is_chmk name ≡ b → is_chmk name ≡ true
    go true e = e
    go false e =
        let parts = ok_of_bind memory (computation name regs a b c) tested_effect effect h in
        let light : IsLight parts.0 = yields_ok memory IsLight (computation name regs a b c) parts.0 (computation_modest name regs a b c e).light parts.1 in
        absurd (none_some effect.call number (sym (ap (λ (x : Effect). x.call) (tested_same memory parts.0 effect parts.2)) ∙ light.call) calls)

call_execution : (memory : Answers) (base : ℕ) (row : Row) (regs : Regs) (instr : Instr) (effect : Effect) (number : ℤ) → IsFetched instr
    → row_for instr.op ≡ Some row
    → run memory (execution row regs instr) ≡ Ok effect → effect.call ≡ Some number → Covered memory base 2 (execution row regs instr)
unfolding execution
call_execution memory base row regs instr effect number fetched listed h calls =
    let parts = ok_of_bind memory (evaluations row regs instr) (λ all. computation row.name all.0 all.1 all.2 all.3 >>= tested_effect) effect h in
    let chmk : is_chmk row.name ≡ true = calls_alone memory row.name parts.0.0 parts.0.1 parts.0.2 parts.0.3 effect number parts.2 calls in
    let filled = call_filled fetched.bytes instr row fetched.is listed chmk in
    covered_along memory base 2 0 (evaluations row regs instr) _ parts.0 parts.1
    (evaluation_covered memory base row regs instr filled.0 filled.1)
    (call_covered memory base row.name parts.0.0 parts.0.1 parts.0.2 parts.0.3 chmk)

call_by : (memory : Answers) (base : ℕ) (row : Option Row) (regs : Regs) (instr : Instr) (effect : Effect) (number : ℤ) → IsFetched instr
    → row_for instr.op ≡ row
    → run memory (execution_by row regs instr) ≡ Ok effect → effect.call ≡ Some number → Covered memory base 2 (execution_by row regs instr)
unfolding execution_by
call_by memory base None regs instr effect number fetched listed h calls = absurd cc
call_by memory base (Some row) regs instr effect number fetched listed h calls =
    call_execution memory base row (with_register regs 15 (past (register regs 15) instr.length)) instr effect number fetched listed h calls

-- where it makes a call, near PC or one of two starts
pub call_instruction_covered : (memory : Answers) (regs : Regs) (effect : Effect) (number : ℤ) → run memory (instruction regs) ≡ Ok effect
    → effect.call ≡ Some number → Covered memory (register regs 15) 2 (instruction regs)
unfolding instruction
call_instruction_covered memory regs effect number h calls =
    let parts = ok_of_bind memory (fetch 20 (register regs 15) []) (λ instr. execution_by (row_for instr.op) regs instr) effect h in
    let within = within_fetch 20 (register regs 15) [] (omega arith) in
    let fetched : IsFetched parts.0 =
    yields_ok memory IsFetched (fetch 20 (register regs 15) []) parts.0 (within_yields (register regs 15) IsFetched (fetch 20 (register regs 15) []) within) parts.1 in
    covered_along memory (register regs 15) 0 2 (fetch 20 (register regs 15) []) _ parts.0 parts.1
    (within_base memory (register regs 15) IsFetched (fetch 20 (register regs 15) []) within)
    (call_by memory (register regs 15) (row_for parts.0.op) regs parts.0 effect number fetched refl parts.2 calls)
