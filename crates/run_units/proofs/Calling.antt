-- An instruction that makes a call writes nothing itself.
use Rattle.std.proofs.Common.{◌≡◌, ◌⊎◌, inl, inr, ℕ, zero, suc, ◌^◌, Bool, true, false, List, [], ◌∷◌, Option, Some, None, Result, Ok, Err, ℤ, refl, sym, ap, ◌∙◌}
use Rattle.std.specs.Prelude.{if◌then◌else◌, ◌==◌, nat_le}
use Rattle.vm_facts.specs.Answers.{Answers}
use Rattle.vm_facts.specs.declared.regs.Regs.{Regs}
use Rattle.vax_alu.specs.Results.{quotient_of}
use Rattle.vax_code.specs.declared.instr.Instr.{Instr}
use Rattle.vax_code.specs.declared.table.Row.{Row}
use Rattle.vax_code.specs.declared.table.Name.{Name}
use Rattle.vax_code.specs.declared.table.Name.TheVariants as names
use Rattle.vax_code.specs.Table.{row_for}
use Rattle.user_vax.specs.declared.operand.Evaluated.{Evaluated}
use Rattle.user_vax.specs.declared.operand.Place.{Place}
use Rattle.user_vax.specs.declared.operand.Place.TheVariants as places
use Rattle.user_vax.specs.Program.{Gives, Refuses, run, ◌>>=◌}
use Rattle.user_vax.specs.Signals.{sigill, sigfpe}
use Rattle.user_vax.specs.Operands.{register, number_at}
use Rattle.user_vax.specs.Effects.{Effect, registers_only, with_move_codes, store_effect, result_effect, push_onto, push_effect, division, pop_into, subroutine_return}
use Rattle.user_vax.specs.Frames.{push_all, with_frame, procedure_entry, procedure_call, registers_returned, procedure_return}
use Rattle.user_vax.specs.Computation.{computation}
use Rattle.user_vax.specs.Instruction.{fetch, evaluations, write_tests, tested_effect, execution, execution_by, instruction}
use Rattle.economy_laws.proofs.Computations.{AllGives, gives_bind, gives_any, run_gives}

-- it makes no call, or writes nothing
abbrev pub IsQuiet : Effect → Type 0
IsQuiet effect = (effect.call ≡ None) ⊎ (effect.writes ≡ [])

store_call : (regs : Regs) (size : ℕ) (place : Place) (value : ℕ) → (store_effect regs size place value).call ≡ None
unfolding store_effect
store_call regs size places.Nowhere value = refl
store_call regs size (places.Register reg) value = refl
store_call regs size (places.Memory address) value = refl

push_call : (effect : Effect) (value : ℕ) → effect.call ≡ None → (push_onto effect value).call ≡ None
unfolding push_onto
push_call effect value h = h

pushed_call : (values : List ℕ) (effect : Effect) → effect.call ≡ None → (push_all effect values).call ≡ None
unfolding push_all
pushed_call [] effect h = h
pushed_call (value ∷ values) effect h = pushed_call values (push_onto effect value) (push_call effect value h)

framed_call : (before : Effect) (counted : Bool) (mask : ℕ) → before.call ≡ None → (with_frame before counted mask).call ≡ None
unfolding with_frame
framed_call before counted mask h = pushed_call _ _ h

division_quiet : (regs : Regs) (place : Place) (dividend divisor : ℕ) → AllGives IsQuiet (division regs place dividend divisor)
unfolding division
division_quiet regs place dividend divisor = go (divisor == 0)
  where
    go : (b : Bool) → AllGives IsQuiet (if b then Refuses sigfpe else Gives (result_effect regs 4 place (quotient_of dividend divisor)))
    go true = tt
    go false = inl (store_call _ 4 place _)

procedure_quiet : (before : Effect) (counted : Bool) (ap target : ℕ) → before.call ≡ None → AllGives IsQuiet (procedure_call before counted ap target)
unfolding procedure_call
procedure_quiet before counted ap target h =
    gives_any IsQuiet (number_at 2 target)
    (λ mask. if nat_le (2 ^ 12) mask then Refuses sigill else Gives (procedure_entry (with_frame before counted mask) ap target))
    (λ mask. go mask (nat_le (2 ^ 12) mask))
  where
    go : (mask : ℕ) (b : Bool) → AllGives IsQuiet (if b then Refuses sigill else Gives (procedure_entry (with_frame before counted mask) ap target))
    go mask true = tt
    go mask false = inl (framed_call before counted mask h)

rsb_quiet : (regs : Regs) → AllGives IsQuiet (subroutine_return regs)
unfolding subroutine_return
rsb_quiet regs = gives_any IsQuiet (pop_into regs 15) (λ after. Gives (registers_only after)) (λ after. inl refl)

return_quiet : (regs : Regs) → AllGives IsQuiet (procedure_return regs)
unfolding procedure_return
return_quiet regs = gives_any IsQuiet (registers_returned regs) (λ after. Gives (registers_only after)) (λ after. inl refl)

computes_quiet : (name : Name) (regs : Regs) (a b c : Evaluated) → AllGives IsQuiet (computation name regs a b c)
unfolding computation
computes_quiet names.Nop regs a b c = inl refl
computes_quiet names.Ret regs a b c = return_quiet regs
computes_quiet names.Rsb regs a b c = rsb_quiet regs
computes_quiet names.Bsbb regs a b c = inl (push_call (registers_only regs) (register regs 15) refl)
computes_quiet names.Bsbw regs a b c = inl (push_call (registers_only regs) (register regs 15) refl)
computes_quiet names.Jsb regs a b c = inl (push_call (registers_only regs) (register regs 15) refl)
computes_quiet names.Brb regs a b c = inl refl
computes_quiet names.Brw regs a b c = inl refl
computes_quiet names.Jmp regs a b c = inl refl
computes_quiet names.Bneq regs a b c = inl refl
computes_quiet names.Beql regs a b c = inl refl
computes_quiet names.Bgtr regs a b c = inl refl
computes_quiet names.Bleq regs a b c = inl refl
computes_quiet names.Bgeq regs a b c = inl refl
computes_quiet names.Blss regs a b c = inl refl
computes_quiet names.Bgtru regs a b c = inl refl
computes_quiet names.Blequ regs a b c = inl refl
computes_quiet names.Bvc regs a b c = inl refl
computes_quiet names.Bvs regs a b c = inl refl
computes_quiet names.Bcc regs a b c = inl refl
computes_quiet names.Bcs regs a b c = inl refl
computes_quiet names.Blbs regs a b c = inl refl
computes_quiet names.Blbc regs a b c = inl refl
computes_quiet names.Aoblss regs a b c = inl (store_call _ 4 b.place _)
computes_quiet names.Aobleq regs a b c = inl (store_call _ 4 b.place _)
computes_quiet names.Sobgeq regs a b c = inl (store_call _ 4 a.place _)
computes_quiet names.Sobgtr regs a b c = inl (store_call _ 4 a.place _)
computes_quiet names.Movb regs a b c = inl (store_call _ 1 b.place _)
computes_quiet names.Movw regs a b c = inl (store_call _ 2 b.place _)
computes_quiet names.Movl regs a b c = inl (store_call _ 4 b.place _)
computes_quiet names.Movzbl regs a b c = inl (store_call _ 4 b.place _)
computes_quiet names.Movab regs a b c = inl (store_call _ 4 b.place _)
computes_quiet names.Moval regs a b c = inl (store_call _ 4 b.place _)
computes_quiet names.Mcoml regs a b c = inl (store_call _ 4 b.place _)
computes_quiet names.Clrb regs a b c = inl (store_call _ 1 a.place _)
computes_quiet names.Clrl regs a b c = inl (store_call _ 4 a.place _)
computes_quiet names.Pushl regs a b c = inl (push_call (registers_only (with_move_codes regs 4 a.value)) a.value refl)
computes_quiet names.Pushab regs a b c = inl (push_call (registers_only (with_move_codes regs 4 a.value)) a.value refl)
computes_quiet names.Pushal regs a b c = inl (push_call (registers_only (with_move_codes regs 4 a.value)) a.value refl)
computes_quiet names.Bisl2 regs a b c = inl (store_call _ 4 b.place _)
computes_quiet names.Bisl3 regs a b c = inl (store_call _ 4 c.place _)
computes_quiet names.Bicl2 regs a b c = inl (store_call _ 4 b.place _)
computes_quiet names.Bicl3 regs a b c = inl (store_call _ 4 c.place _)
computes_quiet names.Xorl2 regs a b c = inl (store_call _ 4 b.place _)
computes_quiet names.Xorl3 regs a b c = inl (store_call _ 4 c.place _)
computes_quiet names.Bitl regs a b c = inl refl
computes_quiet names.Cmpb regs a b c = inl refl
computes_quiet names.Cmpw regs a b c = inl refl
computes_quiet names.Cmpl regs a b c = inl refl
computes_quiet names.Tstb regs a b c = inl refl
computes_quiet names.Tstl regs a b c = inl refl
computes_quiet names.Cvtbl regs a b c = inl (store_call _ 4 b.place _)
computes_quiet names.Cvtlb regs a b c = inl (store_call _ 1 b.place _)
computes_quiet names.Addl2 regs a b c = inl (store_call _ 4 b.place _)
computes_quiet names.Addl3 regs a b c = inl (store_call _ 4 c.place _)
computes_quiet names.Incb regs a b c = inl (store_call _ 1 a.place _)
computes_quiet names.Incl regs a b c = inl (store_call _ 4 a.place _)
computes_quiet names.Subl2 regs a b c = inl (store_call _ 4 b.place _)
computes_quiet names.Subl3 regs a b c = inl (store_call _ 4 c.place _)
computes_quiet names.Decb regs a b c = inl (store_call _ 1 a.place _)
computes_quiet names.Decl regs a b c = inl (store_call _ 4 a.place _)
computes_quiet names.Mull2 regs a b c = inl (store_call _ 4 b.place _)
computes_quiet names.Mull3 regs a b c = inl (store_call _ 4 c.place _)
computes_quiet names.Divl2 regs a b c = division_quiet regs b.place b.value a.value
computes_quiet names.Divl3 regs a b c = division_quiet regs c.place b.value a.value
computes_quiet names.Ashl regs a b c = inl (store_call _ 4 c.place _)
computes_quiet names.Mnegl regs a b c = inl (store_call _ 4 b.place _)
computes_quiet names.Chmk regs a b c = inr refl
computes_quiet names.Callg regs a b c = procedure_quiet (registers_only regs) false a.value b.value refl
computes_quiet names.Calls regs a b c = procedure_quiet (push_effect regs a.value) true (register (push_effect regs a.value).regs 14) b.value (push_call (registers_only regs) a.value refl)

tested_quiet : (effect : Effect) → IsQuiet effect → AllGives IsQuiet (tested_effect effect)
unfolding tested_effect
tested_quiet effect h = gives_any IsQuiet (write_tests effect.writes) (λ x. Gives effect) (λ x. h)

executes_quiet : (row : Row) (regs : Regs) (instr : Instr) → AllGives IsQuiet (execution row regs instr)
unfolding execution
executes_quiet row regs instr =
    gives_any IsQuiet (evaluations row regs instr) (λ all. computation row.name all.0 all.1 all.2 all.3 >>= λ effect. tested_effect effect)
    (λ all. gives_bind IsQuiet IsQuiet (computation row.name all.0 all.1 all.2 all.3) (λ effect. tested_effect effect) (computes_quiet row.name all.0 all.1 all.2 all.3) tested_quiet)

executed_quiet : (o : Option Row) (regs : Regs) (instr : Instr) → AllGives IsQuiet (execution_by o regs instr)
unfolding execution_by
executed_quiet None regs instr = tt
executed_quiet (Some row) regs instr = executes_quiet row _ instr

pub instruction_quiet : (regs : Regs) → AllGives IsQuiet (instruction regs)
unfolding instruction
instruction_quiet regs = gives_any IsQuiet (fetch 20 (register regs 15) []) (λ instr. execution_by (row_for instr.op) regs instr) (λ instr. executed_quiet (row_for instr.op) regs instr)

-- who makes a call writes nothing
pub calls_write_none : (memory : Answers) (regs : Regs) (effect : Effect) (number : ℤ) → run memory (instruction regs) ≡ Ok effect
    → effect.call ≡ Some number → effect.writes ≡ []
calls_write_none memory regs effect number e c = elim (run_gives IsQuiet memory (instruction regs) effect (instruction_quiet regs) e) [
  | inl n ↦ let z : Some number ≡ None = sym c ∙ n in absurd cc
  | inr w ↦ w
]
