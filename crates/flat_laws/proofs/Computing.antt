-- What each instruction computes: where it reads, and what it leaves.
use Rattle.std.proofs.Common.{◌≡◌, ℕ, ◌≤◌, ◌==◌, Bool, true, false, cond, None, refl, ap, arith}
use Rattle.vm_facts.specs.Answers.{Answers}
use Rattle.vm_facts.specs.declared.regs.Regs.{Regs}
use Rattle.vax_alu.specs.declared.Sum.{Sum}
use Rattle.vax_alu.specs.Results.{quotient_of, sum_of, difference_of}
use Rattle.vax_code.specs.declared.table.Name.{Name}
use Rattle.vax_code.specs.declared.table.Name.TheVariants as names
use Rattle.vax_code.proofs.Filled.{is_chmk}
use Rattle.user_vax.specs.declared.operand.Evaluated.{Evaluated}
use Rattle.user_vax.specs.declared.operand.Place.{Place}
use Rattle.user_vax.specs.Program.{Program, Gives, Refuses}
use Rattle.user_vax.specs.Operands.{register, back}
use Rattle.user_vax.specs.Effects.{Effect, registers_only, result_effect, push_effect, count_effect, entry_effect, division, pop_into, subroutine_return}
use Rattle.user_vax.specs.Frames.{procedure_call, procedure_return, registers_returned}
use Rattle.user_vax.specs.Computation.{computation}
use Rattle.flat_laws.proofs.Cover.{yields_bind, yields_any, Covered, covered_more, covered_gives, covered_refuses}
use Rattle.flat_laws.proofs.Stack.{sp, MayPush, may_push, may_push_again, IsLight, plain_light, store_light, push_light, return_covered, subroutine_covered, call_covered, call_light}
use Rattle.flat_laws.proofs.Computations.{AllGives}

-- it reads near two starts at most, and leaves bytes near one
pub record IsModest (p : Program Effect) : Type 0 where
  pub covered : (memory : Answers) (base : ℕ) → Covered memory base 2 p
  pub light : AllGives IsLight p

given : (effect : Effect) → IsLight effect → IsModest (Gives effect)
given effect h = record { covered = λ memory base. covered_gives memory base 2 effect; light = h }

entry_light : (regs : Regs) (target : ℕ) → IsLight (entry_effect regs target)
entry_light regs target =
    let pushed = push_light regs (register regs 15) in
    record { start = pushed.start; near = pushed.near; call = pushed.call }

count_light : (regs : Regs) (place : Place) (sum : Sum) (test : Bool) (target : ℕ) → IsLight (count_effect regs place sum test target)
count_light regs place sum test target =
    let stored = store_light (record regs { n = sum.n; z = sum.z; v = sum.v }) 4 place sum.value (omega arith) in
    record { start = stored.start; near = stored.near; call = stored.call }

division_modest : (regs : Regs) (place : Place) (dividend divisor : ℕ) → IsModest (division regs place dividend divisor)
unfolding division
division_modest regs place dividend divisor = go (divisor == 0)
  where
    go : (b : Bool) → IsModest (cond b (Refuses 8) (Gives (result_effect regs 4 place (quotient_of dividend divisor))))
    go true = record { covered = λ memory base. covered_refuses memory base 2 8; light = tt }
    go false = given _ (store_light _ 4 place _ (omega arith))

return_light : (regs : Regs) → AllGives IsLight (procedure_return regs)
unfolding procedure_return
return_light regs = yields_bind (λ _. Unit {0}) IsLight (registers_returned regs) _ (yields_any (registers_returned regs)) (λ last _. plain_light last)

subroutine_light : (regs : Regs) → AllGives IsLight (subroutine_return regs)
unfolding subroutine_return
subroutine_light regs = yields_bind (λ _. Unit {0}) IsLight (pop_into regs 15) _ (yields_any (pop_into regs 15)) (λ last _. plain_light last)

call_modest : (start least : ℕ) (before : Effect) (counted : Bool) (ap target : ℕ) → 71 ≤ least → MayPush start least before → before.call ≡ None
    → IsModest (procedure_call before counted ap target)
call_modest start least before counted ap target l h none = record {
  covered = λ memory base. covered_more memory base 1 2 _ (omega arith) (call_covered memory base before counted ap target);
  light = call_light start least before counted ap target l h none;
}

pub computation_modest : (name : Name) (regs : Regs) (a b c : Evaluated) → is_chmk name ≡ false → IsModest (computation name regs a b c)
unfolding computation
computation_modest names.Ret regs a b c other = record { covered = λ memory base. return_covered memory base regs; light = return_light regs }
computation_modest names.Rsb regs a b c other = record { covered = λ memory base. covered_more memory base 1 2 _ (omega arith) (subroutine_covered memory base regs); light = subroutine_light regs }
computation_modest names.Bsbb regs a b c other = given _ (entry_light regs a.value)
computation_modest names.Bsbw regs a b c other = given _ (entry_light regs a.value)
computation_modest names.Jsb regs a b c other = given _ (entry_light regs a.value)
computation_modest names.Aoblss regs a b c other = given _ (count_light regs b.place (sum_of b.value 1) _ _)
computation_modest names.Aobleq regs a b c other = given _ (count_light regs b.place (sum_of b.value 1) _ _)
computation_modest names.Sobgeq regs a b c other = given _ (count_light regs a.place (difference_of a.value 1) _ _)
computation_modest names.Sobgtr regs a b c other = given _ (count_light regs a.place (difference_of a.value 1) _ _)
computation_modest names.Movb regs a b c other = given _ (store_light _ 1 _ _ (omega arith))
computation_modest names.Movw regs a b c other = given _ (store_light _ 2 _ _ (omega arith))
computation_modest names.Movl regs a b c other = given _ (store_light _ 4 _ _ (omega arith))
computation_modest names.Movzbl regs a b c other = given _ (store_light _ 4 _ _ (omega arith))
computation_modest names.Movab regs a b c other = given _ (store_light _ 4 _ _ (omega arith))
computation_modest names.Moval regs a b c other = given _ (store_light _ 4 _ _ (omega arith))
computation_modest names.Mcoml regs a b c other = given _ (store_light _ 4 _ _ (omega arith))
computation_modest names.Clrb regs a b c other = given _ (store_light _ 1 _ _ (omega arith))
computation_modest names.Clrl regs a b c other = given _ (store_light _ 4 _ _ (omega arith))
computation_modest names.Pushl regs a b c other = given _ (push_light _ _)
computation_modest names.Pushab regs a b c other = given _ (push_light _ _)
computation_modest names.Pushal regs a b c other = given _ (push_light _ _)
computation_modest names.Bisl2 regs a b c other = given _ (store_light _ 4 _ _ (omega arith))
computation_modest names.Bisl3 regs a b c other = given _ (store_light _ 4 _ _ (omega arith))
computation_modest names.Bicl2 regs a b c other = given _ (store_light _ 4 _ _ (omega arith))
computation_modest names.Bicl3 regs a b c other = given _ (store_light _ 4 _ _ (omega arith))
computation_modest names.Xorl2 regs a b c other = given _ (store_light _ 4 _ _ (omega arith))
computation_modest names.Xorl3 regs a b c other = given _ (store_light _ 4 _ _ (omega arith))
computation_modest names.Cvtbl regs a b c other = given _ (store_light _ 4 _ _ (omega arith))
computation_modest names.Cvtlb regs a b c other = given _ (store_light _ 1 _ _ (omega arith))
computation_modest names.Addl2 regs a b c other = given _ (store_light _ 4 _ _ (omega arith))
computation_modest names.Addl3 regs a b c other = given _ (store_light _ 4 _ _ (omega arith))
computation_modest names.Incb regs a b c other = given _ (store_light _ 1 _ _ (omega arith))
computation_modest names.Incl regs a b c other = given _ (store_light _ 4 _ _ (omega arith))
computation_modest names.Subl2 regs a b c other = given _ (store_light _ 4 _ _ (omega arith))
computation_modest names.Subl3 regs a b c other = given _ (store_light _ 4 _ _ (omega arith))
computation_modest names.Decb regs a b c other = given _ (store_light _ 1 _ _ (omega arith))
computation_modest names.Decl regs a b c other = given _ (store_light _ 4 _ _ (omega arith))
computation_modest names.Mull2 regs a b c other = given _ (store_light _ 4 _ _ (omega arith))
computation_modest names.Mull3 regs a b c other = given _ (store_light _ 4 _ _ (omega arith))
computation_modest names.Divl2 regs a b c other = division_modest regs b.place b.value a.value
computation_modest names.Divl3 regs a b c other = division_modest regs c.place b.value a.value
computation_modest names.Ashl regs a b c other = given _ (store_light _ 4 _ _ (omega arith))
computation_modest names.Mnegl regs a b c other = given _ (store_light _ 4 _ _ (omega arith))
computation_modest names.Chmk regs a b c other = absurd cc
computation_modest names.Callg regs a b c other = call_modest (back (sp regs) 200) 200 (registers_only regs) false a.value b.value (omega arith) (may_push regs) refl
computation_modest names.Calls regs a b c other = call_modest (back (sp regs) 200) 196 (push_effect regs a.value) true (register (push_effect regs a.value).regs 14) b.value (omega arith)
    (may_push_again regs a.value) (push_light regs a.value).call
computation_modest _ regs a b c other = given _ (plain_light _)
