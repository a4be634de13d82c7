-- How many pages the next instruction of a process touches.
use Rattle.std.proofs.Common.{◌≡◌, ℕ, ◌≤◌, Bool, true, false, List, [], ◌∷◌, ◌++◌, length, Option, Some, None, Result, Ok, Err, ℤ, refl, arith, length-append}
use Rattle.vm_facts.specs.Answers.{Answers}
use Rattle.flat_state.specs.Space.{Space, answers_of, puts}
use Rattle.flat_state.specs.Flat.{Holding, Holds, Lends, Zombie, Process, FlatState, NamedImage, Inputs, process_of, is_ready}
use Rattle.vm_facts.specs.declared.page.Page.{Page}
use Rattle.user_vax.specs.declared.refused.Refused.{Refused}
use Rattle.user_vax.specs.Program.{Program, ByteAccess, accesses, run}
use Rattle.user_vax.specs.Operands.{register}
use Rattle.user_vax.specs.Effects.{Effect}
use Rattle.user_vax.specs.Instruction.{instruction}
use Rattle.flat_state.specs.Change.{apply_writes}
use Rattle.kernel_model.specs.Rank.{HasRoom}
use Rattle.kernel_model.specs.Placement.{Placement}
use Rattle.flat_model.specs.declared.calls.SystemCall.{SystemCall}
use Rattle.flat_model.specs.Calls.{call_of, reply_of}
use Rattle.flat_model.specs.Instruction.{instruction_in}
use Rattle.flat_model.specs.Step.{written_process}
use Rattle.flat_model.specs.Touched.{call_accesses, accesses_behind, accesses_after, step_accesses, touched_in, touched_by, touched_if, touched}
use Rattle.flat_laws.specs.Whole.{HoldsWhole}
use Rattle.flat_laws.proofs.Near.{near_left}
use Rattle.flat_laws.proofs.Cover.{behind, AreNear, all_near_append, all_near_more, Covered}
use Rattle.flat_laws.proofs.Calling.{reply_covered}
use Rattle.flat_laws.proofs.Instructions.{instruction_covered, call_instruction_covered}
use Rattle.flat_laws.proofs.Blocks.{few_pages}

-- accesses near fourteen starts
record AreFew (list : List ByteAccess) : Type 0 where
  pub starts : List ℕ
  pub few : length starts ≤ 14
  pub near : AreNear starts list

-- an instruction alone
alone : {A : Type 0} (memory : Answers) (base : ℕ) (p : Program A) → Covered memory base 9 p → AreFew (accesses memory p ++ [])
alone memory base p h = record {
  starts = base ∷ h.starts;
  few = (let l = h.few in omega arith);
  near = all_near_append (base ∷ h.starts) (accesses memory p) [] h.near tt;
}

-- an instruction, and its call
both : {A B : Type 0} (memory other : Answers) (base : ℕ) (p : Program A) (q : Program B) → Covered memory base 2 p → Covered other base 11 q
    → AreFew (accesses memory p ++ accesses other q)
both memory other base p q h k = record {
  starts = (base ∷ h.starts) ++ k.starts;
  few = (let l = h.few in let m = k.few in let n = length-append (base ∷ h.starts) k.starts in omega arith);
  near = all_near_append ((base ∷ h.starts) ++ k.starts) (accesses memory p) (accesses other q)
      (all_near_more (base ∷ h.starts) ((base ∷ h.starts) ++ k.starts) (λ x n. near_left (base ∷ h.starts) k.starts x n) (accesses memory p) h.near)
      (all_near_more (base ∷ k.starts) ((base ∷ h.starts) ++ k.starts) (behind base h.starts k.starts) (accesses other q) k.near);
}

step_few : (images : List NamedImage) (F : FlatState) (p : Process) (s : Space) → AreFew (step_accesses images F p s)
unfolding step_accesses
step_few images F p s = go (instruction_in s p.regs) refl
  where
    no_call : AreFew (accesses (answers_of s) (instruction p.regs) ++ [])
    no_call = alone (answers_of s) (register p.regs 15) (instruction p.regs) (instruction_covered (answers_of s) p.regs)

    calls : (effect : Effect) (number : ℤ) (call : Option SystemCall) → run (answers_of s) (instruction p.regs) ≡ Ok effect → effect.call ≡ Some number
        → AreFew (accesses (answers_of s) (instruction p.regs) ++ call_accesses images F p s effect call)
    calls effect number None e c = no_call
    calls effect number (Some call) e c =
        both (answers_of s) (answers_of (puts s effect.writes)) (register p.regs 15) (instruction p.regs)
        (reply_of images (apply_writes F p.pid effect.writes) (written_process p s effect.writes) (puts s effect.writes) call effect.regs)
        (call_instruction_covered (answers_of s) p.regs effect number e c)
        (reply_covered (answers_of (puts s effect.writes)) (register p.regs 15) images (apply_writes F p.pid effect.writes) (written_process p s effect.writes) (puts s effect.writes) call effect.regs)

    by : (effect : Effect) (o : Option ℤ) → run (answers_of s) (instruction p.regs) ≡ Ok effect → effect.call ≡ o
        → AreFew (accesses (answers_of s) (instruction p.regs) ++ accesses_behind images F p s effect o)
    by effect None e c = no_call
    by effect (Some number) e c = calls effect number (call_of number) e c

    go : (result : Result Effect Refused) → run (answers_of s) (instruction p.regs) ≡ result → AreFew (accesses (answers_of s) (instruction p.regs) ++ accesses_after images F p s result)
    go (Ok effect) e = by effect effect.call e refl
    go (Err refused) e = no_call

pub touched_few : (A : Inputs) (F : FlatState) (pid : ℕ) → HoldsWhole F pid → length (touched A F pid) ≤ 28
unfolding touched
touched_few A F pid whole = go (process_of F pid) refl
  where
    holding : (p : Process) (held : Holding) → process_of F pid ≡ Some p → p.holding ≡ held → length (touched_in A.images F p held) ≤ 28
    holding p (Holds s) here holds =
        let few = step_few A.images F p s in
        let n = few_pages s few.starts (step_accesses A.images F p s) (whole p s here holds) few.near in
        let l = few.few in
        omega arith
    holding p (Lends sid child) here holds = omega arith
    holding p (Zombie status) here holds = omega arith

    by : (p : Process) (b : Bool) → process_of F pid ≡ Some p → length (touched_by b A.images F p) ≤ 28
    by p true here = holding p p.holding here refl
    by p false here = omega arith

    go : (o : Option Process) → process_of F pid ≡ o → length (touched_if A.images F o) ≤ 28
    go None here = omega arith
    go (Some p) here = by p (is_ready p) here

-- with 64 frames there is room for as many locked pages
pub room : (place : Placement) (locked : List Page) → length locked ≤ 32 → 64 ≤ length place.holds → HasRoom place locked
room place locked few many = record { quarter = omega arith; rest = omega arith }
