-- A process whose instructions are carried out one after another.
use Rattle.std.proofs.Common.{◌≡◌, ℕ, zero, suc, ◌+◌, Bool, true, false, cond, Result, IsTrue, refl, sym, ap, ◌∙◌, subst, add-one}
use Rattle.vm_facts.specs.declared.regs.Regs.{Regs}
use Rattle.user_vax.specs.Effects.{Effect}
use Rattle.user_vax.specs.Instruction.{answer_of, registers_after, writes_of}
use Rattle.user_vax.specs.declared.refused.Refused.{Refused}
use Rattle.user_vax.specs.declared.stepped.Stepped.{Stepped}
use Rattle.user_vax.specs.declared.stepped.Stepped.TheVariants.{Done}
use Rattle.user_step.specs.Tried.{registers_tried}
use Rattle.flat_state.specs.Space.{Space, puts}
use Rattle.flat_state.specs.Flat.{Holding, Holds, Process, is_ready, holds_space}
use Rattle.flat_model.specs.Instruction.{instruction_in}
use Rattle.flat_process.specs.Holdings.{space_in}
use Rattle.flat_process.specs.Running.{outcome_of, Goes, GoesFor}

-- an instruction that was carried out, and makes no call, leaves its registers
pub tried_done : (stepped : Stepped) (before : Regs) (r : Result Effect Refused) → stepped ≡ Done
    → registers_tried stepped before r ≡ registers_after before r
tried_done stepped before r e = ap (λ (s : Stepped). registers_tried s before r) e

-- a process whose instruction was carried out over its space
pub goes_on : (p q : Process) (s t : Space) (after : Regs) → p.holding ≡ Holds s → answer_of (instruction_in s p.regs) ≡ Done
    → after ≡ registers_after p.regs (instruction_in s p.regs) → t ≡ puts s (writes_of (instruction_in s p.regs))
    → q ≡ record p { regs = after; holding = Holds t } → Goes p q
goes_on p q s t after held done registers wrote is =
    let same : s ≡ space_in p.holding = sym (ap space_in held) in
    let left : (x : Space) → x ≡ space_in p.holding → answer_of (instruction_in x p.regs) ≡ Done
    → after ≡ registers_after p.regs (instruction_in x p.regs) → t ≡ puts x (writes_of (instruction_in x p.regs)) → Goes p q =
    λ x e d r w. record {
      done = ap (λ (y : Space). answer_of (instruction_in y p.regs)) (sym e) ∙ d;
      left =
          is ∙ ap (λ (rs : Regs). record p { regs = rs; holding = Holds t }) (r ∙ ap (λ (y : Space). registers_after p.regs (instruction_in y p.regs)) e)
          ∙ ap (λ (u : Space). record p { regs = registers_after p.regs (outcome_of p); holding = Holds u })
          (w ∙ ap (λ (y : Space). puts y (writes_of (instruction_in y p.regs))) e);
    } in
    left s same done registers wrote

-- What goes on keeps its number, and its readiness.

pub record Still (p q : Process) : Type 0 where
  pub pid : q.pid ≡ p.pid
  pub ready : is_ready p ≡ true → is_ready q ≡ true
  pub holds : IsTrue (holds_space p.holding) → IsTrue (holds_space q.holding)

awake : (asleep holds : Bool) → cond asleep false holds ≡ true → cond asleep false true ≡ true
awake true holds h = h
awake false holds h = refl

pub one_still : (p q : Process) → Goes p q → Still p q
one_still p q goes =
    subst (Still p) (sym goes.left) (record { pid = refl; ready = λ h. awake p.asleep (holds_space p.holding) h; holds = λ h. refl })

pub all_still : (p q : Process) (count : ℕ) → GoesFor p count q → Still p q
all_still p q zero h = subst (Still p) (sym h) (record { pid = refl; ready = λ r. r; holds = λ r. r })
all_still p q (suc count) h =
    let first : Still p h.0 = all_still p h.0 count h.1 in
    let last : Still h.0 q = one_still h.0 q h.2 in
    record { pid = last.pid ∙ first.pid; ready = λ r. last.ready (first.ready r); holds = λ r. last.holds (first.holds r) }

-- one more instruction
pub more_on : (p mid q : Process) (count : ℕ) → GoesFor p count mid → Goes mid q → GoesFor p (count + 1) q
more_on p mid q count so goes = subst (λ (n : ℕ). GoesFor p n q) (sym (add-one count)) (mid, so, goes)
