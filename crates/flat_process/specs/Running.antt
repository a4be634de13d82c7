-- Instructions of a process in a row, each carried out and none a call, as the code runs them.
use Rattle.std.specs.Prelude.{◌≡◌, ℕ, zero, suc, Result}
use Rattle.flat_state.specs.Space.{puts}
use Rattle.flat_state.specs.Flat.{Holds, Process}
use Rattle.user_vax.specs.Effects.{Effect}
use Rattle.user_vax.specs.Instruction.{answer_of, registers_after, writes_of}
use Rattle.user_vax.specs.declared.refused.Refused.{Refused}
use Rattle.user_vax.specs.declared.stepped.Stepped.TheVariants.{Done}
use Rattle.flat_model.specs.Instruction.{instruction_in}
use Rattle.flat_process.specs.Holdings.{space_in}

-- what the next instruction of a process comes to
abbrev pub outcome_of : Process → Result Effect Refused
outcome_of p = instruction_in (space_in p.holding) p.regs

-- the next instruction of a process is carried out, makes no call, and leaves this process
pub record Goes (p q : Process) : Type 0 where
  pub done : answer_of (outcome_of p) ≡ Done
  pub left : q ≡ record p {
    regs = registers_after p.regs (outcome_of p);
    holding = Holds (puts (space_in p.holding) (writes_of (outcome_of p)));
  }

-- so many do, one after another
abbrev pub GoesFor : Process → ℕ → Process → Type 0
GoesFor p zero q = q ≡ p
GoesFor p (suc count) q = (mid : Process) × GoesFor p count mid × Goes mid q

-- so many do, and the next one doesn't
abbrev pub StopsAfter : Process → ℕ → Type 0
StopsAfter p count = (mid : Process) × GoesFor p count mid × (answer_of (outcome_of mid) ≡ Done → ⊥)
