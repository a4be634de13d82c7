-- Restoring registers, one after another.
use Rattle.std.proofs.Common.{◌≡◌, ℕ, suc, ◌+◌, ◌-◌, ◌<◌, cond, arith}
use Rattle.vm_facts.specs.Answers.{Answers}
use Rattle.vm_facts.specs.declared.regs.Regs.{Regs}
use Rattle.user_vax.specs.Program.{Gives, run}
use Rattle.user_vax.specs.Effects.{pop_into}
use Rattle.user_vax.specs.Frames.{restored, bit}
use Rattle.user_vax.proofs.Runs.{then, run_bind}

pub restored_more : (memory : Answers) (reg mask : ℕ) (regs : Regs) → reg < 12
    → run memory (restored (12 - reg) mask regs)
    ≡ then (run memory (cond (bit mask reg) (pop_into regs reg) (Gives regs))) (λ after. run memory (restored (12 - (reg + 1)) mask after))
unfolding restored
restored_more memory reg mask regs below =
    let left : 12 - reg ≡ suc (11 - reg) = omega arith in
    let next : 12 - (reg + 1) ≡ 11 - reg = omega arith in
    let same : 11 - (11 - reg) ≡ reg = omega arith in
    rw (left, next, same) (run_bind memory (cond (bit mask reg) (pop_into regs reg) (Gives regs)) (restored (11 - reg) mask))
