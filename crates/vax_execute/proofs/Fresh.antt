-- An outcome with nothing in it.
use Rattle.std.proofs.Common.{◌≡◌, refl}
use Rattle.vm_facts.specs.declared.regs.Regs.{Regs}
use Rattle.vax_execute.specs.declared.outcome.Outcome.{Outcome}
use Rattle.vax_execute.specs.Outcomes.{IsFresh, effect_of}
use Rattle.user_vax.specs.Effects.{registers_only}

-- it stands for registers alone
pub fresh_effect : (regs : Regs) (outcome : Outcome) → IsFresh outcome → effect_of regs outcome ≡ registers_only regs
fresh_effect regs outcome fresh = rw (fresh.unwritten, fresh.uncalled) refl
