use Rattle.std.proofs.Common.{◌∙◌, Result, Ok, ap}
use Rattle.user_vax.specs.declared.refused.Refused.{Refused}
use Rattle.user_vax.specs.Effects.{Effect}
use Rattle.vax_execute.proofs.Fresh.{fresh_effect}
use Rattle.vax_execute.proofs.plain.compute_in_registers.Goals as goal

pub returns : goal.returns
returns c memory =
    c.compute_plain.ensures.value memory
    ∙ ap (λ (e : Effect). let r : Result Effect Refused = Ok e in r)
    (fresh_effect c.compute_plain.new.regs c.compute_plain.new.outcome (c.compute_plain.ensures.unwritten c.requires.pushes_none c.requires.outside))
