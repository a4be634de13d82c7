use Rattle.user_step.proofs.StaysFixed.{none_fixed}
use Rattle.user_step.proofs.fixed_code.FixedCode.none.Goals as goal

pub returns : goal.returns
returns c = λ memory cache address has. none_fixed memory cache address has
