use Rattle.std.proofs.Common.{Option, sym, ap, ◌∙◌}
use Rattle.page_model.specs.Swapper.{brings}
use Rattle.swapper.specs.declared.candidates.Seen.{Seen}
use Rattle.swapper.specs.Runners.{runner_of}
use Rattle.swapper.proofs.choosing.choose_in.Goals as goal

pub returns-in-Some : goal.returns-in-Some
returns-in-Some c = λ p h. ap (λ (o : Option Seen). brings (runner_of o)) (sym c.in-Some.is) ∙ ap brings (c.longest.ensures p h)

pub returns-in-None : goal.returns-in-None
returns-in-None c = λ p h. ap (λ (o : Option Seen). brings (runner_of o)) (sym c.in-None.is) ∙ ap brings (c.longest.ensures p h)
