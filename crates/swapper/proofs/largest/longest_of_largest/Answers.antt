use Rattle.std.proofs.Common.{List, take, ap, ◌∙◌}
use Rattle.page_model.specs.Swapper.{Runner, longest, ranked}
use Rattle.swapper.specs.declared.candidates.Kind.TheVariants as kinds
use Rattle.swapper.specs.Runners.{passes}
use Rattle.swapper.proofs.Numbers.{all_above}
use Rattle.swapper.proofs.largest.longest_of_largest.Goals as goal

pub returns : goal.returns
returns c =
    let p = c.args.m.now.kernel.place in
    c.longest_of_four.ensures p c.four_largest.ensures.measured
    ∙ ap (longest p) c.four_largest.ensures.list
    ∙ ap (λ (rs : List Runner). longest p (take 4 (ranked p rs))) (all_above (passes p kinds.GoesOut) c.args.processes.now c.args.next)
