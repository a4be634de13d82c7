use Rattle.std.proofs.Common.{ℕ, ap, ◌∙◌}
use Rattle.page_model.specs.Place.{data_count}
use Rattle.fault_fill.proofs.Touching.{data_size}
use Rattle.fault_fill.proofs.touch.data_pages_of.Goals as goal

pub returns-clause-count : goal.returns-clause-count
returns-clause-count c =
    c.data_pages.ensures.count
    ∙ data_size c.args.m.now.kernel.place c.map_of.ensures.shown.core c.map_of.result.now c.map_of.ensures.shown.space
    ∙ ap (λ (n : ℕ). data_count c.args.m.now.kernel.place n) c.map_of.ensures.named
