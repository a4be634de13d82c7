use Rattle.std.proofs.Common.{ℕ, ◌-◌, List, Some, get_or, sym, ap, ◌∙◌}
use Rattle.kernel_tables.specs.declared.named.Named.{Named}
use Rattle.kernel_tables.specs.Sourced.{image_by}
use Rattle.kernel_tables.specs.Machine.{image_at, image_shown}
use Rattle.table_steps.proofs.Sources.{named_item, file_range}
use Rattle.table_steps.proofs.reading.image_of.Goals as goal

pub returns : goal.returns
returns c =
    let ns : List Named = c.args.tables.now.images.items in
    let i : ℕ = image_by (image_at c.args.tables.now) c.args.page in
    let range = file_range ns (image_at c.args.tables.now) c.args.page c.requires in
    named_item ns i c.index.result.now range.0 range.1
    ∙ ap (λ (m : ℕ). Some (image_shown (get_or ns (m - 1) c.index.result.now))) (sym c.image_number.ensures)
    ∙ ap (λ (x : Named). Some (image_shown x)) (sym c.index.ensures)
