use Rattle.std.proofs.Common.{Bool, not, ap, ◌∙◌}
use Rattle.kernel_tables.specs.Shown.{is_on_swap}
use Rattle.kernel_tables.specs.Steps.{source_by}
use Rattle.kernel_tables.specs.Machine.{lists_of}
use Rattle.table_steps.proofs.Sources.{source_is}
use Rattle.table_steps.proofs.reading.comes_from_file.Goals as goal

pub returns : goal.returns
returns c = ap (λ (b : Bool). source_by (not b)) (c.is_on_swap.ensures ∙ ap is_on_swap c.entry.ensures) ∙ source_is (lists_of c.args.tables.now) c.args.page c.requires.known c.requires.there
