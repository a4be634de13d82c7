use Rattle.std.proofs.Common.{ap, replicate}
use Rattle.text_table.specs.Texts.{unused_texts}
use Rattle.text_table.proofs.table.TextTable.new.Goals as goal

pub returns : goal.returns
unfolding unused_texts
returns c = ap (replicate 16) c.unused.ensures
