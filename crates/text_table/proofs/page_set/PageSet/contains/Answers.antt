use Rattle.std.proofs.Common.{◌∙◌}
use Rattle.text_table.proofs.BitmapLaws.{page_by_bit}
use Rattle.text_table.proofs.page_set.PageSet.contains.Goals as goal

pub returns : goal.returns
returns c = c.has_bit.ensures ∙ page_by_bit c.args.self.now.words c.args.v c.requires
