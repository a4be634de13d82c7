use Rattle.text_table.proofs.BitmapLaws.{pages_of-zeros}
use Rattle.text_table.proofs.page_set.PageSet.empty.Goals as goal

pub returns : goal.returns
returns c = pages_of-zeros
