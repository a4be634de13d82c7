use Rattle.std.proofs.Common.{arith}
use Rattle.text_table.proofs.BitmapLaws.{pages_of-set}
use Rattle.text_table.proofs.page_set.PageSet.set.Goals as goal

pub returns : goal.returns
returns c =
    pages_of-set c.args.self.now.words c.args.v c.with_bit.result c.args.member (omega arith) c.requires
    c.with_bit.ensures.same c.with_bit.ensures.others
