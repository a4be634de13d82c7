use Rattle.std.proofs.Common.{arith}
use Rattle.text_table.specs.Texts.{left}
use Rattle.text_table.proofs.TableLaws.{with_text-entries}
use Rattle.text_table.proofs.table.TextTable.leave.Goals as goal

pub returns-clause-left : goal.returns-clause-left
returns-clause-left c =
    with_text-entries c.self.inside.entries c.args.self.now c.args.image c.place.result _ c.leave.new.self left
    c.self.view_is c.place.ensures.at (omega arith) c.leave.ensures.left
