use Rattle.std.proofs.Common.{arith, subst}
use Rattle.text_table.specs.Texts.{IsTextTable, entered}
use Rattle.text_table.proofs.TableLaws.{with_text-entries, table_of-entries}
use Rattle.text_table.proofs.table.TextTable.enter.Goals as goal

pub returns-clause-entered : goal.returns-clause-entered
returns-clause-entered c =
    with_text-entries c.self.inside.entries c.args.self.now c.args.image c.place.result _ c.enter.new.self entered
    c.self.view_is c.place.ensures.at (omega arith) c.enter.ensures

pub returns-clause-table : goal.returns-clause-table
returns-clause-table c = subst IsTextTable c.self.view_is (table_of-entries c.self.inside.entries (omega arith))
