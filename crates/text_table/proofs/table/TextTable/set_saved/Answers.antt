use Rattle.std.proofs.Common.{arith, subst}
use Rattle.text_table.specs.Texts.{IsTextTable, marked}
use Rattle.text_table.proofs.TableLaws.{with_text-entries, table_of-entries}
use Rattle.text_table.proofs.table.TextTable.set_saved.Goals as goal

pub returns-clause-marked : goal.returns-clause-marked
returns-clause-marked c =
    with_text-entries c.self.inside.entries c.args.self.now c.args.image c.place.result _ c.set_saved.new.self (λ text. marked text c.args.v c.args.saved)
    c.self.view_is c.place.ensures.at (omega arith) c.set_saved.ensures

pub returns-clause-table : goal.returns-clause-table
returns-clause-table c = subst IsTextTable c.self.view_is (table_of-entries c.self.inside.entries (omega arith))
