use Rattle.std.proofs.Common.{arith, subst}
use Rattle.text_table.specs.Texts.{IsTextTable}
use Rattle.text_table.proofs.TableLaws.{table_of-entries}
use Rattle.text_table.proofs.table.TextTable.sharers.Goals as goal

pub returns-clause-table : goal.returns-clause-table
returns-clause-table c = subst IsTextTable c.self.view_is (table_of-entries c.self.inside.entries (omega arith))
