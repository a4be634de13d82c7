use Rattle.std.proofs.Common.{sym}
use Rattle.table_steps.proofs.Sources.{own_place}
use Rattle.table_steps.proofs.reading.source_of.Goals as goal

pub returns-else-from_file-clause-own : goal.returns-else-from_file-clause-own
returns-else-from_file-clause-own c = own_place c.args.tables.now.book.size c.args.tables.now.book.holdings c.args.page c.block_of.result c.requires.book (sym c.block_of.ensures)
