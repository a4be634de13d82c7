use Rattle.kernel_tables.proofs.Outcomes.{on_ok}
use Rattle.table_steps.proofs.Applies.{resize_some, resize_there, resize_settled, resize_all}
use Rattle.table_steps.proofs.applying.resize_of.Goals as goal

pub unreachable-requires : goal.unreachable-requires
unreachable-requires c = resize_some c.args.tables.now c.args.pid c.args.data_pages c.args.stack_pages c.requires c.in-None.ensures

pub resize-requires-clause-there : goal.resize-requires-clause-there
resize-requires-clause-there c = resize_there c.args.tables.now c.args.pid c.args.data_pages c.args.stack_pages c.in-Some.sid c.requires c.in-Some.ensures

pub resize-requires-clause-settled : goal.resize-requires-clause-settled
resize-requires-clause-settled c = resize_settled c.args.tables.now c.args.pid c.args.data_pages c.args.stack_pages c.in-Some.sid c.requires c.in-Some.ensures

pub returns-clause-applied : goal.returns-clause-applied
returns-clause-applied c =
    on_ok c.resize.result
    (resize_all c.args.tables.now c.resize.new.tables c.args.pid c.args.data_pages c.args.stack_pages c.in-Some.sid c.requires c.in-Some.ensures)
    c.resize.ensures.resized
