use Rattle.std.proofs.Common.{ap}
use Rattle.swap_book.specs.Book.{Book}
use Rattle.kernel_tables.specs.declared.tables.Tables.{Tables}
use Rattle.table_steps.proofs.Applies.{end_leaves, end_all}
use Rattle.table_steps.proofs.applying.end_process.Goals as goal

pub give_up_space-requires-clause-leaves : goal.give_up_space-requires-clause-leaves
give_up_space-requires-clause-leaves c = end_leaves c.args.tables.now c.args.pid c.args.status c.requires

pub returns : goal.returns
returns c =
    let v : Tables = c.give_up_space.new.tables in
    let w : Tables = record v { book = c.drop_owner.new.self } in
    end_all c.args.tables.now c.args.pid c.args.status c.requires v w c.give_up_space.ensures (ap (λ (b : Book). record v { book = b }) c.drop_owner.ensures)
    c.end_record.new.self c.end_record.ensures
