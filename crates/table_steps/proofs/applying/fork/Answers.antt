use Rattle.kernel_tables.proofs.Outcomes.{on_ok}
use Rattle.table_steps.proofs.Applies.{fork_some, fork_there, fork_all}
use Rattle.table_steps.proofs.applying.fork.Goals as goal

pub unreachable-requires : goal.unreachable-requires
unreachable-requires c = fork_some c.args.tables.now c.args.pid c.args.tables.now.next_pid c.requires c.in_default.ensures

pub fork_space-requires-clause-there : goal.fork_space-requires-clause-there
fork_space-requires-clause-there c = fork_there c.args.tables.now c.args.pid c.args.tables.now.next_pid c.in-Some.parent c.requires c.in-Some.ensures

pub returns-clause-applied : goal.returns-clause-applied
returns-clause-applied c =
    on_ok c.add_child.result
    (fork_all c.args.tables.now c.fork_space.new.self c.add_child.new.self c.args.pid c.args.since c.in-Some.parent c.in_ok-sid.sid c.requires
    c.in-Some.ensures c.in_ok-sid.ensures.forked c.in_ok-sid.ensures.number)
    c.add_child.ensures.child
