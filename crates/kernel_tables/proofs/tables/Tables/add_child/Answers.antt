use Rattle.kernel_tables.specs.Machine.{life_shown}
use Rattle.kernel_tables.proofs.Outcomes.{on_ok}
use Rattle.kernel_tables.proofs.Lineage.{found_there, has_child}
use Rattle.kernel_tables.proofs.tables.Tables.add_child.Goals as goal

pub process-requires : goal.process-requires
process-requires c = found_there c.args.self.now c.args.parent c.requires.records c.requires.there

pub returns-clause-child : goal.returns-clause-child
returns-clause-child c =
    on_ok c.add_process.result
    (λ m p e. has_child c.args.self.now c.add_process.new.self c.args.parent c.args.since c.process.result p (life_shown c.args.state) c.requires.records c.process.ensures.record e m)
    c.add_process.ensures.one_more
