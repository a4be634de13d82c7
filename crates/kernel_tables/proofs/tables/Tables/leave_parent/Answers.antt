use Rattle.kernel_tables.proofs.Records.{found_pid}
use Rattle.kernel_tables.proofs.Lineage.{some_own}
use Rattle.kernel_tables.proofs.Orphans.{left_orphan}
use Rattle.kernel_tables.proofs.tables.Tables.leave_parent.Goals as goal

pub set_process-requires : goal.set_process-requires
set_process-requires c = some_own c.args.child c.args.self.now.processes c.process-process.result c.process-process.ensures.record

pub returns-in_default : goal.returns-in_default
returns-in_default c = record {
  «record» = left_orphan c.args.self.now.processes c.set_process.new.self.processes c.args.child c.args.parent c.process-process.result c.process-process.ensures.record
      (found_pid c.args.child c.args.self.now.processes c.process-process.result c.process-process.ensures.record) c.if-process-parent.false c.in_default.not-Zombie c.set_process.ensures.record;
  sound = c.set_process.ensures.sound;
  rest = c.set_process.ensures.rest;
}
