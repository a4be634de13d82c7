use Rattle.std.proofs.Common.{ℕ, sym, subst}
use Rattle.kernel_model.specs.ChangeStep.{orphaned_procs}
use Rattle.kernel_tables.specs.Changing.{HasProcesses, HoldsOrNew, processes_in, residents_in}
use Rattle.kernel_tables.proofs.Records.{found_pid}
use Rattle.kernel_tables.proofs.Lineage.{found_own, found_there, shown_is, life_shown_at, alone_of, has_left, has_ended, still_there, still_some}
use Rattle.kernel_tables.proofs.tables.Tables.end_record.Goals as goal

pub process-process-requires : goal.process-process-requires
process-process-requires c = found_there c.args.self.now c.args.pid c.requires.records c.requires.there

pub bury-requires-clause-records : goal.bury-requires-clause-records
bury-requires-clause-records c = let l = has_left c.args.self.now c.leave_children.new.self c.args.pid c.requires.records c.leave_children.ensures in l.records

pub bury-requires-clause-there : goal.bury-requires-clause-there
bury-requires-clause-there c =
    still_some c.args.self.now c.leave_children.new.self c.args.pid c.process-process.result c.leave_children.ensures
    (found_own c.args.pid c.args.self.now.processes c.process-process.result c.process-process.ensures.record)
    (subst HoldsOrNew (life_shown_at c.args.self.now c.args.pid c.process-process.result c.requires.records c.process-process.ensures.record) c.requires.life)

pub bury-requires-clause-alone : goal.bury-requires-clause-alone
bury-requires-clause-alone c was e =
    still_there c.args.self.now c.leave_children.new.self c.args.pid c.process-process.result was c.leave_children.ensures
    (found_own c.args.pid c.args.self.now.processes c.process-process.result c.process-process.ensures.record)
    (alone_of c.args.self.now c.args.pid c.process-process.result c.requires.records c.process-process.ensures.record c.requires.life c.requires.alone)
    (subst HoldsOrNew (life_shown_at c.args.self.now c.args.pid c.process-process.result c.requires.records c.process-process.ensures.record) c.requires.life) e

pub bury-requires-clause-own : goal.bury-requires-clause-own
bury-requires-clause-own c = let a = alone_of c.args.self.now c.args.pid c.process-process.result c.requires.records c.process-process.ensures.record c.requires.life c.requires.alone in a.borrows

pub returns : goal.returns
returns c p e =
    has_ended c.args.self.now c.leave_children.new.self c.bury.new.self c.process-process.result p c.args.status
    (shown_is c.args.self.now c.args.pid c.process-process.result p c.requires.records c.process-process.ensures.record e)
    (subst (λ (n : ℕ). HasProcesses c.args.self.now c.leave_children.new.self c.args.self.now.next_pid (orphaned_procs (processes_in c.args.self.now) n) (residents_in c.args.self.now))
    (sym (found_pid c.args.pid c.args.self.now.processes c.process-process.result c.process-process.ensures.record))
    (has_left c.args.self.now c.leave_children.new.self c.args.pid c.requires.records c.leave_children.ensures))
    c.bury.ensures
