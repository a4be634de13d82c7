use Rattle.std.proofs.Common.{false, refl, arith}
use Rattle.proc_table.specs.declared.process.Proc.{Proc as Record}
use Rattle.kernel_tables.specs.declared.tables.Tables.{Tables}
use Rattle.kernel_tables.proofs.Listed.{records_count}
use Rattle.kernel_tables.proofs.Kin.{unknown}
use Rattle.kernel_tables.proofs.Lineage.{one_more}
use Rattle.kernel_tables.proofs.tables.Tables.add_process.Goals as goal

pub put_in-requires : goal.put_in-requires
put_in-requires c = record {
  none = unknown c.args.self.now.processes c.args.self.now.next_pid c.requires.records;
  few = let n = records_count c.args.self.now.processes c.args.self.now.next_pid c.requires.records in omega (arith, n, c.requires.few);
}

pub returns-clause-one_more : goal.returns-clause-one_more
returns-clause-one_more c =
    let u : Tables = record c.args.self.now { processes = c.put_in.new.processes; next_pid = c.in_ok-number.number } in
    let p : Record = record { pid = c.args.self.now.next_pid; parent = c.args.parent; regs = c.args.regs; state = c.args.state; asleep = false; out = false; borrowed = false; since = c.args.since } in
    one_more c.args.self.now u p c.requires.records refl c.requires.fresh refl refl c.put_in.ensures.record c.put_in.ensures.sound refl c.in_ok-number.ensures.next
