use Rattle.std.proofs.Common.{subst}
use Rattle.table_steps.specs.Tables.{Tables}
use Rattle.table_steps.specs.Alike.{AreRecords}
use Rattle.table_steps.specs.Lives.{AreMarked}
use Rattle.table_steps.specs.Machine.{Standing}
use Rattle.table_steps.proofs.Listed.{are_marked}
use Rattle.machine_state.proofs.Standings.{stands_now}
use Rattle.machine_state.proofs.machine.Machine.processes.Goals as goal

pub returns-clause-records : goal.returns-clause-records
returns-clause-records c r =
    let t : Tables = c.self.inside.tables in
    let now = stands_now c.self.inside c.args.self.now c.self.invariant c.self.view_is r in
    subst (λ (s : Standing). AreRecords t.processes s.kernel.next_pid) c.self.view_is now.stands.records

pub returns-clause-borrowers : goal.returns-clause-borrowers
returns-clause-borrowers c r =
    let t : Tables = c.self.inside.tables in
    let now = stands_now c.self.inside c.args.self.now c.self.invariant c.self.view_is r in
    subst (λ (s : Standing). AreMarked s.kernel.processes t.processes) c.self.view_is (are_marked t.processes t.next_pid now.stands.records)
