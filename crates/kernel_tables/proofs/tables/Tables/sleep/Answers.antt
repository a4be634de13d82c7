use Rattle.std.proofs.Common.{◌≡◌, true, Some, refl, subst}
use Rattle.proc_table.specs.declared.process.Proc.{Proc as Record}
use Rattle.proc_table.specs.Records.{find}
use Rattle.kernel_model.specs.Kernel.{Proc}
use Rattle.kernel_tables.specs.declared.tables.Tables.{Tables}
use Rattle.kernel_tables.specs.Changing.{HasChanged}
use Rattle.kernel_tables.proofs.Lineage.{found_there, found_own, some_own, shown_is, residence_asleep, has_changed}
use Rattle.kernel_tables.proofs.tables.Tables.sleep.Goals as goal

pub process-process-requires : goal.process-process-requires
process-process-requires c = found_there c.args.self.now c.args.pid c.requires.records c.requires.there

pub set_process-requires : goal.set_process-requires
set_process-requires c = some_own c.args.pid c.args.self.now.processes c.process-process.result c.process-process.ensures.record

pub returns : goal.returns
returns c p e =
    let t : Tables = c.args.self.now in
    let u : Tables = c.set_process.new.self in
    let was : Record = c.process-process.result in
    let now : Record = record was { asleep = true } in
    let f : find was.pid t.processes ≡ Some was = found_own c.args.pid t.processes was c.process-process.ensures.record in
    subst (λ (q : Proc). HasChanged t u (record q { asleep = true }))
    (shown_is t c.args.pid was p c.requires.records c.process-process.ensures.record e)
    (has_changed t u was now c.requires.records f c.set_process.ensures.record c.set_process.ensures.sound c.set_process.ensures.rest
    (record { lends = λ k. refl; borrowed = refl; holds = c.requires.records.holds was.pid was f }) (residence_asleep was true was.state))
