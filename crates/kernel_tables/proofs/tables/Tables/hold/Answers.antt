use Rattle.std.proofs.Common.{refl, sym, subst}
use Rattle.proc_table.specs.declared.process.Proc.{Proc as Record}
use Rattle.proc_table.specs.declared.process.Life.TheVariants.{Holds}
use Rattle.kernel_model.specs.Kernel.{Proc, HoldsSpace}
use Rattle.kernel_tables.specs.declared.tables.Tables.{Tables}
use Rattle.kernel_tables.specs.Changing.{HoldsOrNew, HasChanged}
use Rattle.kernel_tables.proofs.Kin.{alone_stands}
use Rattle.kernel_tables.proofs.Lineage.{found_there, found_own, some_own, shown_is, alone_of, fresh_residence, life_shown_at, has_changed}
use Rattle.kernel_tables.proofs.tables.Tables.hold.Goals as goal

pub process-process-requires : goal.process-process-requires
process-process-requires c = found_there c.args.self.now c.args.pid c.requires.records c.requires.there

pub set_process-requires : goal.set_process-requires
set_process-requires c = some_own c.args.pid c.args.self.now.processes c.process-process.result c.process-process.ensures.record

pub returns : goal.returns
returns c p e =
    let t : Tables = c.args.self.now in
    let u : Tables = c.set_process.new.self in
    let was : Record = c.process-process.result in
    let now : Record = record was { state = Holds c.args.sid } in
    let a = alone_of t c.args.pid was c.requires.records c.process-process.ensures.record c.requires.life c.requires.alone in
    let l = subst HoldsOrNew (life_shown_at t c.args.pid was c.requires.records c.process-process.ensures.record) c.requires.life in
    subst (λ (q : Proc). HasChanged t u (record q { life = HoldsSpace c.args.sid }))
    (shown_is t c.args.pid was p c.requires.records c.process-process.ensures.record e)
    (has_changed t u was now c.requires.records (found_own c.args.pid t.processes was c.process-process.ensures.record)
    c.set_process.ensures.record c.set_process.ensures.sound c.set_process.ensures.rest
    (alone_stands now was (record { lends = λ k. refl; borrows = a.borrows }) a) (sym (fresh_residence was was.state l)))
