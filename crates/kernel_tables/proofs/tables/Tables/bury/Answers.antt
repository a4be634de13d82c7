use Rattle.std.proofs.Common.{refl}
use Rattle.kernel_tables.specs.declared.tables.Tables.{Tables}
use Rattle.kernel_tables.proofs.Lineage.{buried, zombie_stands, zombie_left}
use Rattle.kernel_tables.proofs.tables.Tables.bury.Goals as goal

pub returns-then-process-eq0 : goal.returns-then-process-eq0
returns-then-process-eq0 c =
    let u : Tables = record c.args.self.now { processes = c.take_out.new.processes } in
    buried c.args.self.now u c.args.process c.args.status c.requires.records c.requires.there c.requires.alone c.if-process-eq0.true
    c.take_out.ensures.record c.take_out.ensures.sound refl

pub wake-requires : goal.wake-requires
wake-requires c =
    let z = zombie_stands c.args.self.now c.set_process.new.self c.args.process c.args.status c.requires.records c.requires.there c.requires.alone
    c.requires.own c.set_process.ensures.record c.set_process.ensures.sound c.set_process.ensures.rest in
    z.records

pub returns : goal.returns
returns c =
    let z = zombie_stands c.args.self.now c.set_process.new.self c.args.process c.args.status c.requires.records c.requires.there c.requires.alone
    c.requires.own c.set_process.ensures.record c.set_process.ensures.sound c.set_process.ensures.rest in
    zombie_left c.args.self.now c.set_process.new.self c.wake.new.self c.args.process c.args.status c.if-process-eq0.false z c.wake.ensures
