use Rattle.std.proofs.Common.{◌≡◌, ◌≢◌, sym, ◌∙◌}
use Rattle.proc_table.specs.declared.process.Life.TheVariants as lives
use Rattle.kernel_tables.proofs.Lineage.{found_own}
use Rattle.kernel_tables.proofs.Givers.{alive_there, gives_there, may_lives, giver_holds, taker_has, lends_back, two_apart, pids_apart, has_lent, has_returned}
use Rattle.kernel_tables.proofs.tables.Tables.pass.Goals as goal

pub process-giver-requires : goal.process-giver-requires
process-giver-requires c = gives_there c.args.self.now c.args.from c.args.from _ c.requires.records c.requires.may

pub process-taker-requires : goal.process-taker-requires
process-taker-requires c = alive_there c.args.self.now c.args.to c.requires.records c.requires.there

pub unreachable-requires : goal.unreachable-requires
unreachable-requires c =
    giver_holds c.process-giver.result.state _ c.args.from c.in_default.not-Holds
    (may_lives c.args.self.now c.args.from c.args.to c.process-giver.result c.process-taker.result c.requires.records c.process-giver.ensures.record c.process-taker.ensures.record c.requires.may)

pub lend-requires-clause-lender : goal.lend-requires-clause-lender
lend-requires-clause-lender c = found_own c.args.from c.args.self.now.processes c.process-giver.result c.process-giver.ensures.record

pub lend-requires-clause-borrower : goal.lend-requires-clause-borrower
lend-requires-clause-borrower c = found_own c.args.to c.args.self.now.processes c.process-taker.result c.process-taker.ensures.record

pub lend-requires-clause-apart : goal.lend-requires-clause-apart
lend-requires-clause-apart c =
    let apart : c.args.from ≢ c.args.to =
    two_apart c.args.self.now.processes c.args.from c.args.to c.process-giver.result c.process-taker.result c.process-giver.ensures.record c.process-taker.ensures.record
    (λ e. let x : lives.Holds c.in-Holds.sid ≡ lives.New = sym c.in-Holds.is ∙ e ∙ c.in-New.is in cc) in
    pids_apart c.args.self.now.processes c.args.from c.args.to c.process-giver.result c.process-taker.result c.process-giver.ensures.record c.process-taker.ensures.record apart

pub give_back-requires-clause-borrower : goal.give_back-requires-clause-borrower
give_back-requires-clause-borrower c = found_own c.args.from c.args.self.now.processes c.process-giver.result c.process-giver.ensures.record

pub give_back-requires-clause-lender : goal.give_back-requires-clause-lender
give_back-requires-clause-lender c = found_own c.args.to c.args.self.now.processes c.process-taker.result c.process-taker.ensures.record

pub give_back-requires-clause-apart : goal.give_back-requires-clause-apart
give_back-requires-clause-apart c =
    let apart : c.args.from ≢ c.args.to =
    two_apart c.args.self.now.processes c.args.from c.args.to c.process-giver.result c.process-taker.result c.process-giver.ensures.record c.process-taker.ensures.record
    (λ e. let x : lives.Holds c.in-Holds.sid ≡ lives.Lends c.in-Lends.sid c.in-Lends.child = sym c.in-Holds.is ∙ e ∙ c.in-Lends.is in cc) in
    pids_apart c.args.self.now.processes c.args.from c.args.to c.process-giver.result c.process-taker.result c.process-giver.ensures.record c.process-taker.ensures.record apart

pub unreachable-requires-in-Holds-state : goal.unreachable-requires-in-Holds-state
unreachable-requires-in-Holds-state c =
    taker_has c.process-giver.result.state c.process-taker.result.state c.in-Holds.sid c.args.from c.in-Holds.is c.in-Holds-state.is
    (may_lives c.args.self.now c.args.from c.args.to c.process-giver.result c.process-taker.result c.requires.records c.process-giver.ensures.record c.process-taker.ensures.record c.requires.may)

pub returns-in-New : goal.returns-in-New
returns-in-New c =
    let apart : c.args.from ≢ c.args.to =
    two_apart c.args.self.now.processes c.args.from c.args.to c.process-giver.result c.process-taker.result c.process-giver.ensures.record c.process-taker.ensures.record
    (λ e. let x : lives.Holds c.in-Holds.sid ≡ lives.New = sym c.in-Holds.is ∙ e ∙ c.in-New.is in cc) in
    has_lent c.args.self.now c.lend.new.self c.args.from c.args.to c.in-Holds.sid c.process-giver.result c.process-taker.result c.requires.records c.process-giver.ensures.record
    c.process-taker.ensures.record apart
    c.in-Holds.is c.in-New.is c.lend.ensures

pub returns-in-Lends : goal.returns-in-Lends
returns-in-Lends c =
    let apart : c.args.from ≢ c.args.to =
    two_apart c.args.self.now.processes c.args.from c.args.to c.process-giver.result c.process-taker.result c.process-giver.ensures.record c.process-taker.ensures.record
    (λ e. let x : lives.Holds c.in-Holds.sid ≡ lives.Lends c.in-Lends.sid c.in-Lends.child = sym c.in-Holds.is ∙ e ∙ c.in-Lends.is in cc) in
    has_returned c.args.self.now c.give_back.new.self c.args.from c.args.to c.in-Holds.sid c.in-Lends.sid c.in-Lends.child c.process-giver.result c.process-taker.result c.requires.records
    c.process-giver.ensures.record c.process-taker.ensures.record apart c.in-Holds.is c.in-Lends.is
    (lends_back c.process-giver.result.state c.process-taker.result.state c.in-Holds.sid c.in-Lends.sid c.in-Lends.child c.args.from c.in-Holds.is c.in-Lends.is
    (may_lives c.args.self.now c.args.from c.args.to c.process-giver.result c.process-taker.result c.requires.records c.process-giver.ensures.record c.process-taker.ensures.record c.requires.may))
    c.give_back.ensures
