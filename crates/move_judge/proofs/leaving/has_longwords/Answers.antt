use Rattle.std.proofs.Common.{sym, ◌∙◌, subst}
use Rattle.kernel_model.specs.UPage.{AreRegs}
use Rattle.move_judge.specs.Records.{IsRecord}
use Rattle.move_judge.proofs.Recorded.{record_shown, shown_regs}
use Rattle.move_judge.proofs.leaving.has_longwords.Goals as goal

pub returns-in-Some : goal.returns-in-Some
returns-in-Some c = λ p e.
    let known = subst (IsRecord c.args.m.now.kernel c.args.pid) c.in-Some.is c.record_of.ensures in
    subst AreRegs (shown_regs c.args.m.now.kernel c.args.pid c.in-Some.process p known e) c.are_regs.ensures

pub returns-in-None : goal.returns-in-None
returns-in-None c = λ p e.
    let known = subst (IsRecord c.args.m.now.kernel c.args.pid) c.in-None.is c.record_of.ensures in
    let none = sym (record_shown c.args.m.now.kernel c.args.pid _ known) ∙ e in
    absurd cc
