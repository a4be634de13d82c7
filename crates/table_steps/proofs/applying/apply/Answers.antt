use Rattle.std.proofs.Common.{sym, ap, subst}
use Rattle.kernel_tables.specs.declared.tables.Tables.{Tables}
use Rattle.table_steps.specs.Applied.{MayApply, AppliesAs}
use Rattle.kernel_tables.proofs.Outcomes.{on_ok}
use Rattle.table_steps.proofs.Applies.{keep_all, sleep_all, reap_all, lend_all}
use Rattle.table_steps.proofs.applying.apply.Goals as goal

pub returns-in-Keep-clause-applied : goal.returns-in-Keep-clause-applied
returns-in-Keep-clause-applied c =
    subst (AppliesAs c.args.tables.now c.args.tables.now c.args.pid c.args.since) (sym c.in-Keep.is)
    (keep_all c.args.tables.now c.args.pid c.args.since (subst (MayApply c.args.tables.now c.args.pid) c.in-Keep.is c.requires))

pub returns-in-Resize-clause-applied : goal.returns-in-Resize-clause-applied
returns-in-Resize-clause-applied c =
    on_ok c.resize_of.result
    (λ h. subst (AppliesAs c.args.tables.now c.resize_of.new.tables c.args.pid c.args.since) (sym c.in-Resize.is) (h c.args.since))
    c.resize_of.ensures.applied

pub returns-in-Lend-clause-applied : goal.returns-in-Lend-clause-applied
returns-in-Lend-clause-applied c =
    on_ok c.add_child.result
    (λ h. subst (AppliesAs c.args.tables.now c.add_child.new.self c.args.pid c.args.since) (sym c.in-Lend.is)
    (lend_all c.args.tables.now c.add_child.new.self c.args.pid c.args.since c.in-Lend.child (subst (MayApply c.args.tables.now c.args.pid) c.in-Lend.is c.requires) h))
    c.add_child.ensures.child

pub returns-in-Exec-clause-applied : goal.returns-in-Exec-clause-applied
returns-in-Exec-clause-applied c =
    on_ok c.exec.result
    (λ h. subst (AppliesAs c.args.tables.now c.exec.new.tables c.args.pid c.args.since) (sym c.in-Exec.is) (h c.args.since))
    c.exec.ensures.applied

pub returns-in-Reap-clause-applied : goal.returns-in-Reap-clause-applied
returns-in-Reap-clause-applied c =
    subst (AppliesAs c.args.tables.now c.reap.new.self c.args.pid c.args.since) (sym c.in-Reap.is)
    (reap_all c.args.tables.now c.reap.new.self c.args.pid c.args.since c.in-Reap.child (subst (MayApply c.args.tables.now c.args.pid) c.in-Reap.is c.requires) c.reap.ensures)

pub returns-in-Sleep-clause-applied : goal.returns-in-Sleep-clause-applied
returns-in-Sleep-clause-applied c =
    subst (AppliesAs c.args.tables.now c.sleep.new.self c.args.pid c.args.since) (sym c.in-Sleep.is)
    (sleep_all c.args.tables.now c.sleep.new.self c.args.pid c.args.since (subst (MayApply c.args.tables.now c.args.pid) c.in-Sleep.is c.requires) c.sleep.ensures)

pub returns-in-Sleep-clause-params : goal.returns-in-Sleep-clause-params
returns-in-Sleep-clause-params c = ap (λ (x : Tables). x.params) (c.sleep.ensures c.requires.process c.requires.there).rest

pub returns-in-Sleep-clause-images : goal.returns-in-Sleep-clause-images
returns-in-Sleep-clause-images c = ap (λ (x : Tables). x.images) (c.sleep.ensures c.requires.process c.requires.there).rest

pub returns-in-End-clause-applied : goal.returns-in-End-clause-applied
returns-in-End-clause-applied c =
    subst (AppliesAs c.args.tables.now c.end_process.new.tables c.args.pid c.args.since) (sym c.in-End.is) (c.end_process.ensures c.args.since)

pub returns-in-End-clause-params : goal.returns-in-End-clause-params
returns-in-End-clause-params c = (c.end_process.ensures 0 c.requires.process c.requires.there).params

pub returns-in-End-clause-images : goal.returns-in-End-clause-images
returns-in-End-clause-images c = (c.end_process.ensures 0 c.requires.process c.requires.there).images
