use Rattle.std.proofs.Common.{◌≡◌, sym, subst}
use Rattle.std.specs.Prelude.{IfOk}
use Rattle.vm_facts.specs.declared.entry.Entry.{Entry}
use Rattle.step_judge.specs.Judged.{Judged}
use Rattle.repage_check.specs.Units.{fill_reason}
use Rattle.repage_check.proofs.moving.fill.Goals as goal

pub returns-in-Zero-clause-judged : goal.returns-in-Zero-clause-judged
returns-in-Zero-clause-judged c = λ F t.
    subst (λ (e : Entry). IfOk c.judge_zero.result (λ reason. reason ≡ fill_reason F c.args.m.now.kernel.place e)) (sym c.in-Zero.is) c.judge_zero.ensures.judged

pub returns-in-Zero-clause-made : goal.returns-in-Zero-clause-made
returns-in-Zero-clause-made c = subst (λ (e : Entry). IfOk c.judge_zero.result (Judged e c.args.m.now c.judge_zero.new.m)) (sym c.in-Zero.is) c.judge_zero.ensures.made

pub returns-in-Get-clause-judged : goal.returns-in-Get-clause-judged
returns-in-Get-clause-judged c = λ F t.
    subst (λ (e : Entry). IfOk c.judge_get.result (λ reason. reason ≡ fill_reason F c.args.m.now.kernel.place e)) (sym c.in-Get.is) c.judge_get.ensures.judged

pub returns-in-Get-clause-made : goal.returns-in-Get-clause-made
returns-in-Get-clause-made c = subst (λ (e : Entry). IfOk c.judge_get.result (Judged e c.args.m.now c.judge_get.new.m)) (sym c.in-Get.is) c.judge_get.ensures.made

pub returns-in-Copy-clause-judged : goal.returns-in-Copy-clause-judged
returns-in-Copy-clause-judged c = λ F t.
    subst (λ (e : Entry). IfOk c.judge_copy.result (λ reason. reason ≡ fill_reason F c.args.m.now.kernel.place e)) (sym c.in-Copy.is) c.judge_copy.ensures.judged

pub returns-in-Copy-clause-made : goal.returns-in-Copy-clause-made
returns-in-Copy-clause-made c = subst (λ (e : Entry). IfOk c.judge_copy.result (Judged e c.args.m.now c.judge_copy.new.m)) (sym c.in-Copy.is) c.judge_copy.ensures.made

pub returns-in-Reclaim-clause-judged : goal.returns-in-Reclaim-clause-judged
returns-in-Reclaim-clause-judged c = λ F t.
    subst (λ (e : Entry). IfOk c.judge_reclaim.result (λ reason. reason ≡ fill_reason F c.args.m.now.kernel.place e)) (sym c.in-Reclaim.is) c.judge_reclaim.ensures.judged

pub returns-in-Reclaim-clause-made : goal.returns-in-Reclaim-clause-made
returns-in-Reclaim-clause-made c = subst (λ (e : Entry). IfOk c.judge_reclaim.result (Judged e c.args.m.now c.judge_reclaim.new.m)) (sym c.in-Reclaim.is) c.judge_reclaim.ensures.made

pub returns-in-Put-clause-judged : goal.returns-in-Put-clause-judged
returns-in-Put-clause-judged c = λ F t.
    subst (λ (e : Entry). IfOk c.judge_put.result (λ reason. reason ≡ fill_reason F c.args.m.now.kernel.place e)) (sym c.in-Put.is) (c.judge_put.ensures.judged F t)

pub returns-in-Put-clause-made : goal.returns-in-Put-clause-made
returns-in-Put-clause-made c = subst (λ (e : Entry). IfOk c.judge_put.result (Judged e c.args.m.now c.judge_put.new.m)) (sym c.in-Put.is) c.judge_put.ensures.made
