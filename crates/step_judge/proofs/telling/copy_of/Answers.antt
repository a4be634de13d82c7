use Rattle.std.proofs.Common.{◌≡◌, sym, subst}
use Rattle.std.specs.Prelude.{IfOk}
use Rattle.vm_facts.specs.declared.entry.Entry.{Entry}
use Rattle.step_judge.proofs.telling.copy_of.Goals as goal

pub returns-in-Out : goal.returns-in-Out
returns-in-Out c = subst (λ (e : Entry). IfOk c.copied_out.result (λ copy. copy ≡ e)) (sym c.in-Out.is) c.copied_out.ensures
