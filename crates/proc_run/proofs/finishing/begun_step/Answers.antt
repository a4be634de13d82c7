use Rattle.std.proofs.Common.{◌≡◌, ℕ, ◌+◌, ◌-◌, ◌<◌, Some, None, drop, length, sym, ap, ◌∙◌, subst, arith}
use Rattle.vm_facts.specs.declared.entry.Entry.{Entry}
use Rattle.std.proofs.lemmas.List.{at_drop_all}
use Rattle.step_units.specs.Rests.{is_done, before_done}
use Rattle.proc_run.specs.Rests.{begun_by}
use Rattle.proc_run.proofs.BegunTold.{found_last}
use Rattle.proc_run.proofs.finishing.begun_step.Goals as goal

pub loop-left-init : goal.loop-left-init
loop-left-init c = (omega arith, at_drop_all before_done c.args.journal.now (length c.args.journal.now) (omega arith))

pub returns-then-not-is_done : goal.returns-then-not-is_done
returns-then-not-is_done c =
    let js = c.args.journal.now in
    let n = c.loop-left.left - 1 in
    let some : 0 < c.loop-left.left = c.loop-left-test.true in
    let next : c.loop-left.left ≡ n + 1 = omega arith in
    let few = c.loop-left.invariant.0 in
    let rest = subst (λ (k : ℕ). before_done (drop k js) ≡ None) next c.loop-left.invariant.1 in
    c.begun_by.ensures ∙ ap (λ (y : Entry). begun_by (Some y)) c.index-journal-left.is
    ∙ found_last js n _ (omega arith) rest (ap is_done (sym c.index-journal-left.is) ∙ sym c.is_done.ensures ∙ c.if-not-is_done.true)
