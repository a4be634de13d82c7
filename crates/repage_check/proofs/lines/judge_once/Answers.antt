use Rattle.std.proofs.Common.{◌≡◌, ◌∷◌, [], None, ap, ◌∙◌}
use Rattle.std.proofs.lemmas.Result.{IfOk-weaker}
use Rattle.vm_facts.specs.declared.entry.Entry.TheVariants as entries
use Rattle.flat_state.specs.Journal.{append}
use Rattle.machine_state.specs.Machine.{Standing}
use Rattle.step_judge.specs.Told.{GoesOnWith}
use Rattle.repage_check.specs.Units.{UnitTold}
use Rattle.repage_check.specs.Lines.{UnitsTold, GoesBy}
use Rattle.repage_check.proofs.Repeating.{made_by}
use Rattle.repage_check.proofs.Widening.{wide_at, once_told, both_ok}
use Rattle.repage_check.proofs.lines.judge_once.Goals as goal

pub returns-clause-told : goal.returns-clause-told
returns-clause-told c = λ holds i A s image at are.
    let old = c.args.m.now in
    let wide = c.widen.new.m in
    let new = c.judge_move.new.m in
    IfOk-weaker c.judge_move.result (λ reason. UnitTold reason (entries.Hands 1) c.args.past wide new holds i A s image)
    (λ reason. UnitsTold reason (entries.Hands 1 ∷ []) c.args.past new holds i A s image)
    (λ reason told. once_told c.args.past old wide new c.widen.ensures.only reason holds i A s image told)
    (c.judge_move.ensures.told holds i A s image (wide_at c.args.past old wide holds i c.widen.ensures.only A s image at) are)

pub returns-clause-on : goal.returns-clause-on
returns-clause-on c =
    let old = c.args.m.now in
    let wide = c.widen.new.m in
    let new = c.judge_move.new.m in
    both_ok c.judge_move.result (λ reason. reason ≡ None → GoesOnWith wide new) (λ reason. reason ≡ None → new.kernel.journal ≡ append wide.kernel.journal (entries.Hands 1))
    (λ reason. reason ≡ None → GoesBy (entries.Hands 1 ∷ []) old new)
    (λ reason on journal none. made_by (entries.Hands 1) old wide new c.widen.ensures.only (on none)
    (journal none ∙ ap (λ (m : Standing). append m.kernel.journal (entries.Hands 1)) c.widen.ensures.only))
    c.judge_move.ensures.on c.judge_move.ensures.journal
