use Rattle.std.proofs.Common.{◌≡◌, [], None, sym, ◌∙◌}
use Rattle.std.proofs.lemmas.Result.{IfOk-weaker}
use Rattle.step_judge.specs.PartJudged.{JudgedPart}
use Rattle.paged_model.specs.declared.line.Line.TheVariants as lines
use Rattle.paged_model.specs.Parts.{part_reason}
use Rattle.repage_check.specs.Lines.{LineTold, GoesBy}
use Rattle.repage_check.proofs.Parting.{part_begun, part_told, part_goes}
use Rattle.repage_check.proofs.Widening.{both_ok}
use Rattle.repage_check.proofs.lines.judge_alone.Goals as goal

pub returns-in-Some-clause-told : goal.returns-in-Some-clause-told
returns-in-Some-clause-told c = λ holds i A s image at.
    part_begun c.args.past c.args.m.now c.args.m.now holds i A s image c.args.part at c.in-Some.reason (sym c.begun_reason.ensures ∙ c.in-Some.is)

pub returns-in-None-clause-told : goal.returns-in-None-clause-told
returns-in-None-clause-told c = λ holds i A s image at.
    let p = c.args.past in
    let old = c.args.m.now in
    let new = c.judge_part.new.m in
    let x = c.args.part in
    both_ok c.judge_part.result (λ reason. reason ≡ part_reason old.kernel.place x) (JudgedPart x old new) (λ reason. LineTold reason (lines.Part x) p new holds i A s image)
    (λ reason e judged. part_told p old new holds i A s image x at reason (sym c.begun_reason.ensures ∙ c.in-None.is) e judged)
    c.judge_part.ensures.judged c.judge_part.ensures.made

pub returns-in-None-clause-on : goal.returns-in-None-clause-on
returns-in-None-clause-on c =
    let old = c.args.m.now in
    let new = c.judge_part.new.m in
    let x = c.args.part in
    IfOk-weaker c.judge_part.result (JudgedPart x old new) (λ reason. reason ≡ None → GoesBy [] old new)
    (λ reason judged. part_goes old new x reason c.judge_part.ensures.goes_on c.requires.wide judged) c.judge_part.ensures.made
