use Rattle.std.proofs.Common.{rules, ◌≡◌, List, None, Result, Err, refl, sym, subst}
use Rattle.paged_model.specs.declared.line.Line.{Line}
use Rattle.command_edge.specs.declared.fault.Fault.{Fault}
use Rattle.repage_check.specs.Verdicts.{HasMisstep, IsJudged}
use Rattle.repage_command.specs.declared.judging.Repaged.{Repaged}
use Rattle.repage_command.specs.Reading.{inputs_of}
use Rattle.repage_command.specs.Judging.{TellsJudged, EndsRepaging}
use Rattle.repage_command.proofs.Judged.{lacks_memory, paged_told}
use Rattle.repage_command.proofs.judging.repage_case.Goals as goal

pub returns-in_err-judged : goal.returns-in_err-judged
returns-in_err-judged c =
    let is : c.from_residual.result ≡ Err c.in_err-judged.field-0.0 = search rules in
    subst (λ (r : Result Repaged Fault). EndsRepaging (inputs_of c.args.numbers c.args.case.now) c.args.case.now.lines.items r) (sym is)
    (lacks_memory (inputs_of c.args.numbers c.args.case.now) (inputs_of c.args.numbers c.args.case.now) c.as_slice-lines.result.now c.args.case.now.lines.items 0 None c.in_err-judged.field-0.0
    c.in_err-judged.ensures)

pub returns-in-NoSpace : goal.returns-in-NoSpace
returns-in-NoSpace c =
    let tells : TellsJudged (inputs_of c.args.numbers c.args.case.now) c.as_slice-lines.result.now 0 None c.in_ok-judged.judged = c.in_ok-judged.ensures in
    let verdict : IsJudged (inputs_of c.args.numbers c.args.case.now) c.as_slice-lines.result.now c.in_ok-judged.judged.verdict = tells.verdict in
    (verdict.no_space c.in-NoSpace.pid).0 c.in-NoSpace.is

pub returns-in-Paged : goal.returns-in-Paged
returns-in-Paged c =
    let tells : TellsJudged (inputs_of c.args.numbers c.args.case.now) c.as_slice-lines.result.now 0 None c.in_ok-judged.judged = c.in_ok-judged.ensures in
    let verdict : IsJudged (inputs_of c.args.numbers c.args.case.now) c.as_slice-lines.result.now c.in_ok-judged.judged.verdict = tells.verdict in
    paged_told (inputs_of c.args.numbers c.args.case.now) c.args.case.now.lines.items c.as_slice-lines.result.now _ c.as_slice-lines.ensures.value refl refl (verdict.paged.0 c.in-Paged.is)

pub returns : goal.returns
returns c =
    let tells : TellsJudged (inputs_of c.args.numbers c.args.case.now) c.as_slice-lines.result.now 0 None c.in_ok-judged.judged = c.in_ok-judged.ensures in
    let verdict : IsJudged (inputs_of c.args.numbers c.args.case.now) c.as_slice-lines.result.now c.in_ok-judged.judged.verdict = tells.verdict in
    c.repaged_not.ensures
    (subst (λ (ls : List Line). HasMisstep (inputs_of c.args.numbers c.args.case.now) ls c.in-Not.misstep) c.as_slice-lines.ensures.value
    ((verdict.misstep c.in-Not.misstep).0 c.in-Not.is))
