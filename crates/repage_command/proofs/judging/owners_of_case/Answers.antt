use Rattle.std.proofs.Common.{rules, ◌≡◌, ℕ, List, Some, Result, Err, Vec, Global, refl, length, take, sym, ap, ◌∙◌, subst}
use Rattle.std.specs.Prelude.{nat_le}
use Rattle.paged_model.specs.declared.line.Line.{Line}
use Rattle.command_edge.specs.declared.fault.Fault.{Fault}
use Rattle.command_edge.specs.Ending.{ending_of}
use Rattle.repage_check.specs.Moves.{HaveFewMoves}
use Rattle.repage_check.specs.Verdicts.{HasMisstep, IsJudged}
use Rattle.repage_command.specs.Reading.{inputs_of}
use Rattle.repage_command.specs.Judging.{TellsJudged, EndsOwning}
use Rattle.repage_command.proofs.Missteps.{front_few}
use Rattle.repage_command.proofs.Judged.{front_short, lacks_owners, owners_told}
use Rattle.repage_command.proofs.judging.owners_of_case.Goals as goal

abbrev front : (ls lines found : List Line) (wanted : ℕ) → found ≡ take wanted lines → lines ≡ ls → found ≡ take wanted ls
front ls lines found wanted is same = is ∙ ap (take wanted) same

pub judge_lines-requires-clause-few : goal.judge_lines-requires-clause-few
judge_lines-requires-clause-few c =
    front_short c.args.case.now.lines.items c.front_of-front.result.now c.args.wanted
    (front c.args.case.now.lines.items c.as_slice-lines.result.now c.front_of-front.result.now c.args.wanted c.front_of-front.ensures c.as_slice-lines.ensures.value) c.requires.few

pub judge_lines-requires-clause-moves : goal.judge_lines-requires-clause-moves
judge_lines-requires-clause-moves c =
    subst HaveFewMoves
    (sym (front c.args.case.now.lines.items c.as_slice-lines.result.now c.front_of-front.result.now c.args.wanted c.front_of-front.ensures c.as_slice-lines.ensures.value))
    (front_few c.args.wanted c.args.case.now.lines.items c.requires.moves)

pub returns-in_err-judged : goal.returns-in_err-judged
returns-in_err-judged c =
    let is : c.from_residual.result ≡ Err c.in_err-judged.field-0.0 = search rules in
    subst (λ (r : Result (Vec ℕ Global) Fault). EndsOwning (inputs_of c.args.numbers c.args.case.now) c.args.case.now.lines.items c.args.wanted (ending_of r)) (sym is)
    (lacks_owners (inputs_of c.args.numbers c.args.case.now) c.front_of-front.result.now c.args.case.now.lines.items 0 c.args.wanted
    (Some (nat_le (length c.as_slice-lines.result.now) c.args.wanted)) c.in_err-judged.field-0.0 c.in_err-judged.ensures)

pub returns-in-NoSpace : goal.returns-in-NoSpace
returns-in-NoSpace c =
    let tells : TellsJudged (inputs_of c.args.numbers c.args.case.now) c.front_of-front.result.now 0 _ c.in_ok-judged.judged = c.in_ok-judged.ensures in
    let verdict : IsJudged (inputs_of c.args.numbers c.args.case.now) c.front_of-front.result.now c.in_ok-judged.judged.verdict = tells.verdict in
    (verdict.no_space c.in-NoSpace.pid).0 c.in-NoSpace.is

pub returns-in-Paged : goal.returns-in-Paged
returns-in-Paged c =
    owners_told (inputs_of c.args.numbers c.args.case.now) c.args.case.now.lines.items c.args.wanted c.in_ok-judged.judged c.in-Paged.is
    (subst (λ (ls : List Line). TellsJudged (inputs_of c.args.numbers c.args.case.now) ls 0 (Some (nat_le (length c.args.case.now.lines.items) c.args.wanted)) c.in_ok-judged.judged)
    (front c.args.case.now.lines.items c.as_slice-lines.result.now c.front_of-front.result.now c.args.wanted c.front_of-front.ensures c.as_slice-lines.ensures.value)
    (subst (λ (ls : List Line). TellsJudged (inputs_of c.args.numbers c.args.case.now) c.front_of-front.result.now 0 (Some (nat_le (length ls) c.args.wanted)) c.in_ok-judged.judged)
    c.as_slice-lines.ensures.value c.in_ok-judged.ensures))

pub returns-in-Not : goal.returns-in-Not
returns-in-Not c =
    let tells : TellsJudged (inputs_of c.args.numbers c.args.case.now) c.front_of-front.result.now 0 _ c.in_ok-judged.judged = c.in_ok-judged.ensures in
    let verdict : IsJudged (inputs_of c.args.numbers c.args.case.now) c.front_of-front.result.now c.in_ok-judged.judged.verdict = tells.verdict in (
      c.in-Not.misstep,
      subst (λ (ls : List Line). HasMisstep (inputs_of c.args.numbers c.args.case.now) ls c.in-Not.misstep)
          (front c.args.case.now.lines.items c.as_slice-lines.result.now c.front_of-front.result.now c.args.wanted c.front_of-front.ensures c.as_slice-lines.ensures.value)
          ((verdict.misstep c.in-Not.misstep).0 c.in-Not.is),
      refl,
    )
