use Rattle.std.proofs.Common.{rules, ◌≡◌, ℕ, ◌-◌, List, None, Result, Err, take, sym, ap, ◌∙◌, subst}
use Rattle.std.specs.Prelude.{IfErr}
use Rattle.paged_model.specs.declared.line.Line.{Line}
use Rattle.command_edge.specs.declared.fault.Fault.{Fault}
use Rattle.command_edge.specs.declared.fault.Fault.TheVariants as faults
use Rattle.repage_check.specs.Moves.{HaveFewMoves}
use Rattle.repage_command.specs.Reading.{inputs_of}
use Rattle.repage_command.specs.Judging.{TellsJudged}
use Rattle.repage_command.proofs.Missteps.{front_few}
use Rattle.repage_command.proofs.Judged.{front_short, only_memory, transfer_before}
use Rattle.repage_command.proofs.judging.transfer_before.Goals as goal

abbrev before : (ls lines front : List Line) (line less : ℕ) → front ≡ take less lines → less ≡ line - 1 → lines ≡ ls → front ≡ take (line - 1) ls
before ls lines front line less is number same = is ∙ ap (λ (n : ℕ). take n lines) number ∙ ap (take (line - 1)) same

pub judge_lines-requires-clause-few : goal.judge_lines-requires-clause-few
judge_lines-requires-clause-few c =
    front_short c.args.case.now.lines.items c.front_of-behind.result.now (c.args.misstep.now.line - 1)
    (before c.args.case.now.lines.items c.as_slice.result.now c.front_of-behind.result.now c.args.misstep.now.line c.saturating_sub.result
    c.front_of-behind.ensures c.saturating_sub.ensures c.as_slice.ensures.value)
    c.requires.ready.few

pub judge_lines-requires-clause-moves : goal.judge_lines-requires-clause-moves
judge_lines-requires-clause-moves c =
    subst HaveFewMoves
    (sym (before c.args.case.now.lines.items c.as_slice.result.now c.front_of-behind.result.now c.args.misstep.now.line c.saturating_sub.result
    c.front_of-behind.ensures c.saturating_sub.ensures c.as_slice.ensures.value))
    (front_few (c.args.misstep.now.line - 1) c.args.case.now.lines.items c.requires.ready.moves)

pub returns-in_err-judged-clause-fault : goal.returns-in_err-judged-clause-fault
returns-in_err-judged-clause-fault c =
    let is : c.from_residual.result ≡ Err c.in_err-judged.field-0.0 = search rules in
    subst (λ (r : Result ℕ Fault). IfErr r (λ (fault : Fault). fault ≡ faults.NoMemory)) (sym is)
    (only_memory (inputs_of c.args.numbers c.args.case.now) c.front_of-behind.result.now c.args.frame None c.in_err-judged.field-0.0 c.in_err-judged.ensures)

pub returns-clause-number : goal.returns-clause-number
returns-clause-number c =
    transfer_before (inputs_of c.args.numbers c.args.case.now) c.args.case.now.lines.items c.args.misstep.now c.args.frame c.in_ok-judged.judged c.requires.away
    (subst (λ (ls : List Line). TellsJudged (inputs_of c.args.numbers c.args.case.now) ls c.args.frame None c.in_ok-judged.judged)
    (before c.args.case.now.lines.items c.as_slice.result.now c.front_of-behind.result.now c.args.misstep.now.line c.saturating_sub.result
    c.front_of-behind.ensures c.saturating_sub.ensures c.as_slice.ensures.value)
    c.in_ok-judged.ensures)
