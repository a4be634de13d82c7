use Rattle.std.proofs.Common.{rules, ◌≡◌, inr, Result, Err, Vec, Global, true, false, sym, ◌∙◌, subst}
use Rattle.paged_model.specs.declared.line.Line.{Line}
use Rattle.command_edge.specs.declared.fault.Fault.{Fault}
use Rattle.replay_command.specs.Reading.{items_of}
use Rattle.repage_check.specs.Moves.{HaveFewMoves}
use Rattle.repage_command.specs.Reading.{EndsFew}
use Rattle.repage_command.proofs.Readings.{bytes_fault}
use Rattle.repage_command.proofs.reading.few_lines_of.Goals as goal

pub returns-in_err-lines-clause-ends : goal.returns-in_err-lines-clause-ends
returns-in_err-lines-clause-ends c =
    let is : c.from_residual.result ≡ Err c.in_err-lines.field-0.0 = search rules in
    subst (λ (r : Result (Vec Line Global) Fault). EndsFew c.args.bytes.now (items_of r)) (sym is)
    (bytes_fault c.args.bytes.now c.in_err-lines.field-0.0 c.in_err-lines.ensures.ends)

pub returns-then-has_few_moves-clause-ends : goal.returns-then-has_few_moves-clause-ends
returns-then-has_few_moves-clause-ends c =
    (c.in_ok-lines.ensures.ends, subst HaveFewMoves c.as_slice.ensures.value (c.has_few_moves.ensures.0 c.if-has_few_moves.true))

pub returns-then-has_few_moves-clause-moves : goal.returns-then-has_few_moves-clause-moves
returns-then-has_few_moves-clause-moves c = subst HaveFewMoves c.as_slice.ensures.value (c.has_few_moves.ensures.0 c.if-has_few_moves.true)

pub returns-clause-ends : goal.returns-clause-ends
returns-clause-ends c = inr (
  c.in_ok-lines.lines.items,
  c.in_ok-lines.ensures.ends,
  λ few. (let z : true ≡ false = sym (c.has_few_moves.ensures.1 (subst HaveFewMoves (sym c.as_slice.ensures.value) few)) ∙ c.if-has_few_moves.false in absurd cc),
)
