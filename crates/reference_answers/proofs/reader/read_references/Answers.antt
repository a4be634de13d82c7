use Rattle.std.proofs.Common.{rules, ◌≡◌, Bool, length, subst, arith}
use Rattle.reference_answers.specs.Adding.{AddsOrRefuses}
use Rattle.reference_answers.proofs.ReadLines.{has_start, has_more, has_bad, has_all}
use Rattle.reference_answers.proofs.reader.read_references.Goals as goal

pub loop-rest-init : goal.loop-rest-init
loop-rest-init c = record { has = has_start c.new-refs.result.items c.args.bytes.now c.new-refs.ensures.items }

pub returns-then-not-good : goal.returns-then-not-good
returns-then-not-good c =
    has_bad c.loop-rest.refs.items c.args.bytes.now c.loop-rest.rest.now c.first_line.result.0.now c.loop-rest.line (omega (arith, c.first_line.ensures.shorter)) c.first_line.ensures.line
    (subst (λ (good : Bool). AddsOrRefuses c.loop-rest.refs.items c.add_line.new.refs.items c.first_line.result.0.now good) c.if-not-good.true c.in_ok-good.ensures)
    c.loop-rest.invariant.has

pub loop-rest-preserved : goal.loop-rest-preserved
loop-rest-preserved c = record {
  has =
      has_more c.loop-rest.refs.items c.add_line.new.refs.items c.args.bytes.now c.loop-rest.rest.now c.first_line.result.0.now c.first_line.result.1.now c.loop-rest.line
      (omega (arith, c.first_line.ensures.shorter)) c.first_line.ensures.line c.first_line.ensures.rest c.first_line.ensures.shorter
      (subst (λ (good : Bool). AddsOrRefuses c.loop-rest.refs.items c.add_line.new.refs.items c.first_line.result.0.now good) c.if-not-good.false c.in_ok-good.ensures)
      c.loop-rest.invariant.has;
}

pub returns : goal.returns
returns c =
    let none : length c.loop-rest.rest.now ≡ 0 = search rules in
    has_all c.loop-rest.refs.items c.args.bytes.now c.loop-rest.rest.now c.loop-rest.line none c.loop-rest.invariant.has
