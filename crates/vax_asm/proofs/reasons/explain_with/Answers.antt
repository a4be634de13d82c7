use Rattle.std.proofs.Common.{◌≡◌, ◌<◌, ◌∙◌, sym, ap, arith, length, Bool, Some}
use Rattle.std.specs.Option.{option_copied}
use Rattle.std.proofs.lemmas.Bool.Decides.{nat_tests}
use Rattle.vax_asm.specs.Reasons.{line_reason}
use Rattle.vax_asm.specs.declared.answers.Reason.{Reason}
use Rattle.vax_asm.proofs.Explaining.{walked_step, walked_too_many, walked_outside, walked_bad, walked_end}
use Rattle.vax_asm.proofs.reasons.explain_with.Goals as goal

pub returns-then-number-gt4096 : goal.returns-then-number-gt4096
returns-then-number-gt4096 c =
    let some : 0 < length c.loop-rest.rest.now = grind (arith, nat_tests, c.is_empty.ensures, c.loop-rest-test.true) in
    walked_too_many c.args.labels.now c.args.source.now c.loop-rest.rest.now c.loop-rest.number c.loop-rest.at c.loop-rest.earlier c.loop-rest.bss c.requires c.loop-rest.invariant.walked
    c.loop-rest.invariant.few (omega (arith, c.if-number-gt4096.true)) some

pub returns-in_default : goal.returns-in_default
returns-in_default c =
    let out = walked_outside c.args.labels.now c.args.source.now c.loop-rest.rest.now c.next_line.result.1.now c.loop-rest.number c.loop-rest.at c.loop-rest.earlier c.loop-rest.bss
    (option_copied c.next_line.result.0) c.requires c.loop-rest.invariant.walked (omega (arith, c.if-number-gt4096.false)) c.next_line.ensures.line
    (sym c.item_of-item.ensures ∙ c.in_default.is) in
    (out.0, out.1 ∙ ap (λ (r : Reason). Some r) (sym c.outside_reason-reason.ensures))

pub returns-in-Some-line_reason : goal.returns-in-Some-line_reason
returns-in-Some-line_reason c =
    walked_bad c.args.labels.now c.args.source.now c.loop-rest.rest.now c.next_line.result.1.now c.loop-rest.number c.loop-rest.at c.loop-rest.earlier c.loop-rest.bss
    (option_copied c.next_line.result.0) c.in-Some.line c.in-Some-line_reason.reason c.requires c.loop-rest.invariant.walked (omega (arith, c.if-number-gt4096.false)) c.next_line.ensures.line
    (sym c.item_of-item.ensures ∙ c.in-Some.is)
    (ap (λ (b : Bool). line_reason c.args.labels.now c.loop-rest.earlier b c.loop-rest.at c.in-Some.line) (sym c.is_some.ensures) ∙ sym c.line_reason.ensures.value ∙ c.in-Some-line_reason.is)

pub loop-rest-preserved : goal.loop-rest-preserved
loop-rest-preserved c = record {
  walked = walked_step c.args.labels.now c.args.source.now c.loop-rest.rest.now c.next_line.result.1.now c.loop-rest.number c.loop-rest.at c.item_size-at.result c.loop-rest.earlier
      c.in_ok-earlier.earlier c.loop-rest.bss c.bss_after-bss.result (option_copied c.next_line.result.0) c.in-Some.line c.loop-rest.invariant.walked c.next_line.ensures.line
      (sym c.item_of-item.ensures ∙ c.in-Some.is)
      (ap (λ (b : Bool). line_reason c.args.labels.now c.loop-rest.earlier b c.loop-rest.at c.in-Some.line) (sym c.is_some.ensures) ∙ sym c.line_reason.ensures.value ∙ c.in_default-line_reason.is)
      c.in_ok-earlier.ensures
      c.item_size-at.ensures.value
      c.bss_after-bss.ensures;
  few = omega (arith, c.if-number-gt4096.false);
}

pub returns : goal.returns
returns c =
    let none : length c.loop-rest.rest.now ≡ 0 = grind (arith, nat_tests, c.is_empty.ensures, c.loop-rest-test.false) in
    walked_end c.args.labels.now c.args.source.now c.loop-rest.rest.now c.loop-rest.number c.loop-rest.at c.loop-rest.earlier c.loop-rest.bss c.requires c.loop-rest.invariant.walked none
    c.loop-rest.invariant.few
