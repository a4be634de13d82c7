use Rattle.std.proofs.Common.{◌≡◌, ℕ, ◌+◌, ◌-◌, ◌*◌, ◌/◌, refl, subst, arith}
use Rattle.reference_answers.specs.Texts.{first_numbers, frame_numbers}
use Rattle.reference_answers.proofs.SweepLaws.{Swept, swept_start, swept_more, swept_end}
use Rattle.reference_answers.proofs.sweeping.sweep.Goals as goal

pub loop-step-init : goal.loop-step-init
loop-step-init c = record {
  few = omega arith;
  swept = swept_start c.args.known.numbers.now c.args.from c.args.every c.new-text.result.items c.new-text.ensures.items;
}

pub loop-step-preserved : goal.loop-step-preserved
loop-step-preserved c = record {
  few = omega (arith, c.loop-step-test.true);
  swept =
      swept_more c.args.known.numbers.now c.args.from c.args.every c.loop-step.step (c.args.from + c.loop-step.step * c.args.every) c.loop-step.text.items
      c.put_line.new.text.items refl c.loop-step.invariant.swept c.in_ok-put_line.ensures;
}

pub returns : goal.returns
returns c =
    let all : c.loop-step.step ≡ (c.args.to - c.args.from) / c.args.every + 1 = omega (arith, c.loop-step.invariant.few, c.loop-step-test.false) in
    swept_end c.args.known.numbers.now (frame_numbers c.args.from c.args.to c.args.every) c.loop-step.text.items
    (subst (λ (count : ℕ). Swept c.args.known.numbers.now (first_numbers c.args.from c.args.every count) c.loop-step.text.items) all c.loop-step.invariant.swept)
