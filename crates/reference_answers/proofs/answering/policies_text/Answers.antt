use Rattle.std.proofs.Common.{ℕ, List, length, ap, ◌∙◌, subst, arith}
use Rattle.reference_answers.specs.Answers.{IsOptimum}
use Rattle.reference_answers.proofs.Counting.{length_numbers}
use Rattle.reference_answers.proofs.TextLaws.{is_policies_text}
use Rattle.reference_answers.proofs.answering.policies_text.Goals as goal

pub fifo_faults-requires : goal.fifo_faults-requires
fifo_faults-requires c =
    let size = ap length (c.as_slice-numbers.ensures.value ∙ c.in_ok-numbered.ensures.numbers) in
    let all = length_numbers c.args.refs.now in
    omega (arith, c.requires.small)

pub clock_faults-requires : goal.clock_faults-requires
clock_faults-requires c =
    let size = ap length (c.as_slice-numbers.ensures.value ∙ c.in_ok-numbered.ensures.numbers) in
    let all = length_numbers c.args.refs.now in
    omega (arith, c.requires.small)

pub hands_faults-requires : goal.hands_faults-requires
hands_faults-requires c =
    let size = ap length (c.as_slice-numbers.ensures.value ∙ c.in_ok-numbered.ensures.numbers) in
    let all = length_numbers c.args.refs.now in
    omega (arith, c.requires.small)

pub lru_faults-requires : goal.lru_faults-requires
lru_faults-requires c =
    let size = ap length (c.as_slice-numbers.ensures.value ∙ c.in_ok-numbered.ensures.numbers) in
    let all = length_numbers c.args.refs.now in
    omega (arith, c.requires.small)

pub least_faults-requires-clause-small : goal.least_faults-requires-clause-small
least_faults-requires-clause-small c =
    let size = ap length (c.as_slice-numbers.ensures.value ∙ c.in_ok-numbered.ensures.numbers) in
    let all = length_numbers c.args.refs.now in
    omega (arith, c.requires.small)

pub returns : goal.returns
returns c =
    let numbers = c.as_slice-numbers.ensures.value ∙ c.in_ok-numbered.ensures.numbers in
    record {
      least = c.in_ok-plan.plan.faults;
      fewest = record {
        victims = c.in_ok-plan.plan.victims.items;
        optimum =
            subst (λ (ns : List ℕ). IsOptimum ns c.args.frames c.in_ok-plan.plan.faults c.in_ok-plan.plan.victims.items) numbers
            (record { plan = c.in_ok-plan.ensures.faults; least = c.in_ok-plan.ensures.least; furthest = c.in_ok-plan.ensures.furthest });
      };
      is =
          is_policies_text c.as_slice-numbers.result.now _ c.args.frames c.args.spread c.in_ok-plan.plan.faults c.in_ok-fifo.fifo c.in_ok-clock.clock c.in_ok-hands.hands c.in_ok-lru.lru
          c.in_ok-text.text.items numbers c.in_ok-text.ensures c.in_ok-fifo.ensures c.in_ok-clock.ensures c.in_ok-hands.ensures c.in_ok-lru.ensures;
    }
