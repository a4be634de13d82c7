use Rattle.std.proofs.Common.{ℕ, List, length, ap, ◌∙◌, subst, arith}
use Rattle.std.specs.Prelude.{vec_len}
use Rattle.reference_answers.specs.Answers.{IsOptimum}
use Rattle.reference_answers.proofs.Counting.{distinct_few, length_numbers}
use Rattle.reference_answers.proofs.TextLaws.{is_counted, is_optimum_text}
use Rattle.reference_answers.proofs.answering.optimum_text.Goals as goal

pub least_faults-requires-clause-small : goal.least_faults-requires-clause-small
least_faults-requires-clause-small c =
    let size = ap length (c.as_slice.ensures.value ∙ c.in_ok-numbered.ensures.numbers) in
    let all = length_numbers c.args.refs.now in
    omega (arith, c.requires.small)

pub count_lines-requires-clause-references : goal.count_lines-requires-clause-references
count_lines-requires-clause-references c =
    let size = ap length c.in_ok-numbered.ensures.numbers in
    let all = length_numbers c.args.refs.now in
    let ok = c.in_ok-numbered.numbered.numbers.ok in
    omega (arith, c.requires.small)

pub count_lines-requires-clause-pages : goal.count_lines-requires-clause-pages
count_lines-requires-clause-pages c =
    let size = ap length c.in_ok-numbered.ensures.pages in
    let few = distinct_few c.args.refs.now in
    let ok = c.in_ok-numbered.numbered.pages.ok in
    omega (arith, c.requires.small)

pub returns : goal.returns
returns c =
    let numbers = c.as_slice.ensures.value ∙ c.in_ok-numbered.ensures.numbers in
    let counted = is_counted c.args.refs.now c.in_ok-text.text.items (vec_len c.in_ok-numbered.numbered.numbers) (vec_len c.in_ok-numbered.numbered.pages) c.in_ok-text.ensures
    (let size = ap length c.in_ok-numbered.ensures.numbers in let all = length_numbers c.args.refs.now in let ok = c.in_ok-numbered.numbered.numbers.ok in omega arith)
    (let size = ap length c.in_ok-numbered.ensures.pages in let ok = c.in_ok-numbered.numbered.pages.ok in omega arith) in
    record {
      faults = c.in_ok-plan.plan.faults;
      victims = c.in_ok-plan.plan.victims.items;
      optimum =
          subst (λ (ns : List ℕ). IsOptimum ns c.args.frames c.in_ok-plan.plan.faults c.in_ok-plan.plan.victims.items) numbers
          (record { plan = c.in_ok-plan.ensures.faults; least = c.in_ok-plan.ensures.least; furthest = c.in_ok-plan.ensures.furthest });
      is =
          is_optimum_text c.args.refs.now c.as_slice-2.result.now c.args.frames c.in_ok-plan.plan.faults c.in_ok-plan.plan.victims.items c.as_slice-3.result.now
          c.in_ok-text.text.items c.put_numbered_line.new.text.items c.put_numbered_line-2.new.text.items c.put_victims.new.text.items counted
          c.in_ok-put_numbered_line.ensures c.in_ok-put_numbered_line-2.ensures c.in_ok-put_victims.ensures
          (c.as_slice-2.ensures.value ∙ c.in_ok-numbered.ensures.pages) c.as_slice-3.ensures.value;
    }
