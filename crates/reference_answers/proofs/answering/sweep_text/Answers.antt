use Rattle.std.proofs.Common.{ℕ, ◌-◌, List, Option, length, get_or, sym, ap, ◌∙◌, subst, arith}
use Rattle.page_opt.specs.Cache.{AreNextUses}
use Rattle.reference_answers.specs.Texts.{frame_numbers}
use Rattle.reference_answers.specs.Answers.{AreSweepLines}
use Rattle.reference_answers.proofs.Counting.{length_numbers}
use Rattle.reference_answers.proofs.answering.sweep_text.Goals as goal

pub next_uses-requires : goal.next_uses-requires
next_uses-requires c =
    let size = ap length (c.as_slice-numbers.ensures.value ∙ c.in_ok-numbered.ensures.numbers) in
    let all = length_numbers c.args.refs.now in
    omega (arith, c.requires.small)

pub curve-requires : goal.curve-requires
curve-requires c =
    let size = ap length (c.as_slice-numbers.ensures.value ∙ c.in_ok-numbered.ensures.numbers) in
    let all = length_numbers c.args.refs.now in
    omega (arith, c.requires.small)

pub sweep-requires-clause-known : goal.sweep-requires-clause-known
sweep-requires-clause-known c =
    let size = ap length (c.as_slice-numbers.ensures.value ∙ c.in_ok-numbered.ensures.numbers) in
    let all = length_numbers c.args.refs.now in
    let entries = ap length c.as_slice-2.ensures.value in
    record {
      few = omega (arith, c.requires.small);
      next = subst (λ (xs : List (Option ℕ)). AreNextUses c.as_slice-numbers.result.now xs) (sym c.as_slice.ensures.value) c.in_ok-next.ensures;
      sizes = omega (arith, c.in_ok-curve.ensures.sizes, c.in_ok-curve.curve.ok);
      entries = λ n some within. ap (λ (xs : List ℕ). get_or xs (n - 1) 0) c.as_slice-2.ensures.value ∙ c.in_ok-curve.ensures.entries n some within;
      past = c.in_ok-curve.ensures.past;
    }

pub returns : goal.returns
returns c =
    subst (λ (ns : List ℕ). AreSweepLines ns (frame_numbers c.args.from c.args.to c.args.every) c.in_ok-text.text.items)
    (c.as_slice-numbers.ensures.value ∙ c.in_ok-numbered.ensures.numbers) c.in_ok-text.ensures
