use Rattle.std.proofs.Common.{◌≡◌, ◌++◌, length, ap, ◌∙◌, arith}
use Rattle.std.specs.Prelude.{vec_len}
use Rattle.stack_dist.specs.Lru.{distinct_pages}
use Rattle.reference_answers.specs.Texts.{counted_text, size_lines}
use Rattle.reference_answers.proofs.Counting.{as_many, distinct_few, length_numbers}
use Rattle.reference_answers.proofs.Curve.{is_curve_of}
use Rattle.reference_answers.proofs.TextLaws.{is_counted}
use Rattle.reference_answers.proofs.answering.curve_text.Goals as goal

pub curve-requires : goal.curve-requires
curve-requires c =
    let size = ap length (c.as_slice.ensures.value ∙ c.in_ok-numbered.ensures.numbers) in
    let all = length_numbers c.args.refs.now in
    omega arith

pub count_lines-requires-clause-references : goal.count_lines-requires-clause-references
count_lines-requires-clause-references c =
    let size = ap length c.in_ok-numbered.ensures.numbers in
    let all = length_numbers c.args.refs.now in
    let ok = c.in_ok-numbered.numbered.numbers.ok in
    omega arith

pub count_lines-requires-clause-pages : goal.count_lines-requires-clause-pages
count_lines-requires-clause-pages c =
    let size = ap length c.in_ok-numbered.ensures.pages in
    let few = distinct_few c.args.refs.now in
    let ok = c.in_ok-numbered.numbered.pages.ok in
    omega arith

pub put_sizes-requires : goal.put_sizes-requires
put_sizes-requires c =
    let size = ap length c.as_slice-2.ensures.value in
    let ok = c.in_ok-faults.faults.ok in
    let sizes = c.in_ok-faults.ensures.sizes ∙ ap distinct_pages (c.as_slice.ensures.value ∙ c.in_ok-numbered.ensures.numbers) ∙ as_many c.args.refs.now in
    let few = distinct_few c.args.refs.now in
    omega arith

pub returns : goal.returns
returns c =
    let numbers = c.as_slice.ensures.value ∙ c.in_ok-numbered.ensures.numbers in
    let counted = is_counted c.args.refs.now c.in_ok-text.text.items (vec_len c.in_ok-numbered.numbered.numbers) (vec_len c.in_ok-numbered.numbered.pages) c.in_ok-text.ensures
    (let size = ap length c.in_ok-numbered.ensures.numbers in let all = length_numbers c.args.refs.now in let ok = c.in_ok-numbered.numbered.numbers.ok in omega arith)
    (let size = ap length c.in_ok-numbered.ensures.pages in let ok = c.in_ok-numbered.numbered.pages.ok in omega arith) in
    let size : length c.in_ok-faults.faults.items ≡ distinct_pages c.as_slice.result.now =
    (let ok = c.in_ok-faults.faults.ok in let sizes = c.in_ok-faults.ensures.sizes in omega arith) in
    let faults = c.as_slice-2.ensures.value ∙ is_curve_of c.args.refs.now c.as_slice.result.now c.in_ok-faults.faults.items numbers size c.in_ok-faults.ensures.entries in
    c.in_ok-put_sizes.ensures
    ∙ ap (λ t. t ++ size_lines 1 c.as_slice-2.result.now) counted
    ∙ ap (λ fs. counted_text c.args.refs.now ++ size_lines 1 fs) faults
