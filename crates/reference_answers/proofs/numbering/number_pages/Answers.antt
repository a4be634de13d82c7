use Rattle.std.proofs.Common.{length, map, get_or, ap, sym, ◌∙◌, arith}
use Rattle.vm_facts.specs.declared.page.Page.TheVariants.{Data}
use Rattle.flat_model.specs.Touched.{distinct}
use Rattle.reference_answers.specs.Numbers.{numbers_of}
use Rattle.reference_answers.specs.Keys.{key_of, with_page}
use Rattle.reference_answers.proofs.NumberLaws.{pages_next, numbers_step}
use Rattle.reference_answers.proofs.Counting.{pages_before}
use Rattle.reference_answers.proofs.numbering.number_pages.Goals as goal

pub loop-page-init : goal.loop-page-init
unfolding distinct numbers_of
loop-page-init c = record {
  keys = c.new-keys.ensures.empty ∙ ap (map key_of) (sym c.new-pages.ensures.items);
  pages = c.new-pages.ensures.items;
  numbers = c.new-numbers.ensures.items;
}

pub number_page-requires-clause-small : goal.number_page-requires-clause-small
number_page-requires-clause-small c =
    let few = pages_before c.args.refs.now c.loop-page.page-index c.loop-page-test.true in
    let size = ap length c.loop-page.invariant.pages in
    let ok = c.loop-page.pages.ok in
    omega arith

pub loop-page-preserved : goal.loop-page-preserved
loop-page-preserved c = record {
  keys = c.in_ok-number.ensures.keys;
  pages =
      c.in_ok-number.ensures.pages
      ∙ ap (λ ps. with_page ps (get_or c.args.refs.now c.loop-page.page-index (Data 0 0))) c.loop-page.invariant.pages
      ∙ pages_next c.args.refs.now c.loop-page.page-index (Data 0 0) c.loop-page-test.true;
  numbers =
      c.in_ok-push.ensures.items
      ∙ numbers_step c.args.refs.now c.loop-page.pages.items c.number_page.new.pages.items c.loop-page.numbers.items c.loop-page.page-index c.in_ok-number.number (Data 0 0)
      c.loop-page-test.true c.loop-page.invariant.pages c.loop-page.invariant.numbers c.in_ok-number.ensures.pages c.in_ok-number.ensures.number;
}
