use Rattle.std.proofs.Common.{rules, ◌∙◌, List, ◌++◌, take, ap, ◌≡◌, inl, inr, arith, length}
use Rattle.std.proofs.lemmas.Bool.Decides.{nat_tests}
use Rattle.vax_asm.specs.Program.{labels_of, definitions}
use Rattle.asm_grammar.specs.Lines.{items_in}
use Rattle.asm_grammar.specs.declared.syntax.Definition.{Definition}
use Rattle.vax_asm.proofs.Assembling.{labels_end, labels_step}
use Rattle.vax_asm.proofs.program.labels_of.Goals.{then-loop-left-test+else-not-is_empty, else-loop-left-test}
use Rattle.vax_asm.proofs.program.labels_of.Goals as goal

pub loop-left-init : goal.loop-left-init
unfolding labels_of
loop-left-init c = record { labels = ap (λ (l : List Definition). l ++ definitions 0 (take 4096 (items_in c.args.source.now))) c.new-labels.ensures; room = omega arith }

pub loop-left-preserved : goal.loop-left-preserved
loop-left-preserved c = record {
  labels = labels_step c.loop-left.labels c.in_ok-labels.labels c.loop-left.at c.loop-left.left c.item_size-at.result c.loop-left.rest.now c.next_item-item.result.1.now c.next_item-item.result.0
      (labels_of c.args.source.now) c.in_ok-labels.ensures c.item_size-at.ensures.value (search rules) c.next_item-item.ensures.item c.loop-left.invariant.labels;
  room = omega (arith, c.item_size-at.ensures.few);
}

pub returns : goal.returns
returns c = elim c.loop-left-test.branch [
  | then-loop-left-test+else-not-is_empty w ↦ let none : length c.loop-left.rest.now ≡ 0 = grind (arith, nat_tests, w.is_empty.ensures, w.if-not-is_empty.false) in
      c.of.ensures ∙ labels_end c.loop-left.labels c.loop-left.at c.loop-left.left c.loop-left.rest.now (labels_of c.args.source.now) (inl none) c.loop-left.invariant.labels
  | else-loop-left-test w ↦ let none : c.loop-left.left ≡ 0 = omega (arith, w.loop-left-test.false) in
      c.of.ensures ∙ labels_end c.loop-left.labels c.loop-left.at c.loop-left.left c.loop-left.rest.now (labels_of c.args.source.now) (inr none) c.loop-left.invariant.labels
]
