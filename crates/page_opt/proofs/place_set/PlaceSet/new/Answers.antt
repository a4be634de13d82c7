use Rattle.std.proofs.Common.{◌≡◌, ℕ, ◌+◌, ◌/◌, List, length, replicate, ap, sym, ◌∙◌, subst, arith}
use Rattle.std.proofs.lemmas.List.{length-replicate}
use Rattle.page_opt.specs.PlaceSet.{AreSummaries}
use Rattle.page_opt.proofs.Summaries.{one_level, level_more, top_level, zero_summaries}
use Rattle.page_opt.proofs.place_set.PlaceSet.new.Goals as goal

pub loop-first-init : goal.loop-first-init
loop-first-init c = record { levels = one_level; some = omega arith; few = omega arith; small = omega arith }

pub loop-first-preserved : goal.loop-first-preserved
loop-first-preserved c = record {
  levels = level_more c.loop-first.first c.loop-first.height c.loop-first.invariant.levels;
  some = omega arith;
  few = let f = c.loop-first.invariant.few in let s = c.loop-first.invariant.some in omega arith;
  small = let t = c.loop-first-test.true in let b = c.requires in omega arith;
}

zeros : (c : goal.In_ok-words) → c.in_ok-words.words.items ≡ replicate ((c.loop-first.first + c.args.bound) / 64 + 1) 0
zeros c = c.in_ok-words.ensures.items_if_clones_equal (λ y same. same)

pub invariant_of-result : goal.invariant_of-result
invariant_of-result c =
    let len = ap (λ (xs : List ℕ). length xs) (zeros c) ∙ length-replicate ((c.loop-first.first + c.args.bound) / 64 + 1) 0 in
    let t = c.loop-first-test.false in
    let whole = top_level c.loop-first.first c.loop-first.height c.loop-first.invariant.levels c.loop-first.invariant.some in
    let s = c.loop-first.invariant.small in
    record {
      height = c.loop-first.invariant.some;
      small = omega arith;
      levels = c.loop-first.invariant.levels;
      top = omega arith;
      inside = omega arith;
      room = omega arith;
      summaries = subst (λ (xs : List ℕ). AreSummaries c.loop-first.first xs) (sym (zeros c)) (zero_summaries ((c.loop-first.first + c.args.bound) / 64 + 1) c.loop-first.first);
    }
