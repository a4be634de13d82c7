use Rattle.std.proofs.Common.{ℕ, suc, ◌≡◌, ◌-◌, arith, subst}
use Rattle.page_opt.proofs.Summaries.{Descending, descent_starts, descent_more, descent_ends}
use Rattle.page_opt.proofs.place_set.last_leaf.Goals as goal

pub loop-level-init : goal.loop-level-init
loop-level-init c = record {
  level = omega arith;
  descending = descent_starts c.args.first c.args.height c.args.words.now c.requires.levels c.requires.some c.requires.room c.requires.top;
}

pub loop-level-preserved : goal.loop-level-preserved
loop-level-preserved c =
    let level = c.loop-level.invariant.level in
    let more = c.loop-level-test.true in
    let last : c.loop-level.level ≡ suc (c.loop-level.level - 1) = omega arith in
    record {
      level = omega arith;
      descending =
          descent_more c.args.first c.args.height (c.loop-level.level - 1) c.ilog2.result c.args.words.now c.loop-level.node c.requires.levels
          c.requires.summaries c.requires.room (omega arith)
          (subst (λ (d : ℕ). Descending c.args.first c.args.words.now d c.loop-level.node) last c.loop-level.invariant.descending) c.ilog2.ensures.bound
          c.ilog2.ensures.power_le c.ilog2.ensures.next_power_gt;
    }

pub returns : goal.returns
returns c = descent_ends c.args.first c.args.words.now c.loop-level.node c.loop-level.level c.loop-level-test.false c.loop-level.invariant.descending
