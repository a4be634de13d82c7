use Rattle.std.proofs.Common.{ℕ, ◌/◌, List, length, ap, ◌∙◌, arith}
use Rattle.std.proofs.lemmas.List.{length-set}
use Rattle.stack_dist.proofs.TreeLaws.{total-take-le}
use Rattle.stack_dist.proofs.GapLaws.{length-bit_counts, word_there, counts_total, gaps_before, gap_left, gap_counted}
use Rattle.stack_dist.proofs.gaps.Gaps.leave.Goals as goal

pub index-word-requires : goal.index-word-requires
index-word-requires c =
    let there = word_there c.self.inside.words.items c.args.self.now c.args.at c.self.view_is c.requires.within in
    let ok = c.self.inside.words.ok in
    omega arith

pub index_mut-requires : goal.index_mut-requires
index_mut-requires c =
    let there = word_there c.self.inside.words.items c.args.self.now c.args.at c.self.view_is c.requires.within in
    let ok = c.self.inside.words.ok in
    omega arith

pub raise-requires-clause-within : goal.raise-requires-clause-within
raise-requires-clause-within c =
    let there = word_there c.self.inside.words.items c.args.self.now c.args.at c.self.view_is c.requires.within in
    let len = ap (λ (xs : List ℕ). length xs) c.self.invariant.counts ∙ length-bit_counts c.self.inside.words.items in
    omega arith

pub raise-requires-clause-fits : goal.raise-requires-clause-fits
raise-requires-clause-fits c =
    let same = counts_total c.self.inside.words.items c.self.inside.counts c.args.self.now c.self.view_is c.self.invariant.counts in
    let fits = c.requires.fits in
    omega arith

pub overflow_add-result : goal.overflow_add-result
overflow_add-result c =
    let sum =
    gaps_before c.self.inside.words.items c.self.inside.counts c.args.self.now c.args.at c.index-word.result.now c.raise.result c.bits_below.result
    c.self.view_is c.self.invariant.counts c.requires.within c.index-word.ensures c.raise.ensures.before c.bits_below.ensures
    in
    let part = total-take-le c.args.at c.args.self.now in
    let fits = c.requires.fits in
    omega arith

pub invariant_of-self : goal.invariant_of-self
invariant_of-self c = record {
  room =
      let len = length-set c.self.inside.words.items (c.args.at / 64) c.with_bit.result in
      let room = c.self.invariant.room in
      omega arith;
  counts =
      c.raise.ensures.raised ∙
      gap_counted c.self.inside.words.items c.self.inside.counts c.args.self.now c.args.at c.index-word.result.now c.with_bit.result c.self.view_is
      c.self.invariant.counts c.requires.within c.requires.none c.index-word.ensures c.with_bit.ensures;
}

pub returns-clause-before : goal.returns-clause-before
returns-clause-before c =
    gaps_before c.self.inside.words.items c.self.inside.counts c.args.self.now c.args.at c.index-word.result.now c.raise.result c.bits_below.result
    c.self.view_is c.self.invariant.counts c.requires.within c.index-word.ensures c.raise.ensures.before c.bits_below.ensures

pub returns-clause-gap : goal.returns-clause-gap
returns-clause-gap c =
    gap_left c.self.inside.words.items c.args.self.now c.args.at c.index-word.result.now c.with_bit.result c.self.view_is c.requires.within
    c.requires.none c.index-word.ensures c.with_bit.ensures
