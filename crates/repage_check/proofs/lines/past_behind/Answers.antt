use Rattle.std.proofs.Common.{inl, inr, ◌<◌, ◌^◌, arith}
use Rattle.repage_check.proofs.lines.past_behind.Goals as goal

pub past_next-requires-clause-counts : goal.past_next-requires-clause-counts
past_next-requires-clause-counts c = elim (c.requires.counts c.in-None.is) [
  | inl none ↦ let small : c.args.past.counted < 2 ^ 32 = omega arith in omega (arith, none, small)
  | inr few ↦ omega (arith, few)
]
