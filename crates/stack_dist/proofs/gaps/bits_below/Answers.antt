use Rattle.std.proofs.Common.{ℕ, ◌-◌, bit_and, count_ones, ap, sym, ◌∙◌, arith}
use Rattle.std.proofs.lemmas.Nat.{one_shl, and_mask}
use Rattle.stack_dist.proofs.GapLaws.{bits_counted}
use Rattle.stack_dist.proofs.gaps.bits_below.Goals as goal

pub returns : goal.returns
returns c =
    ap (λ (m : ℕ). count_ones (bit_and c.args.word (m - 1))) (one_shl c.args.at 64 c.requires) ∙
    ap count_ones (and_mask c.args.word c.args.at) ∙ sym (bits_counted 64 c.args.word c.args.at (omega arith))
