use Rattle.std.proofs.Common.{◌*◌, ◌%◌, ◌^◌, bit_or}
use Rattle.std.specs.Int.{w64}
use Rattle.std.proofs.lemmas.Nat.Bits.{bit_at_set_same, bit_at_set_other}
use Rattle.stack_dist.proofs.GapLaws.{bits_set}
use Rattle.stack_dist.proofs.gaps.with_bit.Goals as goal

pub returns : goal.returns
returns c =
    bits_set 64 c.args.word (bit_or c.args.word (1 * 2 ^ c.args.at % 18446744073709551616)) c.args.at c.requires
    (bit_at_set_same w64 c.args.word c.args.at c.requires) (λ i lt ne. bit_at_set_other w64 c.args.word c.args.at c.requires i ne)
