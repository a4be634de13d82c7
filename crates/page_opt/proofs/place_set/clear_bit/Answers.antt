use Rattle.std.proofs.Common.{◌*◌, ◌/◌, ◌%◌, ◌^◌, bit_and, get_or, arith}
use Rattle.std.specs.Int.{w64, bit_not}
use Rattle.std.proofs.lemmas.Nat.Bits.{bit_at_clear_same, bit_at_clear_other}
use Rattle.page_opt.proofs.Summaries.{bit_changed}
use Rattle.page_opt.proofs.place_set.clear_bit.Goals as goal

pub returns-clause-changed : goal.returns-clause-changed
returns-clause-changed c =
    let word = get_or c.args.words.now (c.args.node / 64) 0 in
    let at = c.args.node % 64 in
    bit_changed c.args.words.now c.args.node (bit_and word (bit_not w64 (1 * 2 ^ at % 18446744073709551616))) 0 c.requires
    (bit_at_clear_same w64 word at (omega arith)) (λ i lt ne. bit_at_clear_other w64 word at (omega arith) i lt ne)
