use Rattle.std.proofs.Common.{w32}
use Rattle.std.proofs.lemmas.Nat.Bits.{bit_at_set_same, bit_at_set_other, bit_at_clear_same, bit_at_clear_other}
use Rattle.text_table.proofs.page_set.with_bit.Goals as goal

pub returns-then-one-clause-same : goal.returns-then-one-clause-same
returns-then-one-clause-same c = rw c.if-one.true (bit_at_set_same w32 c.args.word c.args.bit c.requires)

pub returns-then-one-clause-others : goal.returns-then-one-clause-others
returns-then-one-clause-others c = λ i below apart. bit_at_set_other w32 c.args.word c.args.bit c.requires i apart

pub returns-else-one-clause-same : goal.returns-else-one-clause-same
returns-else-one-clause-same c = rw c.if-one.false (bit_at_clear_same w32 c.args.word c.args.bit c.requires)

pub returns-else-one-clause-others : goal.returns-else-one-clause-others
returns-else-one-clause-others c = λ i below apart. bit_at_clear_other w32 c.args.word c.args.bit c.requires i below apart
