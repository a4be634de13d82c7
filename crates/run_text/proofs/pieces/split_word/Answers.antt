use Rattle.std.proofs.Common.{arith}
use Rattle.run_text.proofs.LineEnds.{no_more}
use Rattle.run_text.proofs.pieces.split_word.Goals as goal

pub loop-i-preserved : goal.loop-i-preserved
loop-i-preserved c = no_more 32 c.args.text.now c.loop-i.i (omega arith) c.loop-i.invariant c.if-byte-eq32.false
