-- No space so far.
use Rattle.std.proofs.Common.{take}
use Rattle.run_text.specs.Pieces.{HasNo}
use Rattle.run_text.proofs.pieces.split_at_space.Given as goal

abbrev pub invariant-loop-i : goal.invariant-loop-i
invariant-loop-i l = HasNo 32 (take l.i l.text)
