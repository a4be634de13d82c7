-- The bytes so far, and each row of bytes whose digits make the text begins with them.
use Rattle.std.proofs.Common.{length}
use Rattle.run_text.proofs.HexRows.{HexSoFar}
use Rattle.run_text.proofs.hex.read_hex.Given as goal

abbrev pub invariant-loop-rest : goal.invariant-loop-rest
invariant-loop-rest l = HexSoFar l.text l.bytes.items l.rest

abbrev pub decreases-loop-rest : goal.decreases-loop-rest
decreases-loop-rest l = length l.rest
