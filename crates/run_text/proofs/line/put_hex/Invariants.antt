-- Some passed, and the rest is left.
use Rattle.std.proofs.Common.{drop}
use Rattle.run_text.specs.Text.{hex_text}
use Rattle.run_text.proofs.Putting.{Leaves}
use Rattle.run_text.proofs.line.put_hex.Given as goal

abbrev pub invariant-loop-byte : goal.invariant-loop-byte
invariant-loop-byte g l = Leaves g.S.Sink (hex_text (drop l.byte-index l.bytes)) (hex_text l.bytes) l.fn.out l.out
