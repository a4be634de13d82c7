-- Some lines passed, and the rest is left.
use Rattle.std.proofs.Common.{drop}
use Rattle.std.specs.List.{flat_map}
use Rattle.owner_lines.specs.Carried.{outbound_line}
use Rattle.run_text.proofs.Putting.{Leaves}
use Rattle.owner_lines.proofs.transfers.put_all_outbound.Given as goal

abbrev pub invariant-loop-part : goal.invariant-loop-part
invariant-loop-part g l = Leaves g.S.Sink (flat_map outbound_line (drop l.part-index l.parts)) (flat_map outbound_line l.parts) l.fn.out l.out
