-- Some lines passed, and the rest is left.
use Rattle.std.proofs.Common.{drop}
use Rattle.std.specs.List.{flat_map}
use Rattle.owner_lines.specs.Owners.{due_line}
use Rattle.run_text.proofs.Putting.{Leaves}
use Rattle.owner_lines.proofs.due.put_due.Given as goal

abbrev pub invariant-loop-place : goal.invariant-loop-place
invariant-loop-place g l = Leaves g.S.Sink (flat_map due_line (drop l.place l.machine.kernel.place.due)) (flat_map due_line l.machine.kernel.place.due) l.fn.out l.out
