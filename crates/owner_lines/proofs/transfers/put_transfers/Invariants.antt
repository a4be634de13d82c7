-- The lines of some transfers passed, and the rest is left.
use Rattle.std.proofs.Common.{◌+◌, drop}
use Rattle.owner_lines.specs.Owners.{transfers_from}
use Rattle.run_text.proofs.Putting.{Leaves}
use Rattle.owner_lines.proofs.transfers.put_transfers.Given as goal

abbrev pub invariant-loop-place : goal.invariant-loop-place
invariant-loop-place g l =
    Leaves g.S.Sink (transfers_from l.machine.before (l.place + 1) (drop l.place l.machine.kernel.place.transfers))
    (transfers_from l.machine.before 1 l.machine.kernel.place.transfers) l.fn.out l.out
