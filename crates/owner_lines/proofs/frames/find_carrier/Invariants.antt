-- None of the transfers so far has the frame.
use Rattle.std.proofs.Common.{◌≡◌, ◌+◌, drop}
use Rattle.owner_lines.specs.Carried.{carried_from}
use Rattle.owner_lines.proofs.frames.find_carrier.Given as goal

abbrev pub invariant-loop-place : goal.invariant-loop-place
invariant-loop-place l = carried_from (l.place + 1) l.frame (drop l.place l.machine.kernel.place.transfers) ≡ carried_from 1 l.frame l.machine.kernel.place.transfers
