use Rattle.std.proofs.Common.{◌≡◌, List, Option, length}
use Rattle.io_edge.specs.FileHolding.{NamedFile}
use Rattle.transfer_ring.specs.Sound.{AreReachable}
use Rattle.table_tests.proofs.transfers.the_seventeenth_transfer_is_handed_back.Given as goal

abbrev pub invariant-loop-v : goal.invariant-loop-v
invariant-loop-v g l = (length l.ring ≡ l.v) × ((holds : Option (List NamedFile)) → AreReachable holds 8 l.ring)

abbrev pub decreases-loop-transfer : goal.decreases-loop-transfer
decreases-loop-transfer g l = length l.ring
