-- Lemmas on the transfers of a ring that a device can reach.
use Rattle.std.proofs.Common.{ℕ, List, [], ◌∷◌, ◌++◌, Option, drop}
use Rattle.io_edge.specs.FileHolding.{NamedFile}
use Rattle.transfer_ring.specs.declared.transfer.Transfer.{Transfer}
use Rattle.transfer_ring.specs.Sound.{IsReachable, AreReachable}

pub reach_behind : (holds : Option (List NamedFile)) (blocks : ℕ) (ring : List Transfer) (t : Transfer) → AreReachable holds blocks ring
    → IsReachable holds blocks t → AreReachable holds blocks (ring ++ t ∷ [])
reach_behind holds blocks [] t are is = (is, tt)
reach_behind holds blocks (first ∷ rest) t are is = (are.0, reach_behind holds blocks rest t are.1 is)

pub reach_rest : (holds : Option (List NamedFile)) (blocks : ℕ) (ring : List Transfer) → AreReachable holds blocks ring
    → AreReachable holds blocks (drop 1 ring)
reach_rest holds blocks [] are = tt
reach_rest holds blocks (first ∷ rest) are = are.1
