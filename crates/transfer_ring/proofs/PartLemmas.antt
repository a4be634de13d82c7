-- Lemmas on the parts of a transfer.
use Rattle.std.proofs.Common.{List, [], ◌∷◌, refl}
use Rattle.transfer_ring.specs.declared.transfer.Inbound.{Inbound}
use Rattle.transfer_ring.specs.Parts.{AreSameParts}

-- parts that were left alone
pub same_each : (parts : List Inbound) → AreSameParts parts parts
same_each [] = tt
same_each (part ∷ rest) = (record { page = refl; frame = refl; source = refl }, same_each rest)
