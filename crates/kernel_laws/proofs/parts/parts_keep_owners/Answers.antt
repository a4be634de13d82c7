use Rattle.page_laws.proofs.Moves.KeptHands.{KeepsHands}
use Rattle.kernel_model.specs.HandParts.{part_place}
use Rattle.kernel_laws.proofs.PartLeaves.{Parted, parted}
use Rattle.kernel_laws.proofs.PartMachines.{part_keep, part_due}
use Rattle.kernel_laws.proofs.parts.parts_keep_owners.Goals as goal

pub returns-clause-owner : goal.returns-clause-owner
returns-clause-owner c = λ size lives p hs x o can. let d : Parted p (part_place p x) = parted p x o.frames can in d.one size lives hs o

pub returns-clause-few : goal.returns-clause-few
returns-clause-few c = λ p x o can. let d : Parted p (part_place p x) = parted p x o can in d.few

pub returns-clause-hands : goal.returns-clause-hands
returns-clause-hands c = λ p x o can. let k : KeepsHands p (part_place p x) = part_keep p x o can in k.stand

pub returns-clause-due : goal.returns-clause-due
returns-clause-due c = part_due
