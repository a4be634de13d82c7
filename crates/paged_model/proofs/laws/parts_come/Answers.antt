use Rattle.paged_model.proofs.PartReasons.{part_comes, part_none}
use Rattle.paged_model.proofs.laws.parts_come.Goals as goal

pub returns : goal.returns
returns c = λ p x. (part_comes p x, part_none p x)
