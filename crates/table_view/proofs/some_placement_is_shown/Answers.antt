use Rattle.table_view.proofs.Witness.{witness, is_shown}
use Rattle.table_view.proofs.some_placement_is_shown.Goals as goal

pub returns : goal.returns
returns c = λ core s h. (witness core s, is_shown core s h)
