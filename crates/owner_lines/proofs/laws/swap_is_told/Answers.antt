use Rattle.owner_lines.proofs.Area.{area, area_spelled, area_told}
use Rattle.owner_lines.proofs.laws.swap_is_told.Goals as goal

pub returns : goal.returns
returns c = λ size hs book. (area size hs, area_spelled size hs, area_told size hs book)
