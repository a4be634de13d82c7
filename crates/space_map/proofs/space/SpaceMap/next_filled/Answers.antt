use Rattle.space_map.proofs.space.SpaceMap.next_filled.Goals as goal

pub returns : goal.returns
returns c = c.next_sought.ensures
