use Rattle.space_map.proofs.space.SpaceMap.next_in_frame.Goals as goal

pub returns : goal.returns
returns c = c.next_sought.ensures
