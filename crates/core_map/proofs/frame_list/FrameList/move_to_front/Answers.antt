use Rattle.vm_facts.proofs.Lists.{times-without_same}
use Rattle.core_map.proofs.frame_list.FrameList.move_to_front.Goals as goal

pub push_front-requires-clause-absent : goal.push_front-requires-clause-absent
push_front-requires-clause-absent c = rw c.remove.ensures.frames (times-without_same c.args.frame c.args.self.now.frames)
