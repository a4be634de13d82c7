use Rattle.policy_faults.proofs.Turning.{fifo_full, fifo_free}
use Rattle.policy_faults.proofs.policies.make_fifo_room.Goals as goal

pub returns-then-len-frames : goal.returns-then-len-frames
returns-then-len-frames c = fifo_full c.args.frames c.len.result c.args.ring.now c.drop_first.new.self c.len.ensures c.if-len-frames.true c.drop_first.ensures

pub returns-else-len-frames : goal.returns-else-len-frames
returns-else-len-frames c = fifo_free c.args.frames c.len.result c.args.ring.now c.len.ensures c.if-len-frames.false
