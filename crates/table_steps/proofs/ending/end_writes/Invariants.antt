use Rattle.std.proofs.Common.{vec_len}
use Rattle.table_steps.proofs.ending.end_writes.Given as goal

abbrev pub decreases-loop-part : goal.decreases-loop-part
decreases-loop-part l = vec_len l.parts
