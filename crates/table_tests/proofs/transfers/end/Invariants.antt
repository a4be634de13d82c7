use Rattle.std.proofs.Common.{vec_len}
use Rattle.table_tests.proofs.transfers.end.Given as goal

abbrev pub decreases-loop-token : goal.decreases-loop-token
decreases-loop-token l = vec_len l.parts

abbrev pub decreases-loop-token-2 : goal.decreases-loop-token-2
decreases-loop-token-2 l = vec_len l.parts
