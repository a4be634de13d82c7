use Rattle.std.proofs.Common.{arith}
use Rattle.swap_dmap.proofs.ChunkLaws.{chunk_small, chunk_large, chunk_most}
use Rattle.swap_dmap.proofs.chunk.Goals as goal

pub returns-then-i-lt-FIRST_LARGEST : goal.returns-then-i-lt-FIRST_LARGEST
returns-then-i-lt-FIRST_LARGEST c = omega (arith, chunk_small c.args.i (omega arith), chunk_most c.args.i)

pub returns-else-i-lt-FIRST_LARGEST : goal.returns-else-i-lt-FIRST_LARGEST
returns-else-i-lt-FIRST_LARGEST c = omega (arith, chunk_large c.args.i (omega arith))
