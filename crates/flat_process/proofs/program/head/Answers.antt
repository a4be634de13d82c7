use Rattle.std.proofs.Common.{sym, arith}
use Rattle.std.proofs.lemmas.List.{take_all, length-take}
use Rattle.flat_process.proofs.program.head.Goals as goal

pub returns-then-bytes-lt32-clause-value : goal.returns-then-bytes-lt32-clause-value
returns-then-bytes-lt32-clause-value c = sym (take_all 32 c.args.bytes.now (let h = c.if-bytes-lt32.true in omega arith))

pub returns-else-bytes-lt32-clause-len : goal.returns-else-bytes-lt32-clause-len
returns-else-bytes-lt32-clause-len c = length-take 32 c.args.bytes.now
