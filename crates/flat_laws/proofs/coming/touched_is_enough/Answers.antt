use Rattle.flat_laws.proofs.Shown.{instruction_shown, reply_shown, writes_shown}
use Rattle.flat_laws.proofs.coming.touched_is_enough.Goals as goal

pub returns-clause-instruction : goal.returns-clause-instruction
returns-clause-instruction c = instruction_shown

pub returns-clause-reply : goal.returns-clause-reply
returns-clause-reply c = reply_shown

pub returns-clause-writes : goal.returns-clause-writes
returns-clause-writes c = writes_shown
