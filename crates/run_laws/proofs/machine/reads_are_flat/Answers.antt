use Rattle.run_laws.proofs.ByteReads.{byte_read}
use Rattle.run_laws.proofs.machine.reads_are_flat.Goals as goal

pub returns : goal.returns
returns c = byte_read
