use Rattle.transfer_ring.proofs.CountLemmas.{read_flight}
use Rattle.transfer_ring.proofs.ring.TransferRing.begin_read.Goals as goal

pub begin-requires : goal.begin-requires
begin-requires c = read_flight c.args.t c.requires
