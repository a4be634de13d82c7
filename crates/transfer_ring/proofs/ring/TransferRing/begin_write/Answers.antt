use Rattle.transfer_ring.proofs.CountLemmas.{write_flight}
use Rattle.transfer_ring.proofs.ring.TransferRing.begin_write.Goals as goal

pub begin-requires : goal.begin-requires
begin-requires c = write_flight c.args.t c.requires
