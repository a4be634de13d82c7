use Rattle.io_edge.proofs.OctetFiles.{octets_of}
use Rattle.io_edge.proofs.octets.are_octets.Goals as goal

pub returns : goal.returns
returns g = octets_of g.args.bytes.now g.type_inv.bytes
