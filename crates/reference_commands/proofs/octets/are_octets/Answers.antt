use Rattle.io_edge.proofs.OctetFiles.{octets_of}
use Rattle.reference_commands.proofs.octets.are_octets.Goals as goal

pub returns : goal.returns
returns g = octets_of g.args.bytes.now g.type_inv.bytes
