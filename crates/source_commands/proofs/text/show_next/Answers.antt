use Rattle.vax_code.proofs.Law.{slice_octets}
use Rattle.source_commands.proofs.Listings.{moves}
use Rattle.source_commands.proofs.text.show_next.Goals as goal

pub returns-clause-moves : goal.returns-clause-moves
returns-clause-moves c = moves c.args.bytes.now c.args.at c.show.result (slice_octets c.args.bytes.now c.type_inv.bytes) c.show.ensures
