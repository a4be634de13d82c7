use Rattle.vax_code.proofs.Law.{exact, slice_octets}
use Rattle.vax_code.proofs.Lengths.{has_length}
use Rattle.vax_code.proofs.reader.decode.Goals as goal

pub returns-clause-exact : goal.returns-clause-exact
returns-clause-exact c =
    exact c.args.bytes.now c.front_of.result (slice_octets c.args.bytes.now c.type_inv.bytes) c.front_of.ensures.value

pub returns-clause-length : goal.returns-clause-length
returns-clause-length c = has_length c.args.bytes.now c.front_of.result (returns-clause-exact c)
