use Rattle.system_edge.proofs.Fits.{held_taken}
use Rattle.system_edge.proofs.place.hold.Goals as goal

pub returns : goal.returns
returns g c = held_taken g.F.SystemFile (g.F.SystemFile.bytes c.args.file) c.most_seen.result c.in_ok-read_start.field-0 c.most_seen.ensures c.in_ok-read_start.ensures
