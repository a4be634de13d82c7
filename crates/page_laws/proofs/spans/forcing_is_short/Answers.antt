use Rattle.std.proofs.Common.{◌+◌, false, length, arith}
use Rattle.page_laws.proofs.Spanning.{units_added_false}
use Rattle.page_laws.proofs.Forcing.{Short, forced_short, forced_moves}
use Rattle.page_laws.proofs.spans.forcing_is_short.Goals as goal

pub returns-clause-few : goal.returns-clause-few
returns-clause-few c = λ p r locked journal us o h. let k : Short false us r (length p.transfers + 2) (length p.transfers) (length us) =
    forced_short false us p r locked o h in let a = k.few in omega (arith, units_added_false journal us)

pub returns-clause-flights : goal.returns-clause-flights
returns-clause-flights c = λ p r locked us o h. let k : Short false us r (length p.transfers + 2) (length p.transfers) (length us) = forced_short false us p r locked o h in k.rest

pub returns-clause-moves : goal.returns-clause-moves
returns-clause-moves c = λ p r locked us o s m h. forced_moves us p r locked o s m h
