use Rattle.std.proofs.Common.{◌+◌, false, length, arith}
use Rattle.page_laws.proofs.Spanning.{units_added_false}
use Rattle.page_laws.proofs.Serving.{Served, served_short, served_moves}
use Rattle.page_laws.proofs.spans.serving_is_short.Goals as goal

pub returns : goal.returns
returns c = record {
  few = λ p r locked q now journal us o t h. let k : Served false us r q (length p.transfers + 5) 0 (length p.transfers) 1 (length us) =
      served_short false us p r locked q now o t h in let a = k.few in omega (arith, units_added_false journal us);
  takings = λ p r locked q now us o t h. let k : Served false us r q (length p.transfers + 5) 0 (length p.transfers) 1 (length us) = served_short false us p r locked q now o t h in k.taken;
  flights = λ p r locked q now us o t h v. let k : Served false us r q (length p.transfers + 5) 0 (length p.transfers) 1 (length us) =
      served_short false us p r locked q now o t h in omega (arith, k.rest v);
  moves = λ p r locked q now us o s m t h. served_moves us p r locked q now o s m t h;
}
