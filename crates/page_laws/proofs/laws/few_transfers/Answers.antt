use Rattle.page_laws.proofs.Moves.Transfers.{entry_count, force_few, serve_few}
use Rattle.page_laws.proofs.Moves.Parts.{entry_parts, serve_parts}
use Rattle.page_laws.proofs.laws.few_transfers.Goals as goal

pub returns : goal.returns
returns c = record {
  entry = entry_count;
  force = force_few;
  serve = serve_few;
  parts = entry_parts;
  served = serve_parts;
}
