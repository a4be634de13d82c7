use Rattle.page_laws.proofs.Ownership.Entries.{place_entry_owner, place_step_owner}
use Rattle.page_laws.proofs.Ownership.Serve.{serve_owner}
use Rattle.page_laws.proofs.Bytes.Others.{settled_rests}
use Rattle.page_laws.proofs.laws.ownership_kept.Goals as goal

pub returns : goal.returns
returns c = record {
  entry = place_entry_owner;
  change = place_step_owner;
  serve = serve_owner;
  settled = settled_rests;
}
