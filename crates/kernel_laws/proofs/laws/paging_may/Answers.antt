use Rattle.kernel_laws.proofs.Kept.Paging.{force_allowed, serve_allowed, read_allowed, put_allowed}
use Rattle.kernel_laws.proofs.laws.paging_may.Goals as goal

pub returns : goal.returns
returns c = record {
  serves = serve_allowed;
  forces = force_allowed;
  reads = read_allowed;
  puts = put_allowed;
}
