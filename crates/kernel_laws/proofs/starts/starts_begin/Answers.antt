use Rattle.kernel_laws.proofs.Kept.Begins.{start_none, start_begins, starting_more, start_finds}
use Rattle.kernel_laws.proofs.starts.starts_begin.Goals as goal

pub returns : goal.returns
returns c = record {
  none = start_none;
  next = start_begins;
  starting = starting_more;
  pieces = start_finds;
}
