use Rattle.economy_laws.proofs.Called.{zero_called, get_called, reclaim_called, copy_called}
use Rattle.economy_laws.proofs.pages.pages_are_called_for.Goals as goal

pub returns : goal.returns
returns c = record {
  zero = zero_called;
  get = get_called;
  reclaim = reclaim_called;
  copy = copy_called;
}
