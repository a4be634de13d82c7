use Rattle.page_laws.proofs.Bytes.Pages.{filled_coupled, reclaim_coupled, touch_coupled}
use Rattle.page_laws.proofs.Bytes.Runs.{read_coupled, move_coupled, put_step_coupled, done_coupled}
use Rattle.page_laws.proofs.laws.memory_kept.Goals as goal

pub returns : goal.returns
returns c = record {
  fill = filled_coupled;
  reclaim = reclaim_coupled;
  read = read_coupled;
  hands = move_coupled;
  put = put_step_coupled;
  done = done_coupled;
  write = touch_coupled;
}
