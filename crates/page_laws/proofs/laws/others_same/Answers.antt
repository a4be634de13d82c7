use Rattle.page_laws.proofs.Moves.Stays.{move_stays}
use Rattle.page_laws.proofs.Bytes.Others.{stays_same, filled_same, get_run_same, put_same, reclaim_same, touch_same, done_same}
use Rattle.page_laws.proofs.Leaving.Same.{change_same, residence_same, out_same}
use Rattle.page_laws.proofs.laws.others_same.Goals as goal

pub returns : goal.returns
returns c = record {
  hands = λ p locked b w. stays_same p _ b w (move_stays p locked);
  fill = filled_same;
  read = get_run_same;
  done = done_same;
  put = put_same;
  reclaim = reclaim_same;
  write = touch_same;
  residence = residence_same;
  u_page = λ size pid hs image bytes. out_same size hs image bytes pid;
  change = change_same;
}
