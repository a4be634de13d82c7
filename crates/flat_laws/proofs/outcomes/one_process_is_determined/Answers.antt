use Rattle.flat_laws.proofs.Pairs.{one_goes_on, visible_agrees, over_is_all, both_over, end_is_last}
use Rattle.flat_laws.proofs.outcomes.one_process_is_determined.Goals as goal

pub returns : goal.returns
returns c = record {
  acts = one_goes_on;
  visible = visible_agrees;
  over = over_is_all;
  same = both_over;
  end = end_is_last;
}
