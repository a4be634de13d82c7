use Rattle.run_laws.proofs.Machines.{zero_keeps, copy_keeps, get_keeps, reclaim_keeps, hands_keep, put_keeps, done_keeps, out_keeps, in_keeps, note_keeps, ran_keeps, step_keeps, written_keeps, taken_keeps}
use Rattle.run_laws.proofs.machine.machine_units.Goals as goal

pub returns : goal.returns
returns c = record {
  zero = zero_keeps;
  copy = copy_keeps;
  get = get_keeps;
  reclaim = reclaim_keeps;
  hands = hands_keep;
  put = put_keeps;
  done = done_keeps;
  out = out_keeps;
  comes = in_keeps;
  note = note_keeps;
  ran = ran_keeps;
  step = step_keeps;
  written = written_keeps;
  taken = taken_keeps;
}
