use Rattle.std.proofs.Common.{refl}
use Rattle.move_judge.proofs.leaving.judge_out.Goals as goal

-- with a reason no device was called
pub returns-in-Some-clause-outside : goal.returns-in-Some-clause-outside
returns-in-Some-clause-outside g c = record {
  leads = g.met.D.SwapDev.leads_nowhere c.args.swap.now;
  blocks = refl;
  read_faults = refl;
  write_faults = refl;
}
