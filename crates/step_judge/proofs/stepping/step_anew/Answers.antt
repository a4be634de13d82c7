use Rattle.std.proofs.Common.{sym, ◌∙◌}
use Rattle.step_judge.proofs.Stepped.{ran_line}
use Rattle.step_judge.proofs.stepping.step_anew.Goals as goal

pub step_ran-requires-clause-ran : goal.step_ran-requires-clause-ran
step_ran-requires-clause-ran g c = ran_line c.args.e.now c.args.pid (sym c.is_ran.ensures ∙ c.if-is_ran.true) c.requires.own c.requires.unit
