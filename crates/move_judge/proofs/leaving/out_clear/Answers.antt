use Rattle.std.proofs.Common.{subst}
use Rattle.move_judge.specs.Records.{IsRecord}
use Rattle.move_judge.proofs.Residents.{none_out}
use Rattle.move_judge.proofs.leaving.out_clear.Goals as goal

pub out_of-requires-clause-known : goal.out_of-requires-clause-known
out_of-requires-clause-known c = subst (IsRecord c.args.m.now.kernel c.args.pid) c.in-Some.is c.record_of.ensures

pub returns-in-None-clause-judged : goal.returns-in-None-clause-judged
returns-in-None-clause-judged c = λ F t.
    none_out c.args.m.now.kernel F c.args.pid t (subst (IsRecord c.args.m.now.kernel c.args.pid) c.in-None.is c.record_of.ensures)
