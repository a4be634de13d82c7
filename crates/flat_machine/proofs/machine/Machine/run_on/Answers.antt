use Rattle.std.proofs.Common.{sym, ap, ◌∙◌}
use Rattle.flat_machine.proofs.Ran.{ran_for, ran_only, idle_for, idle_only}
use Rattle.flat_machine.proofs.machine.Machine.run_on.Goals as goal

pub returns-in-Some-clause-all : goal.returns-in-Some-clause-all
returns-in-Some-clause-all c = λ A e.
    let did = c.run_at.ensures.all e in
    ran_for A c.args.self.now c.run_at.new.self c.in-Some.place c.args.pid c.args.most did.0 c.in-Some.ensures.place c.in-Some.ensures.of c.in-Some.ensures.can did.1 did.2

pub returns-in-Some-clause-stops : goal.returns-in-Some-clause-stops
returns-in-Some-clause-stops c = λ A less.
    ran_only A c.args.self.now c.in-Some.place c.args.pid c.run_at.result c.in-Some.ensures.place c.in-Some.ensures.of c.in-Some.ensures.can (c.run_at.ensures.stops less)
