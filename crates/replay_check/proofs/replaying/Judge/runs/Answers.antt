use Rattle.std.proofs.Common.{◌≡◌, true, false, rules}
use Rattle.replay_check.specs.Judging.{is_other}
use Rattle.replay_check.proofs.Running.{all_ran}
use Rattle.replay_check.proofs.Misfits.{runs_busy, runs_free, none_run}
use Rattle.replay_check.proofs.replaying.Judge.runs.Goals as goal

pub returns-then-not-is_free-clause-runs : goal.returns-then-not-is_free-clause-runs
returns-then-not-is_free-clause-runs c = λ A point at.
    let busy : is_other c.args.self.now.last ≡ false = search rules in
    runs_busy A c.args.self.now.machine c.args.self.now.last point c.args.pid c.args.count busy at

pub returns-then-not-is_free-clause-all : goal.returns-then-not-is_free-clause-all
returns-then-not-is_free-clause-all c = λ A point at e.
    none_run A c.args.self.now.machine c.args.self.now.last point c.args.pid c.args.count e at

pub returns-clause-runs : goal.returns-clause-runs
returns-clause-runs c = λ A point at.
    let free : is_other c.args.self.now.last ≡ true = search rules in
    runs_free A c.args.self.now.machine c.run_on.new.self c.args.self.now.last point c.args.pid c.args.count c.run_on.result c.run_on.ensures.few free at
    (c.run_on.ensures.all A) (c.run_on.ensures.stops A)

pub returns-clause-all : goal.returns-clause-all
returns-clause-all c = λ A point at e.
    let free : is_other c.args.self.now.last ≡ true = search rules in
    all_ran A c.args.self.now.machine c.args.self.now.last point c.args.pid free at c.args.count c.run_on.new.self (c.run_on.ensures.all A e)
