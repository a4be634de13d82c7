use Rattle.replay_check.proofs.Misfits.{runs_verdict}
use Rattle.replay_check.proofs.replaying.Judge.ran.Goals as goal

pub returns-clause-verdict : goal.returns-clause-verdict
returns-clause-verdict c = λ A point at.
    runs_verdict A c.runs.new.self.machine c.runs.new.self.last point c.args.pid c.args.count c.runs.result (c.runs.ensures.runs A point at) (c.runs.ensures.all A point at)
