use Rattle.std.proofs.Common.{◌≡◌, true, rules}
use Rattle.replay_check.specs.Judging.{is_other}
use Rattle.replay_check.proofs.JudgingGrowth.{grown_at}
use Rattle.replay_check.proofs.replaying.Judge.grew.Goals as goal

pub returns-clause-verdict : goal.returns-clause-verdict
returns-clause-verdict c = λ A point same at.
    let free : is_other c.args.self.now.last ≡ true = search rules in
    grown_at A point c.args.self.now.machine c.step.new.self.machine c.args.self.now.last c.step.new.self.last c.args.pid c.args.pages c.in_ok-did.did c.is_grown.result
    free c.step.ensures.last at (c.in_ok-did.ensures.entries A same) (c.in_ok-did.ensures.after A same) (c.is_grown.ensures c.args.pid)
