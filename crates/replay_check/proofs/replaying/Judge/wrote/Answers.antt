use Rattle.std.proofs.Common.{◌≡◌, true, rules}
use Rattle.replay_check.specs.Judging.{is_other}
use Rattle.replay_check.proofs.JudgingWrites.{wrote_at}
use Rattle.replay_check.proofs.replaying.Judge.wrote.Goals as goal

pub returns-clause-verdict : goal.returns-clause-verdict
returns-clause-verdict c = λ A point same at.
    let free : is_other c.args.self.now.last ≡ true = search rules in
    wrote_at A point c.args.self.now.machine c.step.new.self.machine c.args.self.now.last c.last_behind-self.result c.args.pid c.args.bytes.now c.in_ok-did.did c.is_written-same.result
    free c.last_behind-self.ensures at (c.in_ok-did.ensures.entries A same) (c.in_ok-did.ensures.after A same) (c.is_written-same.ensures c.args.pid)
