use Rattle.replay_check.proofs.Verdicts.{too_many, judged_more}
use Rattle.replay_check.proofs.replaying.Judge.accepts.Goals as goal

pub returns-in_default-clause-judged : goal.returns-in_default-clause-judged
returns-in_default-clause-judged c = λ A journal same taken.
    let s = c.args.self.now in too_many A s.machine s.last s.count journal c.args.entry.now taken c.in_default.ensures

pub returns-clause-judged : goal.returns-clause-judged
returns-clause-judged c = λ A journal same taken.
    let s = c.args.self.now in
    judged_more A s.machine c.judge.new.self.machine s.last c.judge.new.self.last s.count c.in-Some.count journal c.args.entry.now c.in_ok-accepted.accepted taken
    c.in-Some.ensures.0 c.in-Some.ensures.1 (c.in_ok-accepted.ensures.verdict A taken.point same taken.at)
