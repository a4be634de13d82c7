use Rattle.std.proofs.Common.{◌≡◌, sym, ◌∙◌, subst}
use Rattle.flat_state.specs.Flat.{FlatState}
use Rattle.replay_check.specs.Judging.{IsAt}
use Rattle.replay_check.proofs.JudgingOutcomes.{ended_at}
use Rattle.replay_check.proofs.replaying.Judge.ended.Goals as goal

pub returns-clause-verdict : goal.returns-clause-verdict
returns-clause-verdict c = λ A point same at.
    let mine = c.take_refused.new.self in
    let images : A.images ≡ mine.programs.now = cc in
    ended_at A point mine.machine c.step.new.self.machine c.args.self.now.last c.step.new.self.last c.args.pid c.args.status c.in-Some.refused c.in_ok-did.did c.is_ended.result
    (sym c.in-Some.ensures.refused) (c.step.ensures.last ∙ c.in-Some.ensures.other)
    (subst (λ (F : FlatState). IsAt A F c.args.self.now.last point) (sym c.take_refused.ensures.machine) at)
    (c.in_ok-did.ensures.entries A images) (c.in_ok-did.ensures.after A images) (c.is_ended.ensures c.args.pid)
