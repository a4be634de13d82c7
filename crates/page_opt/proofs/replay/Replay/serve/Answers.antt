use Rattle.std.proofs.Common.{ℕ, Bool, List, sym}
use Rattle.std.proofs.lemmas.Result.{IfOk-weaker}
use Rattle.page_opt.specs.Replayed.{Tracks, Entering, Serving}
use Rattle.page_opt.proofs.Replaying.{replay_hit, replay_stuck, replay_fault, due_there}
use Rattle.page_opt.proofs.replay.Replay.serve.Goals as goal

pub returns-then-contains : goal.returns-then-contains
returns-then-contains c = λ cache k.
    replay_hit c.args.frames c.args.at c.args.page cache c.args.self.now c.due-victim.result c.is_none.result k (sym c.if-contains.ensures) c.due-victim.ensures c.is_none.ensures

pub leave-requires : goal.leave-requires
leave-requires c = due_there c.args.at c.args.self.now.victims.now c.due-victim.result c.due-victim.ensures

pub returns-then-not-leave : goal.returns-then-not-leave
returns-then-not-leave c = λ cache k.
    replay_stuck c.args.frames c.args.at c.args.page cache c.args.self.now c.leave.new.self c.due-victim.result k (sym c.if-contains.ensures) c.due-victim.ensures c.if-not-leave.ensures

pub returns : goal.returns
returns c =
    IfOk-weaker c.enter.result (Entering c.args.frames c.args.page c.leave.new.self c.enter.new.self)
    (λ (ok : Bool). (cache : List ℕ) → Tracks cache c.args.self.now.cache → Serving c.args.frames c.args.at c.args.page cache c.args.self.now c.enter.new.self ok)
    (λ ok e cache k.
    replay_fault c.args.frames c.args.at c.args.page cache c.args.self.now c.leave.new.self c.enter.new.self c.due-victim.result ok k
    (sym c.if-contains.ensures) c.due-victim.ensures c.if-not-leave.ensures e)
    c.enter.ensures
