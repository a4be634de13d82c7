use Rattle.std.proofs.Common.{ℕ, Option, sym, ap, arith, ◌∙◌}
use Rattle.std.specs.Prelude.{is_some}
use Rattle.page_opt.proofs.Rising.{plan_rises}
use Rattle.page_opt.proofs.Replaying.{replays_start, replays_next, replays_fail, replays_end}
use Rattle.page_opt.proofs.check_plan.Goals as goal

pub loop-i-init : goal.loop-i-init
loop-i-init c = record {
  replays = replays_start c.args.refs.now c.args.frames c.args.victims.now c.new-replay.result c.new-replay.ensures.cache c.new-replay.ensures.victims c.new-replay.ensures.faults;
}

pub serve-requires : goal.serve-requires
serve-requires c = let f = c.loop-i.invariant.replays.few in let s = c.requires.small in omega arith

pub returns-then-not-served-clause-faults : goal.returns-then-not-served-clause-faults
returns-then-not-served-clause-faults c =
    replays_fail c.args.refs.now c.args.frames c.loop-i.i c.args.victims.now c.loop-i.replay c.serve.new.self c.in_ok-served.served c.loop-i-test.true
    c.loop-i.invariant.replays c.in_ok-served.ensures c.if-not-served.true

pub loop-i-preserved : goal.loop-i-preserved
loop-i-preserved c = record {
  replays =
      replays_next c.args.refs.now c.args.frames c.loop-i.i c.args.victims.now c.loop-i.replay c.serve.new.self c.in_ok-served.served c.loop-i-test.true
      c.loop-i.invariant.replays c.in_ok-served.ensures c.if-not-served.false;
}

pub returns-clause-faults : goal.returns-clause-faults
returns-clause-faults c =
    c.faults.ensures ∙
    replays_end c.args.refs.now c.args.frames c.loop-i.i c.args.victims.now c.loop-i.replay c.loop-i-test.false c.loop-i.invariant.replays

pub returns-clause-rising : goal.returns-clause-rising
returns-clause-rising c = λ some.
    plan_rises c.args.refs.now c.args.frames c.args.victims.now (ap (λ (o : Option ℕ). is_some o) (sym (returns-clause-faults c)) ∙ some)
