use Rattle.std.proofs.Common.{drop, drop_of_length-le, ap}
use Rattle.flat_state.specs.Journal.{units_of}
use Rattle.replay_check.proofs.Following.{end_on}
use Rattle.replay_check.proofs.touching.follow_all.Goals as goal

pub returns : goal.returns
returns c = λ A whole same way.
    let now = c.loop-entry.follower in
    end_on A now.machine now.refused now.pages.items (units_of (drop c.loop-entry.entry-index c.args.entries.now)) whole
    (ap units_of (drop_of_length-le c.args.entries.now c.loop-entry-test.false))
    (c.loop-entry.invariant.way A whole same way)
