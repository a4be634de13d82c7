use Rattle.std.proofs.Common.{arith}
use Rattle.flat_state.specs.Change.{awake}
use Rattle.flat_machine.proofs.Lists.{set_more}
use Rattle.flat_machine.proofs.machine.wake_all.Goals as goal

pub loop-place-preserved : goal.loop-place-preserved
loop-place-preserved c =
    set_more (awake c.args.pid) c.args.list.now.items c.loop-place.list.items c.loop-place.place c.index_mut.result.now c.wake.new.self
    (omega (arith, c.len-place-end.ensures)) c.loop-place.invariant c.index_mut.ensures.value c.wake.ensures
