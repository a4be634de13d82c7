use Rattle.std.proofs.Common.{arith}
use Rattle.flat_state.specs.Change.{without_parent}
use Rattle.flat_machine.proofs.Lists.{set_more}
use Rattle.flat_machine.proofs.machine.drop_parents.Goals as goal

pub loop-place-preserved : goal.loop-place-preserved
loop-place-preserved c =
    set_more (without_parent c.args.pid) c.args.list.now.items c.loop-place.list.items c.loop-place.place c.index_mut.result.now c.drop_parent.new.self
    (omega (arith, c.len-place-end.ensures)) c.loop-place.invariant c.index_mut.ensures.value c.drop_parent.ensures
