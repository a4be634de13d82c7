use Rattle.std.proofs.Common.{◌≡◌, map, take, drop, ◌++◌}
use Rattle.flat_state.specs.Change.{without_parent}
use Rattle.flat_machine.proofs.machine.drop_parents.Given as goal

abbrev pub invariant-loop-place : goal.invariant-loop-place
invariant-loop-place l = l.list.items ≡ map (without_parent l.pid) (take l.place l.fn.list.items) ++ drop l.place l.fn.list.items
