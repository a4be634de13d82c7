use Rattle.std.proofs.Common.{◌≡◌, ◌++◌, map, take, drop}
use Rattle.kernel_tables.specs.Shown.{placed}
use Rattle.kernel_tables.proofs.spaces.set_each.Given as goal

abbrev pub invariant-loop-space : goal.invariant-loop-space
invariant-loop-space l = l.space-items ≡ map (placed l.page l.place) (take l.space-index l.fn.maps.items) ++ drop l.space-index l.fn.maps.items
