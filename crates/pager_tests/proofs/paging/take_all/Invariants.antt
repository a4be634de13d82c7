use Rattle.std.proofs.Common.{map, Some}
use Rattle.io_edge.specs.FileHolding.{named_file}
use Rattle.pager_tests.specs.Ready.{MachineIsReady}
use Rattle.pager_tests.proofs.paging.take_all.Given as goal

abbrev pub invariant-loop-step : goal.invariant-loop-step
invariant-loop-step g l = MachineIsReady l.m (Some (map named_file l.files.store.files.items)) l.swap.store.blocks
