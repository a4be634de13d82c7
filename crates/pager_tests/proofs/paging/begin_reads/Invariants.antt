use Rattle.std.proofs.Common.{map, Some}
use Rattle.io_edge.specs.FileHolding.{named_file}
use Rattle.pager_tests.specs.Ready.{MachineIsReady}
use Rattle.pager_tests.proofs.paging.begin_reads.Given as goal

abbrev pub invariant-loop-v : goal.invariant-loop-v
invariant-loop-v g l = MachineIsReady l.m (Some (map named_file l.files.store.files.items)) l.swap.store.blocks
