use Rattle.std.proofs.Common.{◌≡◌, map, take}
use Rattle.io_edge.specs.FileHolding.{named_file}
use Rattle.vmrun_callers.proofs.copying.copies_of.Given as goal

abbrev pub invariant-loop-file : goal.invariant-loop-file
invariant-loop-file l = map named_file l.copies.items ≡ map named_file (take l.file-index l.files)
