use Rattle.std.proofs.Common.{map, take}
use Rattle.io_edge.specs.FileHolding.{named_file}
use Rattle.io_edge.specs.Octets.{AreOctetFiles}
use Rattle.io_edge.proofs.octets.are_octet_files.Given as goal

abbrev pub invariant-loop-file : goal.invariant-loop-file
invariant-loop-file l = AreOctetFiles (map named_file (take l.file-index l.files))
