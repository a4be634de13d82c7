use Rattle.std.proofs.Common.{◌≡◌, map, take}
use Rattle.io_edge.specs.FileHolding.{named_file}
use Rattle.io_edge.specs.Octets.{AreOctetFiles}
use Rattle.reference_commands.specs.InMemory.{file_of}
use Rattle.reference_commands.proofs.copying.files_of.Given as goal

abbrev pub invariant-loop-image : goal.invariant-loop-image
invariant-loop-image l = record {
  files : map named_file l.files.items ≡ map file_of (take l.image-index l.images);
  octets : AreOctetFiles (map named_file l.files.items);
}
