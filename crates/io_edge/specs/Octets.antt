-- What is told of files are names and bytes.
use Rattle.std.specs.Prelude.{List, [], ◌∷◌}
use Rattle.vm_facts.specs.Octets.{AreOctets}
use Rattle.io_edge.specs.FileHolding.{NamedFile}

-- the file's name and its contents are bytes
pub record IsOctetFile (file : NamedFile) : Type 0 where
  pub name : AreOctets file.name
  pub bytes : AreOctets file.bytes

-- the names and the contents of these files are bytes
abbrev pub AreOctetFiles : List NamedFile → Type 0
AreOctetFiles [] = Unit {0}
AreOctetFiles (file ∷ files) = IsOctetFile file × AreOctetFiles files
