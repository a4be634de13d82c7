-- The files of a folder, where they are told.
use Rattle.io_edge.specs.FileHolding.{NamedFile, place_of, bytes_at}
use Rattle.std.specs.Prelude.{◌≡◌, ℕ, List, Option, Some, None, ⊤}

-- where the folder is told, the file of this name was opened, whose bytes are these, where they are told; or there is none of this name
abbrev pub Opens : Option (List NamedFile) → List ℕ → Option (Option (List ℕ)) → Type 0
Opens None name opened = ⊤
Opens (Some files) name None = place_of files name ≡ None
Opens (Some files) name (Some bytes) = (place : ℕ) × (place_of files name ≡ Some place) × (bytes ≡ Some (bytes_at files place))
