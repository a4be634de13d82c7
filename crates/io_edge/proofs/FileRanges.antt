-- Where a file that was found may be read.
use Rattle.std.proofs.Common.{◌≡◌, ◌≤◌, ◌+◌, ℕ, List, Option, Some, None, bytes_eq, subst, sym, arith}
use Rattle.std.proofs.lemmas.List.Quantifiers.{position-Some}
use Rattle.io_edge.specs.FileHolding.{NamedFile, AnswersName, HasRange, no_file}
use Rattle.io_edge.specs.declared.Found.TheVariants.{Is}

-- a range within the length that was told when the file was found
pub range_of_found : (holds : Option (List NamedFile)) (name : List ℕ) (id len offset count : ℕ) → AnswersName holds name (Is id len)
    → offset + count ≤ len → HasRange holds id offset count
range_of_found None name id len offset count found within = tt
range_of_found (Some files) name id len offset count found within =
    ((position-Some (λ file. bytes_eq file.name name) files id no_file found.0).0, omega (arith, found.1))

-- a range stays where no call changes the files
pub range_stays : (old new : Option (List NamedFile)) (id offset count : ℕ) → new ≡ old → HasRange old id offset count → HasRange new id offset count
range_stays old new id offset count same range =
    subst (λ (holds : Option (List NamedFile)). HasRange holds id offset count) (sym same) range
