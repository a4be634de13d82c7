-- What is known of names in files that are told.
use Rattle.std.specs.Prelude.{◌≡◌, ℕ, List, length, bytes_eq, Option, Some, None, get_or}
use Rattle.std.proofs.Common.{subst, sym, ap, ◌∙◌}
use Rattle.std.proofs.lemmas.List.Quantifiers.{position-Some}
use Rattle.std.proofs.lemmas.Slice.Eq.{bytes_eq-Decides}
use Rattle.io_edge.specs.FileHolding.{NamedFile, no_file, place_of, found_at, found_in, AnswersIn, IsKnown, StaysKnown, KnownApart}
use Rattle.io_edge.specs.declared.Found.{Found}
use Rattle.io_edge.specs.declared.Found.TheVariants.{Is, Absent, Failed}

-- the same files give the same
pub known_of_same : {old new : List NamedFile} → new ≡ old → StaysKnown (λ name. Some (found_in old name)) (λ name. Some (found_in new name))
known_of_same {old} same name found was = subst (λ (files : List NamedFile). Some (found_in files name) ≡ Some found) (sym same) was

-- a file that is found stands at its place
pub place_found : (files : List NamedFile) (place : Option ℕ) (id len : ℕ) → Some (found_at files place) ≡ Some (Is id len) → place ≡ Some id
place_found files None id len found = cc
place_found files (Some place) id len found = ap Some cc

-- the file at the place of a name has that name
pub name_there : (files : List NamedFile) (name : List ℕ) (id : ℕ) → place_of files name ≡ Some id → (get_or files id no_file).name ≡ name
name_there files name id stands =
    (bytes_eq-Decides (get_or files id no_file).name name).0 (position-Some (λ (file : NamedFile). bytes_eq file.name name) files id no_file stands).1

-- two names have two numbers
pub found_apart : (files : List NamedFile) → KnownApart (λ name. Some (found_in files name))
found_apart files one two id len length first second =
    sym (name_there files one id (place_found files (place_of files one) id len first)) ∙ name_there files two id (place_found files (place_of files two) id length second)

-- what the files answer is what is known of the name
pub known_from_answer : (files : List NamedFile) (name : List ℕ) (found : Found) → AnswersIn files name found → IsKnown (λ sought. Some (found_in files sought)) name found
known_from_answer files name (Is id len) answer =
    ap (λ (place : Option ℕ). Some (found_at files place)) answer.0 ∙ ap (λ (long : ℕ). Some (Is id long)) (sym answer.1)
known_from_answer files name Absent answer = ap (λ (place : Option ℕ). Some (found_at files place)) answer
known_from_answer files name Failed answer = tt
