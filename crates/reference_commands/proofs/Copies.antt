-- Files that are copied, one after another.
use Rattle.std.proofs.Common.{◌≡◌, ℕ, ◌+◌, ◌<◌, List, [], ◌∷◌, ◌++◌, length, map, take, get_or, sym, ap, ◌∙◌, subst}
use Rattle.std.proofs.lemmas.List.{map-append, take_more}
use Rattle.io_edge.specs.FileHolding.{NamedFile}
use Rattle.replay_check.specs.Images.{FlatFile}
use Rattle.io_edge.specs.Octets.{IsOctetFile, AreOctetFiles}
use Rattle.io_edge.proofs.OctetFiles.{octets_behind}
use Rattle.reference_commands.specs.InMemory.{file_of}

-- the files so far, and one more
pub files_more : {X : Type 0} (view : X → NamedFile) (images : List FlatFile) (files files' : List X) (file : X) (i : ℕ) (d : FlatFile) → i < length images
    → view file ≡ file_of (get_or images i d)
    → files' ≡ files ++ file ∷ [] → map view files ≡ map file_of (take i images) → map view files' ≡ map file_of (take (i + 1) images)
files_more view images files files' file i d below is pushed so_far =
    ap (map view) pushed ∙ map-append view files (file ∷ []) ∙ ap (λ (xs : List NamedFile). xs ++ view file ∷ []) so_far ∙ ap (λ (x : NamedFile). map file_of (take i images) ++ x ∷ []) is
    ∙ sym (ap (map file_of) (take_more images i d below) ∙ map-append file_of (take i images) (get_or images i d ∷ []))

pub octets_more : {X : Type 0} (view : X → NamedFile) (files files' : List X) (file : X) → files' ≡ files ++ file ∷ [] → IsOctetFile (view file)
    → AreOctetFiles (map view files) → AreOctetFiles (map view files')
octets_more view files files' file pushed one all =
    subst AreOctetFiles (sym (ap (map view) pushed ∙ map-append view files (file ∷ []))) (octets_behind (map view files) (view file) all one)
