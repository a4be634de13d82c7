-- Files of octets, one after another.
use Rattle.std.proofs.Common.{ℕ, suc, ◌+◌, ◌<◌, List, [], ◌∷◌, ◌++◌, length, map, take, get_or, Fits, w8, sym, ap, ◌∙◌, subst, arith}
use Rattle.std.proofs.lemmas.List.{map-append, take_more}
use Rattle.vm_facts.specs.Octets.{AreOctets}
use Rattle.io_edge.specs.FileHolding.{NamedFile}
use Rattle.io_edge.specs.Octets.{IsOctetFile, AreOctetFiles}

pub octets_of : (bytes : List ℕ) → ((i : ℕ) → Fits w8 (get_or bytes i 0)) → AreOctets bytes
octets_of [] fits = tt
octets_of (byte ∷ bytes) fits = (let low : Fits w8 byte = fits 0 in omega (arith, low), octets_of bytes (λ i. fits (suc i)))

pub octets_behind : (files : List NamedFile) (file : NamedFile) → AreOctetFiles files → IsOctetFile file → AreOctetFiles (files ++ file ∷ [])
octets_behind [] file all one = (one, tt)
octets_behind (f ∷ files) file all one = (all.0, octets_behind files file all.1 one)

-- the files so far, and one more
pub octets_more : {X : Type 0} (view : X → NamedFile) (files : List X) (i : ℕ) (d : X) → i < length files → IsOctetFile (view (get_or files i d))
    → AreOctetFiles (map view (take i files)) → AreOctetFiles (map view (take (i + 1) files))
octets_more view files i d below one all =
    subst (λ (told : List NamedFile). AreOctetFiles told) (sym (ap (map view) (take_more files i d below) ∙ map-append view (take i files) (get_or files i d ∷ [])))
    (octets_behind (map view (take i files)) (view (get_or files i d)) all one)
