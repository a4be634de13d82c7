-- What was taken of a file that a told folder has fits its name.
use Rattle.std.specs.Prelude.{◌≡◌, ℕ, List, take, Vec, Option, Some, None}
use Rattle.std.proofs.Common.{subst, sym, ap, ◌∙◌, Global}
use Rattle.io_edge.specs.FileHolding.{NamedFile, bytes_at}
use Rattle.system_calls.specs.Bytes.{HoldsStart}
use Rattle.system_calls.specs.Folder.{Opens}
use Rattle.system_calls.specs.declared.system.SystemFile.{Ghosts as FileGhosts}
use Rattle.system_edge.specs.declared.place.Place.{Place}
use Rattle.system_edge.specs.declared.place.Place.TheVariants.{Unsought, Missing, Plain, Held}
use Rattle.system_edge.specs.Named.{most_seen}
use Rattle.system_edge.specs.Places.{HasFile, FitsAt, TakesFile, FitsName}

-- a place that has a file fits where the file stands
file_fits : {F : Type 0} (g : FileGhosts F) (folder : List NamedFile) (at : ℕ) (place : Place F) → HasFile g (bytes_at folder at) place
    → FitsAt g folder (Some at) place
file_fits g folder at Unsought has = tt
file_fits g folder at Missing has = absurd has
file_fits g folder at (Plain file facts) has = has
file_fits g folder at (Held bytes) has = has

-- what was taken of the file that was opened
pub taken_fits : {F : Type 0} (g : FileGhosts F) (folder : Option (List NamedFile)) (name : List ℕ) (bytes : Option (List ℕ)) (place : Place F)
    → Opens folder name (Some bytes) → TakesFile g bytes place → FitsName g folder name place
taken_fits g None name bytes place opened taken = tt
taken_fits g (Some folder) name bytes place opened taken =
    subst (λ (at : Option ℕ). FitsAt g folder at place) (sym opened.1)
    (file_fits g folder opened.0 place (subst (λ (told : Option (List ℕ)). TakesFile g told place) opened.2 taken))

-- what was read into memory of a file, up to the most that is seen
pub held_taken : {F : Type 0} (g : FileGhosts F) (bytes : Option (List ℕ)) (most : ℕ) (held : Vec ℕ Global) → most ≡ most_seen
    → HoldsStart bytes most held.items → TakesFile g bytes (Held held)
held_taken g None most held same read = tt
held_taken g (Some bytes) most held same read = read ∙ ap (λ (n : ℕ). take n bytes) same
