-- What is known of the files that names name, name by name.
use Rattle.std.specs.Prelude.{◌≡◌, ℕ, List, [], length, position, bytes_eq, get_or, min, take, Option, Some, None, ⊤}
use Rattle.io_edge.specs.FileHolding.{NamedFile, Known, place_of, bytes_at, file_range}
use Rattle.io_edge.specs.declared.Found.{Found}
use Rattle.io_edge.specs.declared.Found.TheVariants as found
use Rattle.system_calls.specs.Bytes.{HoldsBytes}
use Rattle.system_calls.specs.declared.system.SystemFile.{Ghosts as FileGhosts}
use Rattle.system_edge.specs.declared.place.Place.{Place}
use Rattle.system_edge.specs.declared.place.Place.TheVariants.{Unsought, Missing, Plain, Held}
use Rattle.system_edge.specs.Named.{most_seen}

-- what is known at a place: nothing, or that there is no file, or the number and the length of one
abbrev pub known_at : {F : Type 0} → ℕ → Place F → Option Found
known_at number Unsought = None
known_at number Missing = Some found.Absent
known_at number (Plain file facts) = Some (found.Is number (min facts.len most_seen))
known_at number (Held bytes) = Some (found.Is number (length bytes.items))

-- the same at the place of a name, where it has one
abbrev pub known_under : {F : Type 0} → List (Place F) → Option ℕ → Option Found
known_under places None = None
known_under places (Some number) = known_at number (get_or places number Unsought)

-- the same of all names
abbrev pub known_in : {F : Type 0} → List (List ℕ) → List (Place F) → Known
known_in names places name = known_under places (position (λ other. bytes_eq other name) names)

-- there is an answer: a file, or that there is none
abbrev pub IsAnswered : Found → Type 0
IsAnswered (found.Is id len) = ⊤
IsAnswered found.Absent = ⊤
IsAnswered found.Failed = ⊥

-- what was known at each place is known there
abbrev pub KeepsPlaces : {F : Type 0} → List (Place F) → List (Place F) → Type 0
KeepsPlaces old new = (number : ℕ) (found : Found) → known_at number (get_or old number Unsought) ≡ Some found
    → known_at number (get_or new number Unsought) ≡ Some found

-- nothing is changed at any place
abbrev pub SamePlaces : {F : Type 0} → List (Place F) → List (Place F) → Type 0
SamePlaces old new = (number : ℕ) → get_or new number Unsought ≡ get_or old number Unsought

-- this one place is changed
abbrev pub IsPut : {F : Type 0} → List (Place F) → ℕ → Place F → List (Place F) → Type 0
IsPut old number place new =
    (get_or new number Unsought ≡ place) × ((other : ℕ) → (other ≡ number → ⊥) → get_or new other Unsought ≡ get_or old other Unsought)

-- a place has what a file of a told folder is: its bytes, up to the most that are seen
abbrev pub HasFile : {F : Type 0} → FileGhosts F → List ℕ → Place F → Type 0
HasFile g bytes Unsought = ⊥
HasFile g bytes Missing = ⊥
HasFile g bytes (Plain file facts) = (g.bytes file ≡ Some bytes) × (facts.len ≡ length bytes)
HasFile g bytes (Held held) = held.items ≡ take most_seen bytes

-- the same of the file of these bytes, where they are told
abbrev pub TakesFile : {F : Type 0} → FileGhosts F → Option (List ℕ) → Place F → Type 0
TakesFile g None place = ⊤
TakesFile g (Some bytes) place = HasFile g bytes place

-- a place has what stands at a place of a told folder, or there is nothing
abbrev pub FitsAt : {F : Type 0} → FileGhosts F → List NamedFile → Option ℕ → Place F → Type 0
FitsAt g folder at Unsought = ⊤
FitsAt g folder at Missing = at ≡ None
FitsAt g folder None place = ⊥
FitsAt g folder (Some at) place = HasFile g (bytes_at folder at) place

-- where a folder is told, a place has the file of this name, or there is none
abbrev pub FitsName : {F : Type 0} → FileGhosts F → Option (List NamedFile) → List ℕ → Place F → Type 0
FitsName g None name place = ⊤
FitsName g (Some folder) name place = FitsAt g folder (place_of folder name) place

-- each place fits its name
abbrev pub FitNames : {F : Type 0} → FileGhosts F → Option (List NamedFile) → List (List ℕ) → List (Place F) → Type 0
FitNames g folder names places = (number : ℕ) → FitsName g folder (get_or names number []) (get_or places number Unsought)

-- these are the bytes that a place has from the offset on, where they are told
abbrev pub HoldsPlace : {F : Type 0} → FileGhosts F → Place F → ℕ → List ℕ → Type 0
HoldsPlace g Unsought offset got = ⊥
HoldsPlace g Missing offset got = ⊥
HoldsPlace g (Plain file facts) offset got = HoldsBytes (g.bytes file) offset got
HoldsPlace g (Held held) offset got = got ≡ file_range held.items offset (length got)
