-- That places fit their names has one proof at most, as a fact that a value carries has to.
use Rattle.std.specs.Prelude.{ℕ, List, [], get_or, Option, Some, None}
use Rattle.std.specs.Coded.{Unit-prop}
use Rattle.std.proofs.Props.{props}
use Rattle.io_edge.specs.FileHolding.{NamedFile, bytes_at, place_of}
use Rattle.system_calls.specs.declared.system.SystemFile.{Ghosts as FileGhosts}
use Rattle.system_edge.specs.declared.place.Place.{Place}
use Rattle.system_edge.specs.declared.place.Place.TheVariants.{Unsought, Missing, Plain, Held}
use Rattle.system_edge.specs.Places.{HasFile, FitsAt, FitsName, FitNames}

HasFile-prop : {F : Type 0} (g : FileGhosts F) (bytes : List ℕ) (place : Place F) → IsProp (HasFile g bytes place)
HasFile-prop g bytes Unsought = Prim.hlevel props
HasFile-prop g bytes Missing = Prim.hlevel props
HasFile-prop g bytes (Plain file facts) = Prim.hlevel props
HasFile-prop g bytes (Held held) = Prim.hlevel props

FitsAt-prop : {F : Type 0} (g : FileGhosts F) (folder : List NamedFile) (at : Option ℕ) (place : Place F) → IsProp (FitsAt g folder at place)
FitsAt-prop g folder at Unsought = Unit-prop
FitsAt-prop g folder at Missing = Prim.hlevel props
FitsAt-prop g folder None (Plain file facts) = Prim.hlevel props
FitsAt-prop g folder None (Held held) = Prim.hlevel props
FitsAt-prop g folder (Some at) (Plain file facts) = HasFile-prop g (bytes_at folder at) (Plain file facts)
FitsAt-prop g folder (Some at) (Held held) = HasFile-prop g (bytes_at folder at) (Held held)

FitsName-prop : {F : Type 0} (g : FileGhosts F) (folder : Option (List NamedFile)) (name : List ℕ) (place : Place F) → IsProp (FitsName g folder name place)
FitsName-prop g None name place = Unit-prop
FitsName-prop g (Some folder) name place = FitsAt-prop g folder (place_of folder name) place

pub FitNames-prop : {F : Type 0} (g : FileGhosts F) (folder : Option (List NamedFile)) (names : List (List ℕ)) (places : List (Place F))
    → IsProp (FitNames g folder names places)
FitNames-prop g folder names places = (let each : (number : ℕ) → IsProp (FitsName g folder (get_or names number []) (get_or places number Unsought)) =
    λ number. FitsName-prop g folder (get_or names number []) (get_or places number Unsought) in Prim.hlevel each)
