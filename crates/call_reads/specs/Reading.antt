-- What the calls read, told by the images of a machine: which one a path names, and what a reply starts.
use Rattle.std.specs.Prelude.{◌≡◌, ℕ, suc, ◌+◌, ◌-◌, ◌^◌, ◌<◌, ◌≤◌, Bool, true, false, List, [], ◌∷◌, length, Option, Some, None, Result, Ok, Err, string_bytes, bytes_eq, slice_get}
use Rattle.user_vax.specs.declared.refused.Refused.{Refused}
use Rattle.flat_state.specs.Flat.{NamedImage}
use Rattle.flat_state.specs.declared.change.Change.TheVariants.{Exec}
use Rattle.user_vax.specs.Program.{Program, ◌>>=◌}
use Rattle.flat_model.specs.declared.calls.Reply.{Reply}
use Rattle.flat_model.specs.declared.calls.Reply.TheVariants.{Fails, Does}
use Rattle.flat_model.specs.Calls.{path_image, string_from, string_limit, execve_of}
use Rattle.machine_state.specs.Sourced.{ImageNamed}
use Rattle.machine_state.specs.Named.{Named}

-- these are the images of a machine: by name and header, in order
abbrev pub AreShown : List NamedImage → List Named → Type 0
AreShown [] [] = Unit {0}
AreShown [] (s ∷ shown) = ⊥
AreShown (n ∷ images) [] = ⊥
AreShown (n ∷ images) (s ∷ shown) = (n.name ≡ string_bytes s.name) × (n.image.facts ≡ s.facts) × AreShown images shown

-- so are these, by what the machine shows of them
abbrev pub AreNamed : List NamedImage → List ImageNamed → Type 0
AreNamed [] [] = Unit {0}
AreNamed [] (s ∷ named) = ⊥
AreNamed (n ∷ images) [] = ⊥
AreNamed (n ∷ images) (s ∷ named) = (n.name ≡ s.name) × (n.image.facts ≡ s.facts) × AreNamed images named

-- this number where the name is the image's, else what is found further on
abbrev pub number_by : Bool → ℕ → Option ℕ → Option ℕ
number_by true number more = Some number
number_by false number more = more

-- the number of the first image of this name, which are counted on from this one
abbrev pub number_from : ℕ → List Named → List ℕ → Option ℕ
number_from number [] name = None
number_from number (s ∷ shown) name = number_by (bytes_eq (string_bytes s.name) name) number (number_from (suc number) shown name)

-- an image that a machine has by this number
pub record IsImageAt (images : List NamedImage) (shown : List Named) (path : Option (List ℕ)) (number : ℕ) : Type 0 where
  pub image : NamedImage
  pub there : Named
  pub some : 0 < number
  pub found : path_image images path ≡ Some (number, image)
  pub at : slice_get shown (number - 1) ≡ Some there
  pub facts : image.image.facts ≡ there.facts

-- the number of the image of a path that was read, where it was
abbrev pub IsPathImage : List NamedImage → List Named → Result (Option (List ℕ)) Refused → Result (Option ℕ) Refused → Type 0
IsPathImage images shown (Err refused) asked = asked ≡ Err refused
IsPathImage images shown (Ok path) (Err refused) = ⊥
IsPathImage images shown (Ok path) (Ok None) = path_image images path ≡ None
IsPathImage images shown (Ok path) (Ok (Some number)) = IsImageAt images shown path number

-- a number of one of these images, which count from 1
abbrev pub IsAmong : List Named → ℕ → Type 0
IsAmong shown number = (0 < number) × (number ≤ length shown)

-- the first instruction of each image stands below the end of all addresses
abbrev pub EntriesFit : List Named → Type 0
EntriesFit shown = (place : ℕ) (s : Named) → slice_get shown place ≡ Some s → s.facts.entry + 2 < 2 ^ 32

-- the image of the path at an address, and then its arguments
abbrev pub execve_from : List NamedImage → ℕ → ℕ → Program Reply
execve_from images path argv = string_from string_limit path >>= λ name. execve_of argv (path_image images name)

-- a reply that starts an image, whose number is so, with a whole stack page, or fails
abbrev pub StartsAs : (ℕ → Type 0) → Reply → Type 0
StartsAs P (Fails error) = Unit {0}
StartsAs P (Does regs (Exec image top)) = P image × (length top ≡ 1024)
StartsAs P _ = ⊥
