-- Spaces whose segments are whole pages, and the images that they begin with.
use Rattle.std.specs.Prelude.{◌≡◌, ℕ, ◌+◌, ◌*◌, ◌%◌, ◌^◌, ◌≤◌, List, [], ◌∷◌, length, Some}
use Rattle.flat_state.specs.Space.{Space}
use Rattle.flat_state.specs.Flat.{Holding, Holds, Lends, Zombie, Process, FlatState, NamedImage, image_numbered, process_of}
use Rattle.aout_image.specs.Image.{text_pages_of, image_data_pages}

-- text and data are whole pages, and end no higher than addresses do
pub record IsWhole (s : Space) : Type 0 where
  pub text : length s.text_bytes % 1024 ≡ 0
  pub «data» : length s.data_bytes % 1024 ≡ 0
  pub fits : length s.text_bytes + length s.data_bytes ≤ 2 ^ 32

-- the space that this process holds is such, where it holds one
abbrev pub HoldsWhole : FlatState → ℕ → Type 0
HoldsWhole F pid = (p : Process) (s : Space) → process_of F pid ≡ Some p → p.holding ≡ Holds s → IsWhole s

-- an image's text and data are those of its pages, of which there are no more than may be
pub record ImageWhole (named : NamedImage) : Type 0 where
  pub text : length named.image.text ≡ 1024 * text_pages_of named.image.facts
  pub «data» : length named.image.data ≡ 1024 * image_data_pages named.image.facts
  pub text_fits : text_pages_of named.image.facts ≤ 2048
  pub data_fits : image_data_pages named.image.facts ≤ 4096

-- each image is such
abbrev pub ImagesWhole : List NamedImage → Type 0
ImagesWhole images = (number : ℕ) (named : NamedImage) → image_numbered images number ≡ Some named → ImageWhole named

-- each process holds such a space, where it holds one
abbrev pub EachWhole : FlatState → Type 0
EachWhole F = (pid : ℕ) → HoldsWhole F pid

-- text and data are whole pages, 2,048 and 4,096 at most
pub record IsSized (s : Space) : Type 0 where
  pub text : length s.text_bytes % 1024 ≡ 0
  pub text_fits : length s.text_bytes ≤ 2048 * 1024
  pub «data» : length s.data_bytes % 1024 ≡ 0
  pub data_fits : length s.data_bytes ≤ 4096 * 1024

-- the space that a process holds is such, where it holds one
abbrev pub HasSize : Holding → Type 0
HasSize (Holds s) = IsSized s
HasSize (Lends sid child) = Unit {0}
HasSize (Zombie status) = Unit {0}

-- each space that a process of the list holds is such
abbrev pub AllSized : List Process → Type 0
AllSized [] = Unit {0}
AllSized (q ∷ qs) = HasSize q.holding × AllSized qs
