-- The files of the images, and when a run's files hold them.
use Rattle.std.specs.Prelude.{◌≡◌, ◌<◌, ◌≤◌, List, [], ◌∷◌, length, Option, Some, None}
use Rattle.aout_image.specs.Image.{file_length_of, loaded}
use Rattle.transfer_ring.specs.FileHolding.{NamedFile, bytes_at}
use Rattle.flat_state.specs.Flat.{NamedImage, Inputs}
use Rattle.kernel_model.specs.Requests.{image_files}
use Rattle.kernel_tables.specs.Sourced.{ImageNamed, files_named}

-- an image's file is there, with all that its header says
pub record HasFile (n : ImageNamed) (files : List NamedFile) : Type 0 where
  pub there : n.file < length files
  pub whole : file_length_of n.facts ≤ length (bytes_at files n.file)

-- the file of each image is there, with all that its header says
abbrev pub HaveFiles : List ImageNamed → List NamedFile → Type 0
HaveFiles [] files = Unit {0}
HaveFiles (n ∷ ns) files = HasFile n files × HaveFiles ns files

-- where the files are told, those of the images are among them
abbrev pub AreFiles : List ImageNamed → Option (List NamedFile) → Type 0
AreFiles ns None = Unit {0}
AreFiles ns (Some files) = HaveFiles ns files

-- the images, by number, as these files have them
abbrev pub AreLoaded : List ImageNamed → List NamedFile → List NamedImage → Type 0
AreLoaded [] files [] = Unit {0}
AreLoaded (n ∷ ns) files (x ∷ xs) = (x.image ≡ loaded n.facts (bytes_at files n.file)) × AreLoaded ns files xs
AreLoaded ns files xs = ⊥

-- the images, by number, as the files have them where these are told
abbrev pub AreImages : List ImageNamed → Option (List NamedFile) → List NamedImage → Type 0
AreImages ns None images = ⊥
AreImages ns (Some files) images = AreLoaded ns files images

-- these are the images of a run, and their files have the numbers by which it reads them
abbrev pub AreRunImages : List ImageNamed → Option (List NamedFile) → Inputs → Type 0
AreRunImages ns holds A = AreImages ns holds A.images × (files_named ns ≡ image_files A)
