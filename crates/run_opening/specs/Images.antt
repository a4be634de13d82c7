-- The images of a run: those of their names, found and judged one after another.
use Rattle.std.specs.Prelude.{◌≡◌, ℕ, List, [], ◌∷◌, map, Option, Some, None, unwrap_or, Result, Ok, Err}
use Rattle.io_edge.specs.FileHolding.{NamedFile, place_of, bytes_at}
use Rattle.aout_image.specs.declared.Image.{Image}
use Rattle.aout_image.specs.Image.{Loaded, loaded, judged_image}
use Rattle.flat_state.specs.Flat.{NamedImage}
use Rattle.command_edge.specs.declared.answers.Unread.TheVariants as unreads
use Rattle.command_edge.specs.declared.fault.Fault.{Fault}
use Rattle.command_edge.specs.declared.fault.Fault.TheVariants.{Absent, NotImage, FileFault, NoMemory}
use Rattle.command_edge.specs.Named.{Why, before}
use Rattle.run_opening.specs.declared.images.OpenedImage.{OpenedImage}

-- an image with its name, or why the file is none
abbrev pub named_image : List ℕ → Result Loaded ℕ → Result NamedImage Why
named_image name (Ok image) = Ok (record { name = name; image = image })
named_image name (Err reason) = Err (name, unreads.NotImage reason)

-- the image of this name, by its place among the files; absent where there is no place
abbrev pub image_found_at : List NamedFile → List ℕ → Option ℕ → Result NamedImage Why
image_found_at files name None = Err (name, unreads.Absent)
image_found_at files name (Some place) = named_image name (judged_image (bytes_at files place))

-- the image of this name, where the files are told
abbrev pub image_found : List NamedFile → List ℕ → Result NamedImage Why
image_found files name = image_found_at files name (place_of files name)

-- the images of these names; the first that isn't found, or is none, decides
abbrev pub images_found : List NamedFile → List (List ℕ) → Result (List NamedImage) Why
images_found files [] = Ok []
images_found files (name ∷ names) = before (image_found files name) (images_found files names)

-- an image that was opened, as these files have it
abbrev pub image_in : List NamedFile → OpenedImage → NamedImage
image_in files image = record { name = image.name.now; image = loaded image.facts (bytes_at files image.file) }

-- the images, as their files have them
abbrev pub images_in : List NamedFile → List OpenedImage → List NamedImage
images_in files images = map (image_in files) images

-- the number of the file of this name; 0 where there is none
abbrev pub file_number : List NamedFile → List ℕ → ℕ
file_number files name = unwrap_or (place_of files name) 0

-- those of the files of these images
abbrev pub file_numbers : List NamedFile → List NamedImage → List ℕ
file_numbers files images = map (λ image. file_number files image.name) images

-- the image is the one of its name, and its file is judged to be just it
pub record IsIn (files : List NamedFile) (image : OpenedImage) : Type 0 where
  pub place : place_of files image.name.now ≡ Some image.file
  pub is : judged_image (bytes_at files image.file) ≡ Ok (loaded image.facts (bytes_at files image.file))

-- what is said of an image before its bytes are read
abbrev pub heading_of : NamedImage → List ℕ × Image
heading_of image = (image.name, image.image.facts)

-- what is said of an image that was opened: its name and its facts
abbrev pub opened_heading : OpenedImage → List ℕ × Image
opened_heading image = (image.name.now, image.facts)

-- these images have just these names and facts, one by one
abbrev pub AreOpened : List NamedImage → List OpenedImage → Type 0
AreOpened images opened = map heading_of images ≡ map opened_heading opened

-- the faults that opening images may have
abbrev pub IsImageFault : Fault → Type 0
IsImageFault (Absent name) = Unit {0}
IsImageFault (NotImage name reason) = Unit {0}
IsImageFault FileFault = Unit {0}
IsImageFault NoMemory = Unit {0}
IsImageFault _ = ⊥
