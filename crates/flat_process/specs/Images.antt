-- The images of a run, as their files' bytes say.
use Rattle.std.specs.Prelude.{◌≡◌, ℕ, ◌+◌, ◌*◌, ◌<◌, ◌≤◌, ◌^◌, List, [], ◌∷◌, ◌++◌, length, All, Option, Some, None, Result, Ok, Err, is_ok, IsTrue, IsSome}
use Rattle.aout_image.specs.Image.{Loaded, judged_image}
use Rattle.flat_state.specs.Flat.{NamedImage, image_numbered}
use Rattle.flat_state.specs.declared.change.Change.{Change}
use Rattle.flat_state.specs.declared.change.Change.TheVariants.{Keep, Resize, Fork, Lend, Exec, Reap, Sleep, End}
use Rattle.flat_model.specs.declared.calls.Reply.{Reply}
use Rattle.flat_model.specs.declared.calls.Reply.TheVariants.{Fails, Does, Writes, Waits, Exits}
use Rattle.user_vax.specs.declared.refused.Refused.{Refused}
use Rattle.flat_model.specs.Calls.{image_named, path_image, write_limit}

-- an image's name, and the front of its file
pub record FlatFile : Type 0 where
  pub name : List ℕ
  pub bytes : List ℕ

-- the file is an image, whose name is short enough to be an argument
pub record IsImageFile (f : FlatFile) : Type 0 where
  pub image : IsTrue (is_ok (judged_image f.bytes))
  pub short : length f.name < 64

-- the image that a file is, with this name; none where the file is no image
abbrev pub named_as : List ℕ → Result Loaded ℕ → List NamedImage
named_as name (Ok image) = record { name = name; image = image } ∷ []
named_as name (Err reason) = []

-- the images of these files
abbrev pub images_of : List FlatFile → List NamedImage
images_of [] = []
images_of (f ∷ fs) = named_as f.name (judged_image f.bytes) ++ images_of fs

-- segments and a first instruction within their limits, and a name that may be an argument
pub record IsFit (n : NamedImage) : Type 0 where
  pub text_fits : length n.image.text ≤ 2048 * 1024
  pub data_fits : length n.image.data ≤ 4096 * 1024
  pub entry_fits : n.image.facts.entry + 2 < 2 ^ 32
  pub short : length n.name < 64

-- a number with the image that it has, if there is one
abbrev pub with_number : ℕ → Option NamedImage → Option (ℕ × NamedImage)
with_number number None = None
with_number number (Some image) = Some (number, image)

-- the number that is found for a name, and its image
abbrev pub IsNumbered : List NamedImage → List ℕ → Option ℕ → Type 0
IsNumbered images name None = image_named 1 images name ≡ None
IsNumbered images name (Some number) =
    (image_named 1 images name ≡ with_number number (image_numbered images number)) × IsSome (image_numbered images number)

-- the number of the image of a path that was read, where it was
abbrev pub IsPathImage : List NamedImage → Result (Option (List ℕ)) Refused → Result (Option ℕ) Refused → Type 0
IsPathImage images (Err refused) asked = asked ≡ Err refused
IsPathImage images (Ok path) (Err refused) = ⊥
IsPathImage images (Ok path) (Ok None) = path_image images path ≡ None
IsPathImage images (Ok path) (Ok (Some number)) =
    (path_image images path ≡ with_number number (image_numbered images number)) × IsSome (image_numbered images number)

-- a change can be made: a size within its limits, or an image with its stack page
abbrev pub CanChange : List NamedImage → Change → Type 0
CanChange images Keep = Unit {0}
CanChange images (Resize data_pages stack_pages) = (data_pages ≤ 4096) × (stack_pages ≤ 512)
CanChange images (Fork child) = Unit {0}
CanChange images (Lend child) = Unit {0}
CanChange images (Exec image top) = IsSome (image_numbered images image) × (length top ≡ 1024)
CanChange images (Reap child) = Unit {0}
CanChange images Sleep = Unit {0}
CanChange images (End status) = Unit {0}

-- a reply can be made: its change can, and what it writes is within the limit
abbrev pub CanReply : List NamedImage → Reply → Type 0
CanReply images (Fails error) = Unit {0}
CanReply images (Does regs change) = CanChange images change
CanReply images (Writes bytes) = length bytes ≤ write_limit
CanReply images Waits = Unit {0}
CanReply images (Exits status) = Unit {0}

-- the reply of a call, if its reads weren't refused, can be made
abbrev pub CanAnswer : List NamedImage → Result Reply Refused → Type 0
CanAnswer images (Ok reply) = CanReply images reply
CanAnswer images (Err refused) = Unit {0}

-- the files of a run are images, fewer than 2^31
pub record AreImageFiles (files : List FlatFile) : Type 0 where
  pub few : length files < 2 ^ 31
  pub images : All IsImageFile files

-- the first processes have numbers of so many images
abbrev pub AreNumbers : ℕ → List ℕ → Type 0
AreNumbers images first = All (λ n. (1 ≤ n) × (n ≤ images)) first
