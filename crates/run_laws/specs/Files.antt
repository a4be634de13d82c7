-- When inputs of a run are those of files, so that a run may begin.
use Rattle.std.specs.Prelude.{◌≡◌, ◌⊎◌, ℕ, ◌<◌, ◌≤◌, List, [], ◌∷◌, length, Some, Ok, Err}
use Rattle.aout_image.specs.Image.{judged_image}
use Rattle.swap_book.specs.Holdings.{Holdings}
use Rattle.flat_state.specs.Flat.{NamedImage, Inputs, image_numbered}
use Rattle.flat_model.specs.Asked.{start_held}
use Rattle.run_laws.specs.Running.{CanRun}

-- the image is that of a file, and its name is a word of at most 63 bytes
pub record IsFiled (named : NamedImage) : Type 0 where
  pub file : List ℕ
  pub is : judged_image file ≡ Ok named.image
  pub name : length named.name < 64

-- each is the number of an image
abbrev pub AreNumbers : List NamedImage → List ℕ → Type 0
AreNumbers images [] = Unit {0}
AreNumbers images (n ∷ ns) = (0 < n) × (n ≤ length images) × AreNumbers images ns

-- the images are those of files, and each first process has one; at most 64 are first; and there is a frame
pub record AreInputs (A : Inputs) : Type 0 where
  pub files : (number : ℕ) (named : NamedImage) → image_numbered A.images number ≡ Some named → IsFiled named
  pub numbers : AreNumbers A.images A.first
  pub few : length A.first ≤ 64
  pub frames : 0 < A.frames

-- a run may begin, or the pieces of one of the first processes find no place
abbrev pub MayBegin : Inputs → Type 0
MayBegin A = ((hs : Holdings) × CanRun A hs) ⊎ ((pid : ℕ) × (start_held A ≡ Err pid))
