-- Images that are loaded, and found by name.
use Rattle.std.proofs.Common.{◌≡◌, ℕ, zero, suc, ◌+◌, ◌<◌, ◌≤◌, Bool, true, false, List, [], ◌∷◌, ◌++◌, length, drop, get_or, Some, None, Result, Ok, Err, is_ok, IsTrue, refl, ap, ◌∙◌, subst, arith}
use Rattle.std.specs.Prelude.{bytes_eq, slice_get, All, IsSome}
use Rattle.std.proofs.lemmas.List.Elements.{All-tail, recursion_from_All}
use Rattle.std.proofs.lemmas.List.{drop_more, drop_all}
use Rattle.std.proofs.lemmas.Option.{slice_get-get_or}
use Rattle.aout_image.specs.declared.Image.{Image}
use Rattle.aout_image.specs.declared.Judged.{Judged}
use Rattle.aout_image.specs.declared.Judged.TheVariants.{Is, NotImage}
use Rattle.aout_image.specs.Image.{Loaded, judged_image, judgement, loaded, loaded_if, judged_of}
use Rattle.flat_state.specs.Flat.{NamedImage, image_numbered}
use Rattle.flat_model.specs.Calls.{image_named, numbered_by}
use Rattle.flat_process.specs.Images.{FlatFile, IsImageFile, AreImageFiles, AreNumbers, named_as, images_of}

-- an image that was judged is the one with these facts
pub judged_back : (bytes : List ℕ) (facts : Image) → Is facts ≡ judged_of (judged_image bytes) → judged_image bytes ≡ Ok (loaded facts bytes)
unfolding judged_image loaded
judged_back bytes facts h = go (judgement bytes (length bytes)) h
  where
    go : (j : Judged) → Is facts ≡ judged_of (loaded_if j bytes) → loaded_if j bytes ≡ Ok (loaded facts bytes)
    go (Is f) h = let e : f ≡ facts = cc in ap (λ (x : Image). Ok (loaded x bytes)) e
    go (NotImage reason) h = absurd cc

pub judged_so : (r : Result Loaded ℕ) (reason : ℕ) → IsTrue (is_ok r) → NotImage reason ≡ judged_of r → ⊥
judged_so (Ok image) reason h e = absurd cc
judged_so (Err n) reason h e = absurd cc

pub images_one : (f : FlatFile) (image : Loaded) → judged_image f.bytes ≡ Ok image → images_of (f ∷ []) ≡ record { name = f.name; image = image } ∷ []
images_one f image h = ap (λ (r : Result Loaded ℕ). named_as f.name r ++ []) h

-- The search for a name.
abbrev pub Searches : List NamedImage → List ℕ → ℕ → Type 0
Searches images name place = image_named 1 images name ≡ image_named (place + 1) (drop place images) name

module _ (images : List NamedImage) (name : List ℕ) (place : ℕ) (d : NamedImage) where
  search_one : place < length images
      → image_named (place + 1) (drop place images) name ≡ numbered_by (bytes_eq (get_or images place d).name name) (place + 1) (get_or images place d)
      (image_named (suc (place + 1)) (drop (place + 1) images) name)
  unfolding image_named
  search_one below = ap (λ (x : List NamedImage). image_named (place + 1) x name) (drop_more images place d below)

  pub search_more : place < length images → Searches images name place → bytes_eq (get_or images place d).name name ≡ false → Searches images name (place + 1)
  search_more below h e =
      h ∙ search_one below
      ∙ ap (λ (b : Bool). numbered_by b (place + 1) (get_or images place d) (image_named (suc (place + 1)) (drop (place + 1) images) name)) e
      ∙ ap (λ (n : ℕ). image_named n (drop (place + 1) images) name) (let k : suc (place + 1) ≡ place + 1 + 1 = omega arith in k)

  pub search_found : place < length images → Searches images name place
      → bytes_eq (get_or images place d).name name ≡ true → image_named 1 images name ≡ Some (place + 1, get_or images place d)
  search_found below h e =
      h ∙ search_one below
      ∙ ap (λ (b : Bool). numbered_by b (place + 1) (get_or images place d) (image_named (suc (place + 1)) (drop (place + 1) images) name)) e

pub search_end : (images : List NamedImage) (name : List ℕ) (place : ℕ) → length images ≤ place → Searches images name place → image_named 1 images name ≡ None
unfolding image_named
search_end images name place above h = h ∙ ap (λ (x : List NamedImage). image_named (place + 1) x name) (drop_all place images above)

pub numbered_at : (images : List NamedImage) (place : ℕ) (d : NamedImage) → place < length images
    → image_numbered images (place + 1) ≡ Some (get_or images place d)
numbered_at images place d below = subst (λ (n : ℕ). image_numbered images n ≡ Some (get_or images place d)) (let e : suc place ≡ place + 1 = omega arith in e) (slice_get-get_or images place d below)

named_count : (f : FlatFile) (r : Result Loaded ℕ) (rest : List NamedImage) → IsTrue (is_ok r) → length (named_as f.name r ++ rest) ≡ suc (length rest)
named_count f (Ok image) rest ok = refl
named_count f (Err reason) rest ok = absurd cc

pub images_count : (files : List FlatFile) → All IsImageFile files → length (images_of files) ≡ length files
images_count [] h = refl
images_count (f ∷ fs) h =
    named_count f (judged_image f.bytes) (images_of fs) (recursion_from_All IsImageFile (f ∷ fs) h).0.image
    ∙ ap suc (images_count fs (All-tail IsImageFile f fs h))

some_below : (images : List NamedImage) (n : ℕ) → 1 ≤ n → n ≤ length images → IsSome (image_numbered images n)
some_below images zero low high = absurd (omega arith)
some_below images (suc i) low high = below images i (omega arith)
  where
    below : (xs : List NamedImage) (k : ℕ) → k < length xs → IsSome (slice_get xs k)
    below [] k h = absurd (omega arith)
    below (x ∷ xs) zero h = refl
    below (x ∷ xs) (suc k) h = below xs k (omega arith)

-- each number of a first process is one of an image
pub first_numbered : (files : List FlatFile) (first : List ℕ) → AreImageFiles files → AreNumbers (length files) first
    → All (λ (n : ℕ). IsSome (image_numbered (images_of files) n)) first
first_numbered files first a b = λ i d below.
    let count = images_count files a.images in
    let numbers = b i d below in
    some_below (images_of files) (get_or first i d) numbers.0 (omega (arith, numbers.1, count))
