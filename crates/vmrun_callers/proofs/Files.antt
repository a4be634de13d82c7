-- Files of which one more stands at the end.
use Rattle.std.proofs.Common.{◌≡◌, ◌<◌, ◌+◌, ℕ, Bool, true, not, nat_lt, List, [], ◌∷◌, ◌++◌, length, map, take, get_or, Option, Some, None, Result, Ok, Err, inl, inr, bytes_eq, refl, sym, ap, ◌∙◌, arith, length-append}
use Rattle.std.specs.Prelude.{position, nat_le}
use Rattle.std.specs.List.{position_or_len}
use Rattle.std.proofs.lemmas.Bool.{cases_lt, lt-ltb}
use Rattle.std.proofs.lemmas.Bool.Decides.{nat_tests}
use Rattle.std.proofs.lemmas.Grind.{common_steps}
use Rattle.std.proofs.lemmas.List.{map-append, take_more, get_or_append_left}
use Rattle.std.proofs.lemmas.List.Quantifiers.{position-Some}
use Rattle.std.proofs.lemmas.List.Sums.{prefix_len-le-length}
use Rattle.std.proofs.lemmas.Slice.Eq.{bytes_eq-Decides}
use Rattle.std.proofs.Math.Seq.{get_or-append_seam}
use Rattle.io_edge.specs.FileHolding.{NamedFile, no_file, place_of, bytes_at}
use Rattle.aout_image.specs.Image.{judged_image}
use Rattle.flat_state.specs.Flat.{NamedImage}
use Rattle.command_edge.specs.Told.{bytes_if, whole_told_at, whole_told}
use Rattle.command_edge.specs.Named.{Why, before}
use Rattle.run_opening.specs.Images.{named_image, image_found_at, image_found, images_found}

-- the copies so far, and one more
pub copied_more : {X : Type 0} (view : X → NamedFile) (files copies copies' : List X) (copy : X) (i : ℕ) (d : X) → i < length files
    → view copy ≡ view (get_or files i d)
    → copies' ≡ copies ++ copy ∷ [] → map view copies ≡ map view (take i files) → map view copies' ≡ map view (take (i + 1) files)
copied_more view files copies copies' copy i d below is pushed so_far =
    ap (map view) pushed ∙ map-append view copies (copy ∷ []) ∙ ap (λ (xs : List NamedFile). xs ++ view copy ∷ []) so_far ∙ ap (λ (x : NamedFile). map view (take i files) ++ x ∷ []) is
    ∙ sym (ap (map view) (take_more files i d below) ∙ map-append view (take i files) (get_or files i d ∷ []))

-- Places in a list, and in one with an element more.

placed : {X : Type 0} (p : X → Bool) (xs : List X) (k : ℕ) → position_or_len p xs ≡ k → k < length xs → position p xs ≡ Some k
placed p xs k is below = rw is (rw (lt-ltb k (length xs) below) refl)

place_found : {X : Type 0} (p : X → Bool) (xs : List X) (k : ℕ) (d : X) → position p xs ≡ Some k → (position_or_len p xs ≡ k) × (k < length xs)
place_found p xs k d is = (grind (arith, common_steps), (position-Some p xs k d is).0)

place_missed : {X : Type 0} (p : X → Bool) (xs : List X) → position p xs ≡ None → position_or_len p xs ≡ length xs
place_missed p xs none = elim (cases_lt (position_or_len p xs) (length xs)) [
  | inl inside ↦ absurd (let t : nat_lt (position_or_len p xs) (length xs) ≡ true = grind (arith, nat_tests) in let bad : Some (position_or_len p xs) ≡ None = rw t at none in cc)
  | inr past ↦ omega (arith, prefix_len-le-length (λ x. not (p x)) xs)
]

longer : {X : Type 0} (xs : List X) (y : X) → length (xs ++ y ∷ []) ≡ length xs + 1
longer xs y = length-append xs (y ∷ [])

place_kept : {X : Type 0} (p : X → Bool) (xs : List X) (y d : X) (k : ℕ) → position p xs ≡ Some k → position p (xs ++ y ∷ []) ≡ Some k
place_kept p xs y d k is =
    let found = place_found p xs k d is in
    let at : position_or_len p (xs ++ y ∷ []) ≡ k = let old = found.0 in let below = found.1 in grind (arith, common_steps) in
    placed p (xs ++ y ∷ []) k at (omega (arith, found.1, longer xs y))

place_new : {X : Type 0} (p : X → Bool) (xs : List X) (y : X) → position p xs ≡ None → p y ≡ true → position p (xs ++ y ∷ []) ≡ Some (length xs)
place_new p xs y none passes =
    let missed = place_missed p xs none in
    let at : position_or_len p (xs ++ y ∷ []) ≡ length xs = grind (arith, common_steps) in
    placed p (xs ++ y ∷ []) (length xs) at (omega (arith, longer xs y))

-- Files in it.

module _ (files : List NamedFile) (file : NamedFile) where
  -- a name that was found is found as before
  name_kept : (name : List ℕ) (k : ℕ) → place_of files name ≡ Some k → place_of (files ++ file ∷ []) name ≡ Some k
  name_kept name k is = place_kept (λ (f : NamedFile). bytes_eq f.name name) files file no_file k is

  bytes_kept : (k : ℕ) → k < length files → bytes_at (files ++ file ∷ []) k ≡ bytes_at files k
  bytes_kept k below = ap (λ (f : NamedFile). f.bytes) (get_or_append_left files (file ∷ []) no_file k below)

  image_kept : (name : List ℕ) (k : ℕ) → place_of files name ≡ Some k → image_found (files ++ file ∷ []) name ≡ image_found files name
  image_kept name k is =
      ap (image_found_at (files ++ file ∷ []) name) (name_kept name k is)
      ∙ ap (λ (bytes : List ℕ). named_image name (judged_image bytes)) (bytes_kept k (place_found (λ (f : NamedFile). bytes_eq f.name name) files k no_file is).1)
      ∙ sym (ap (image_found_at files name) is)

  both_kept : (name : List ℕ) (names : List (List ℕ)) (images : List NamedImage) (o : Option ℕ) (r : Result NamedImage Why) (rs : Result (List NamedImage) Why)
      → place_of files name ≡ o → image_found_at files name o ≡ r → images_found files names ≡ rs → before r rs ≡ Ok images
      → ((more : List NamedImage) → images_found files names ≡ Ok more → images_found (files ++ file ∷ []) names ≡ Ok more)
      → before (image_found (files ++ file ∷ []) name) (images_found (files ++ file ∷ []) names) ≡ Ok images
  both_kept name names images None (Ok image) rs there is are all rest = absurd cc
  both_kept name names images None (Err why) rs there is are all rest = absurd cc
  both_kept name names images (Some k) (Err why) rs there is are all rest = absurd cc
  both_kept name names images (Some k) (Ok image) (Err why) there is are all rest = absurd cc
  both_kept name names images (Some k) (Ok image) (Ok more) there is are all rest =
      let found : image_found (files ++ file ∷ []) name ≡ Ok image = image_kept name k there ∙ ap (image_found_at files name) there ∙ is in
      ap (λ (r : Result NamedImage Why). before r (images_found (files ++ file ∷ []) names)) found ∙ ap (before (let r : Result NamedImage Why = Ok image in r)) (rest more are) ∙ all

-- images that were found are found as before
pub images_kept : (files : List NamedFile) (file : NamedFile) (names : List (List ℕ)) (images : List NamedImage) → images_found files names ≡ Ok images
    → images_found (files ++ file ∷ []) names ≡ Ok images
images_kept files file [] images all = all
images_kept files file (name ∷ names) images all =
    both_kept files file name names images (place_of files name) (image_found files name) (images_found files names) refl refl refl all
    (λ more are. images_kept files file names more are)

-- a file of a new name is read as it was handed over
pub new_told : (files : List NamedFile) (file : NamedFile) (most : ℕ) → place_of files file.name ≡ None
    → whole_told (files ++ file ∷ []) file.name most ≡ Ok (bytes_if (nat_le (length file.bytes) most) file.bytes)
new_told files file most new =
    let there : place_of (files ++ file ∷ []) file.name ≡ Some (length files)
    = place_new (λ (f : NamedFile). bytes_eq f.name file.name) files file new ((bytes_eq-Decides file.name file.name).1 refl) in
    let bytes : bytes_at (files ++ file ∷ []) (length files) ≡ file.bytes = ap (λ (f : NamedFile). f.bytes) (get_or-append_seam files file [] no_file) in
    ap (λ (o : Option ℕ). whole_told_at (files ++ file ∷ []) o most) there ∙ ap (λ (bs : List ℕ). Ok (bytes_if (nat_le (length bs) most) bs)) bytes
