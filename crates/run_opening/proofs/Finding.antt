-- An image that was judged by its header is the one that its name finds.
use Rattle.std.proofs.Common.{◌≡◌, ℕ, ◌+◌, ◌<◌, List, [], ◌∷◌, ◌++◌, length, map, take, drop, get_or, add-one, drop-cons, Option, Some, Result, Ok, Err, Bor, refl, sym, ap, ◌∙◌, subst}
use Rattle.std.specs.Prelude.{All}
use Rattle.std.proofs.lemmas.List.{map-append, take_more}
use Rattle.std.proofs.lemmas.List.Elements.{All-push, All-same}
use Rattle.io_edge.specs.FileHolding.{NamedFile, place_of, bytes_at}
use Rattle.aout_image.specs.declared.Image.{Image}
use Rattle.aout_image.specs.Image.{Loaded, loaded, judged_image}
use Rattle.aout_image.proofs.Images.{image_of-is}
use Rattle.flat_state.specs.Flat.{NamedImage}
use Rattle.command_edge.specs.Told.{facts_in, facts_told, facts_told_at}
use Rattle.command_edge.specs.Named.{Why, before}
use Rattle.command_edge.proofs.Behind.{behind}
use Rattle.run_opening.specs.declared.images.OpenedImage.{OpenedImage}
use Rattle.run_opening.specs.Images.{named_image, image_found_at, image_found, images_found, image_in, images_in, IsIn, opened_heading, AreOpened}

loaded_of : (bytes : List ℕ) (r : Result Loaded ℕ) (facts : Image) → judged_image bytes ≡ r → facts_in r ≡ Ok facts
    → judged_image bytes ≡ Ok (loaded facts bytes)
loaded_of bytes (Ok image) facts e told =
    let same : image.facts ≡ facts = cc in
    let whole = image_of-is bytes image e in
    e ∙ ap (λ (i : Loaded). Ok i) (whole.is ∙ ap (λ (f : Image). loaded f bytes) same)
loaded_of bytes (Err reason) facts e told = absurd cc

pub opened_is_in : (files : List NamedFile) (image : OpenedImage) → place_of files image.name.now ≡ Some image.file
    → facts_told files image.name.now ≡ Ok image.facts → IsIn files image
opened_is_in files image place told = record {
  place = place;
  is = loaded_of (bytes_at files image.file) (judged_image (bytes_at files image.file)) image.facts refl (subst (λ (p : Option ℕ). facts_told_at files p ≡ Ok image.facts) place told);
}

pub opened_is_found : (files : List NamedFile) (image : OpenedImage) → IsIn files image → image_found files image.name.now ≡ Ok (image_in files image)
opened_is_found files image found =
    ap (image_found_at files image.name.now) found.place ∙ ap (named_image image.name.now) found.is

-- one more image
pub images_more : (files : List NamedFile) (images : List OpenedImage) (image : OpenedImage) (rest : Result (List NamedImage) Why)
    (left : Result NamedImage Why) → left ≡ Ok (image_in files image)
    → behind (images_in files images) (before left rest) ≡ behind (images_in files (images ++ image ∷ [])) rest
images_more files images image (Ok more) left is = rw is (ap (λ (xs : List NamedImage). Ok xs) (grows images))
  where
    grows : (xs : List OpenedImage) → (images_in files xs ++ image_in files image ∷ more) ≡ (images_in files (xs ++ image ∷ []) ++ more)
    grows [] = refl
    grows (x ∷ xs) = ap (λ (ys : List NamedImage). image_in files x ∷ ys) (grows xs)
images_more files images image (Err why) left is = rw is refl

-- the names so far, and the next one
names_left : (names : List (Bor (List ℕ))) (i : ℕ) (d : Bor (List ℕ)) → i < length names → drop i names ≡ get_or names i d ∷ drop (i + 1) names
names_left names i d below = subst (λ (k : ℕ). drop i names ≡ get_or names i d ∷ drop k names) (sym (add-one i)) (drop-cons names i d below)

pub answers_more : (files : List NamedFile) (names : List (Bor (List ℕ))) (images images' : List OpenedImage) (image : OpenedImage) (i : ℕ) (d : Bor (List ℕ))
    → i < length names
    → image_found files (get_or names i d).now ≡ Ok (image_in files image) → images' ≡ images ++ image ∷ []
    → images_found files (map (λ name. name.now) names) ≡ behind (images_in files images) (images_found files (map (λ name. name.now) (drop i names)))
    → images_found files (map (λ name. name.now) names) ≡ behind (images_in files images') (images_found files (map (λ name. name.now) (drop (i + 1) names)))
answers_more files names images images' image i d below found pushed so_far =
    let left = images_found files (map (λ (name : Bor (List ℕ)). name.now) (drop (i + 1) names)) in
    so_far
    ∙ ap (λ (xs : List (Bor (List ℕ))). behind (images_in files images) (images_found files (map (λ (name : Bor (List ℕ)). name.now) xs))) (names_left names i d below)
    ∙ images_more files images image left (image_found files (get_or names i d).now) found
    ∙ ap (λ (xs : List OpenedImage). behind (images_in files xs) left) (sym pushed)

pub names_more : (names : List (Bor (List ℕ))) (images images' : List OpenedImage) (image : OpenedImage) (i : ℕ) (d : Bor (List ℕ)) → i < length names
    → image.name ≡ get_or names i d → images' ≡ images ++ image ∷ []
    → map (λ image. image.name) images ≡ take i names → map (λ image. image.name) images' ≡ take (i + 1) names
names_more names images images' image i d below is pushed so_far =
    let name_of : OpenedImage → Bor (List ℕ) = λ (image : OpenedImage). image.name in
    ap (map name_of) pushed ∙ map-append name_of images (image ∷ [])
    ∙ ap (λ (xs : List (Bor (List ℕ))). xs ++ image.name ∷ []) so_far ∙ ap (λ (x : Bor (List ℕ)). take i names ++ x ∷ []) is ∙ sym (take_more names i d below)

pub All-pushed : {X : Type 0} (P : X → Type 0) (xs xs' : List X) (x : X) → xs' ≡ xs ++ x ∷ [] → All P xs → P x → All P xs'
All-pushed P xs xs' x pushed each is = All-same P xs' (xs ++ x ∷ []) pushed (All-push P xs x each is)

-- images with any bytes have the names and facts that were opened
pub opened_headings : (bytes : OpenedImage → List ℕ) (opened : List OpenedImage)
    → AreOpened (map (λ image. record { name = image.name.now; image = loaded image.facts (bytes image) }) opened) opened
unfolding loaded
opened_headings bytes [] = refl
opened_headings bytes (image ∷ images) = ap (λ (xs : List (List ℕ × Image)). opened_heading image ∷ xs) (opened_headings bytes images)
