-- Images in memory are found by their names.
use Rattle.std.proofs.Common.{◌≡◌, ℕ, suc, ◌+◌, ◌<◌, Bool, true, false, not, if◌then◌else◌, List, [], ◌∷◌, ◌++◌, length, map, Some, Result, Ok, Err, IsTrue, is_ok, bytes_eq, refl, sym, ap, ◌∙◌, subst, arith}
use Rattle.std.specs.Prelude.{All, position}
use Rattle.std.specs.List.{filter, position_or_len}
use Rattle.std.proofs.lemmas.Bool.{lt-ltb}
use Rattle.std.proofs.lemmas.List.Elements.{All-head, All-tail}
use Rattle.io_edge.specs.FileHolding.{NamedFile, place_of, bytes_at}
use Rattle.aout_image.specs.Image.{Loaded, judged_image}
use Rattle.flat_state.specs.Flat.{NamedImage}
use Rattle.command_edge.specs.ImageWords.{name_in, distinct, image_names}
use Rattle.command_edge.proofs.ImageNames.{unlike}
use Rattle.replay_check.specs.Images.{FlatFile, IsImageFile, named_as, images_of}
use Rattle.command_edge.specs.Named.{Why, before}
use Rattle.run_model.proofs.Acting.{bytes_self}
use Rattle.run_opening.specs.Images.{named_image, image_found_at, image_found, images_found}
use Rattle.reference_commands.specs.InMemory.{file_of, DiffersFrom, AllDiffer}

-- Each name stands once.

differs_with : (like : Bool) (name x : List ℕ) (rest : List (List ℕ)) → bytes_eq x name ≡ like → DiffersFrom name rest
    → DiffersFrom name (if not like then x ∷ rest else rest)
differs_with true name x rest is differs = differs
differs_with false name x rest is differs = (is, differs)

differs_from : (name : List ℕ) (xs : List (List ℕ)) → DiffersFrom name (filter (λ other. not (bytes_eq other name)) xs)
differs_from name [] = tt
differs_from name (x ∷ xs) = differs_with (bytes_eq x name) name x (filter (λ other. not (bytes_eq other name)) xs) refl (differs_from name xs)

kept_with : (keeps : Bool) (name x : List ℕ) (rest : List (List ℕ)) → bytes_eq x name ≡ false → DiffersFrom name rest
    → DiffersFrom name (if keeps then x ∷ rest else rest)
kept_with true name x rest is differs = (is, differs)
kept_with false name x rest is differs = differs

differs_kept : (f : List ℕ → Bool) (name : List ℕ) (xs : List (List ℕ)) → DiffersFrom name xs → DiffersFrom name (filter f xs)
differs_kept f name [] differs = tt
differs_kept f name (x ∷ xs) differs = kept_with (f x) name x (filter f xs) differs.0 (differs_kept f name xs differs.1)

all_with : (keeps : Bool) (x : List ℕ) (rest : List (List ℕ)) → DiffersFrom x rest → AllDiffer rest → AllDiffer (if keeps then x ∷ rest else rest)
all_with true x rest differs all = (differs, all)
all_with false x rest differs all = all

all_kept : (f : List ℕ → Bool) (xs : List (List ℕ)) → AllDiffer xs → AllDiffer (filter f xs)
all_kept f [] all = tt
all_kept f (x ∷ xs) all = all_with (f x) x (filter f xs) (differs_kept f x xs all.0) (all_kept f xs all.1)

distinct_differ : (names : List (List ℕ)) → AllDiffer (distinct names)
distinct_differ [] = tt
distinct_differ (name ∷ names) =
    (differs_from name (distinct names), all_kept (λ other. not (bytes_eq other name)) (distinct names) (distinct_differ names))

pub names_differ : (words : List (List ℕ)) → AllDiffer (image_names words)
unfolding image_names
names_differ words = distinct_differ (map name_in words)

-- A name is found at its place.

abbrev names_of : List FlatFile → List (List ℕ)
names_of images = map (λ (image : FlatFile). image.name) images

-- a test fails on each of these files
abbrev AllFail : (NamedFile → Bool) → List NamedFile → Type 0
AllFail test [] = Unit {0}
AllFail test (file ∷ files) = (test file ≡ false) × AllFail test files

differs_in : (name : List ℕ) (done : List FlatFile) (image : FlatFile) (more : List FlatFile) → DiffersFrom name (names_of (done ++ image ∷ more))
    → bytes_eq image.name name ≡ false
differs_in name [] image more differs = differs.0
differs_in name (d ∷ done) image more differs = differs_in name done image more differs.1

others_fail : (done : List FlatFile) (image : FlatFile) (more : List FlatFile) → AllDiffer (names_of (done ++ image ∷ more))
    → AllFail (λ file. bytes_eq file.name image.name) (map file_of done)
others_fail [] image more all = tt
others_fail (d ∷ done) image more all = (unlike image.name d.name (differs_in d.name done image more all.0), others_fail done image more all.1)

first_at : (test : NamedFile → Bool) (done : List FlatFile) (image : FlatFile) (more : List FlatFile) → AllFail test (map file_of done)
    → test (file_of image) ≡ true
    → position_or_len test (map file_of (done ++ image ∷ more)) ≡ length done
first_at test [] image more fail pass = rw pass refl
first_at test (d ∷ done) image more fail pass =
    let last : 1 + length done ≡ suc (length done) = omega arith in
    rw fail.0 (ap (λ (n : ℕ). 1 + n) (first_at test done image more fail.1 pass) ∙ last)

below_all : (done : List FlatFile) (image : FlatFile) (more : List FlatFile) → length done < length (map file_of (done ++ image ∷ more))
below_all [] image more = omega arith
below_all (d ∷ done) image more = let below = below_all done image more in omega arith

placed : (test : NamedFile → Bool) (files : List NamedFile) (k : ℕ) → position_or_len test files ≡ k → k < length files → position test files ≡ Some k
placed test files k is below = rw is (rw (lt-ltb k (length files) below) refl)

found_place : (done : List FlatFile) (image : FlatFile) (more : List FlatFile) → AllDiffer (names_of (done ++ image ∷ more))
    → place_of (map file_of (done ++ image ∷ more)) image.name ≡ Some (length done)
found_place done image more all =
    placed (λ file. bytes_eq file.name image.name) (map file_of (done ++ image ∷ more)) (length done)
    (first_at (λ file. bytes_eq file.name image.name) done image more (others_fail done image more all) (bytes_self image.name))
    (below_all done image more)

bytes_there : (done : List FlatFile) (image : FlatFile) (more : List FlatFile) → bytes_at (map file_of (done ++ image ∷ more)) (length done) ≡ image.bytes
bytes_there [] image more = refl
bytes_there (d ∷ done) image more = bytes_there done image more

found_one : (done : List FlatFile) (image : FlatFile) (more : List FlatFile) → AllDiffer (names_of (done ++ image ∷ more))
    → image_found (map file_of (done ++ image ∷ more)) image.name ≡ named_image image.name (judged_image image.bytes)
found_one done image more all =
    let files = map file_of (done ++ image ∷ more) in
    ap (image_found_at files image.name) (found_place done image more all) ∙ ap (λ (bytes : List ℕ). named_image image.name (judged_image bytes)) (bytes_there done image more)

-- all of them are found

one_before : (name : List ℕ) (r : Result Loaded ℕ) (images : List NamedImage) → IsTrue (is_ok r)
    → before (named_image name r) (Ok images) ≡ Ok (named_as name r ++ images)
one_before name (Ok image) images good = refl
one_before name (Err reason) images good = absurd cc

joined : (done : List FlatFile) (image : FlatFile) (more : List FlatFile) → (done ++ image ∷ []) ++ more ≡ done ++ image ∷ more
joined [] image more = refl
joined (d ∷ done) image more = ap (λ (xs : List FlatFile). d ∷ xs) (joined done image more)

found_from : (done images : List FlatFile) → AllDiffer (names_of (done ++ images)) → All IsImageFile images
    → images_found (map file_of (done ++ images)) (names_of images) ≡ Ok (images_of images)
found_from done [] all good = refl
found_from done (image ∷ more) all good =
    let is = joined done image more in
    let rest : images_found (map file_of (done ++ image ∷ more)) (names_of more) ≡ Ok (images_of more)
    = subst (λ (xs : List FlatFile). images_found (map file_of xs) (names_of more) ≡ Ok (images_of more)) is
    (found_from (done ++ image ∷ []) more (subst (λ (xs : List FlatFile). AllDiffer (names_of xs)) (sym is) all) (All-tail IsImageFile image more good)) in
    ap (λ (r : Result NamedImage Why). before r (images_found (map file_of (done ++ image ∷ more)) (names_of more))) (found_one done image more all)
    ∙ ap (before (named_image image.name (judged_image image.bytes))) rest
    ∙ one_before image.name (judged_image image.bytes) (images_of more) (All-head IsImageFile image more good).image

pub all_found : (images : List FlatFile) → AllDiffer (names_of images) → All IsImageFile images
    → images_found (map file_of images) (names_of images) ≡ Ok (images_of images)
all_found images all good = found_from [] images all good
