-- Names and numbers in words.
use Rattle.std.proofs.Common.{◌≡◌, ℕ, zero, suc, ◌<◌, ◌≤◌, List, [], ◌∷◌, length, map, get_or, Option, Some, None, Bor, bytes_eq, not, refl, sym, ap, ◌∙◌, subst, arith}
use Rattle.std.specs.Prelude.{All}
use Rattle.std.specs.List.{filter, filter_map, cons_option}
use Rattle.std.proofs.lemmas.List.{length-map}
use Rattle.std.proofs.lemmas.Simd.{map-map}
use Rattle.std.proofs.lemmas.List.Elements.{All-nil, All-cons, All-map, All-filter}
use Rattle.command_edge.specs.ImageWords.{IsShortName, name_in, distinct, image_names, number_started, first_images}
use Rattle.run_opening.specs.declared.images.OpenedImage.{OpenedImage}

mapped_at : {X Y : Type 0} (f : X → Y) (xs : List X) (k : ℕ) (d : X) → get_or (map f xs) k (f d) ≡ f (get_or xs k d)
mapped_at f [] k d = refl
mapped_at f (x ∷ xs) zero d = refl
mapped_at f (x ∷ xs) (suc k) d = mapped_at f xs k d

-- a fact of each item of a list that maps to another
pub All-of_map : {X Y : Type 0} (P : Y → Type 0) (f : X → Y) (xs : List X) → All P (map f xs) → All (λ x. P (f x)) xs
All-of_map P f xs each = λ k d below. subst P (mapped_at f xs k d) (each k (f d) (omega (arith, below, length-map xs f)))

-- a fact of each name in words is one of each image's name
All-distinct : (P : List ℕ → Type 0) (names : List (List ℕ)) → All P names → All P (distinct names)
All-distinct P [] each = All-nil P
All-distinct P (name ∷ names) each =
    All-cons P name (filter (λ other. not (bytes_eq other name)) (distinct names)) (each 0 name (omega arith))
    (All-filter (λ other. not (bytes_eq other name)) P (distinct names) (All-distinct P names (λ k d below. each (suc k) d (omega (arith, below)))))

pub All-image_names : (P : List ℕ → Type 0) (words : List (List ℕ)) → All (λ word. P (name_in word)) words → All P (image_names words)
unfolding image_names
All-image_names P words each = All-distinct P (map name_in words) (All-map P name_in words each)

-- some word names some image
some_name : (words : List (List ℕ)) → 0 < length words → 0 < length (image_names words)
unfolding image_names
some_name [] some = absurd (omega (arith, some))
some_name (word ∷ words) some = omega arith

-- a word starts one process at most
one_more : {Y : Type 0} (n : ℕ) (o : Option Y) (ys : List Y) → length ys ≤ n → length (cons_option o ys) ≤ suc n
one_more n (Some y) ys few = omega (arith, few)
one_more n None ys few = omega (arith, few)

few_numbers : {X Y : Type 0} (f : X → Option Y) (xs : List X) → length (filter_map f xs) ≤ length xs
few_numbers f [] = omega arith
few_numbers f (x ∷ xs) = one_more (length xs) (f x) (filter_map f xs) (few_numbers f xs)

-- words and names as they are borrowed
abbrev pub now_of : List (Bor (List ℕ)) → List (List ℕ)
now_of words = map (λ word. word.now) words

pub few_started : (first : List ℕ) (names : List (List ℕ)) (words : List (Bor (List ℕ))) → first ≡ first_images names (now_of words)
    → length first ≤ length words
unfolding first_images
few_started first names words is =
    omega (arith, ap length is, few_numbers (number_started names) (now_of words), length-map words (λ (word : Bor (List ℕ)). word.now))

-- the images that were opened have the names in the words
abbrev pub names_of : List OpenedImage → List (List ℕ)
names_of images = map (λ image. image.name.now) images

pub opened_names : (images : List OpenedImage) (names words : List (Bor (List ℕ))) → map (λ image. image.name) images ≡ names
    → now_of names ≡ image_names (now_of words) → names_of images ≡ image_names (now_of words)
opened_names images names words are known =
    sym (map-map (λ (name : Bor (List ℕ)). name.now) (λ (image : OpenedImage). image.name) images) ∙ ap now_of are ∙ known

pub short_names : (images : List OpenedImage) (words : List (Bor (List ℕ))) → names_of images ≡ image_names (now_of words)
    → All (λ word. IsShortName (name_in word.now)) words → All (λ image. IsShortName image.name.now) images
short_names images words are each =
    All-of_map IsShortName (λ (image : OpenedImage). image.name.now) images
    (subst (All IsShortName) (sym are) (All-image_names IsShortName (now_of words) (All-map (λ (word : List ℕ). IsShortName (name_in word)) (λ (word : Bor (List ℕ)). word.now) words each)))

pub some_opened : (images : List OpenedImage) (words : List (Bor (List ℕ))) → names_of images ≡ image_names (now_of words)
    → 0 < length words → 0 < length images
some_opened images words are some =
    let named : 0 < length (image_names (now_of words)) = some_name (now_of words) (omega (arith, some, length-map words (λ (word : Bor (List ℕ)). word.now))) in
    omega (arith, named, ap length are, length-map images (λ (image : OpenedImage). image.name.now))
