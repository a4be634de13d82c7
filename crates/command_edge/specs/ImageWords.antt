-- The images that words name: their numbers, and those that the first processes start with.
use Rattle.std.specs.Prelude.{ℕ, ◌+◌, ◌<◌, ◌==◌, Bool, not, if◌then◌else◌, List, [], ◌∷◌, length, map, drop, slice_index, Option, None, position, bytes_eq}
use Rattle.std.specs.List.{filter, filter_map}
use Rattle.std.specs.Option.{option_map}

-- a word starts a process of its image, unless it begins with an equals sign
abbrev pub starts : List ℕ → Bool
starts word = not (slice_index word 0 == 61)

-- the name in a word
abbrev pub name_in : List ℕ → List ℕ
name_in word = if starts word then word else drop 1 word

-- a name of 1 to 63 bytes
abbrev pub IsShortName : List ℕ → Type 0
IsShortName name = (0 < length name) × (length name < 64)

-- each name once, where it first appears
abbrev pub distinct : List (List ℕ) → List (List ℕ)
distinct [] = []
distinct (name ∷ names) = name ∷ filter (λ other. not (bytes_eq other name)) (distinct names)

-- the names of the images, by their numbers from 1 on
unfoldable pub image_names : List (List ℕ) → List (List ℕ)
image_names words = distinct (map name_in words)

-- the number of a name
abbrev pub number_of : List (List ℕ) → List ℕ → Option ℕ
number_of names name = option_map (λ place. place + 1) (position (λ other. bytes_eq other name) names)

-- the number of the image that a word starts a process of
abbrev pub number_started : List (List ℕ) → List ℕ → Option ℕ
number_started names word = if starts word then number_of names word else None

-- the numbers of the images that the first processes start with
unfoldable pub first_images : List (List ℕ) → List (List ℕ) → List ℕ
first_images names words = filter_map (number_started names) words
