-- The files of a folder as a run sees them: those that its words name, each under the number of its name, which is its first place in
-- a list of names.
use Rattle.std.specs.Prelude.{ℕ, List, [], ◌∷◌, ◌++◌, ◌==◌, cond, map, take, Option, Some, None}
use Rattle.std.specs.Borrow.{Bor}
use Rattle.io_edge.specs.FileHolding.{NamedFile, place_of, bytes_at}

-- the name in a word: without the equals sign with which it may begin
abbrev pub name_in : List ℕ → List ℕ
name_in [] = []
name_in (byte ∷ bytes) = cond (byte == 61) bytes (byte ∷ bytes)

-- the names of files that words may name: each word, and the name in each
abbrev pub names_of : List (List ℕ) → List (List ℕ)
names_of words = words ++ map name_in words

-- the same of words as they are handed in
abbrev pub names_in : List (Bor (List ℕ)) → List (List ℕ)
names_in words = names_of (map (λ word. word.now) words)

-- the most bytes that are seen of a file: one more than the longest transcript has
unfoldable pub most_seen : ℕ
most_seen = 67108865

-- a name that is longer than each of these
abbrev pub longer_name : List (List ℕ) → List ℕ
longer_name [] = 0 ∷ []
longer_name (name ∷ names) = 0 ∷ name ++ longer_name names

-- what is seen under a name: the file of this name up to the most bytes, or, where there is none, one that no name names
abbrev pub seen_at : List NamedFile → List (List ℕ) → List ℕ → Option ℕ → NamedFile
seen_at folder names name None = record { name = longer_name names; bytes = [] }
seen_at folder names name (Some place) = record { name = name; bytes = take most_seen (bytes_at folder place) }

-- the files that the names name, each in the place of its name
abbrev pub seen_files : List NamedFile → List (List ℕ) → List NamedFile
seen_files folder names = map (λ name. seen_at folder names name (place_of folder name)) names

-- the same where the folder is told
abbrev pub seen_told : Option (List NamedFile) → List (List ℕ) → Option (List NamedFile)
seen_told None names = None
seen_told (Some folder) names = Some (seen_files folder names)
