-- The files that are told, by place.
use Rattle.std.specs.Prelude.{◌≡◌, ◌≤◌, ◌<◌, ◌+◌, ℕ, List, [], length, take, drop, Option, Some, None, position, bytes_eq, slice_index_or, String, Vec, string_bytes, ⊤}
use Rattle.io_edge.specs.Count.{Rose}
use Rattle.io_edge.specs.declared.Found.{Found}
use Rattle.io_edge.specs.declared.Found.TheVariants.{Is, Absent, Failed}

-- a file as it is told
pub record NamedFile : Type 0 where
  pub name : List ℕ
  pub bytes : List ℕ

-- a name and its bytes, as a caller hands them in
abbrev pub named_file : {A B : Type 0} → String A × Vec ℕ B → NamedFile
named_file file = record { name = string_bytes file.0; bytes = file.1.items }

-- the first place of this name
abbrev pub place_of : List NamedFile → List ℕ → Option ℕ
place_of files name = position (λ file. bytes_eq file.name name) files

-- what stands past the last place
abbrev pub no_file : NamedFile
no_file = record { name = []; bytes = [] }

-- the bytes of the file at a place
abbrev pub bytes_at : List NamedFile → ℕ → List ℕ
bytes_at files place = (slice_index_or files place no_file).bytes

-- so many bytes of a file from an offset on
abbrev pub file_range : List ℕ → ℕ → ℕ → List ℕ
file_range bytes offset count = take count (drop offset bytes)

-- the answer for a name in these files
abbrev pub AnswersIn : List NamedFile → List ℕ → Found → Type 0
AnswersIn files name (Is id len) = (place_of files name ≡ Some id) × (len ≡ length (bytes_at files id))
AnswersIn files name Absent = place_of files name ≡ None
AnswersIn files name Failed = ⊤

-- the answer for a name, where the files are told
abbrev pub AnswersName : Option (List NamedFile) → List ℕ → Found → Type 0
AnswersName None name found = ⊤
AnswersName (Some files) name found = AnswersIn files name found

-- what is found at a place of these files
abbrev pub found_at : List NamedFile → Option ℕ → Found
found_at files None = Absent
found_at files (Some place) = Is place (length (bytes_at files place))

-- what is found of a name in these files
abbrev pub found_in : List NamedFile → List ℕ → Found
found_in files name = found_at files (place_of files name)

-- what has been found out so far of each name: nothing, or its number and length, or that there is no such file
abbrev pub Known : Type 0
Known = List ℕ → Option Found

-- a name is known to be what was found of it
abbrev pub IsKnown : Known → List ℕ → Found → Type 0
IsKnown known name (Is id len) = known name ≡ Some (Is id len)
IsKnown known name Absent = known name ≡ Some Absent
IsKnown known name Failed = ⊤

-- what is known stays
abbrev pub StaysKnown : Known → Known → Type 0
StaysKnown old new = (name : List ℕ) (found : Found) → old name ≡ Some found → new name ≡ Some found

-- two names that are known of files have two numbers
abbrev pub KnownApart : Known → Type 0
KnownApart known = (one two : List ℕ) (id len length : ℕ) → known one ≡ Some (Is id len) → known two ≡ Some (Is id length) → one ≡ two

-- the count of faults over one search for a name
abbrev pub CountsFind : Found → ℕ → ℕ → Type 0
CountsFind (Is id len) old new = new ≡ old
CountsFind Absent old new = new ≡ old
CountsFind Failed old new = Rose old new

-- where the files are told, the file at this place has so many bytes from the offset on
abbrev pub HasRange : Option (List NamedFile) → ℕ → ℕ → ℕ → Type 0
HasRange None id offset count = ⊤
HasRange (Some files) id offset count = (id < length files) × (offset + count ≤ length (bytes_at files id))

-- where the files are told, these are the bytes of the file at this place from the offset on
abbrev pub HoldsRange : Option (List NamedFile) → ℕ → ℕ → List ℕ → Type 0
HoldsRange None id offset bytes = ⊤
HoldsRange (Some files) id offset bytes = bytes ≡ file_range (bytes_at files id) offset (length bytes)
