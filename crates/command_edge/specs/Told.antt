-- What the file of a name is read as, where the files are told.
use Rattle.std.specs.Prelude.{◌≡◌, ℕ, Bool, true, false, nat_le, List, length, take, Option, Some, None, Result, Ok, Err}
use Rattle.io_edge.specs.FileHolding.{NamedFile, place_of, bytes_at}
use Rattle.aout_image.specs.declared.Image.{Image}
use Rattle.aout_image.specs.Image.{Loaded, judged_image, file_length_of}
use Rattle.command_edge.specs.declared.answers.Unread.{Unread}
use Rattle.command_edge.specs.declared.answers.Unread.TheVariants.{Absent, NotImage}

-- the first bytes of the file at a place, so many at most; it is absent where there is no place
abbrev pub bytes_told_at : List NamedFile → Option ℕ → ℕ → Result (List ℕ) Unread
bytes_told_at files None most = Err Absent
bytes_told_at files (Some place) most = Ok (take most (bytes_at files place))

-- the first bytes of the file of this name
abbrev pub bytes_told : List NamedFile → List ℕ → ℕ → Result (List ℕ) Unread
bytes_told files name most = bytes_told_at files (place_of files name) most

-- a file's bytes, where they are few enough
abbrev pub bytes_if : Bool → List ℕ → Option (List ℕ)
bytes_if true bytes = Some bytes
bytes_if false bytes = None

-- the bytes of the file at a place, where they are no more than so many; it is absent where there is no place
abbrev pub whole_told_at : List NamedFile → Option ℕ → ℕ → Result (Option (List ℕ)) Unread
whole_told_at files None most = Err Absent
whole_told_at files (Some place) most = Ok (bytes_if (nat_le (length (bytes_at files place)) most) (bytes_at files place))

-- the bytes of the file of this name, where they are no more than so many
abbrev pub whole_told : List NamedFile → List ℕ → ℕ → Result (Option (List ℕ)) Unread
whole_told files name most = whole_told_at files (place_of files name) most

-- the facts of the image that a file is, or why it is none
abbrev pub facts_in : Result Loaded ℕ → Result Image Unread
facts_in (Ok image) = Ok image.facts
facts_in (Err reason) = Err (NotImage reason)

-- the facts of the image at a place; it is absent where there is no place
abbrev pub facts_told_at : List NamedFile → Option ℕ → Result Image Unread
facts_told_at files None = Err Absent
facts_told_at files (Some place) = facts_in (judged_image (bytes_at files place))

-- the facts of the image of this name
abbrev pub facts_told : List NamedFile → List ℕ → Result Image Unread
facts_told files name = facts_told_at files (place_of files name)

-- the facts of the image that a file is, and its bytes up to the end of its text and data; or why it is none
abbrev pub image_in : List ℕ → Result Loaded ℕ → Result (Image × List ℕ) Unread
image_in bytes (Ok image) = Ok (image.facts, take (file_length_of image.facts) bytes)
image_in bytes (Err reason) = Err (NotImage reason)

-- the image of the file at a place; it is absent where there is no place
abbrev pub image_told_at : List NamedFile → Option ℕ → Result (Image × List ℕ) Unread
image_told_at files None = Err Absent
image_told_at files (Some place) = image_in (bytes_at files place) (judged_image (bytes_at files place))

-- the image of this name
abbrev pub image_told : List NamedFile → List ℕ → Result (Image × List ℕ) Unread
image_told files name = image_told_at files (place_of files name)

-- these are the facts of the image
abbrev pub IsImageOf : Result Loaded ℕ → Image → Type 0
IsImageOf (Ok image) facts = image.facts ≡ facts
IsImageOf (Err reason) facts = ⊥
