-- What is asked of a store of files, and what it notes of that.
use Rattle.std.specs.Prelude.{ℕ, List, [], ◌∷◌, ◌++◌}

-- a request: the file of this name is sought; or so many bytes of the file with this number are read, from this offset on
pub data FileRequest : Type 0 where
  FileFind : List ℕ → FileRequest
  FileRead : (id offset count : ℕ) → FileRequest

-- What a store has noted of the requests that were made of it. What it notes is its own choice: nothing, or all of them in order.
pub data FilesNoted : Type 0 where
  Nothing : FilesNoted
  These : List FileRequest → FilesNoted

-- what a store will have noted, once these further requests are made of it
abbrev pub FileNotes : Type 0
FileNotes = List FileRequest → FilesNoted

-- the same after these requests, in their order
abbrev pub after_requests : List FileRequest → FileNotes → FileNotes
after_requests requests notes = λ more. notes (requests ++ more)

-- after one request
abbrev pub after_request : FileRequest → FileNotes → FileNotes
after_request request notes = after_requests (request ∷ []) notes

-- of a store that notes nothing
abbrev pub no_notes : FileNotes
no_notes = λ requests. Nothing
