-- Which requests of files reading a file makes.
use Rattle.std.specs.Prelude.{◌≡◌, ◌⊎◌, ℕ, Bool, true, false, min, nat_le, List, [], ◌∷◌, ◌++◌, Option, Result, Ok, Err}
use Rattle.io_edge.specs.FileHolding.{NamedFile, AnswersName}
use Rattle.io_edge.specs.FileRequests.{FileRequest, FileFind, FileNotes, after_requests}
use Rattle.io_edge.specs.Transfer.{range_asked}
use Rattle.io_edge.specs.declared.Found.{Found}
use Rattle.io_edge.specs.declared.Found.TheVariants.{Is, Absent, Failed}
use Rattle.command_edge.specs.declared.answers.Unread.{Unread}
use Rattle.command_edge.specs.declared.answers.Unread.TheVariants.{NoMemory}

-- So many bytes of a file were read from its start on, by one call, where there are any; or memory for them was refused before.
abbrev pub FrontMade : {A : Type 0} → Result A Unread → ℕ → ℕ → FileNotes → FileNotes → Type 0
FrontMade (Ok x) id count old new = new ≡ after_requests (range_asked id 0 count) old
FrontMade (Err NoMemory) id count old new = new ≡ old
FrontMade (Err _) id count old new = new ≡ after_requests (range_asked id 0 count) old

-- The same of so many bytes after the header of an image: nothing is read where there are none.
abbrev pub RestMade : {A : Type 0} → Result A Unread → ℕ → ℕ → FileNotes → FileNotes → Type 0
RestMade (Ok x) id count old new = new ≡ after_requests (range_asked id 32 count) old
RestMade (Err NoMemory) id count old new = new ≡ old
RestMade (Err _) id count old new = new ≡ after_requests (range_asked id 32 count) old

-- the read of the first bytes of a file that was found, so many at most; nothing is read of an empty one, nor where none was found
abbrev pub front_asked : Found → ℕ → List FileRequest
front_asked (Is id len) most = range_asked id 0 (min len most)
front_asked Absent most = []
front_asked Failed most = []

-- requests that were made; where memory for what they bring was refused before, there were none
abbrev pub if_made : Bool → List FileRequest → List FileRequest
if_made true requests = requests
if_made false requests = []

-- there is a file of the name
abbrev pub IsFound : Found → Type 0
IsFound (Is id len) = Unit {0}
IsFound Absent = ⊥
IsFound Failed = ⊥

-- A file was sought by its name, and found unless the call came to an end by that. Then its first bytes were read, so many at most, by
-- one call, unless memory for them was refused. No other call was made: where a file failed, the last of these requests is the one that did.
pub record AsksFront (name : List ℕ) (holds : Option (List NamedFile)) (most : ℕ) (Ended Refused : Type 0) (old new : FileNotes) : Type 0 where
  pub found : Found
  pub told : AnswersName holds name found
  pub there : IsFound found ⊎ Ended
  pub made : Bool
  pub unless : made ≡ false → Refused
  pub noted : new ≡ after_requests (FileFind name ∷ if_made made (front_asked found most)) old

-- of a file that is read whole, where it has no more bytes than so many
abbrev pub whole_asked : Found → ℕ → List FileRequest
whole_asked (Is id len) most = if_made (nat_le len most) (range_asked id 0 len)
whole_asked Absent most = []
whole_asked Failed most = []

-- A file was sought by its name, and found unless the call came to an end by that. Then it was read by one call, where it has no more
-- bytes than so many, unless memory for them was refused.
pub record AsksWhole (name : List ℕ) (holds : Option (List NamedFile)) (most : ℕ) (Ended Refused : Type 0) (old new : FileNotes) : Type 0 where
  pub found : Found
  pub told : AnswersName holds name found
  pub there : IsFound found ⊎ Ended
  pub made : Bool
  pub unless : made ≡ false → Refused
  pub noted : new ≡ after_requests (FileFind name ∷ if_made made (whole_asked found most)) old
