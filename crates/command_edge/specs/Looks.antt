-- What a command asks of files, by the files that it reads and by how it ended.
use Rattle.std.specs.Prelude.{◌≡◌, ◌⊎◌, ◌-◌, ℕ, Bool, min, List, [], ◌∷◌, ◌++◌, length, map, Option, Some, Result, Ok, Err, false}
use Rattle.io_edge.specs.FileHolding.{NamedFile, AnswersName, bytes_at}
use Rattle.io_edge.specs.FileRequests.{FileRequest, FileFind, FileNotes, after_requests}
use Rattle.io_edge.specs.Transfer.{range_asked}
use Rattle.io_edge.specs.declared.Found.{Found}
use Rattle.io_edge.specs.declared.Found.TheVariants as found
use Rattle.aout_image.specs.declared.Image.{Image}
use Rattle.aout_image.specs.Image.{judged_image, file_length_of}
use Rattle.command_edge.specs.declared.answers.Unread.{Unread}
use Rattle.command_edge.specs.declared.answers.Unread.TheVariants as unreads
use Rattle.command_edge.specs.declared.fault.Fault.{Fault}
use Rattle.command_edge.specs.declared.fault.Fault.TheVariants.{Absent, NotImage, BadSchedule, FileFault, NoMemory, JournalFull, NoSpace, NotFlatRun, BadTranscript, TooLong, BadSource, BadReferences, ReferencesTooLong, NotAsWritten, WrittenSoFar, NotPaged}
use Rattle.command_edge.specs.Told.{facts_in, facts_told}
use Rattle.command_edge.specs.Asked.{IsFound, if_made, AsksFront, AsksWhole}

-- ---- an image

-- how many bytes are read after the header of an image with these facts; none where a file is no image
abbrev pub behind_header : Result Image Unread → ℕ
behind_header (Ok image) = file_length_of image - 32
behind_header (Err unread) = 0

-- the reads of an image that was found: of its header, and of so many bytes after it
abbrev pub image_asked : Found → ℕ → List FileRequest
image_asked (found.Is id len) behind = range_asked id 0 (min len 32) ++ range_asked id 32 behind
image_asked found.Absent behind = []
image_asked found.Failed behind = []

-- the file wasn't found, or wasn't read to its end
abbrev pub IsUnread : {A : Type 0} → Result A Unread → Type 0
IsUnread (Ok x) = ⊥
IsUnread (Err unreads.Absent) = Unit {0}
IsUnread (Err (unreads.NotImage reason)) = ⊥
IsUnread (Err unreads.FileFault) = Unit {0}
IsUnread (Err unreads.NoMemory) = Unit {0}

-- its header says that the file is no image
abbrev pub IsUnfit : {A : Type 0} → Result A Unread → Type 0
IsUnfit (Ok x) = ⊥
IsUnfit (Err unreads.Absent) = ⊥
IsUnfit (Err (unreads.NotImage reason)) = Unit {0}
IsUnfit (Err unreads.FileFault) = ⊥
IsUnfit (Err unreads.NoMemory) = ⊥

-- Of a found file that has so many bytes the header was read, by one call, and then what its header says, by another, where there is any;
-- or memory was refused before. Nothing is read after the header of a file that is no image, and after a call that failed.
pub record LoadMade {A : Type 0} (result : Result A Unread) (holds : Option (List NamedFile)) (id len : ℕ) (old new : FileNotes) : Type 0 where
  pub behind : ℕ
  pub as_told : ((files : List NamedFile) → holds ≡ Some files → len ≡ length (bytes_at files id) → behind ≡ behind_header (facts_in (judged_image (bytes_at files id))))
      ⊎ ((behind ≡ 0) × IsUnread result)
  pub unfit : IsUnfit result → behind ≡ 0
  pub made : Bool
  pub unless : made ≡ false → result ≡ Err unreads.NoMemory
  pub noted : new ≡ after_requests (if_made made (image_asked (found.Is id len) behind)) old

-- An image was sought by its name, and found unless the call came to an end by that. Then its header was read, by one call, and what its
-- header says that there is after it, by another. Nothing is read after the header of an unfit file.
pub record AsksImage (name : List ℕ) (holds : Option (List NamedFile)) (Ended Refused Unfit : Type 0) (old new : FileNotes) : Type 0 where
  pub found : Found
  pub told : AnswersName holds name found
  pub there : IsFound found ⊎ Ended
  pub behind : ℕ
  pub as_told : ((files : List NamedFile) → holds ≡ Some files → behind ≡ behind_header (facts_told files name)) ⊎ ((behind ≡ 0) × Ended)
  pub unfit : Unfit → behind ≡ 0
  pub made : Bool
  pub unless : made ≡ false → Refused
  pub noted : new ≡ after_requests (FileFind name ∷ if_made made (image_asked found behind)) old

-- ---- the files of a command

-- a file that is read: its first bytes, so many at most; all of them, where it has no more than so many; or an image
pub data Look : Type 0 where
  FrontOf : List ℕ → ℕ → Look
  WholeOf : List ℕ → ℕ → Look
  ImageOf : List ℕ → Look

-- its name
abbrev pub name_of : Look → List ℕ
name_of (FrontOf name most) = name
name_of (WholeOf name most) = name
name_of (ImageOf name) = name

-- the images of these names
abbrev pub image_looks : List (List ℕ) → List Look
image_looks names = map (λ name. ImageOf name) names

-- it was sought once, and read once, as far as it came
abbrev pub AsksLook : Look → Option (List NamedFile) → (Ended Refused Unfit : Type 0) → FileNotes → FileNotes → Type 0
AsksLook (FrontOf name most) holds Ended Refused Unfit old new = AsksFront name holds most Ended Refused old new
AsksLook (WholeOf name most) holds Ended Refused Unfit old new = AsksWhole name holds most Ended Refused old new
AsksLook (ImageOf name) holds Ended Refused Unfit old new = AsksImage name holds Ended Refused Unfit old new

-- each was, in their order, to its end
abbrev pub AsksAll : List Look → Option (List NamedFile) → FileNotes → FileNotes → Type 0
AsksAll [] holds old new = new ≡ old
AsksAll (look ∷ looks) holds old new = (next : FileNotes) × AsksLook look holds ⊥ ⊥ ⊥ old next × AsksAll looks holds next new

-- the fault is one of this file: it is absent, or isn't read, or isn't what it should be
abbrev pub StopsAt : Fault → Look → Type 0
StopsAt (Absent name) look = name.now ≡ name_of look
StopsAt (NotImage name reason) (ImageOf image) = name.now ≡ image
StopsAt (BadSchedule line) (FrontOf name most) = Unit {0}
StopsAt (BadSource line) (FrontOf name most) = Unit {0}
StopsAt (BadTranscript line) (WholeOf name most) = Unit {0}
StopsAt TooLong (WholeOf name most) = Unit {0}
StopsAt (BadReferences line) (WholeOf name most) = Unit {0}
StopsAt ReferencesTooLong (WholeOf name most) = Unit {0}
StopsAt FileFault look = Unit {0}
StopsAt NoMemory look = Unit {0}
StopsAt _ look = ⊥

-- a fault by which a file isn't found, or isn't read to its end
abbrev pub IsLack : Fault → Type 0
IsLack (Absent name) = Unit {0}
IsLack FileFault = Unit {0}
IsLack NoMemory = Unit {0}
IsLack _ = ⊥

-- a fault by which a header is that of no image
abbrev pub IsNoImage : Fault → Type 0
IsNoImage (NotImage name reason) = Unit {0}
IsNoImage _ = ⊥

-- those before the one at fault were, and this one as far as it came. Where memory was refused between two of them, there is none at fault.
abbrev pub AsksUpTo : Fault → List Look → Option (List NamedFile) → FileNotes → FileNotes → Type 0
AsksUpTo fault [] holds old new = (fault ≡ NoMemory) × (new ≡ old)
AsksUpTo fault (look ∷ looks) holds old new =
    ((fault ≡ NoMemory) × (new ≡ old))
    ⊎ ((StopsAt fault look × AsksLook look holds (IsLack fault) (fault ≡ NoMemory) (IsNoImage fault) old new)
    ⊎ ((next : FileNotes) × AsksLook look holds ⊥ ⊥ ⊥ old next × AsksUpTo fault looks holds next new))

-- by what reading them came to
abbrev pub AsksBy : {A : Type 0} → List Look → Option (List NamedFile) → Result A Fault → FileNotes → FileNotes → Type 0
AsksBy looks holds (Ok x) old new = AsksAll looks holds old new
AsksBy looks holds (Err fault) old new = AsksUpTo fault looks holds old new

-- a fault that is found once all files are read
abbrev pub IsOfAll : Fault → Type 0
IsOfAll NoMemory = Unit {0}
IsOfAll JournalFull = Unit {0}
IsOfAll (NoSpace pid) = Unit {0}
IsOfAll (NotFlatRun line) = Unit {0}
IsOfAll (NotAsWritten line) = Unit {0}
IsOfAll (WrittenSoFar entries) = Unit {0}
IsOfAll (NotPaged line) = Unit {0}
IsOfAll _ = ⊥

-- What a command that reads these files asked, by how it ended: each was sought once, in their order, and read once, by one call, or by two
-- where it is an image; all of them, but up to the one at fault where the fault is one of a file. Nothing else was asked. Where the call
-- of a file failed, it is the last of these requests.
abbrev pub Asks : {A : Type 0} → List Look → Option (List NamedFile) → Result A Fault → FileNotes → FileNotes → Type 0
Asks looks holds (Ok x) old new = AsksAll looks holds old new
Asks looks holds (Err fault) old new = (IsOfAll fault × AsksAll looks holds old new) ⊎ AsksUpTo fault looks holds old new
