-- What a replay reads: its transcript, and its images by their names.
use Rattle.std.specs.Prelude.{◌≡◌, ℕ, List, [], ◌∷◌, Option, Some, None, Vec, Result, Ok, Err}
use Rattle.io_edge.specs.FileHolding.{NamedFile}
use Rattle.aout_image.specs.declared.Image.{Image}
use Rattle.vm_facts.specs.declared.entry.Entry.{Entry}
use Rattle.command_edge.specs.declared.answers.Unread.{Unread}
use Rattle.command_edge.specs.declared.answers.Unread.TheVariants as unreads
use Rattle.command_edge.specs.Told.{whole_told, image_told}
use Rattle.command_edge.specs.ImageWords.{image_names}
use Rattle.run_text.specs.Lines.{lines_in, AreLines, IsFirstBad}
use Rattle.run_text.specs.Transcript.{IsEntryLine}
use Rattle.replay_check.specs.Images.{FlatFile}
use Rattle.command_edge.specs.declared.fault.Fault.{Fault}
use Rattle.command_edge.specs.declared.fault.Fault.TheVariants.{Absent, NotImage, FileFault, NoMemory, BadTranscript, TooLong}
use Rattle.command_edge.specs.Named.{Why, before}
use Rattle.command_edge.specs.Command.{Faults, NoFaults, OpenFailed, OneFailed}
use Rattle.replay_command.specs.LastLine.{without_fault_line}
use Rattle.replay_command.specs.declared.transcript.TheConstants.{TRANSCRIPT_BYTES}

-- a transcript's bytes, none of one that is too long; and the images
pub record Read : Type 0 where
  pub transcript : Result (Option (List ℕ)) Unread
  pub images : Result (List FlatFile) Why

-- ---- images

-- an image, with its name
abbrev pub flat_in : List ℕ → Result (Image × List ℕ) Unread → Result FlatFile Why
flat_in name (Ok image) = Ok (record { name = name; bytes = image.1 })
flat_in name (Err unread) = Err (name, unread)

-- the images of these names
abbrev pub images_told : List NamedFile → List (List ℕ) → Result (List FlatFile) Why
images_told files [] = Ok []
images_told files (name ∷ names) = before (flat_in name (image_told files name)) (images_told files names)

-- the counts of faults over a call that reads images, and the faults that it may have
abbrev pub FaultsBy : {A : Type 0} → Result A Fault → Faults → Type 0
FaultsBy (Ok x) f = NoFaults f
FaultsBy (Err (Absent name)) f = NoFaults f
FaultsBy (Err (NotImage name reason)) f = NoFaults f
FaultsBy (Err FileFault) f = OneFailed f
FaultsBy (Err NoMemory) f = NoFaults f
FaultsBy (Err _) f = ⊥

-- ---- the transcript

-- its lines are those of these entries
abbrev pub HasEntries : Result (Option (List ℕ)) Unread → List Entry → Type 0
HasEntries (Ok (Some bytes)) entries = AreLines IsEntryLine entries (without_fault_line (lines_in bytes))
HasEntries (Ok None) entries = ⊥
HasEntries (Err unread) entries = ⊥

-- this line is the first that is none of an entry
abbrev pub HasBadLine : Result (Option (List ℕ)) Unread → ℕ → Type 0
HasBadLine (Ok (Some bytes)) line = IsFirstBad IsEntryLine 4294967295 line (without_fault_line (lines_in bytes))
HasBadLine (Ok None) line = ⊥
HasBadLine (Err unread) line = ⊥

-- what was read, as a list
abbrev pub items_of : {A B : Type 0} → Result (Vec A B) Fault → Result (List A) Fault
items_of (Ok v) = Ok v.items
items_of (Err fault) = Err fault

-- what the bytes of a transcript give
abbrev pub EndsLines : List ℕ → Result (List Entry) Fault → Type 0
EndsLines bytes (Ok entries) = HasEntries (Ok (Some bytes)) entries
EndsLines bytes (Err NoMemory) = Unit {0}
EndsLines bytes (Err (BadTranscript line)) = HasBadLine (Ok (Some bytes)) line
EndsLines bytes (Err _) = ⊥

-- what the transcript of this name gives, by what it is read as
abbrev pub EndsTranscript : List ℕ → Result (Option (List ℕ)) Unread → Faults → Result (List Entry) Fault → Type 0
EndsTranscript name read f (Ok entries) = NoFaults f × HasEntries read entries
EndsTranscript name read f (Err (Absent absent)) = (absent.now ≡ name) × (read ≡ Err unreads.Absent)
EndsTranscript name read f (Err FileFault) = OpenFailed f
EndsTranscript name read f (Err NoMemory) = Unit {0}
EndsTranscript name read f (Err (BadTranscript line)) = HasBadLine read line
EndsTranscript name read f (Err TooLong) = read ≡ Ok None
EndsTranscript name read f (Err _) = ⊥

-- ---- both

-- the most bytes of a transcript
abbrev pub transcript_bytes : ℕ
transcript_bytes = TRANSCRIPT_BYTES

-- what is read where the files are told, for a transcript's name and words of images
abbrev pub read_of_transcript : List ℕ → List (List ℕ) → List NamedFile → Read
read_of_transcript name words files = record { transcript = whole_told files name transcript_bytes; images = images_told files (image_names words) }
