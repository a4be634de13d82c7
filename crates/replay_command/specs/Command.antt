-- Judging a transcript: how that ends, by what is read, and what is written.
use Rattle.std.specs.Prelude.{◌≡◌, ◌⊎◌, ℕ, List, ◌++◌, length, codes, decimal, Option, Some, None, Ok, Err}
use Rattle.io_edge.specs.FileHolding.{NamedFile}
use Rattle.vm_facts.specs.declared.entry.Entry.{Entry}
use Rattle.flat_state.specs.Flat.{Inputs}
use Rattle.command_edge.specs.declared.answers.Unread.TheVariants as unreads
use Rattle.command_edge.specs.ImageWords.{image_names, first_images}
use Rattle.replay_check.specs.Images.{FlatFile, images_of}
use Rattle.replay_check.specs.Verdicts.{first_bad}
use Rattle.command_edge.specs.declared.fault.Fault.TheVariants.{Absent, NotImage, FileFault, NoMemory, NotFlatRun, BadTranscript, TooLong}
use Rattle.command_edge.specs.Ending.{Ending}
use Rattle.command_edge.specs.Named.{Why}
use Rattle.command_edge.specs.Command.{Faults, NoFaults, FailedBehind, Completes}
use Rattle.replay_command.specs.Reading.{Read, HasEntries, HasBadLine, read_of_transcript}

-- the line of a run
abbrev pub run_line : ℕ → List ℕ
run_line entries = codes "flat run: " ++ decimal entries ++ codes " entries\n"

-- in every run of these images that starts with these first ones, this is the least number of first entries that are
-- no run of the flat machine
abbrev pub FirstBadIs : List FlatFile → List ℕ → List Entry → Option ℕ → Type 0
FirstBadIs images first entries bad = (A : Inputs) → A.images ≡ images_of images → A.first ≡ first → first_bad A entries ≡ bad

-- how judging these entries ends
abbrev pub EndsVerdict : List FlatFile → List ℕ → List Entry → Ending → Type 0
EndsVerdict images first entries (Ok output) = FirstBadIs images first entries None × (output ≡ run_line (length entries))
EndsVerdict images first entries (Err NoMemory) = Unit {0}
EndsVerdict images first entries (Err (NotFlatRun line)) = FirstBadIs images first entries (Some line)
EndsVerdict images first entries (Err _) = ⊥

-- the transcript has these entries, and so they were judged with the images of these words
pub record IsJudged (words : List (List ℕ)) (read : Read) (entries : List Entry) (bad : Option ℕ) : Type 0 where
  pub has : HasEntries read.transcript entries
  pub images : List FlatFile
  pub are : read.images ≡ Ok images
  pub verdict : FirstBadIs images (first_images (image_names words) words) entries bad

-- the transcript's entries are a run of the flat machine over these images, and the output is the line that says so
abbrev pub IsFlatRun : List (List ℕ) → Read → List ℕ → Type 0
IsFlatRun words read output = (entries : List Entry) × IsJudged words read entries None × (output ≡ run_line (length entries))

-- the transcript's entries are no run of the flat machine over these images: so many of the first are the fewest that are none
abbrev pub IsNoRun : List (List ℕ) → Read → ℕ → Type 0
IsNoRun words read line = (entries : List Entry) × IsJudged words read entries (Some line)

-- the transcript was good
abbrev pub IsGood : Read → Type 0
IsGood read = (entries : List Entry) × HasEntries read.transcript entries

-- the transcript was good, but an image wasn't read
abbrev pub LacksImage : Read → Why → Type 0
LacksImage read why = IsGood read × (read.images ≡ Err why)

-- How the replay of the transcript of this name over the images of these words ends, by what is read. The transcript
-- comes first, then the images in their order, then the verdict.
abbrev pub EndsReplay : List ℕ → List (List ℕ) → Read → Faults → Ending → Type 0
EndsReplay name words read f (Ok output) = NoFaults f × IsFlatRun words read output
EndsReplay name words read f (Err (Absent absent)) =
    ((absent.now ≡ name) × (read.transcript ≡ Err unreads.Absent)) ⊎ LacksImage read (absent.now, unreads.Absent)
EndsReplay name words read f (Err (NotImage file reason)) = LacksImage read (file.now, unreads.NotImage reason)
EndsReplay name words read f (Err FileFault) = FailedBehind (IsGood read) f
EndsReplay name words read f (Err NoMemory) = Unit {0}
EndsReplay name words read f (Err (NotFlatRun line)) = IsNoRun words read line
EndsReplay name words read f (Err (BadTranscript line)) = HasBadLine read.transcript line
EndsReplay name words read f (Err TooLong) = read.transcript ≡ Ok None
EndsReplay name words read f (Err _) = ⊥

-- replaying the transcript of this name over the images of these words
abbrev pub Replays : List ℕ → List (List ℕ) → Option (List NamedFile) → Faults → Option (List ℕ) → Option (List ℕ) → ℕ → ℕ → ℕ → Type 0
Replays name words holds f before after old_faults new_faults status =
    Completes (EndsReplay name words) (read_of_transcript name words) holds f before after old_faults new_faults status
