-- Why a transcript is none of a run, as a line of text.
use Rattle.std.specs.Prelude.{◌≡◌, ℕ, List, ◌++◌, codes, decimal, Option, Some, None, Ok, Err}
use Rattle.io_edge.specs.FileHolding.{NamedFile}
use Rattle.vm_facts.specs.declared.entry.Entry.{Entry}
use Rattle.flat_state.specs.Flat.{Inputs}
use Rattle.command_edge.specs.ImageWords.{image_names, first_images}
use Rattle.run_text.specs.Text.{line_of}
use Rattle.replay_check.specs.Images.{FlatFile, images_of}
use Rattle.replay_check.specs.Expecting.{IsExplained}
use Rattle.replay_check.specs.declared.expecting.Expected.{Expected}
use Rattle.replay_check.specs.declared.expecting.Expected.TheVariants.{Comes, Unrefused, CannotStep, NoProcess, TooMany}
use Rattle.replay_check.specs.declared.expecting.Misfit.{Misfit}
use Rattle.command_edge.specs.declared.fault.Fault.{Fault}
use Rattle.command_edge.specs.declared.fault.Fault.TheVariants.{NotFlatRun}
use Rattle.command_edge.specs.Command.{Faults, Made}
use Rattle.replay_command.specs.Reading.{Read, HasEntries, read_of_transcript}
use Rattle.replay_command.specs.Command.{EndsReplay}

-- a text, and then the line of an entry
abbrev pub before_line : List ℕ → Entry → List ℕ
before_line before e = before ++ line_of e

-- a number between two texts
abbrev pub around_number : List ℕ → ℕ → List ℕ → List ℕ
around_number before n behind = before ++ decimal n ++ behind

-- what the flat machine gives, to the end of the line
abbrev pub expected_text : Expected → List ℕ
expected_text (Comes e) = before_line (codes "the flat machine gives ") e
expected_text (Unrefused e) = before_line (codes "with no f before it the flat machine gives ") e
expected_text (CannotStep pid) = around_number (codes "process ") pid (codes " cannot step\n")
expected_text (NoProcess pid) = around_number (codes "there is no process ") pid (codes "\n")
expected_text TooMany = codes "more than 1000000 instructions\n"

-- the line that tells what the flat machine gives in place of an entry
abbrev pub explanation : Misfit → List ℕ
explanation misfit = codes "vmrun: line " ++ decimal misfit.number ++ codes ": " ++ expected_text misfit.expected

-- nothing is told of entries that are a run, and else of the first that is none what the flat machine gives in its place
abbrev pub Explained : Inputs → List Entry → Option (List ℕ) → Type 0
Explained A entries None = IsExplained A entries None
Explained A entries (Some text) = (misfit : Misfit) × IsExplained A entries (Some misfit) × (text ≡ explanation misfit)

-- What is told of the transcript of this name over the images of these words, by what is read.
pub record ExplainsTranscript (name : List ℕ) (words : List (List ℕ)) (holds : Option (List NamedFile)) (text : Option (List ℕ)) : Type 0 where
  pub read : Read
  pub is_told : (files : List NamedFile) → holds ≡ Some files → read ≡ read_of_transcript name words files
  pub entries : List Entry
  pub has : HasEntries read.transcript entries
  pub images : List FlatFile
  pub are : read.images ≡ Ok images
  pub explained : (A : Inputs) → A.images ≡ images_of images → A.first ≡ first_images (image_names words) words → Explained A entries text

-- a fault that is no verdict on entries
abbrev pub IsUnjudged : Fault → Type 0
IsUnjudged (NotFlatRun line) = ⊥
IsUnjudged fault = Unit {0}

-- no reason is told: a replay of this transcript over the images of these words ends by the same fault
abbrev pub LacksTranscript : List ℕ → List (List ℕ) → Option (List NamedFile) → Faults → Fault → Type 0
LacksTranscript name words holds f fault = Made (EndsReplay name words) (read_of_transcript name words) holds f (Err fault) × IsUnjudged fault
