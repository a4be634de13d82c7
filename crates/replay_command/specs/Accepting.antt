-- How the replay of what a run wrote ends.
use Rattle.std.specs.Prelude.{◌≡◌, ◌⊎◌, ◌≤◌, ◌<◌, ◌^◌, ℕ, Bool, true, List, [], ◌∷◌, ◌++◌, length, Some, Ok, Err}
use Rattle.io_edge.specs.FileHolding.{NamedFile}
use Rattle.vm_facts.specs.declared.entry.Entry.{Entry}
use Rattle.flat_state.specs.Flat.{NamedImage, Inputs}
use Rattle.run_text.specs.Text.{text_of}
use Rattle.run_text.specs.Lines.{lines_in}
use Rattle.replay_check.specs.Images.{FlatFile, images_of}
use Rattle.replay_command.specs.Replayed.{entries_shown, IsFlatText}
use Rattle.command_edge.specs.ImageWords.{image_names, first_images}
use Rattle.command_edge.specs.declared.fault.Fault.{Fault}
use Rattle.command_edge.specs.declared.fault.Fault.TheVariants.{FileFault, SwapReadFault, SwapWriteFault, NoMemory, JournalFull}
use Rattle.command_edge.specs.Ending.{Ending, fault_line}
use Rattle.command_edge.specs.Command.{Faults}
use Rattle.replay_command.specs.LastLine.{is_fault_line}
use Rattle.replay_command.specs.Reading.{Read, transcript_bytes, images_told}
use Rattle.replay_command.specs.Command.{run_line, EndsReplay}
use Rattle.run_opening.specs.Images.{images_found}

-- what stands after the entries: nothing, or one line that is of a fault
abbrev pub IsLastLine : List ℕ → Type 0
IsLastLine line = (line ≡ []) ⊎ ((lines_in line ≡ line ∷ []) × (is_fault_line line ≡ true))

-- a fault in a run, whose line is of words and a number at most
abbrev pub HasPlainLine : Fault → Type 0
HasPlainLine FileFault = Unit {0}
HasPlainLine (SwapReadFault device) = device < 2 ^ 32
HasPlainLine (SwapWriteFault device) = device < 2 ^ 32
HasPlainLine NoMemory = Unit {0}
HasPlainLine JournalFull = Unit {0}
HasPlainLine _ = ⊥

-- The text of a journal and a last line was read as a transcript, whole, with the images and the first processes of these inputs.
pub record ReadsText (A : Inputs) (traced : Bool) (journal : List Entry) (line : List ℕ) (words : List (List ℕ)) (read : Read) : Type 0 where
  pub text : read.transcript ≡ Ok (Some (text_of traced journal ++ line))
  pub short : length (text_of traced journal ++ line) ≤ transcript_bytes
  pub images : List FlatFile
  pub are : read.images ≡ Ok images
  pub images_are : A.images ≡ images_of images
  pub first : A.first ≡ first_images (image_names words) words

-- It is judged to be a run of so many entries; unless a file failed, or there was no memory.
abbrev pub IsAccepted : ℕ → Ending → Type 0
IsAccepted entries (Ok output) = output ≡ run_line entries
IsAccepted entries (Err FileFault) = Unit {0}
IsAccepted entries (Err NoMemory) = Unit {0}
IsAccepted entries (Err _) = ⊥

-- the text of a journal that is a run of the flat machine, and a last line, are accepted wherever they are read
abbrev pub AreAccepted : Type 0
AreAccepted =
    (A : Inputs) (traced : Bool) (journal : List Entry) (line name : List ℕ) (words : List (List ℕ)) (read : Read) (f : Faults) (ending : Ending)
    → IsFlatText A traced journal → IsLastLine line → ReadsText A traced journal line words read → EndsReplay name words read f ending
    → IsAccepted (length (entries_shown traced journal)) ending

-- a replay has the images that a run has of the same names in the same files
abbrev pub AreSameImages : Type 0
AreSameImages =
    (files : List NamedFile) (names : List (List ℕ)) (images : List NamedImage) → images_found files names ≡ Ok images
    → (read : List FlatFile) × (images_told files names ≡ Ok read) × (images ≡ images_of read)
