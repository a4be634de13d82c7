-- Assembling and listing: how they end, by what was read.
use Rattle.std.specs.Prelude.{◌≡◌, ◌+◌, ℕ, List, Option, Result, Ok, Err, IsTrue, is_ok}
use Rattle.io_edge.specs.FileHolding.{NamedFile}
use Rattle.aout_image.specs.declared.Image.{Image}
use Rattle.vax_asm.specs.Program.{IsProgramOf, IsFirstBad}
use Rattle.command_edge.specs.declared.answers.Unread.{Unread}
use Rattle.command_edge.specs.declared.answers.Unread.TheVariants as unreads
use Rattle.command_edge.specs.Told.{bytes_told, image_told}
use Rattle.command_edge.specs.declared.fault.Fault.TheVariants.{Absent, NotImage, FileFault, NoMemory, BadSource}
use Rattle.command_edge.specs.Ending.{Ending}
use Rattle.command_edge.specs.Command.{Faults, NoFaults, OpenFailed, FailedBehind, Completes}
use Rattle.source_commands.specs.ProgramFile.{program_file}
use Rattle.source_commands.specs.Listing.{code_at, IsListing}
use Rattle.source_commands.specs.declared.source.TheConstants.{SOURCE_BYTES}

-- ---- assembling

-- the file of a program that the source makes
pub record IsFileFrom (source output : List ℕ) : Type 0 where
  pub bytes : List ℕ
  pub bss : ℕ
  pub program : IsProgramOf source bytes bss
  pub file : output ≡ program_file bytes bss

-- the output is the file of the program that the source makes, where the source was read
abbrev pub MakesFile : Result (List ℕ) Unread → List ℕ → Type 0
MakesFile (Ok source) output = IsFileFrom source output
MakesFile (Err unread) output = ⊥

-- the lowest bad line of what was read of the source
abbrev pub HasFirstBad : Result (List ℕ) Unread → ℕ → Type 0
HasFirstBad (Ok source) line = IsFirstBad source line
HasFirstBad (Err unread) line = ⊥

-- how assembling the source of this name ends, by what it is read as
abbrev pub EndsAssembly : List ℕ → Result (List ℕ) Unread → Faults → Ending → Type 0
EndsAssembly name read f (Ok output) = NoFaults f × MakesFile read output
EndsAssembly name read f (Err (Absent absent)) = (absent.now ≡ name) × (read ≡ Err unreads.Absent)
EndsAssembly name read f (Err FileFault) = OpenFailed f
EndsAssembly name read f (Err NoMemory) = Unit {0}
EndsAssembly name read f (Err (BadSource line)) = HasFirstBad read line
EndsAssembly name read f (Err _) = ⊥

-- ---- listing

-- the listing of an image from its first instruction on, two bytes after its entry
abbrev pub MakesListing : Result (Image × List ℕ) Unread → List ℕ → Type 0
MakesListing (Ok image) output = IsListing (image.0.entry + 2) (code_at image.0 image.1 (image.0.entry + 2)) output
MakesListing (Err unread) output = ⊥

-- how listing the image of this name ends, by what it is read as
abbrev pub EndsListing : List ℕ → Result (Image × List ℕ) Unread → Faults → Ending → Type 0
EndsListing name read f (Ok output) = NoFaults f × MakesListing read output
EndsListing name read f (Err (Absent absent)) = (absent.now ≡ name) × (read ≡ Err unreads.Absent)
EndsListing name read f (Err (NotImage file reason)) = (file.now ≡ name) × (read ≡ Err (unreads.NotImage reason))
EndsListing name read f (Err FileFault) = FailedBehind (IsTrue (is_ok read)) f
EndsListing name read f (Err NoMemory) = Unit {0}
EndsListing name read f (Err _) = ⊥

-- ---- the commands

-- How many bytes of a source are read. A good one has at most 4,096 lines of 121 bytes, which is one byte less. A longer
-- one is bad, and the line that is named is the lowest bad one of these first bytes: a label after them isn't seen.
abbrev pub source_bytes : ℕ
source_bytes = SOURCE_BYTES

-- assembling the source of this name, by its first `source_bytes` bytes
abbrev pub Assembles : List ℕ → Option (List NamedFile) → Faults → Option (List ℕ) → Option (List ℕ) → ℕ → ℕ → ℕ → Type 0
Assembles name holds f before after old_faults new_faults status =
    Completes (EndsAssembly name) (λ files. bytes_told files name source_bytes) holds f before after old_faults new_faults status

-- listing the image of this name
abbrev pub Lists : List ℕ → Option (List NamedFile) → Faults → Option (List ℕ) → Option (List ℕ) → ℕ → ℕ → ℕ → Type 0
Lists name holds f before after old_faults new_faults status =
    Completes (EndsListing name) (λ files. image_told files name) holds f before after old_faults new_faults status
