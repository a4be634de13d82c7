-- What a command does: what it reads, how it ends by that, and what it writes.
use Rattle.std.specs.Prelude.{◌≡◌, ◌⊎◌, ℕ, List, Option, Some, Result, Ok, Err}
use Rattle.io_edge.specs.Count.{Rose}
use Rattle.io_edge.specs.FileHolding.{NamedFile}
use Rattle.io_edge.specs.Written.{Appends, AppendsSome}
use Rattle.command_edge.specs.declared.fault.Fault.{Fault}
use Rattle.command_edge.specs.declared.fault.Fault.TheVariants.{FileFault, NoMemory}
use Rattle.command_edge.specs.Ending.{Ending, ending_text, status_of, sink_fault, CanBeLost}

-- the two counts of the files' faults, before and after
pub record Faults : Type 0 where
  pub open_before : ℕ
  pub open_after : ℕ
  pub page_before : ℕ
  pub page_after : ℕ

-- no count rose
pub record NoFaults (f : Faults) : Type 0 where
  pub open_same : f.open_after ≡ f.open_before
  pub page_same : f.page_after ≡ f.page_before

-- a file failed on the way to its first bytes
abbrev pub OpenFailed : Faults → Type 0
OpenFailed f = Rose f.open_before f.open_after × (f.page_after ≡ f.page_before)

-- a file failed after its first bytes
abbrev pub PageFailed : Faults → Type 0
PageFailed f = (f.open_after ≡ f.open_before) × Rose f.page_before f.page_after

-- one file failed
abbrev pub OneFailed : Faults → Type 0
OneFailed f = OpenFailed f ⊎ PageFailed f

-- one file failed, and where that was after its first bytes, all that comes before was good
abbrev pub FailedBehind : Type 0 → Faults → Type 0
FailedBehind Good f = OpenFailed f ⊎ (PageFailed f × Good)

-- what was counted of the files where this is the fault: one that failed, where the fault says so, and else none
abbrev pub FaultCounted : Fault → Faults → Type 0
FaultCounted FileFault f = OneFailed f
FaultCounted _ f = NoFaults f

-- what was counted of the files by an end: one that failed, where that is the fault, and else none
abbrev pub EndCounted : {A : Type 0} → Result A Fault → Faults → Type 0
EndCounted (Ok made) f = NoFaults f
EndCounted (Err fault) f = FaultCounted fault f

-- an end by what was read, which is what is told where the files are told
pub record Made {R E : Type 0} (Ends : R → Faults → E → Type 0) (told : List NamedFile → R) (holds : Option (List NamedFile)) (f : Faults)
    (ending : E) : Type 0 where
  pub read : R
  pub is_told : (files : List NamedFile) → holds ≡ Some files → read ≡ told files
  pub ends : Ends read f ending

-- the whole text was written, and the status is the one that goes with it; or the output failed, and a prefix was written
pub data Writes (before after : Option (List ℕ)) (old_faults new_faults : ℕ) (text : List ℕ) (whole status : ℕ) : Type 0 where
  All : status ≡ whole → Appends before text after → new_faults ≡ old_faults → Writes before after old_faults new_faults text whole status
  Prefix : status ≡ sink_fault → AppendsSome before text after → Rose old_faults new_faults → Writes before after old_faults new_faults text whole status

-- the text of an ending was written, with its status; or the output failed, and a prefix was written
abbrev pub WritesEnding : Option (List ℕ) → Option (List ℕ) → ℕ → ℕ → Ending → ℕ → Type 0
WritesEnding before after old_faults new_faults ending status =
    Writes before after old_faults new_faults (ending_text ending) (status_of ending) status

-- an ending is written; or, where its text could be lost, want of memory
abbrev pub WritesSome : Option (List ℕ) → Option (List ℕ) → ℕ → ℕ → Ending → ℕ → Type 0
WritesSome before after old_faults new_faults ending status =
    WritesEnding before after old_faults new_faults ending status
    ⊎ (CanBeLost ending × WritesEnding before after old_faults new_faults (Err NoMemory) status)

-- A command's status and text: there is one ending, by what was read, and its text was written. A file's fault was counted just where
-- that is how it ended.
pub record Completes {R : Type 0} (Ends : R → Faults → Ending → Type 0) (told : List NamedFile → R) (holds : Option (List NamedFile)) (f : Faults)
    (before after : Option (List ℕ)) (old_faults new_faults status : ℕ) : Type 0 where
  pub ending : Ending
  pub made : Made Ends told holds f ending
  pub counted : EndCounted ending f
  pub writes : WritesEnding before after old_faults new_faults ending status
