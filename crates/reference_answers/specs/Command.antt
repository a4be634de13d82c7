-- How comparing policies on a file ends, by what the file reads as.
use Rattle.std.specs.Prelude.{◌≡◌, ℕ, List, Option, Some, None, Vec, Result, Ok, Err}
use Rattle.io_edge.specs.FileHolding.{NamedFile}
use Rattle.vm_facts.specs.declared.page.Page.{Page}
use Rattle.command_edge.specs.declared.answers.Unread.{Unread}
use Rattle.command_edge.specs.declared.answers.Unread.TheVariants as unreads
use Rattle.command_edge.specs.Told.{whole_told}
use Rattle.reference_answers.specs.Grammar.{ReadsReferences, HasBadReference}
use Rattle.reference_answers.specs.Texts.{frame_numbers}
use Rattle.reference_answers.specs.Answers.{IsPoliciesText, IsSweepText}
use Rattle.command_edge.specs.declared.fault.Fault.{Fault}
use Rattle.command_edge.specs.declared.fault.Fault.TheVariants.{Absent, FileFault, NoMemory, BadReferences, ReferencesTooLong}
use Rattle.command_edge.specs.Ending.{Ending}
use Rattle.command_edge.specs.Command.{Faults, NoFaults, OpenFailed, Completes}
use Rattle.command_words.specs.declared.command.Comparison.{Comparison}
use Rattle.command_words.specs.declared.command.Comparison.TheVariants.{At, Sweep}
use Rattle.reference_answers.specs.declared.command.TheConstants.{REFERENCES_BYTES}

-- the most bytes of a file of references
abbrev pub references_bytes : ℕ
references_bytes = REFERENCES_BYTES

-- what is read where the files are told: the bytes of the file of this name, and none of one that is too long
abbrev pub references_told : List ℕ → List NamedFile → Result (Option (List ℕ)) Unread
references_told name files = whole_told files name references_bytes

-- the file has these references
abbrev pub GivesReferences : Result (Option (List ℕ)) Unread → List Page → Type 0
GivesReferences (Ok (Some bytes)) refs = ReadsReferences bytes refs
GivesReferences (Ok None) refs = ⊥
GivesReferences (Err unread) refs = ⊥

-- this line of the file is the first bad one
abbrev pub IsBadAt : Result (Option (List ℕ)) Unread → ℕ → Type 0
IsBadAt (Ok (Some bytes)) line = HasBadReference bytes line
IsBadAt (Ok None) line = ⊥
IsBadAt (Err unread) line = ⊥

-- the text has the faults of the policies on references: with so many frames, or a line for each of several numbers of them
abbrev pub SaysOfPolicies : Comparison → List Page → List ℕ → Type 0
SaysOfPolicies (At frames spread) refs text = IsPoliciesText refs frames spread text
SaysOfPolicies (Sweep from to every) refs text = IsSweepText refs (frame_numbers from to every) text

-- the text is about the policies on the references of the file
pub record IsCompared (asked : Comparison) (read : Result (Option (List ℕ)) Unread) (text : List ℕ) : Type 0 where
  pub refs : List Page
  pub has : GivesReferences read refs
  pub answer : SaysOfPolicies asked refs text

-- what the bytes of a file give
abbrev pub EndsBytes : {A : Type 0} → List ℕ → Result (Vec Page A) Fault → Type 0
EndsBytes bytes (Ok refs) = ReadsReferences bytes refs.items
EndsBytes bytes (Err NoMemory) = Unit {0}
EndsBytes bytes (Err (BadReferences line)) = HasBadReference bytes line
EndsBytes bytes (Err _) = ⊥

-- what the bytes of a file give, as a text about policies that are compared so
abbrev pub EndsText : Comparison → List ℕ → Ending → Type 0
EndsText asked bytes (Ok text) = IsCompared asked (Ok (Some bytes)) text
EndsText asked bytes (Err NoMemory) = Unit {0}
EndsText asked bytes (Err (BadReferences line)) = HasBadReference bytes line
EndsText asked bytes (Err _) = ⊥

-- How comparing policies so on the file of this name ends, by what is read.
abbrev pub EndsPolicies : Comparison → List ℕ → Result (Option (List ℕ)) Unread → Faults → Ending → Type 0
EndsPolicies asked name read f (Ok text) = NoFaults f × IsCompared asked read text
EndsPolicies asked name read f (Err (Absent absent)) = (absent.now ≡ name) × (read ≡ Err unreads.Absent)
EndsPolicies asked name read f (Err FileFault) = OpenFailed f
EndsPolicies asked name read f (Err NoMemory) = Unit {0}
EndsPolicies asked name read f (Err (BadReferences line)) = IsBadAt read line
EndsPolicies asked name read f (Err ReferencesTooLong) = read ≡ Ok None
EndsPolicies asked name read f (Err _) = ⊥

-- comparing policies so on the file of this name
abbrev pub Compares : Comparison → List ℕ → Option (List NamedFile) → Faults → Option (List ℕ) → Option (List ℕ) → ℕ → ℕ → ℕ → Type 0
Compares asked name holds f before after old_faults new_faults status =
    Completes (EndsPolicies asked name) (references_told name) holds f before after old_faults new_faults status
