-- A trace that was read for judging: its lines, and no more than a million moves of the hands in neighbouring ones.
use Rattle.std.specs.Prelude.{◌≡◌, ◌⊎◌, ℕ, ◌+◌, ◌<◌, ◌≤◌, ◌^◌, List, [], length, map, All, Option, Some, None, Result, Ok, Err}
use Rattle.std.specs.Borrow.{Bor}
use Rattle.flat_state.specs.Flat.{Inputs}
use Rattle.run_text.specs.Lines.{lines_in, AreLines, IsFirstBad}
use Rattle.repage_command.specs.Grammar.{IsTraceLine}
use Rattle.paged_model.specs.declared.line.Line.{Line}
use Rattle.command_edge.specs.declared.answers.Unread.{Unread}
use Rattle.command_edge.specs.declared.answers.Unread.TheVariants as unreads
use Rattle.command_edge.specs.ImageWords.{IsShortName, image_names, first_images}
use Rattle.replay_check.specs.Images.{FlatFile, AreImageFiles}
use Rattle.command_words.specs.declared.command.Numbers.{Numbers}
use Rattle.command_edge.specs.declared.fault.Fault.{Fault}
use Rattle.command_edge.specs.declared.fault.Fault.TheVariants.{Absent, NotImage, FileFault, NoMemory, BadTranscript, TooLong}
use Rattle.command_edge.specs.Named.{Why}
use Rattle.command_edge.specs.Command.{Faults, NoFaults, OpenFailed, FailedBehind}
use Rattle.replay_command.specs.LastLine.{without_fault_line}
use Rattle.replay_command.specs.Reading.{Read}
use Rattle.question_command.specs.InMemory.{inputs_with, IsRunnable, AllDiffer}
use Rattle.repage_check.specs.Moves.{HaveFewMoves}
use Rattle.repage_command.specs.declared.reading.Case.{Case}

-- the trace has these lines
abbrev pub HasLines : Result (Option (List ℕ)) Unread → List Line → Type 0
HasLines (Ok (Some bytes)) ls = AreLines IsTraceLine ls (without_fault_line (lines_in bytes))
HasLines (Ok None) ls = ⊥
HasLines (Err unread) ls = ⊥

-- this line is the first that is none of a trace
abbrev pub HasNoLineAt : Result (Option (List ℕ)) Unread → ℕ → Type 0
HasNoLineAt (Ok (Some bytes)) n = IsFirstBad IsTraceLine 4294967295 n (without_fault_line (lines_in bytes))
HasNoLineAt (Ok None) n = ⊥
HasNoLineAt (Err unread) n = ⊥

-- the trace has these lines, and neighbouring ones have few moves
abbrev pub HasFew : Result (Option (List ℕ)) Unread → List Line → Type 0
HasFew read ls = HasLines read ls × HaveFewMoves ls

-- the trace has more bytes than are read, or neighbouring lines with more moves
abbrev pub IsTooLong : Result (Option (List ℕ)) Unread → Type 0
IsTooLong read = (read ≡ Ok None) ⊎ ((ls : List Line) × HasLines read ls × (HaveFewMoves ls → ⊥))

-- what the trace of this name gives, by what it is read as
abbrev pub EndsTrace : List ℕ → Result (Option (List ℕ)) Unread → Faults → Result (List Line) Fault → Type 0
EndsTrace name read f (Ok ls) = NoFaults f × HasFew read ls
EndsTrace name read f (Err (Absent absent)) = (absent.now ≡ name) × (read ≡ Err unreads.Absent)
EndsTrace name read f (Err FileFault) = OpenFailed f
EndsTrace name read f (Err NoMemory) = Unit {0}
EndsTrace name read f (Err (BadTranscript n)) = HasNoLineAt read n
EndsTrace name read f (Err TooLong) = IsTooLong read
EndsTrace name read f (Err _) = ⊥

-- what the bytes of a trace give
abbrev pub EndsBytes : List ℕ → Result (List Line) Fault → Type 0
EndsBytes bytes (Ok ls) = HasLines (Ok (Some bytes)) ls
EndsBytes bytes (Err NoMemory) = Unit {0}
EndsBytes bytes (Err (BadTranscript n)) = HasNoLineAt (Ok (Some bytes)) n
EndsBytes bytes (Err _) = ⊥

-- and where neighbouring lines are to have few moves
abbrev pub EndsFew : List ℕ → Result (List Line) Fault → Type 0
EndsFew bytes (Ok ls) = HasFew (Ok (Some bytes)) ls
EndsFew bytes (Err NoMemory) = Unit {0}
EndsFew bytes (Err (BadTranscript n)) = HasNoLineAt (Ok (Some bytes)) n
EndsFew bytes (Err TooLong) = IsTooLong (Ok (Some bytes))
EndsFew bytes (Err _) = ⊥

-- the trace was good
abbrev pub IsGoodTrace : Read → Type 0
IsGoodTrace read = (ls : List Line) × HasFew read.transcript ls

-- it was, but an image wasn't read
abbrev pub LacksTraced : Read → Why → Type 0
LacksTraced read why = IsGoodTrace read × (read.images ≡ Err why)

-- Why a trace of this name isn't judged, or not over the images of these words. The trace comes first, then the images in their order.
abbrev pub LacksCase : List ℕ → Read → Faults → Fault → Type 0
LacksCase name read f (Absent absent) = ((absent.now ≡ name) × (read.transcript ≡ Err unreads.Absent)) ⊎ LacksTraced read (absent.now, unreads.Absent)
LacksCase name read f (NotImage file reason) = LacksTraced read (file.now, unreads.NotImage reason)
LacksCase name read f FileFault = FailedBehind (IsGoodTrace read) f
LacksCase name read f NoMemory = Unit {0}
LacksCase name read f (BadTranscript n) = HasNoLineAt read.transcript n
LacksCase name read f TooLong = IsTooLong read.transcript
LacksCase name read f _ = ⊥

-- The trace and the images were read so, of these words.
pub record HasCase (words : List (List ℕ)) (read : Read) (case : Case) : Type 0 where
  pub lines : HasFew read.transcript case.lines.items
  pub images : read.images ≡ Ok case.images.items
  pub first : case.naming.first.items ≡ first_images (image_names words) words

-- what reading them gives
abbrev pub EndsCase : List ℕ → List (List ℕ) → Read → Faults → Result Case Fault → Type 0
EndsCase name words read f (Ok case) = NoFaults f × HasCase words read case
EndsCase name words read f (Err fault) = LacksCase name read f fault

-- the inputs of a case, with frames and blocks of swap of these numbers
abbrev pub inputs_of : Numbers → Case → Inputs
inputs_of numbers case = inputs_with numbers case.images.items case.naming.first.items []

-- What was read can be judged.
pub record IsReady (numbers : Numbers) (case : Case) : Type 0 where
  pub limit : numbers.limit ≡ 1000000
  pub images : AreImageFiles case.images.items
  pub few_names : length case.naming.names.items ≤ 16
  pub named : map (λ (image : FlatFile). image.name) case.images.items ≡ map (λ (name : Bor (List ℕ)). name.now) case.naming.names.items
  pub short : All (λ (name : Bor (List ℕ)). IsShortName name.now) case.naming.names.items
  pub differ : AllDiffer (map (λ (name : Bor (List ℕ)). name.now) case.naming.names.items)
  pub runnable : IsRunnable numbers (length case.images.items) case.naming.first.items []
  pub few : length case.lines.items + 2 < 2 ^ 32
  pub moves : HaveFewMoves case.lines.items
