-- What is asked of files while a run is opened.
use Rattle.std.specs.Prelude.{◌≡◌, ◌⊎◌, ℕ, List, [], ◌∷◌, Option, Result, Ok, Err, true, is_err}
use Rattle.io_edge.specs.FileHolding.{NamedFile}
use Rattle.io_edge.specs.FileRequests.{FileNotes}
use Rattle.command_edge.specs.Asked.{AsksFront}
use Rattle.command_edge.specs.declared.fault.Fault.{Fault}
use Rattle.command_edge.specs.declared.fault.Fault.TheVariants.{Absent, NotImage, BadSchedule, NoMemory, ShortDevice}
use Rattle.run_opening.specs.Schedules.{schedule_bytes}
use Rattle.run_opening.specs.declared.opening.Opening.{Opening}

-- the bytes of an image's header
abbrev pub header_bytes : ℕ
header_bytes = 32

-- the image of each of these names was sought and found, in their order, and its header read by one call
abbrev pub AsksHeaders : List (List ℕ) → Option (List NamedFile) → FileNotes → FileNotes → Type 0
AsksHeaders [] holds old new = new ≡ old
AsksHeaders (name ∷ names) holds old new = (next : FileNotes) × AsksFront name holds header_bytes ⊥ ⊥ old next × AsksHeaders names holds next new

-- where a fault names a file, it is the one of this name
abbrev pub IsAbout : Fault → List ℕ → Type 0
IsAbout (Absent absent) name = absent.now ≡ name
IsAbout (NotImage none reason) name = none.now ≡ name
IsAbout _ name = Unit {0}

-- Those of the first so many of these names were, up to the one at fault, which was sought, and its header read unless memory was refused.
-- Where memory was refused between two of them, there is none at fault.
abbrev pub AsksSomeHeaders : Fault → List (List ℕ) → Option (List NamedFile) → FileNotes → FileNotes → Type 0
AsksSomeHeaders fault [] holds old new = (fault ≡ NoMemory) × (new ≡ old)
AsksSomeHeaders fault (name ∷ names) holds old new =
    ((fault ≡ NoMemory) × (new ≡ old))
    ⊎ ((IsAbout fault name × AsksFront name holds header_bytes (Unit {0}) (fault ≡ NoMemory) old new)
    ⊎ ((next : FileNotes) × AsksFront name holds header_bytes ⊥ ⊥ old next × AsksSomeHeaders fault names holds next new))

-- by what was answered for all names
abbrev pub AsksImages : {A : Type 0} → Result A Fault → List (List ℕ) → Option (List NamedFile) → FileNotes → FileNotes → Type 0
AsksImages (Ok images) names holds old new = AsksHeaders names holds old new
AsksImages (Err fault) names holds old new = AsksSomeHeaders fault names holds old new

-- What follows the schedule of this name, by the answer: the images, none of them where the schedule is at fault, and all where the devices
-- alone are.
abbrev pub AsksAfterSchedule : List ℕ → Result Opening Fault → List (List ℕ) → Option (List NamedFile) → FileNotes → FileNotes → Type 0
AsksAfterSchedule schedule (Ok opening) names holds old new = AsksHeaders names holds old new
AsksAfterSchedule schedule (Err (BadSchedule line)) names holds old new = new ≡ old
AsksAfterSchedule schedule (Err (ShortDevice device blocks needed)) names holds old new = AsksHeaders names holds old new
AsksAfterSchedule schedule (Err (NotImage name reason)) names holds old new = AsksSomeHeaders (NotImage name reason) names holds old new
AsksAfterSchedule schedule (Err fault) names holds old new = (IsAbout fault schedule × (new ≡ old)) ⊎ AsksSomeHeaders fault names holds old new

-- A run with a schedule of this name and images of these was opened, or wasn't: the schedule was sought, and read by one call, and then
-- the images were. Where a file failed, the last request is the one that did.
pub record AsksOpening (schedule : List ℕ) (names : List (List ℕ)) (holds : Option (List NamedFile)) (result : Result Opening Fault)
    (old new : FileNotes) : Type 0 where
  pub between : FileNotes
  pub schedule_asked : AsksFront schedule holds schedule_bytes (is_err result ≡ true) (result ≡ Err NoMemory) old between
  pub images_asked : AsksAfterSchedule schedule result names holds between new
