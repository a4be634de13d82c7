-- How a run is opened: the first thing that is met decides, the schedule, then the images in their order, then the
-- devices.
use Rattle.std.specs.Prelude.{◌≡◌, ◌⊎◌, ℕ, List, Some, None, Result, Ok, Err}
use Rattle.io_edge.specs.Count.{Rose}
use Rattle.io_edge.specs.FileHolding.{NamedFile}
use Rattle.vm_facts.specs.declared.event.Event.{Event}
use Rattle.flat_state.specs.Flat.{NamedImage}
use Rattle.command_edge.specs.declared.answers.Unread.{Unread}
use Rattle.command_edge.specs.declared.answers.Unread.TheVariants as unreads
use Rattle.command_edge.specs.ImageWords.{image_names, first_images}
use Rattle.command_edge.specs.declared.fault.Fault.{Fault}
use Rattle.command_edge.specs.declared.fault.Fault.TheVariants.{Absent, NotImage, BadSchedule, FileFault, NoMemory, ShortDevice}
use Rattle.command_edge.specs.Named.{Why}
use Rattle.command_edge.specs.Command.{Faults, NoFaults, OpenFailed}
use Rattle.run_opening.specs.Schedules.{schedule_found, HasEvents, HasBadEvent}
use Rattle.run_opening.specs.Images.{images_found, AreOpened}
use Rattle.run_opening.specs.Devices.{device_fault}
use Rattle.run_opening.specs.declared.opening.Opening.{Opening}

-- what is found under the words of a run: a schedule's bytes, and images
pub record FoundFiles : Type 0 where
  pub schedule : Result (List ℕ) Unread
  pub images : Result (List NamedImage) Why

-- what is found where the files are told, for a schedule's name and words of images
abbrev pub found_told : List ℕ → List (List ℕ) → List NamedFile → FoundFiles
found_told schedule words files = record { schedule = schedule_found files schedule; images = images_found files (image_names words) }

-- the schedule is good
abbrev pub HasSchedule : FoundFiles → Type 0
HasSchedule found = (events : List Event) × HasEvents found.schedule events

-- the schedule is good, but this is why an image isn't opened
abbrev pub FailsAtImage : FoundFiles → Why → Type 0
FailsAtImage found why = HasSchedule found × (found.images ≡ Err why)

-- the schedule and all images are good
abbrev pub HasAll : FoundFiles → Type 0
HasAll found = HasSchedule found × ((images : List NamedImage) × (found.images ≡ Ok images))

-- a run begins with what is found
pub record OpensWith (words : List (List ℕ)) (swap zero_blocks one_blocks : ℕ) (found : FoundFiles) (opening : Opening) : Type 0 where
  pub lines : HasEvents found.schedule opening.lines.items
  pub images : List NamedImage
  pub are : found.images ≡ Ok images
  pub opened : AreOpened images opening.images.items
  pub first : opening.first.items ≡ first_images (image_names words) words
  pub devices : device_fault swap zero_blocks one_blocks ≡ None

-- How opening a run with a schedule of this name and these words ends, by what is found, the blocks of its swap and
-- those of the two devices.
abbrev pub EndsOpening : List ℕ → List (List ℕ) → ℕ → ℕ → ℕ → FoundFiles → Faults → Result Opening Fault → Type 0
EndsOpening schedule words swap zero_blocks one_blocks found f (Ok opening) = NoFaults f × OpensWith words swap zero_blocks one_blocks found opening
EndsOpening schedule words swap zero_blocks one_blocks found f (Err (Absent name)) =
    ((name.now ≡ schedule) × (found.schedule ≡ Err unreads.Absent)) ⊎ FailsAtImage found (name.now, unreads.Absent)
EndsOpening schedule words swap zero_blocks one_blocks found f (Err (NotImage name reason)) = FailsAtImage found (name.now, unreads.NotImage reason)
EndsOpening schedule words swap zero_blocks one_blocks found f (Err (BadSchedule line)) = HasBadEvent found.schedule line
EndsOpening schedule words swap zero_blocks one_blocks found f (Err FileFault) = OpenFailed f
EndsOpening schedule words swap zero_blocks one_blocks found f (Err NoMemory) = Unit {0}
EndsOpening schedule words swap zero_blocks one_blocks found f (Err (ShortDevice device blocks needed)) =
    HasAll found × (device_fault swap zero_blocks one_blocks ≡ Some (ShortDevice device blocks needed))
EndsOpening schedule words swap zero_blocks one_blocks found f (Err _) = ⊥

-- a count of faults where this is the fault: it rises where a file failed, and else stays
abbrev pub CountsAt : Fault → ℕ → ℕ → Type 0
CountsAt FileFault old new = Rose old new
CountsAt _ old new = new ≡ old

-- a count of faults over a call
abbrev pub CountsOpen : {A : Type 0} → Result A Fault → ℕ → ℕ → Type 0
CountsOpen (Ok x) old new = new ≡ old
CountsOpen (Err fault) old new = CountsAt fault old new
