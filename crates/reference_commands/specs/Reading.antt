-- What is read for a question about a run: its schedule, and its images by their names.
use Rattle.std.specs.Prelude.{◌≡◌, ℕ, List, Result, Err}
use Rattle.io_edge.specs.FileHolding.{NamedFile}
use Rattle.vm_facts.specs.declared.event.Event.{Event}
use Rattle.command_edge.specs.declared.answers.Unread.{Unread}
use Rattle.command_edge.specs.ImageWords.{image_names}
use Rattle.replay_check.specs.Images.{FlatFile}
use Rattle.command_edge.specs.Named.{Why}
use Rattle.run_opening.specs.Schedules.{schedule_found, HasEvents}
use Rattle.run_command.specs.Reading.{images_told}

-- the bytes of a schedule, and images with their files' bytes, which are read as those of a replay
pub record Read : Type 0 where
  pub schedule : Result (List ℕ) Unread
  pub images : Result (List FlatFile) Why

-- what is read where the files are told, for a schedule's name and words of images
abbrev pub read_told : List ℕ → List (List ℕ) → List NamedFile → Read
read_told schedule words files = record { schedule = schedule_found files schedule; images = images_told files (image_names words) }

-- the schedule is good
abbrev pub HasSchedule : Read → Type 0
HasSchedule read = (events : List Event) × HasEvents read.schedule events

-- the schedule is good, but this is why an image isn't read
abbrev pub LacksImage : Read → Why → Type 0
LacksImage read why = HasSchedule read × (read.images ≡ Err why)
