-- Why a schedule isn't explained.
use Rattle.std.proofs.Common.{◌≡◌, ℕ, List, Option, Some, Err}
use Rattle.io_edge.specs.FileHolding.{NamedFile}
use Rattle.command_edge.specs.declared.answers.Unread.{Unread}
use Rattle.command_edge.specs.declared.answers.Unread.TheVariants.{Absent, NotImage, FileFault, NoMemory}
use Rattle.command_edge.specs.Answering.{Answers, IsOfAnyFile}
use Rattle.command_edge.specs.Told.{bytes_told}
use Rattle.run_opening.specs.Schedules.{schedule_bytes}
use Rattle.line_reasons.specs.ScheduleExplaining.{LacksSchedule}

-- what wasn't read isn't explained
pub lacks_schedule : {A : Type 0} (view : A → List ℕ) (name : List ℕ) (holds : Option (List NamedFile)) (unread : Unread)
    → ((files : List NamedFile) → holds ≡ Some files → Answers view (bytes_told files name schedule_bytes) (Err unread)) → IsOfAnyFile unread
    → LacksSchedule name holds unread
lacks_schedule view name holds Absent answers any = answers
lacks_schedule view name holds (NotImage reason) answers any = any
lacks_schedule view name holds FileFault answers any = tt
lacks_schedule view name holds NoMemory answers any = tt
