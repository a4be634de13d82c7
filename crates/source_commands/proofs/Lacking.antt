-- Why a source isn't explained.
use Rattle.std.proofs.Common.{◌≡◌, ℕ, List, Option, Some, Err}
use Rattle.io_edge.specs.FileHolding.{NamedFile}
use Rattle.command_edge.specs.declared.answers.Unread.{Unread}
use Rattle.command_edge.specs.declared.answers.Unread.TheVariants.{Absent, NotImage, FileFault, NoMemory}
use Rattle.command_edge.specs.Answering.{Answers, IsOfAnyFile}
use Rattle.command_edge.specs.Told.{bytes_told}
use Rattle.source_commands.specs.Command.{source_bytes}
use Rattle.source_commands.specs.Explaining.{LacksSource}

-- what wasn't read isn't explained
pub lacks_source : {A : Type 0} (view : A → List ℕ) (name : List ℕ) (holds : Option (List NamedFile)) (unread : Unread)
    → ((files : List NamedFile) → holds ≡ Some files → Answers view (bytes_told files name source_bytes) (Err unread)) → IsOfAnyFile unread
    → LacksSource name holds unread
lacks_source view name holds Absent answers any = answers
lacks_source view name holds (NotImage reason) answers any = any
lacks_source view name holds FileFault answers any = tt
lacks_source view name holds NoMemory answers any = tt
