-- The headline, for any words of a command line: it speaks where they ask for a run.
use Rattle.std.specs.Prelude.{ℕ, List, Option, Some, None}
use Rattle.vm_facts.specs.SwapImages.{SwapImage}
use Rattle.io_edge.specs.FileHolding.{NamedFile}
use Rattle.command_words.specs.Asked.{Request}
use Rattle.question_command.specs.Seen.{CallFaults}
use Rattle.question_command.specs.Headlines.{CarriesHeadline}

-- The headline holds of a run, where the words ask for one. It goes by the files and by the images of both devices, where they are
-- told, by the blocks of both, by the output and its faults before and after, and by the counts of failed calls.
abbrev pub CarriesFor : Option Request → Option (List NamedFile) → (zero one : Option SwapImage) → (zero_blocks one_blocks : ℕ)
    → (written_before written_after : Option (List ℕ)) → (faults_before faults_after : ℕ) → CallFaults → (status : ℕ) → Type 0
CarriesFor None files zero one zero_blocks one_blocks written_before written_after faults_before faults_after faults status = Unit {0}
CarriesFor (Some request) files zero one zero_blocks one_blocks written_before written_after faults_before faults_after faults status =
    CarriesHeadline request files zero one zero_blocks one_blocks written_before written_after faults_before faults_after faults status
