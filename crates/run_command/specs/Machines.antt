-- The machine that a run begins with, by what was opened.
use Rattle.std.specs.Prelude.{◌≤◌, ◌<◌, ◌^◌, ℕ, List, [], length, map, Option, None, All}
use Rattle.vm_facts.specs.SwapImages.{SwapImage}
use Rattle.vm_facts.specs.declared.params.Params.{Params}
use Rattle.io_edge.specs.FileHolding.{NamedFile}
use Rattle.flat_state.specs.Flat.{Inputs}
use Rattle.machine_state.specs.New.{fresh_kernel, AreSound}
use Rattle.machine_state.specs.Applying.{facts_named}
use Rattle.machine_state.specs.Sourced.{ImageNamed, AreNames}
use Rattle.machine_state.specs.Files.{AreFiles}
use Rattle.machine_state.specs.Machine.{Standing}
use Rattle.command_words.specs.declared.command.Numbers.{Numbers}
use Rattle.command_words.specs.declared.limits.TheConstants.{JOURNAL_ENTRIES}
use Rattle.run_opening.specs.declared.opening.Opening.{Opening}
use Rattle.vm_core.specs.Schedules.{HaveFewMoves}
use Rattle.vm_core.specs.RunEnds.{IsAskedOf}
use Rattle.run_command.specs.Naming.{shown_as}

-- the most entries of a journal
abbrev pub journal_entries : ℕ
journal_entries = JOURNAL_ENTRIES

-- the sizes of a machine whose journal has at most so many
abbrev pub params_up_to : ℕ → Numbers → Params
params_up_to entries numbers = record { frames = numbers.frames; swap_blocks = numbers.swap; limit = numbers.limit; journal = entries }

-- a machine with no process yet, whose journal has at most so many
abbrev pub machine_up_to : ℕ → Numbers → List ImageNamed → Standing
machine_up_to entries numbers images = record {
  kernel = fresh_kernel (facts_named images) numbers.frames;
  params = params_up_to entries numbers;
  images = images;
  before = [];
  room = None;
}

-- a machine with no process yet
abbrev pub machine_of : Numbers → List ImageNamed → Standing
machine_of numbers images = machine_up_to journal_entries numbers images

-- what was opened is as a machine asks
pub record SuitsMachine (opening : Opening) (holds : Option (List NamedFile)) : Type 0 where
  pub few : length opening.images.items ≤ 16
  pub sound : AreSound (facts_named (map shown_as opening.images.items))
  pub names : AreNames (map shown_as opening.images.items)
  pub files : AreFiles (map shown_as opening.images.items) holds
  pub first_few : length opening.first.items ≤ 16
  pub numbers : All (λ (n : ℕ). (1 ≤ n) × (n ≤ length (map shown_as opening.images.items))) opening.first.items
  pub moves : HaveFewMoves opening.lines.items
  pub lines : length opening.lines.items < 2 ^ 32

-- inputs that are those of the machine of what was opened, with a swap image
abbrev pub IsOfOpening : Numbers → Opening → Option (List NamedFile) → Inputs → SwapImage → Type 0
IsOfOpening numbers opening holds A image =
    IsAskedOf A (machine_of numbers (map shown_as opening.images.items)) opening.first.items opening.lines.items holds image
