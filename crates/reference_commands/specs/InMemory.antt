-- A run over images that are held in memory, and over a swap of its own.
use Rattle.std.specs.Prelude.{◌≡◌, ◌≤◌, ℕ, false, bytes_eq, List, [], ◌∷◌, map, length, All, Option, Some, Result, Ok, Err, OnOk}
use Rattle.vm_facts.specs.SwapImages.{SwapImage}
use Rattle.aout_image.specs.Image.{IsSound, file_length_of}
use Rattle.vm_facts.specs.declared.entry.Entry.{Entry}
use Rattle.vm_facts.specs.declared.event.Event.{Event}
use Rattle.vm_facts.specs.declared.page.Page.{Page}
use Rattle.vm_facts.specs.declared.stop.Stop.TheVariants as stops
use Rattle.io_edge.specs.FileHolding.{NamedFile, HasRange}
use Rattle.flat_state.specs.Flat.{Inputs}
use Rattle.flat_model.specs.Asked.{start_held}
use Rattle.machine_state.specs.Going.{IsRunning}
use Rattle.machine_state.specs.Machine.{Standing}
use Rattle.run_command.specs.Unfinished.{Unfinished}
use Rattle.run_command.specs.Unfinished.TheVariants.{Stopped}
use Rattle.run_command.specs.Lawful.{RunFinished, RunHalted}
use Rattle.run_command.specs.Full.{RunFull, RunOver}
use Rattle.run_command.specs.RunEnds.{RunEnds}
use Rattle.command_edge.specs.ImageWords.{IsShortName}
use Rattle.run_text.specs.Schedule.{IsInRanges}
use Rattle.replay_check.specs.Images.{FlatFile, AreNumbers, images_of}
use Rattle.replay_check.specs.Verdicts.{references_of}
use Rattle.command_edge.specs.declared.fault.Fault.{Fault}
use Rattle.command_edge.specs.declared.fault.Fault.TheVariants.{NoMemory, JournalFull, NoSpace}
use Rattle.command_words.specs.declared.command.Numbers.{Numbers}
use Rattle.command_words.specs.Command.{AreAllowed}
use Rattle.run_opening.specs.declared.images.OpenedImage.{OpenedImage}
use Rattle.run_opening.specs.Images.{images_in, file_numbers, IsIn}
use Rattle.run_opening.specs.Schedules.{schedule_lines}
use Rattle.run_command.specs.Machines.{journal_entries}
use Rattle.command_edge.specs.Ending.{Ending}
use Rattle.reference_commands.specs.declared.question.Question.{Question}
use Rattle.reference_commands.specs.declared.question.Question.TheVariants.{Optimum, Curve, Owners, Film, Stats, WasCut, References}
use Rattle.reference_commands.specs.Answering.{blank_stores, IsAnswer}

-- the files of images
abbrev pub file_of : FlatFile → NamedFile
file_of image = record { name = image.name; bytes = image.bytes }

-- inputs with these images
abbrev pub inputs_with : Numbers → List FlatFile → List ℕ → List Event → Inputs
inputs_with numbers images first lines = record {
  images = images_of images;
  file_numbers = file_numbers (map file_of images) (images_of images);
  first = first;
  lines = lines;
  frames = numbers.frames;
  swap_blocks = numbers.swap;
  limit = numbers.limit;
}

-- Images that were opened from these files in memory: each is that of its file.
pub record AreOpened (images : List FlatFile) (opened : List OpenedImage) : Type 0 where
  pub are : images_in (map file_of images) opened ≡ images_of images
  pub are_in : All (IsIn (map file_of images)) opened
  pub sound : All (λ (image : OpenedImage). IsSound image.facts) opened
  pub ranges : All (λ (image : OpenedImage). HasRange (Some (map file_of images)) image.file 0 (file_length_of image.facts)) opened
  pub short : All (λ (image : OpenedImage). IsShortName image.name.now) opened
  pub count : length opened ≡ length images
  pub few : length opened ≤ 16

-- What a run in memory needs: numbers in their ranges; first processes with images; and lines in their ranges.
pub record IsRunnable (numbers : Numbers) (images : ℕ) (first : List ℕ) (lines : List Event) : Type 0 where
  pub allowed : AreAllowed numbers
  pub numbers_are : AreNumbers images first
  pub few_first : length first ≤ 16
  pub ranges : All IsInRanges lines
  pub few_lines : length lines ≤ schedule_lines

-- The run ended so, with a machine whose journal has at most so many entries, and whose swap area is that of the inputs; where the run is
-- over, or halted since its journal is full, the machine stands where the journal leads to. Where it has not stopped it runs.
pub record HasRun (A : Inputs) (entries : ℕ) (m : Standing) (ran : Result (Unit {0}) Unfinished) : Type 0 where
  pub journal : m.params.journal ≡ entries
  pub blocks : m.params.swap_blocks ≡ A.swap_blocks
  pub left : Option SwapImage
  pub ends : RunEnds A m.kernel.journal (blank_stores A.swap_blocks) ran left
  pub full : ran ≡ Err (Stopped stops.JournalFull) → RunFull A m (blank_stores A.swap_blocks)
  pub over : OnOk ran (RunOver A m (blank_stores A.swap_blocks))
  pub runs : m.kernel.stopped ≡ false → IsRunning m

-- there the machine runs on
abbrev pub StaysRunning : Standing → Result (Unit {0}) Unfinished → Type 0
StaysRunning m (Ok done) = IsRunning m
StaysRunning m (Err (Stopped stops.JournalFull)) = IsRunning m
StaysRunning m (Err _) = Unit {0}

-- the run is finished, and these are its references
pub record HasReferences (A : Inputs) (pages : List Page) : Type 0 where
  pub journal : List Entry
  pub left : Option SwapImage
  pub finished : RunFinished A journal (blank_stores A.swap_blocks) left
  pub are : pages ≡ references_of A journal

-- the run halted where its journal has all entries that it may have
pub record HasHalted (A : Inputs) : Type 0 where
  pub journal : List Entry
  pub left : Option SwapImage
  pub halted : RunHalted A journal stops.JournalFull (blank_stores A.swap_blocks) left
  pub full : journal_entries ≤ length journal

-- how the run of these inputs ends, with its references where it is finished
abbrev pub EndsRun : Inputs → Result (List Page) Fault → Type 0
EndsRun A (Ok pages) = HasReferences A pages
EndsRun A (Err NoMemory) = Unit {0}
EndsRun A (Err JournalFull) = HasHalted A
EndsRun A (Err (NoSpace pid)) = start_held A ≡ Err pid
EndsRun A (Err _) = ⊥

-- so a run halts that is to be finished for the question
abbrev pub HaltsAnswer : Question → Inputs → Type 0
HaltsAnswer (Optimum frames) A = HasHalted A
HaltsAnswer Curve A = HasHalted A
HaltsAnswer (Owners entries) A = ⊥
HaltsAnswer (Film steps) A = ⊥
HaltsAnswer Stats A = HasHalted A
HaltsAnswer WasCut A = HasHalted A
HaltsAnswer References A = HasHalted A

-- how answering the question about it ends
abbrev pub EndsAnswer : Question → Inputs → Ending → Type 0
EndsAnswer question A (Ok text) = IsAnswer question A text
EndsAnswer question A (Err NoMemory) = Unit {0}
EndsAnswer question A (Err JournalFull) = HaltsAnswer question A
EndsAnswer question A (Err (NoSpace pid)) = start_held A ≡ Err pid
EndsAnswer question A (Err _) = ⊥

-- each name differs from those that follow
abbrev pub DiffersFrom : List ℕ → List (List ℕ) → Type 0
DiffersFrom name [] = Unit {0}
DiffersFrom name (other ∷ others) = (bytes_eq other name ≡ false) × DiffersFrom name others

-- no two of these names are one
abbrev pub AllDiffer : List (List ℕ) → Type 0
AllDiffer [] = Unit {0}
AllDiffer (name ∷ names) = DiffersFrom name names × AllDiffer names
