-- What the answer to each question about a run is, by the run's journal.
use Rattle.std.specs.Prelude.{◌≡◌, ◌+◌, ◌-◌, ◌*◌, ◌%◌, ◌==◌, ◌<◌, ◌≤◌, ◌&&◌, nat_le, ℕ, Bool, true, false, List, [], ◌∷◌, ◌++◌, length, map, replicate, slice_get, codes, decimal, Option, Some, None}
use Rattle.std.specs.List.{filter, concat, range_with_len}
use Rattle.vm_facts.specs.SwapImages.{SwapImage, unnoted}
use Rattle.io_edge.specs.FileRequests.{no_notes}
use Rattle.io_edge.specs.WithFiles.{of_swap, image_with_files}
use Rattle.vm_facts.specs.declared.entry.Entry.{Entry}
use Rattle.vm_facts.specs.declared.page.Page.{Page}
use Rattle.flat_state.specs.Flat.{Inputs}
use Rattle.flat_state.specs.Journal.{append}
use Rattle.kernel_model.specs.Start.{kept_of}
use Rattle.run_model.specs.State.{State, start}
use Rattle.run_model.specs.Next.{next_unit}
use Rattle.run_model.specs.Swapped.{requests_of}
use Rattle.page_model.specs.Holdings.{Holdings}
use Rattle.run_laws.specs.Running.{CanRun, IsIdle}
use Rattle.run_stats.specs.declared.finish.Finish.{Finish}
use Rattle.run_stats.specs.declared.finish.Finish.TheVariants.{Over, Cut}
use Rattle.run_stats.specs.declared.heads.Head.TheVariants.{OfRun}
use Rattle.run_stats.specs.declared.heads.RunHead.TheVariants.{SwapRequests}
use Rattle.run_stats.specs.declared.noting.Note.{Note}
use Rattle.run_stats.specs.Amounts.{sum_of}
use Rattle.run_stats.specs.Looks.{look_at}
use Rattle.run_stats.specs.Story.{AreNoted}
use Rattle.run_stats.specs.Table.{stats_text}
use Rattle.run_stats.specs.Finishing.{finish_row}
use Rattle.run_command.specs.Lawful.{IsJournalOf, RunFinished}
use Rattle.replay_check.specs.Verdicts.{references_of}
use Rattle.reference_answers.specs.Texts.{curve_text, references_text}
use Rattle.reference_answers.specs.Answers.{IsOptimumText}
use Rattle.run_text.specs.Text.{line_of}
use Rattle.run_stats.specs.Owners.{owners_text}
use Rattle.command_words.specs.declared.command.FilmSteps.{FilmSteps}
use Rattle.reference_commands.specs.declared.question.Question.{Question}
use Rattle.reference_commands.specs.declared.question.Question.TheVariants.{Optimum, Curve, Owners, Film, Stats, WasCut, References}

-- a swap, or a device of it, of so many blocks to which nothing was written, and which notes nothing
abbrev pub blank_swap : ℕ → SwapImage
blank_swap blocks = unnoted (replicate (512 * blocks) 0)

-- such a swap with files beside it that note nothing
abbrev pub blank_stores : ℕ → SwapImage
blank_stores blocks = image_with_files no_notes (blank_swap blocks)

-- The run is finished: its journal is lawful, there is no next unit, and it was made over a swap of its own that was blank. This is so of
-- its references.
pub record SaysOfReferences (answer : List Page → Type 0) (A : Inputs) : Type 0 where
  pub journal : List Entry
  pub left : Option SwapImage
  pub finished : RunFinished A journal (blank_stores A.swap_blocks) left
  pub answers : answer (references_of A journal)

-- Where the first entries of a run end: the run is over and has no more than so many; or it has just so many, and a unit comes next that
-- isn't joined to the last of them.
abbrev pub IsEnd : Bool → ℕ → Inputs → List Entry → State → Type 0
IsEnd true entries A journal s = (next_unit A s ≡ None) × (length journal ≤ entries)
IsEnd false entries A journal s = (length journal ≡ entries) × ((unit : Entry) × (next_unit A s ≡ Some unit) × (length journal < length (append journal unit)))

-- The text says who owns what after the first entries of the run: so many, or all of them where it is over before.
pub record SaysOwners (entries : ℕ) (A : Inputs) (text : List ℕ) : Type 0 where
  pub journal : List Entry
  pub state : State
  pub made : IsJournalOf A journal state
  pub over : Bool
  pub ends : IsEnd over entries A journal state
  pub told : text ≡ owners_text (length journal) over state.place state.holdings A.swap_blocks (map kept_of state.point.flat.processes)

-- Films.

-- a film has a step after so many entries: after FROM, FROM + EVERY, ..
abbrev pub has_step : FilmSteps → ℕ → Bool
has_step steps n = nat_le steps.from n && (n - steps.from) % steps.every == 0

-- the numbers of its steps, among those from 0 to the last one that the run has
abbrev pub step_numbers : FilmSteps → ℕ → List ℕ
step_numbers steps last = filter (has_step steps) (range_with_len 0 (last + 1))

-- an entry as the transcript has it, after a space; where there is none, the end of the line
abbrev pub entry_if : Option Entry → List ℕ
entry_if None = codes "\n"
entry_if (Some e) = codes " " ++ line_of e

-- the line of a step: its number, and the last entry so far
abbrev pub step_line : List Entry → List ℕ
step_line journal = codes "step " ++ decimal (length journal) ++ entry_if (slice_get journal (length journal - 1))

-- The text is a step of a film: after just so many entries the run is there, and who owns what then is told as it is where it is asked alone.
pub record TellsStep (A : Inputs) (entries : ℕ) (text : List ℕ) : Type 0 where
  pub owners : List ℕ
  pub says : SaysOwners entries A owners
  pub reached : length says.journal ≡ entries
  pub told : text ≡ step_line says.journal ++ owners

-- these texts are the steps of these numbers
abbrev pub TellSteps : Inputs → List ℕ → List (List ℕ) → Type 0
TellSteps A [] [] = Unit {0}
TellSteps A (n ∷ ns) (text ∷ texts) = TellsStep A n text × TellSteps A ns texts
TellSteps A _ _ = ⊥

-- The text has the steps of a film: of each of its numbers up to TO that the run has, in their order.
pub record SaysFilm (steps : FilmSteps) (A : Inputs) (text : List ℕ) : Type 0 where
  pub journal : List Entry
  pub state : State
  pub made : IsJournalOf A journal state
  pub over : Bool
  pub ends : IsEnd over steps.to A journal state
  pub texts : List (List ℕ)
  pub tell : TellSteps A (step_numbers steps (length journal)) texts
  pub told : text ≡ concat texts

-- How a run came to its end.

-- The run that ends at this state is over: all lines were read, and no process can step. Or it was cut: as many instructions ran as may,
-- and it isn't over.
abbrev pub EndsSo : Finish → Inputs → State → Type 0
EndsSo Over A s = IsIdle A s
EndsSo Cut A s = (s.count ≡ A.limit) × (IsIdle A s → ⊥)

-- what is told of a run that was cut by this limit; nothing of one that is over
abbrev pub cut_line : Finish → ℕ → List ℕ
cut_line Over limit = []
cut_line Cut limit = codes "vmrun: LIMIT is " ++ decimal limit ++ codes ", which cut the run: what would come after is not counted\n"

-- The run is finished, and the text says whether its limit cut it.
pub record SaysCut (A : Inputs) (text : List ℕ) : Type 0 where
  pub journal : List Entry
  pub state : State
  pub made : IsJournalOf A journal state
  pub none : next_unit A state ≡ None
  pub finish : Finish
  pub ends : EndsSo finish A state
  pub told : text ≡ cut_line finish A.limit

-- Counts.

-- The run is finished, and the text is the table of its counts: by its journal, by what is looked at at its start, and by what is noted of
-- each of its entries, at the states to which they lead. The last row says how it came to its end. The requests of swap that the table
-- counts are as many as a device notes which is asked what the journal's units ask.
pub record SaysStats (A : Inputs) (text : List ℕ) : Type 0 where
  pub journal : List Entry
  pub state : State
  pub made : IsJournalOf A journal state
  pub none : next_unit A state ≡ None
  pub holdings : Holdings
  pub can : CanRun A holdings
  pub notes : List Note
  pub noted : AreNoted A (start A holdings) notes state
  pub requests : sum_of (OfRun SwapRequests) notes ≡ length (of_swap (requests_of A journal))
  pub finish : Finish
  pub ends : EndsSo finish A state
  pub told : text ≡ stats_text journal (look_at (start A holdings)) notes (state.point.flat.next_pid - 1) (state.point.flat.next_sid - 1) (length A.images)
      ++ finish_row finish state.count

-- The answer to a question: the fewest faults that any replacement in so many frames has, with the victims by which it has them; the faults
-- of least-recently-used replacement in each number of frames; who owns what after so many entries, or after each of several numbers of
-- them; what it did, counted; whether its limit cut it; or the references themselves.
abbrev pub IsAnswer : Question → Inputs → List ℕ → Type 0
IsAnswer (Optimum frames) A text = SaysOfReferences (λ refs. IsOptimumText refs frames text) A
IsAnswer Curve A text = SaysOfReferences (λ refs. text ≡ curve_text refs) A
IsAnswer (Owners entries) A text = SaysOwners entries A text
IsAnswer (Film steps) A text = SaysFilm steps A text
IsAnswer Stats A text = SaysStats A text
IsAnswer WasCut A text = SaysCut A text
IsAnswer References A text = SaysOfReferences (λ refs. text ≡ references_text refs) A
