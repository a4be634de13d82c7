-- Transcripts that are read back and judged.
use Rattle.std.specs.Prelude.{◌≡◌, ◌≤◌, ◌<◌, ◌^◌, ℕ, Bool, true, false, List, ◌++◌, length, None}
use Rattle.vm_facts.specs.declared.entry.Entry.{Entry}
use Rattle.flat_state.specs.Flat.{Inputs}
use Rattle.run_model.specs.State.{State}
use Rattle.run_model.specs.Lawful.{IsLawful}
use Rattle.run_text.specs.Text.{without_paging, joined, text_of}
use Rattle.run_text.specs.Lines.{lines_in, AreLines}
use Rattle.run_text.specs.Transcript.{IsEntryLine, AreWithin}
use Rattle.run_text.specs.declared.answers.Transcript.{Transcript}
use Rattle.run_text.specs.declared.answers.Transcript.TheVariants.{Is, BadLine}
use Rattle.replay_check.specs.Verdicts.{instruction_limit, first_bad}

-- the entries that a text of a journal shows: all, or, without the trace of the paging, the others, neighbouring `Ran` of
-- one process joined
abbrev pub entries_shown : Bool → List Entry → List Entry
entries_shown true journal = journal
entries_shown false journal = joined (without_paging journal)

-- The text of a lawful journal: its numbers have 32 bits, and no more instructions are counted than a transcript may have,
-- nor are there more bytes.
pub record IsTranscriptOf (traced : Bool) (A : Inputs) (journal : List Entry) (s : State) (text : List ℕ) : Type 0 where
  pub lawful : IsLawful A journal s
  pub count : s.count ≤ instruction_limit
  pub within : AreWithin journal
  pub is : text ≡ text_of traced journal
  pub short : length text < 2 ^ 32

-- it was read as these entries, and all of them are a run
abbrev pub IsAccepted : Inputs → List Entry → Transcript → Type 0
IsAccepted A entries (Is read) = (read.items ≡ entries) × (first_bad A read.items ≡ None)
IsAccepted A entries (BadLine n) = ⊥

-- a text, with whatever stands after it, begins with the lines of these entries
pub record BeginsWith (entries : List Entry) (text rest : List ℕ) : Type 0 where
  pub lines : List (List ℕ)
  pub are : AreLines IsEntryLine entries lines
  pub cut : lines_in (text ++ rest) ≡ lines ++ lines_in rest

-- What a judge of transcripts finds of the text of a journal, over the images of these inputs: its lines are those of the entries that
-- it shows, and these are a run of the flat machine, of no more instructions than a transcript may have.
pub record IsFlatText (A : Inputs) (traced : Bool) (journal : List Entry) : Type 0 where
  pub begins : (rest : List ℕ) → BeginsWith (entries_shown traced journal) (text_of traced journal) rest
  pub run : first_bad A (entries_shown traced journal) ≡ None
