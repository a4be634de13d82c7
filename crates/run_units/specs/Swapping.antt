-- The statements on processes that go out and come in, and on notes.
use Rattle.std.specs.Prelude.{◌≡◌, ℕ, ◌+◌, ◌<◌, true, List, [], length, Option, Some, None}
use Rattle.vm_facts.specs.SwapImages.{SwapImage}
use Rattle.vm_facts.specs.declared.entry.Entry.{Entry}
use Rattle.vm_facts.specs.declared.entry.Entry.TheVariants as entries
use Rattle.flat_state.specs.Flat.{Inputs, process_of}
use Rattle.page_model.specs.Place.{space_of_process}
use Rattle.page_model.specs.PuttingOut.{PutsOut}
use Rattle.page_model.specs.Swapper.{put_out_unit}
use Rattle.kernel_model.specs.Kernel.{Kernel, Proc, out_step, note_step}
use Rattle.kernel_model.specs.UPage.{AreRegs}
use Rattle.kernel_model.specs.Unit.{proc_of}
use Rattle.fault_fill.specs.Swapping.{WritesU, AsksU, IsIn}
use Rattle.run_model.specs.declared.mark.Mark.TheVariants as marks
use Rattle.run_model.specs.State.{State}
use Rattle.run_model.specs.Next.{under, next_mark, next_unit, owners_entry, next_turned, last_turned}
use Rattle.economy_laws.specs.Machine.{IsJournalEntry}
use Rattle.fault_fill.specs.Made.{Ground, Made}
use Rattle.run_units.specs.Leads.{HasImages, MadeAs, Leads}
use Rattle.run_units.specs.Serving.{SameBut, At}

-- the swapper puts this process out, whose space this is, and nothing is due
pub record PutsProcess (s : State) (pid sid : ℕ) : Type 0 where
  pub mark : s.mark ≡ marks.PutOut pid
  pub clear : s.place.due ≡ []
  pub own : space_of_process (process_of s.point.flat pid) ≡ sid

-- units are next units of the run, and the process is put out yet
pub record LeadsPutting (A : Inputs) (s : State) (k : Kernel) (image : SwapImage) (pid sid : ℕ) (us : List Entry) (l : Kernel)
    (j : Option SwapImage) : Type 0 where
  pub state : State
  pub leads : Leads A s k image us state l j
  pub same : SameBut s state
  pub puts : PutsProcess state pid sid

-- each unit by which a process is put out, but the last, is the next unit of the run
abbrev pub PuttingIsNext : Type 0
PuttingIsNext =
    (A : Inputs) (g : Ground) (s : State) (k l : Kernel) (image : SwapImage) (j : Option SwapImage) (pid sid at : ℕ) (us : List Entry)
    → At A s k image → HasImages g A → PutsProcess s pid sid → PutsOut us at k.place pid sid l.place → Made g us k (Some image) l j
    → LeadsPutting A s k image pid sid us l j

-- so is the one that comes next
abbrev pub PutNext : Type 0
PutNext = (A : Inputs) (s : State) (pid sid : ℕ) → PutsProcess s pid sid → next_unit A s ≡ Some (put_out_unit s.place pid sid)

-- A process that goes out with registers of longwords, whose u page was written, is the unit of the run.
abbrev pub OutIsMade : Type 0
OutIsMade =
    (A : Inputs) (s : State) (k l : Kernel) (image : SwapImage) (j : Option SwapImage) (pid : ℕ) → ((p : Proc) → proc_of k pid ≡ Some p → AreRegs p.regs)
    → l ≡ out_step k pid → WritesU k pid (Some image) j → MadeAs A s k image (entries.SwapOut pid) l j

-- So is one that came in with the registers of its u page.
abbrev pub InIsMade : Type 0
InIsMade =
    (A : Inputs) (s : State) (k l : Kernel) (image : SwapImage) (j : Option SwapImage) (pid : ℕ) → IsIn k l pid (Some image) → AsksU k pid (Some image) j
    → MadeAs A s k image (entries.SwapIn pid) l j

-- So is an entry that goes into the journal alone.
abbrev pub NoteIsMade : Type 0
NoteIsMade =
    (A : Inputs) (s : State) (k l : Kernel) (image : SwapImage) (u : Entry) → IsJournalEntry u → l ≡ note_step k u → MadeAs A s k image u l (Some image)

-- What comes first under a line that brings a process in, one that waits for a transfer, and one that asks for the numbers.
abbrev pub LineAsks : Type 0
LineAsks =
    (A : Inputs) (s : State) → s.place.due ≡ []
    → ((pid : ℕ) → s.mark ≡ marks.BringIn pid → next_unit A s ≡ Some (entries.SwapIn pid))
    × (s.mark ≡ marks.Interrupt → next_unit A s ≡ Some entries.Done)
    × (s.mark ≡ marks.Audit → next_unit A s ≡ Some (owners_entry s))

-- Where the last mark is over and nothing is due, the next line comes, while fewer instructions than the limit are counted.
abbrev pub LineComes : Type 0
LineComes =
    (A : Inputs) (s : State) → s.place.due ≡ [] → under A s s.mark ≡ None → s.count < A.limit → s.lines < length A.lines
    → next_unit A s ≡ Some (entries.Event (s.lines + 1))

-- After the last line comes a turn of the next process that can step.
abbrev pub TurnComes : Type 0
TurnComes =
    (A : Inputs) (s : State) (pid : ℕ) → s.place.due ≡ [] → under A s s.mark ≡ None → s.count < A.limit → length A.lines ≡ s.lines
    → next_turned s.point.flat (last_turned s.mark) ≡ Some pid → next_unit A s ≡ Some (entries.Turn pid)
