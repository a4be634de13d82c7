-- Kinds of units by what judges them, and the reason that each has against it.
use Rattle.std.specs.Prelude.{◌≡◌, List, Option, Some, None}
use Rattle.vm_facts.specs.SwapImages.{SwapImage}
use Rattle.vm_facts.specs.declared.entry.Entry.{Entry}
use Rattle.vm_facts.specs.declared.entry.Entry.TheVariants as entries
use Rattle.io_edge.specs.FileHolding.{NamedFile}
use Rattle.flat_state.specs.Flat.{FlatState, Inputs}
use Rattle.flat_model.specs.Run.{process_of_entry}
use Rattle.kernel_model.specs.Coupled.{SameTables}
use Rattle.kernel_model.specs.Kernel.{Kernel}
use Rattle.page_model.specs.Placement.{Placement}
use Rattle.machine_state.specs.Machine.{Standing}
use Rattle.run_model.specs.State.{State}
use Rattle.paged_model.specs.declared.reason.Reason.{Reason}
use Rattle.paged_model.specs.declared.reason.Reason.TheVariants as reasons
use Rattle.paged_model.specs.Moves.{zero_reason, copy_reason, get_reason, reclaim_reason, done_reason}
use Rattle.paged_model.specs.Leaving.{put_reason, out_reason, in_reason}
use Rattle.paged_model.specs.Steps.{event_reason, turn_reason, owners_reason}
use Rattle.paged_model.specs.Runs.{paged_after, unit_reason}
use Rattle.step_judge.specs.Begun.{Begun}
use Rattle.step_judge.specs.Rests.{pid_of}
use Rattle.repage_check.specs.declared.past.Past.{Past}
use Rattle.repage_check.specs.Past.{turn_out, past_next, PastAt}

-- Kinds.

-- a line of a schedule, a turn, or the numbers of frames and blocks
abbrev pub IsMarkNote : Entry → Type 0
IsMarkNote (entries.Event line) = Unit {0}
IsMarkNote (entries.Turn pid) = Unit {0}
IsMarkNote (entries.Owners free used moving held) = Unit {0}
IsMarkNote _ = ⊥

-- pages take frames or leave them, and no device is called
abbrev pub IsFill : Entry → Type 0
IsFill (entries.Zero q) = Unit {0}
IsFill (entries.Get q lo n) = Unit {0}
IsFill (entries.Copy q) = Unit {0}
IsFill (entries.Reclaim q) = Unit {0}
IsFill (entries.Put q n) = Unit {0}
IsFill _ = ⊥

-- none of a process, and no move of the hands
abbrev pub IsOthers : Entry → Type 0
IsOthers (entries.Hands n) = ⊥
IsOthers u = process_of_entry u ≡ None

-- no move of the hands
abbrev pub IsUnmoved : Entry → Type 0
IsUnmoved (entries.Hands n) = ⊥
IsUnmoved _ = Unit {0}

-- Reasons, where no step is begun.

-- of the first kind; of the others none
abbrev pub note_reason : Inputs → State → Entry → Option Reason
note_reason A s (entries.Event line) = event_reason s line
note_reason A s (entries.Turn pid) = turn_reason A s pid
note_reason A s (entries.Owners free used moving held) = owners_reason s (entries.Owners free used moving held)
note_reason A s _ = None

-- of the second
abbrev pub fill_reason : FlatState → Placement → Entry → Option Reason
fill_reason F p (entries.Zero q) = zero_reason p q
fill_reason F p (entries.Get q lo n) = get_reason p q lo n
fill_reason F p (entries.Copy q) = copy_reason p q
fill_reason F p (entries.Reclaim q) = reclaim_reason p q
fill_reason F p (entries.Put q n) = put_reason F p q n
fill_reason F p _ = None

-- of any unit of no process but a move of the hands
abbrev pub free_reason : Inputs → State → Entry → Option Reason
free_reason A s (entries.Event line) = event_reason s line
free_reason A s (entries.Turn pid) = turn_reason A s pid
free_reason A s (entries.Owners free used moving held) = owners_reason s (entries.Owners free used moving held)
free_reason A s (entries.SwapOut pid) = out_reason s.point.flat s.place pid
free_reason A s (entries.SwapIn pid) = in_reason s.point.flat s.place pid
free_reason A s entries.Done = done_reason s.place.transfers
free_reason A s u = fill_reason s.point.flat s.place u

-- the step of a process is begun so
abbrev pub begun_reason : Option Begun → Option Reason
begun_reason None = None
begun_reason (Some b) = Some (reasons.Begun (pid_of b))

-- A state by the tables of a machine.

-- it has the placement and the holdings
pub record AreOwnersOf (k : Kernel) (s : State) : Type 0 where
  pub place : k.place ≡ s.place
  pub holdings : k.holdings ≡ s.holdings

-- and the processes; and so many lines of a schedule were taken
pub record IsTableOf (k : Kernel) (p : Past) (s : State) : Type 0 where
  pub owners : AreOwnersOf k s
  pub tables : SameTables k s.point.flat
  pub lines : s.lines ≡ p.lines

-- What is told.

-- the machine stands at the state, with a swap image that is told
pub record StandsPast (p : Past) (m : Standing) (holds : Option (List NamedFile)) (i : Option SwapImage) (A : Inputs) (s : State) : Type 0 where
  pub image : SwapImage
  pub at : PastAt p m holds i A s image

-- What is told is the reason for which the unit can't come; and with none the machine stands at the state after it.
pub record UnitTold (reason : Option Reason) (u : Entry) (p : Past) (old new : Standing) (holds : Option (List NamedFile)) (j : Option SwapImage)
    (A : Inputs) (s : State) (image : SwapImage) : Type 0 where
  pub exact : reason ≡ unit_reason A s u
  pub stands : reason ≡ None → StandsPast (past_next (turn_out old.kernel u) p u) new holds j A (paged_after A s u)
