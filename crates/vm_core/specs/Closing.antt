-- The closing phase: what a turn leads to, and where no turn comes any more.
use Rattle.std.specs.Prelude.{◌≡◌, ◌⊎◌, ℕ, ◌+◌, ◌<◌, ◌≤◌, true, false, List, ◌∷◌, length, Option, None}
use Rattle.vm_facts.specs.SwapImages.{SwapImage}
use Rattle.vm_facts.specs.declared.entry.Entry.{Entry}
use Rattle.vm_facts.specs.declared.entry.Entry.TheVariants as entries
use Rattle.io_edge.specs.FileHolding.{NamedFile}
use Rattle.flat_state.specs.Flat.{Inputs}
use Rattle.page_model.specs.Swapper.{is_out}
use Rattle.machine_state.specs.Machine.{Standing}
use Rattle.run_model.specs.declared.mark.Mark.TheVariants as marks
use Rattle.run_model.specs.State.{State}
use Rattle.run_model.specs.Next.{goes_on, turn_instructions, last_turned, next_unit}
use Rattle.run_model.specs.Lawful.{Follows}
use Rattle.run_model.specs.Swapped.{left_from}
use Rattle.economy_laws.specs.RunLawsRunning.{IsRun}
use Rattle.economy_laws.specs.Stretch.{turns_of, NoneCounts}
use Rattle.proc_run.specs.Leads.{Leads}
use Rattle.proc_run.specs.Lines.{IsOver, IsClear, TurnDue}
use Rattle.proc_run.specs.Choosing.{turn_after as chosen_next}
use Rattle.proc_run.specs.Accounts.{Account}
use Rattle.proc_run.specs.Economy.{Economy}
use Rattle.vm_core.specs.Cores.{Underway, StandsIn, CoreAt}

-- A turn.

-- The machine stands at a state at which a process has its turn, after the last line, so many instructions being counted then, and
-- since so many its turn.
pub record TurnAt (m : Standing) (holds : Option (List NamedFile)) (i : Option SwapImage) (counted since pid : ℕ) (A : Inputs) (s : State)
    (image : SwapImage) : Type 0 where
  pub stands : StandsIn A s m holds i image counted
  pub clear : IsClear s
  pub mark : s.mark ≡ marks.Turn pid since
  pub on : goes_on A s pid (since + turn_instructions) ≡ true
  pub lines : length A.lines ≤ s.lines

-- Next units lead to where the process is in, and has its turn yet.
pub record InTurn (old new : Standing) (holds : Option (List NamedFile)) (j : Option SwapImage) (counted since pid : ℕ) (A : Inputs) (s : State)
    (image : SwapImage) : Type 0 where
  pub units : List Entry
  pub state : State
  pub behind : SwapImage
  pub leads : Leads A s old.kernel image units state new.kernel j
  pub at : TurnAt new holds j counted since pid A state behind
  pub resident : is_out state.place pid ≡ false
  pub lines : state.lines ≡ s.lines

-- it has its turn, and is in
abbrev pub ResidentTurn : Standing → Option (List NamedFile) → Option SwapImage → ℕ → ℕ → ℕ → Inputs → State → SwapImage → Type 0
ResidentTurn m holds i counted since pid A s image = TurnAt m holds i counted since pid A s image × (is_out s.place pid ≡ false)

-- Next units lead to where the turn is over, with so many instructions counted.
pub record TurnDone (old new : Standing) (j : Option SwapImage) (pid count : ℕ) (A : Inputs) (s : State) (image : SwapImage) : Type 0 where
  pub units : List Entry
  pub state : State
  pub leads : Leads A s old.kernel image units state new.kernel j
  pub over : IsOver A state
  pub counts : state.count ≡ count
  pub lines : state.lines ≡ s.lines
  pub turned : last_turned state.mark ≡ pid

-- the machine stands where the turn of a process is due
abbrev pub DueTurn : Standing → Option (List NamedFile) → Option SwapImage → ℕ → ℕ → Inputs → State → SwapImage → Type 0
DueTurn m holds i counted pid A s image = StandsIn A s m holds i image counted × TurnDue A s pid

-- Next units, of which its entry is the first, lead to where the whole turn was had, with so many instructions counted.
pub record TurnHad (old new : Standing) (holds : Option (List NamedFile)) (j : Option SwapImage) (pid count : ℕ) (A : Inputs) (s : State)
    (image : SwapImage) : Type 0 where
  pub more : List Entry
  pub state : State
  pub behind : SwapImage
  pub leads : Leads A s old.kernel image (entries.Turn pid ∷ more) state new.kernel j
  pub stands : StandsIn A state new holds j behind count
  pub over : IsOver A state
  pub lines : state.lines ≡ s.lines
  pub turned : last_turned state.mark ≡ pid

-- The phase.

-- So many turns in a row, or more, counted no instruction, since some state of the closing phase.
pub record IdleSince (A : Inputs) (t : State) (idle : ℕ) : Type 0 where
  pub from : State
  pub run : IsRun A from
  pub lines : length A.lines ≤ from.lines
  pub crowd : length from.point.flat.processes ≤ 64
  pub units : List Entry
  pub follows : Follows A from units t
  pub none : NoneCounts units
  pub many : idle ≤ turns_of units

-- Next units led from a state at the begin of the phase to one between two turns, of which this process had the last.
pub record Closing (old new : Standing) (holds : Option (List NamedFile)) (j : Option SwapImage) (count last idle : ℕ) (A : Inputs) (s : State)
    (image : SwapImage) : Type 0 where
  pub units : List Entry
  pub state : State
  pub behind : SwapImage
  pub leads : Leads A s old.kernel image units state new.kernel j
  pub stands : StandsIn A state new holds j behind count
  pub over : IsOver A state
  pub lines : length A.lines ≡ state.lines
  pub turned : last_turned state.mark ≡ last
  pub since : IdleSince A state idle

-- The machine stands after the last line.
pub record LinesAre (m : Standing) (holds : Option (List NamedFile)) (i : Option SwapImage) (counted : ℕ) (A : Inputs) (s : State)
    (image : SwapImage) : Type 0 where
  pub stands : StandsIn A s m holds i image counted
  pub over : IsOver A s
  pub lines : length A.lines ≡ s.lines
  pub unturned : last_turned s.mark ≡ 0

-- the core stands between two lines, all of which were taken
abbrev pub AllTaken : Underway → Option (List NamedFile) → Option SwapImage → Inputs → State → SwapImage → Type 0
AllTaken c holds i A s image = CoreAt A s c holds i image × (length A.lines ≡ s.lines)

-- Next units lead to a state that has none, at which the machine stands. They are accounted for, and few, and the swap image is the
-- one that they say.
pub record Closed (old new : Standing) (holds : Option (List NamedFile)) (j : Option SwapImage) (count : ℕ) (A : Inputs) (s : State)
    (image : SwapImage) : Type 0 where
  pub units : List Entry
  pub state : State
  pub behind : SwapImage
  pub leads : Leads A s old.kernel image units state new.kernel j
  pub stands : StandsIn A state new holds j behind count
  pub none : next_unit A state ≡ None
  pub account : Account A s units
  pub economy : Economy A s units
  pub swapped : behind ≡ left_from A s units image

-- Turns in a row.

-- after a turn that counted something, or nothing
abbrev pub CountsTurn : ℕ → ℕ → ℕ → ℕ → Type 0
CountsTurn count more idle now = (now ≡ 0) ⊎ ((more ≡ count) × (now ≡ idle + 1))

-- why no further turn comes
abbrev pub EndsPhase : Standing → ℕ → ℕ → ℕ → Type 0
EndsPhase m count last idle = (m.params.limit ≤ count) ⊎ ((64 < idle) ⊎ (chosen_next m.kernel last ≡ None))
