-- The statements on lines of a schedule and on turns: what a machine makes of them is next units.
use Rattle.std.specs.Prelude.{◌≡◌, ℕ, ◌+◌, ◌<◌, true, false, List, [], ◌∷◌, length, slice_get, Option, Some, None}
use Rattle.vm_facts.specs.SwapImages.{SwapImage}
use Rattle.vm_facts.specs.declared.entry.Entry.{Entry}
use Rattle.vm_facts.specs.declared.entry.Entry.TheVariants as entries
use Rattle.vm_facts.specs.declared.event.Event.{Event}
use Rattle.vm_facts.specs.declared.stop.Stop.{Stop}
use Rattle.io_edge.specs.FileHolding.{NamedFile}
use Rattle.flat_state.specs.Flat.{Inputs}
use Rattle.page_model.specs.Swapper.{is_out, swap_choice}
use Rattle.kernel_model.specs.Kernel.{Kernel, note_step}
use Rattle.machine_state.specs.Machine.{Standing}
use Rattle.machine_state.specs.Sourced.{files_named}
use Rattle.machine_state.specs.Done.{sources, IsDone, ImageAfter, StopsEnding}
use Rattle.machine_state.specs.Swapping.{AsksU, IsIn}
use Rattle.swapper.specs.Stops.{StopsAt, StopsBefore, StopsWhile}
use Rattle.proc_calls.specs.Moved.{Moved, moving_hands}
use Rattle.swapper.specs.declared.Turned.{Turned}
use Rattle.swapper.specs.Runners.{runners_of, choice_of}
use Rattle.swapper.specs.Turns.{Turns, StopsTurning}
use Rattle.run_laws.specs.Longwords.{ProcessesFit}
use Rattle.run_model.specs.declared.mark.Mark.TheVariants as marks
use Rattle.run_model.specs.State.{State, runners}
use Rattle.run_model.specs.After.{interrupt_mark, swap_mark, mark_of_event}
use Rattle.run_model.specs.Next.{under, goes_on, turn_instructions, owners_of, next_turned, last_turned}
use Rattle.flat_model.specs.Run.{IsBetween}
use Rattle.run_units.specs.Leads.{Leads}
use Rattle.step_units.specs.Machines.{MachineAt}
use Rattle.step_units.specs.Stepped.{StopLeads}

-- Between two lines, or two turns: nothing is due, no step is begun, and nothing more is to come of the last mark.
pub record IsOver (A : Inputs) (s : State) : Type 0 where
  pub clear : s.place.due ≡ []
  pub between : IsBetween s.point.last
  pub over : under A s s.mark ≡ None

-- under a mark: nothing is due, and no step is begun
pub record IsClear (s : State) : Type 0 where
  pub clear : s.place.due ≡ []
  pub between : IsBetween s.point.last

-- Next units lead to a state between two lines. The flat machine is where it was, and the last mark is no turn.
pub record LineLeads (A : Inputs) (s : State) (k : Kernel) (image : SwapImage) (l : Kernel) (j : Option SwapImage) : Type 0 where
  pub units : List Entry
  pub state : State
  pub leads : Leads A s k image units state l j
  pub over : IsOver A state
  pub point : state.point ≡ s.point
  pub count : state.count ≡ s.count
  pub lines : state.lines ≡ s.lines
  pub unturned : last_turned state.mark ≡ 0

-- A line begins.

-- the entry of a line is the next unit, and after it the line's mark is the last
pub record LineBegun (A : Inputs) (s : State) (k : Kernel) (image : SwapImage) (e : Event) (l : Kernel) : Type 0 where
  pub state : State
  pub leads : Leads A s k image (entries.Event (s.lines + 1) ∷ []) state l (Some image)
  pub clear : IsClear state
  pub place : state.place ≡ s.place
  pub point : state.point ≡ s.point
  pub holdings : state.holdings ≡ s.holdings
  pub count : state.count ≡ s.count
  pub lines : state.lines ≡ s.lines + 1
  pub mark : state.mark ≡ mark_of_event s e

-- the entry of the next line, noted by a machine between two lines, begins it
abbrev pub LineBegins : Type 0
LineBegins =
    (A : Inputs) (s : State) (old : Standing) (l : Kernel) (holds : Option (List NamedFile)) (image : SwapImage) (e : Event) → MachineAt A s old holds image
    → IsOver A s → s.count < A.limit
    → slice_get A.lines s.lines ≡ Some e → l ≡ note_step old.kernel (entries.Event (s.lines + 1)) → LineBegun A s old.kernel image e l

-- where the machine stops before a line's entry, next units lead to the stop
abbrev pub LineStops : Type 0
LineStops =
    (A : Inputs) (s : State) (old new : Standing) (holds : Option (List NamedFile)) (image : SwapImage) (e : Event) (stop : Stop)
    → MachineAt A s old holds image
    → IsOver A s → s.count < A.limit
    → slice_get A.lines s.lines ≡ Some e → StopsBefore old new stop → StopLeads A s old.kernel image stop new (Some image)

-- What the lines ask for.

-- the oldest transfer ends, where one is in flight
abbrev pub InterruptIsMade : Type 0
InterruptIsMade =
    (A : Inputs) (s : State) (old : Standing) (l : Kernel) (holds : Option (List NamedFile)) (image : SwapImage) (j : Option SwapImage)
    → MachineAt A s old holds image → IsClear s
    → s.mark ≡ interrupt_mark s.place.transfers → 0 < length s.place.transfers → IsDone (sources old holds) (Some image) old.kernel l
    → ImageAfter (files_named old.images) old.kernel (Some image) j
    → LineLeads A s old.kernel image l j

-- else the line is over at once
abbrev pub IdleInterruptEnds : Type 0
IdleInterruptEnds = (A : Inputs) (s : State) → IsClear s → s.mark ≡ interrupt_mark s.place.transfers → s.place.transfers ≡ [] → IsOver A s

-- where the machine stops as it ends, next units lead to the stop
abbrev pub InterruptStops : Type 0
InterruptStops =
    (A : Inputs) (s : State) (old new : Standing) (holds : Option (List NamedFile)) (image : SwapImage) (j : Option SwapImage) (stop : Stop)
    → MachineAt A s old holds image → IsClear s
    → s.mark ≡ interrupt_mark s.place.transfers → 0 < length s.place.transfers → StopsEnding old new (Some image) j stop
    → StopLeads A s old.kernel image stop new j

-- the hands move
abbrev pub HandsAreMade : Type 0
HandsAreMade =
    (A : Inputs) (s : State) (old new : Standing) (holds : Option (List NamedFile)) (image : SwapImage) (j : Option SwapImage) (n made : ℕ)
    → MachineAt A s old holds image → IsClear s
    → s.mark ≡ marks.Hands n → Moved n old new made holds (Some image) j → LineLeads A s old.kernel image new.kernel j

-- where the machine stops as they move, next units lead to the stop
abbrev pub HandsStop : Type 0
HandsStop =
    (A : Inputs) (s : State) (old new : Standing) (holds : Option (List NamedFile)) (image : SwapImage) (j : Option SwapImage) (n : ℕ) (stop : Stop)
    → MachineAt A s old holds image → IsClear s
    → s.mark ≡ marks.Hands n → StopsWhile (moving_hands n) old new holds (Some image) j stop → StopLeads A s old.kernel image stop new j

-- the swapper has a turn
abbrev pub SwapperIsMade : Type 0
SwapperIsMade =
    (A : Inputs) (s : State) (old new : Standing) (holds : Option (List NamedFile)) (image : SwapImage) (j : Option SwapImage) (t : Turned)
    → MachineAt A s old holds image → IsClear s
    → ProcessesFit s.point.flat.processes → s.mark ≡ swap_mark (swap_choice s.place (runners s.point.flat))
    → choice_of t ≡ swap_choice old.kernel.place (runners_of old.kernel)
    → Turns t old new holds (Some image) j → LineLeads A s old.kernel image new.kernel j

-- where the machine stops in that turn, next units lead to the stop
abbrev pub SwapperStops : Type 0
SwapperStops =
    (A : Inputs) (s : State) (old new : Standing) (holds : Option (List NamedFile)) (image : SwapImage) (j : Option SwapImage) (t : Turned) (stop : Stop)
    → MachineAt A s old holds image → IsClear s
    → s.mark ≡ swap_mark (swap_choice s.place (runners s.point.flat)) → choice_of t ≡ swap_choice old.kernel.place (runners_of old.kernel)
    → StopsTurning t old new holds (Some image) j stop → StopLeads A s old.kernel image stop new j

-- the numbers of frames and blocks are noted
abbrev pub AuditIsMade : Type 0
AuditIsMade =
    (A : Inputs) (s : State) (old : Standing) (l : Kernel) (holds : Option (List NamedFile)) (image : SwapImage) → MachineAt A s old holds image
    → IsClear s → s.mark ≡ marks.Audit
    → l ≡ note_step old.kernel (owners_of old.kernel.place old.kernel.holdings) → LineLeads A s old.kernel image l (Some image)

-- where the machine stops before that entry, next units lead to the stop
abbrev pub AuditStops : Type 0
AuditStops =
    (A : Inputs) (s : State) (old new : Standing) (holds : Option (List NamedFile)) (image : SwapImage) (stop : Stop) → MachineAt A s old holds image
    → IsClear s → s.mark ≡ marks.Audit
    → StopsBefore old new stop → StopLeads A s old.kernel image stop new (Some image)

-- Turns of the closing phase.

-- after the last line it is a process's turn
pub record TurnDue (A : Inputs) (s : State) (pid : ℕ) : Type 0 where
  pub over : IsOver A s
  pub below : s.count < A.limit
  pub lines : length A.lines ≡ s.lines
  pub turned : next_turned s.point.flat (last_turned s.mark) ≡ Some pid

-- its entry is the next unit, and after it the turn is the last mark
pub record TurnBegun (A : Inputs) (s : State) (k : Kernel) (image : SwapImage) (pid : ℕ) (l : Kernel) : Type 0 where
  pub state : State
  pub leads : Leads A s k image (entries.Turn pid ∷ []) state l (Some image)
  pub clear : IsClear state
  pub place : state.place ≡ s.place
  pub point : state.point ≡ s.point
  pub count : state.count ≡ s.count
  pub lines : state.lines ≡ s.lines
  pub mark : state.mark ≡ marks.Turn pid s.count
  pub on : goes_on A state pid (s.count + turn_instructions) ≡ true

-- the entry of a turn that is due begins it
abbrev pub TurnBegins : Type 0
TurnBegins =
    (A : Inputs) (s : State) (old : Standing) (l : Kernel) (holds : Option (List NamedFile)) (image : SwapImage) (pid : ℕ)
    → MachineAt A s old holds image → TurnDue A s pid
    → l ≡ note_step old.kernel (entries.Turn pid) → TurnBegun A s old.kernel image pid l

-- where the machine stops before that entry, next units lead to the stop
abbrev pub TurnStops : Type 0
TurnStops =
    (A : Inputs) (s : State) (old new : Standing) (holds : Option (List NamedFile)) (image : SwapImage) (pid : ℕ) (stop : Stop)
    → MachineAt A s old holds image → TurnDue A s pid
    → StopsBefore old new stop → StopLeads A s old.kernel image stop new (Some image)

-- A process whose turn it is and that is out comes in first: it has its turn yet, and is in.
pub record CameIn (A : Inputs) (s : State) (k : Kernel) (image : SwapImage) (pid since : ℕ) (l : Kernel) (j : Option SwapImage) : Type 0 where
  pub state : State
  pub leads : Leads A s k image (entries.SwapIn pid ∷ []) state l j
  pub clear : IsClear state
  pub resident : is_out state.place pid ≡ false
  pub point : state.point ≡ s.point
  pub count : state.count ≡ s.count
  pub lines : state.lines ≡ s.lines
  pub mark : state.mark ≡ marks.Turn pid since
  pub on : goes_on A state pid (since + turn_instructions) ≡ true

-- the entry by which it comes in is the next unit
abbrev pub ComingInIsMade : Type 0
ComingInIsMade =
    (A : Inputs) (s : State) (old new : Standing) (holds : Option (List NamedFile)) (image : SwapImage) (j : Option SwapImage) (pid since : ℕ)
    → MachineAt A s old holds image → IsClear s → s.mark ≡ marks.Turn pid since
    → goes_on A s pid (since + turn_instructions) ≡ true → is_out s.place pid ≡ true → IsIn old.kernel new.kernel pid (Some image)
    → AsksU old.kernel pid (Some image) j → CameIn A s old.kernel image pid since new.kernel j

-- where the machine stops before that entry, next units lead to the stop
abbrev pub ComingInStops : Type 0
ComingInStops =
    (A : Inputs) (s : State) (old new : Standing) (holds : Option (List NamedFile)) (image : SwapImage) (j : Option SwapImage) (pid since : ℕ) (stop : Stop)
    → MachineAt A s old holds image → IsClear s
    → s.mark ≡ marks.Turn pid since → goes_on A s pid (since + turn_instructions) ≡ true → is_out s.place pid ≡ true
    → StopsAt (entries.SwapIn pid) old new (Some image) j stop → StopLeads A s old.kernel image stop new j
