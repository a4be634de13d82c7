-- Runs of the paged machine by any policy: which units may come, and when a whole trace is a run.
use Rattle.std.specs.Prelude.{◌≡◌, ℕ, ◌+◌, ◌==◌, Bool, true, false, cond, List, [], ◌∷◌, Option, Some, None, Ok}
use Rattle.vm_facts.specs.declared.entry.Entry.{Entry}
use Rattle.vm_facts.specs.declared.entry.Entry.TheVariants as entries
use Rattle.swap_book.specs.Holdings.{Holdings}
use Rattle.flat_state.specs.Flat.{Inputs}
use Rattle.flat_state.specs.Journal.{units_with}
use Rattle.page_model.specs.Swapper.{is_out}
use Rattle.flat_model.specs.Asked.{start_held}
use Rattle.run_model.specs.declared.mark.Mark.{Mark}
use Rattle.run_model.specs.declared.mark.Mark.TheVariants as marks
use Rattle.run_model.specs.State.{State, start}
use Rattle.run_model.specs.Wanted.{locked}
use Rattle.run_model.specs.After.{after}
use Rattle.paged_model.specs.declared.reason.Reason.{Reason}
use Rattle.paged_model.specs.declared.reason.Misstep.{Misstep}
use Rattle.paged_model.specs.Reasons.{or_reason}
use Rattle.paged_model.specs.Moves.{zero_reason, copy_reason, get_reason, reclaim_reason, hand_reason, done_reason}
use Rattle.paged_model.specs.Leaving.{put_reason, out_reason, in_reason}
use Rattle.paged_model.specs.Steps.{begun, step_reason, event_reason, turn_reason, owners_reason}

-- States.

-- A turn of a process, by whether that is out: none runs before it comes in.
abbrev pub turn_mark : Bool → ℕ → ℕ → Mark
turn_mark true pid count = marks.BringIn pid
turn_mark false pid count = marks.Turn pid count

-- once a process is out: where it is its turn, none runs
abbrev pub out_mark : ℕ → Mark → Mark
out_mark pid (marks.Turn p since) = cond (p == pid) (marks.BringIn p) (marks.Turn p since)
out_mark pid mark = mark

-- once a process is in: where it is its turn, it runs
abbrev pub in_mark : ℕ → ℕ → Mark → Mark
in_mark pid count (marks.BringIn p) = cond (p == pid) (marks.Turn p count) (marks.BringIn p)
in_mark pid count mark = mark

-- The mark after a unit, by any policy: what a line of a schedule asks for isn't known, so after it no process runs; after a turn its process
-- runs, while it is in.
abbrev pub mark_by : State → Entry → Mark
mark_by s (entries.Event line) = marks.Over
mark_by s (entries.Turn pid) = turn_mark (is_out s.place pid) pid s.count
mark_by s (entries.SwapOut pid) = out_mark pid s.mark
mark_by s (entries.SwapIn pid) = in_mark pid s.count s.mark
mark_by s _ = s.mark

-- the state after a unit, by any policy
abbrev pub paged_after : Inputs → State → Entry → State
paged_after A s u = record (after A s u) { mark = mark_by s u }

-- the state after these units, in order
unfoldable pub paged_state : Inputs → State → List Entry → State
paged_state A s [] = s
paged_state A s (u ∷ us) = paged_state A (paged_after A s u) us

-- Units.

-- Why a unit can't come at a state; none where it may. While the step of a process is begun, transfers end and that process goes on, and
-- nothing else comes.
unfoldable pub unit_reason : Inputs → State → Entry → Option Reason
unit_reason A s (entries.Event line) = or_reason (begun s.point.last) (event_reason s line)
unit_reason A s (entries.Turn pid) = or_reason (begun s.point.last) (turn_reason A s pid)
unit_reason A s (entries.Ran pid n) = step_reason A s pid (entries.Ran pid n)
unit_reason A s (entries.Out pid bytes) = step_reason A s pid (entries.Out pid bytes)
unit_reason A s (entries.Grew pid pages) = step_reason A s pid (entries.Grew pid pages)
unit_reason A s (entries.Call pid number carry r0 r1) = step_reason A s pid (entries.Call pid number carry r0 r1)
unit_reason A s (entries.Refused pid) = step_reason A s pid (entries.Refused pid)
unit_reason A s (entries.Sleeps pid) = step_reason A s pid (entries.Sleeps pid)
unit_reason A s (entries.Ended pid status) = step_reason A s pid (entries.Ended pid status)
unit_reason A s (entries.Zero q) = or_reason (begun s.point.last) (zero_reason s.place q)
unit_reason A s (entries.Get q lo n) = or_reason (begun s.point.last) (get_reason s.place q lo n)
unit_reason A s (entries.Copy q) = or_reason (begun s.point.last) (copy_reason s.place q)
unit_reason A s (entries.Reclaim q) = or_reason (begun s.point.last) (reclaim_reason s.place q)
unit_reason A s (entries.Hands n) = or_reason (begun s.point.last) (hand_reason s.place (locked A s))
unit_reason A s (entries.Put q n) = or_reason (begun s.point.last) (put_reason s.point.flat s.place q n)
unit_reason A s entries.Done = done_reason s.place.transfers
unit_reason A s (entries.SwapOut pid) = or_reason (begun s.point.last) (out_reason s.point.flat s.place pid)
unit_reason A s (entries.SwapIn pid) = or_reason (begun s.point.last) (in_reason s.point.flat s.place pid)
unit_reason A s (entries.Owners free used moving held) = or_reason (begun s.point.last) (owners_reason s (entries.Owners free used moving held))

-- Lines.

-- the first reason that units give, one after another
unfoldable pub units_reason : Inputs → State → List Entry → Option Reason
units_reason A s [] = None
units_reason A s (u ∷ us) = or_reason (unit_reason A s u) (units_reason A (paged_after A s u) us)

-- why a line can't come at a state, by its units
abbrev pub line_reason : Inputs → State → Entry → Option Reason
line_reason A s e = units_reason A s (units_with e [])

-- the state after a line
abbrev pub line_after : Inputs → State → Entry → State
line_after A s e = paged_state A s (units_with e [])

-- Traces.

-- this line is the first bad one, or what the lines after it say
abbrev pub misstep_or : ℕ → Option Reason → Option Misstep → Option Misstep
misstep_or n (Some r) more = Some (record { line = n; reason = r })
misstep_or n None more = more

-- the first line that can't come, of lines from a number and a state on
unfoldable pub misstep_from : Inputs → State → ℕ → List Entry → Option Misstep
misstep_from A s n [] = None
misstep_from A s n (e ∷ es) = misstep_or n (line_reason A s e) (misstep_from A (line_after A s e) (n + 1) es)

-- the first line of a trace that can't come, from a start with these holdings
abbrev pub first_misstep : Inputs → Holdings → List Entry → Option Misstep
first_misstep A hs es = misstep_from A (start A hs) 1 es

-- A trace is a run of the paged machine: the first processes' pieces find their places, and each line may come where it stands. The lines of
-- a schedule that the inputs have don't count.
pub record IsPagedRun (A : Inputs) (es : List Entry) : Type 0 where
  pub holdings : Holdings
  pub found : start_held A ≡ Ok holdings
  pub good : first_misstep A holdings es ≡ None
