-- The lines of processes and of the journal: what each asks of the state, by the first reason against it.
use Rattle.std.specs.Prelude.{ℕ, ◌+◌, ◌==◌, max, nat_le, Bool, false, not, ◌&&◌, Option, Some, None}
use Rattle.vm_facts.specs.declared.page.Page.{Page}
use Rattle.vm_facts.specs.declared.entry.Entry.{Entry}
use Rattle.vm_facts.specs.declared.entry.Entry.TheVariants as entries
use Rattle.flat_state.specs.Flat.{Process, Inputs, process_of, can_step}
use Rattle.flat_state.specs.Journal.{counted}
use Rattle.page_model.specs.Placement.{Placement, state_of}
use Rattle.page_model.specs.Swapper.{is_out}
use Rattle.flat_model.specs.Run.{same_entry}
use Rattle.flat_model.specs.Touched.{touched}
use Rattle.run_model.specs.State.{State}
use Rattle.run_model.specs.Wanted.{first_absent}
use Rattle.run_model.specs.Act.{act}
use Rattle.run_model.specs.Next.{owners_entry}
use Rattle.paged_model.specs.declared.reason.Reason.{Reason}
use Rattle.paged_model.specs.declared.reason.Reason.TheVariants as reasons
use Rattle.paged_model.specs.Reasons.{unless, or_reason}
use Rattle.paged_model.specs.Moves.{due_first}

-- Steps that are begun.

-- after `Refused` and `Out` the step of their process is begun
abbrev pub begun : Option Entry → Option Reason
begun (Some (entries.Refused p)) = Some (reasons.Begun p)
begun (Some (entries.Out p bytes)) = Some (reasons.Begun p)
begun _ = None

-- the step of another process is begun
abbrev pub other_begun : Option Entry → ℕ → Option Reason
other_begun (Some (entries.Refused p)) pid = unless (p == pid) (reasons.Begun p)
other_begun (Some (entries.Out p bytes)) pid = unless (p == pid) (reasons.Begun p)
other_begun _ pid = None

-- Processes.

-- by whether the process is there: it can step
abbrev pub stuck_if : Inputs → State → ℕ → Option Process → Option Reason
stuck_if A s pid None = Some (reasons.NoProcess pid)
stuck_if A s pid (Some q) = unless (can_step s.point.flat pid) (reasons.CannotStep pid)

-- the process can't step
abbrev pub stuck : Inputs → State → ℕ → Option Reason
stuck A s pid = stuck_if A s pid (process_of s.point.flat pid)

-- by the first page that a process touches and that isn't valid
abbrev pub away_by : Placement → Option Page → Option Reason
away_by p None = None
away_by p (Some q) = Some (reasons.InState q (state_of p q))

-- a page that the process's next instruction touches isn't valid
abbrev pub page_away : Inputs → State → ℕ → Option Reason
page_away A s pid = away_by s.place (first_absent s.place (touched A s.point.flat pid))

-- the same entry of a process
abbrev pub is_same : Entry → Entry → Bool
is_same (entries.Refused p) (entries.Refused q) = p == q
is_same e u = same_entry e u

-- by what a process does next: it waits for the transfers of its space; or it is this entry
abbrev pub other_act : ℕ → Entry → Option Entry → Option Reason
other_act pid u None = Some (reasons.CannotStep pid)
other_act pid u (Some entries.Done) = Some reasons.Unsettled
other_act pid u (Some e) = unless (is_same e u) (reasons.Comes e)

-- An entry of a process: fewer instructions are counted than may be; it can step, no step of another is begun, nothing is due, it is in, all
-- pages that it touches are valid, and this is what it does next.
abbrev pub step_reason : Inputs → State → ℕ → Entry → Option Reason
step_reason A s pid u =
    or_reason (unless (nat_le (s.count + max 1 (counted u)) A.limit) reasons.TooMany)
    (or_reason (stuck A s pid)
    (or_reason (other_begun s.point.last pid)
    (or_reason (due_first s.place.due)
    (or_reason (unless (not (is_out s.place pid)) (reasons.IsOut pid))
    (or_reason (page_away A s pid) (other_act pid u (act A s pid)))))))

-- Notes.

-- lines of the schedule come in their order
abbrev pub event_reason : State → ℕ → Option Reason
event_reason s line = unless (line == s.lines + 1) (reasons.Comes (entries.Event (s.lines + 1)))

-- a turn is of a process that can step
abbrev pub turn_reason : Inputs → State → ℕ → Option Reason
turn_reason A s pid = stuck A s pid

-- the same numbers of frames and blocks
abbrev pub same_owners : Entry → Entry → Bool
same_owners (entries.Owners f u m h) (entries.Owners g v n k) = (f == g) && ((u == v) && ((m == n) && (h == k)))
same_owners _ _ = false

-- the numbers of frames and blocks are those of the state
abbrev pub owners_reason : State → Entry → Option Reason
owners_reason s e = unless (same_owners (owners_entry s) e) (reasons.Comes (owners_entry s))
