-- What each unit does to the state of a run, with its mark.
use Rattle.std.specs.Prelude.{◌≡◌, ℕ, ◌+◌, ◌-◌, List, [], ◌∷◌, slice_get, length, Option, Some, None}
use Rattle.flat_state.specs.Flat.{Inputs}
use Rattle.vm_facts.specs.declared.event.Event.{Event}
use Rattle.vm_facts.specs.declared.event.Event.TheVariants as events
use Rattle.vm_facts.specs.declared.entry.Entry.{Entry}
use Rattle.vm_facts.specs.declared.entry.Entry.TheVariants as entries
use Rattle.swap_book.specs.Holdings.{Holdings}
use Rattle.flat_state.specs.Journal.{append, units_of}
use Rattle.kernel_model.specs.Placement.{Placement, Transfer}
use Rattle.kernel_model.specs.Place.{place_step, facts_of}
use Rattle.kernel_model.specs.Swapper.{Choice, In, Out, Nothing, swap_choice}
use Rattle.run_model.specs.declared.mark.Mark.{Mark}
use Rattle.run_model.specs.declared.mark.Mark.TheVariants as marks
use Rattle.flat_model.specs.Step.{Step}
use Rattle.flat_model.specs.Run.{flat_entry}
use Rattle.flat_model.specs.Asked.{or_before, start_held}
use Rattle.run_model.specs.Snapshot.{Snapshot, pages_written, snapshot_after}
use Rattle.run_model.specs.State.{State, start, runners}
use Rattle.run_model.specs.Wanted.{running}

-- Marks.

-- the mark of an interrupt, by the transfers in flight: without one it is over at once
abbrev pub interrupt_mark : List Transfer → Mark
interrupt_mark [] = marks.Over
interrupt_mark (t ∷ ts) = marks.Interrupt

-- the mark of the swapper's turn, by its choice: where it chooses nothing it is over at once
abbrev pub swap_mark : Choice → Mark
swap_mark (In pid) = marks.BringIn pid
swap_mark (Out pid) = marks.PutOut pid
swap_mark Nothing = marks.Over

-- the mark of a line of the schedule
abbrev pub mark_of_event : State → Event → Mark
mark_of_event s (events.Dispatch pid count) = marks.Dispatch pid count s.count
mark_of_event s events.Interrupt = interrupt_mark s.place.transfers
mark_of_event s (events.Hands count) = marks.Hands count
mark_of_event s events.Swapper = swap_mark (swap_choice s.place (runners s.point.flat))
mark_of_event s events.Audit = marks.Audit

-- the mark of a line of the schedule; where there is no such line it is over at once
abbrev pub mark_of_line : State → Option Event → Mark
mark_of_line s None = marks.Over
mark_of_line s (Some event) = mark_of_event s event

-- what is still to come of a mark, once a transfer completed
abbrev pub completed : Mark → Mark
completed marks.Interrupt = marks.Over
completed mark = mark

-- once the hands made so many moves
abbrev pub moved_on : ℕ → Mark → Mark
moved_on made (marks.Hands count) = marks.Hands (count - made)
moved_on made mark = mark

-- once a process came in
abbrev pub brought_in : Mark → Mark
brought_in (marks.BringIn pid) = marks.Over
brought_in mark = mark

-- once a process is out
abbrev pub put_out : Mark → Mark
put_out (marks.PutOut pid) = marks.Over
put_out mark = mark

-- once the numbers were noted
abbrev pub audited : Mark → Mark
audited marks.Audit = marks.Over
audited mark = mark

-- Units.

-- the place of an entry in the journal: its length once the entry was added
abbrev pub place_at : State → Entry → ℕ
place_at s e = length (append s.journal e)

-- the placement once a process made this step
abbrev pub place_behind : Inputs → State → ℕ → Step → Entry → Placement
place_behind A s pid step e =
    place_step (facts_of A.images) s.point.flat pid (place_at s e) (pages_written s.point.flat pid step) step.change s.place

-- how many instructions are counted after a unit
abbrev pub count_after : State → Entry → ℕ
count_after s (entries.Ran pid n) = s.count + n
count_after s (entries.Call pid number carry r0 r1) = s.count + 1
count_after s (entries.Ended pid status) = s.count + 1
count_after s _ = s.count

-- the last mark after a unit
abbrev pub mark_after : Inputs → State → Entry → Mark
mark_after A s (entries.Event line) = mark_of_line s (slice_get A.lines s.lines)
mark_after A s (entries.Turn pid) = marks.Turn pid s.count
mark_after A s (entries.Hands n) = moved_on n s.mark
mark_after A s entries.Done = completed s.mark
mark_after A s (entries.SwapOut pid) = put_out s.mark
mark_after A s (entries.SwapIn pid) = brought_in s.mark
mark_after A s (entries.Owners free used moving held) = audited s.mark
mark_after A s _ = s.mark

-- the state without its count and its mark, of which only the process that runs is left
abbrev pub snapshot_of : State → Snapshot
snapshot_of s = record {
  point = s.point;
  place = s.place;
  holdings = s.holdings;
  lines = s.lines;
  running = running s.mark;
  journal = s.journal;
}

-- the state with this snapshot, count and mark
abbrev pub state_with : Snapshot → ℕ → Mark → State
state_with x count mark = record {
  point = x.point;
  place = x.place;
  holdings = x.holdings;
  count = count;
  lines = x.lines;
  mark = mark;
  journal = x.journal;
}

-- the state after a unit
unfoldable pub after : Inputs → State → Entry → State
after A s e = state_with (snapshot_after A (snapshot_of s) e) (count_after s e) (mark_after A s e)

-- the state after these units, in order
unfoldable pub state_after : Inputs → State → List Entry → State
state_after A s [] = s
state_after A s (u ∷ us) = state_after A (after A s u) us

-- Of a journal.

-- the state at which a journal leaves a run that starts with these holdings
abbrev pub state_at : Inputs → Holdings → List Entry → State
state_at A hs journal = state_after A (start A hs) (units_of journal)

-- the placement after a journal
abbrev pub placed : Inputs → List Entry → Placement
placed A journal = (state_at A (or_before [] (start_held A)) journal).place

-- Of the flat machine.

-- each of these units is no flat entry, or an entry of the flat machine's run
abbrev pub AllFlat : Inputs → State → List Entry → Type 0
AllFlat A s [] = Unit {0}
AllFlat A s (u ∷ us) = (flat_entry A s.point u ≡ Some (after A s u).point) × AllFlat A (after A s u) us
