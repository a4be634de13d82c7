-- The snapshot of a state goes on by itself: a unit leads it where it leads the state's.
use Rattle.std.proofs.Common.{◌≡◌, ℕ, List, [], ◌∷◌, Option, Some, None, slice_get, refl, ap}
use Rattle.vm_facts.specs.declared.event.Event.{Event}
use Rattle.vm_facts.specs.declared.event.Event.TheVariants as events
use Rattle.vm_facts.specs.declared.entry.Entry.{Entry}
use Rattle.vm_facts.specs.declared.entry.Entry.TheVariants.{Event as Line, Turn, Ran, Out, Grew, Call, Refused, Sleeps, Ended, Zero, Get, Copy, Reclaim, Hands, Put, Done, SwapOut, SwapIn, Owners}
use Rattle.swap_book.specs.Holdings.{Holdings}
use Rattle.flat_state.specs.Flat.{Inputs}
use Rattle.kernel_model.specs.Placement.{Transfer}
use Rattle.kernel_model.specs.Swapper.{Choice, In as Inward, Out as Outward, Nothing, swap_choice}
use Rattle.run_model.specs.declared.mark.Mark.{Mark}
use Rattle.run_model.specs.declared.mark.Mark.TheVariants as marks
use Rattle.run_model.specs.Snapshot.{Snapshot, start_snapshot, dispatched_by, snapshot_after}
use Rattle.run_model.specs.State.{State, start, runners}
use Rattle.run_model.specs.Wanted.{running}
use Rattle.run_model.specs.After.{interrupt_mark, swap_mark, mark_of_event, mark_of_line, completed, moved_on, brought_in, put_out, audited, snapshot_of, after}

-- no process runs under an interrupt nor in the swapper's turn

interrupt_runs : (ts : List Transfer) → running (interrupt_mark ts) ≡ None
interrupt_runs [] = refl
interrupt_runs (t ∷ ts) = refl

swapper_runs : (choice : Choice) → running (swap_mark choice) ≡ None
swapper_runs (Inward pid) = refl
swapper_runs (Outward pid) = refl
swapper_runs Nothing = refl

event_runs : (s : State) (event : Event) → running (mark_of_event s event) ≡ dispatched_by (Some event)
event_runs s (events.Dispatch pid count) = refl
event_runs s events.Interrupt = interrupt_runs s.place.transfers
event_runs s (events.Hands count) = refl
event_runs s events.Swapper = swapper_runs (swap_choice s.place (runners s.point.flat))
event_runs s events.Audit = refl

line_runs : (s : State) (line : Option Event) → running (mark_of_line s line) ≡ dispatched_by line
line_runs s None = refl
line_runs s (Some event) = event_runs s event

-- what is done of a mark leaves who runs under it

completed_runs : (m : Mark) → running (completed m) ≡ running m
completed_runs marks.Over = refl
completed_runs (marks.Dispatch a b c) = refl
completed_runs marks.Interrupt = refl
completed_runs (marks.Hands a) = refl
completed_runs (marks.BringIn a) = refl
completed_runs (marks.PutOut a) = refl
completed_runs marks.Audit = refl
completed_runs (marks.Turn a b) = refl

moved_runs : (n : ℕ) (m : Mark) → running (moved_on n m) ≡ running m
moved_runs n marks.Over = refl
moved_runs n (marks.Dispatch a b c) = refl
moved_runs n marks.Interrupt = refl
moved_runs n (marks.Hands a) = refl
moved_runs n (marks.BringIn a) = refl
moved_runs n (marks.PutOut a) = refl
moved_runs n marks.Audit = refl
moved_runs n (marks.Turn a b) = refl

brought_runs : (m : Mark) → running (brought_in m) ≡ running m
brought_runs marks.Over = refl
brought_runs (marks.Dispatch a b c) = refl
brought_runs marks.Interrupt = refl
brought_runs (marks.Hands a) = refl
brought_runs (marks.BringIn a) = refl
brought_runs (marks.PutOut a) = refl
brought_runs marks.Audit = refl
brought_runs (marks.Turn a b) = refl

put_runs : (m : Mark) → running (put_out m) ≡ running m
put_runs marks.Over = refl
put_runs (marks.Dispatch a b c) = refl
put_runs marks.Interrupt = refl
put_runs (marks.Hands a) = refl
put_runs (marks.BringIn a) = refl
put_runs (marks.PutOut a) = refl
put_runs marks.Audit = refl
put_runs (marks.Turn a b) = refl

audited_runs : (m : Mark) → running (audited m) ≡ running m
audited_runs marks.Over = refl
audited_runs (marks.Dispatch a b c) = refl
audited_runs marks.Interrupt = refl
audited_runs (marks.Hands a) = refl
audited_runs (marks.BringIn a) = refl
audited_runs (marks.PutOut a) = refl
audited_runs marks.Audit = refl
audited_runs (marks.Turn a b) = refl

abbrev under : Snapshot → Option ℕ → Snapshot
under x pid = record x { running = pid }

pub after_snapshot : (A : Inputs) (s : State) (u : Entry) → snapshot_of (after A s u) ≡ snapshot_after A (snapshot_of s) u
unfolding after
after_snapshot A s (Line a) = ap (under (snapshot_after A (snapshot_of s) (Line a))) (line_runs s (slice_get A.lines s.lines))
after_snapshot A s (Turn a) = refl
after_snapshot A s (Ran a b) = refl
after_snapshot A s (Out a b) = refl
after_snapshot A s (Grew a b) = refl
after_snapshot A s (Call a b c d e) = refl
after_snapshot A s (Refused a) = refl
after_snapshot A s (Sleeps a) = refl
after_snapshot A s (Ended a b) = refl
after_snapshot A s (Zero a) = refl
after_snapshot A s (Get a b c) = refl
after_snapshot A s (Copy a) = refl
after_snapshot A s (Reclaim a) = refl
after_snapshot A s (Hands a) = ap (under (snapshot_after A (snapshot_of s) (Hands a))) (moved_runs a s.mark)
after_snapshot A s (Put a b) = refl
after_snapshot A s Done = ap (under (snapshot_after A (snapshot_of s) Done)) (completed_runs s.mark)
after_snapshot A s (SwapOut a) = ap (under (snapshot_after A (snapshot_of s) (SwapOut a))) (put_runs s.mark)
after_snapshot A s (SwapIn a) = ap (under (snapshot_after A (snapshot_of s) (SwapIn a))) (brought_runs s.mark)
after_snapshot A s (Owners a b c d) = ap (under (snapshot_after A (snapshot_of s) (Owners a b c d))) (audited_runs s.mark)

pub start_is : (A : Inputs) (hs : Holdings) → snapshot_of (start A hs) ≡ start_snapshot A hs
start_is A hs = refl
