-- Marks that are over, and the pages that are wanted and locked, in states of our own.
use Rattle.std.proofs.Common.{◌≡◌, true, [], ◌∷◌, Some, None, replicate, refl}
use Rattle.vm_facts.specs.declared.event.Event.TheVariants as events
use Rattle.vm_facts.specs.declared.page.Page.TheVariants.{Data}
use Rattle.vm_facts.specs.declared.page.PageState.{PageState}
use Rattle.vm_facts.specs.declared.page.PageState.TheVariants.{Valid, Invalid}
use Rattle.vm_facts.specs.declared.entry.Entry.TheVariants.{Event, Hands, Done, Owners}
use Rattle.flat_state.specs.Flat.{Inputs}
use Rattle.page_model.specs.Pages.{Slot, Zeros}
use Rattle.page_model.specs.Placement.{Placement, Writes, CopyOf}
use Rattle.run_model.specs.declared.mark.Mark.TheVariants as marks
use Rattle.run_model.specs.State.{State, start}
use Rattle.run_model.specs.Wanted.{first_absent, wanted, locked}
use Rattle.run_model.specs.Snapshot.{before_absent}
use Rattle.run_model.specs.After.{after, state_after}

-- a run with no process, over 64 frames
idle : Inputs
idle = record {
  images = [];
  file_numbers = [];
  first = [];
  lines = events.Interrupt ∷ events.Hands 3 ∷ events.Audit ∷ events.Dispatch 1 5 ∷ [];
  frames = 64;
  swap_blocks = 256;
  limit = 10;
}

-- nothing is in flight, so nothing is to come of an interrupt
interrupt_over : (state_after idle (start idle []) (Event 1 ∷ [])).mark ≡ marks.Over
unfolding idle after state_after
interrupt_over = refl

-- of three moves one is made
two_moves_left : (state_after idle (start idle []) (Event 1 ∷ Event 2 ∷ Hands 1 ∷ [])).mark ≡ marks.Hands 2
unfolding idle after state_after
two_moves_left = refl

-- the numbers are noted once
audit_over : (state_after idle (start idle []) (Event 1 ∷ Event 2 ∷ Event 3 ∷ Owners 64 0 0 0 ∷ [])).mark ≡ marks.Over
unfolding idle after state_after
audit_over = refl

-- neighbouring moves are one entry, and lines are counted
moves_joined : (state_after idle (start idle []) (Event 1 ∷ Event 2 ∷ Hands 1 ∷ Hands 1 ∷ [])).journal ≡ Event 1 ∷ Event 2 ∷ Hands 2 ∷ []
unfolding idle after state_after
moves_joined = refl

slot : PageState → Slot
slot s = record { state = s; mark = true; filling = Zeros }

-- a space whose data pages 0 and 2 are valid, and whose page 1 isn't
some_valid : Placement
some_valid = record {
  spaces = record { sid = 1; image = 1; data_pages = slot (Valid 1) ∷ slot (Invalid 2) ∷ slot (Valid 3) ∷ []; stack_pages = [] } ∷ [];
  texts = [];
  holds = Some (Data 1 0) ∷ Some (Data 1 1) ∷ Some (Data 1 2) ∷ replicate 61 None;
  free = [];
  transfers = [];
  front = 17;
  back = 1;
  residents = [];
  due = CopyOf (Data 2 1) (Data 1 1) ∷ [];
}

first_is_wanted : first_absent some_valid (Data 1 2 ∷ Data 1 1 ∷ Data 1 0 ∷ []) ≡ Some (Data 1 1)
unfolding some_valid slot
first_is_wanted = refl

those_before_are_locked : before_absent some_valid (Data 1 2 ∷ Data 1 1 ∷ Data 1 0 ∷ []) ≡ Data 1 2 ∷ []
unfolding some_valid slot
those_before_are_locked = refl

-- while a child's page is due, the parent's page is wanted and locked
parent_wanted : wanted idle (record (start idle []) { place = some_valid }) ≡ Some (Data 1 1)
unfolding idle some_valid slot
parent_wanted = refl

parent_locked : locked idle (record (start idle []) { place = some_valid }) ≡ Data 1 1 ∷ []
unfolding idle some_valid slot
parent_locked = refl

-- a write of that page in flight
flying : State
flying = record (start idle []) {
  place = record some_valid { transfers = record { errand = Writes; parts = record { page = Data 1 1; frame = 2 } ∷ [] } ∷ [] };
}

-- an interrupt completes what was in flight at its line, and then nothing is to come of it
interrupt_due : (state_after idle flying (Event 1 ∷ [])).mark ≡ marks.Interrupt
unfolding idle some_valid slot flying after state_after
interrupt_due = refl

interrupt_made : (state_after idle flying (Event 1 ∷ Done ∷ [])).mark ≡ marks.Over
unfolding idle some_valid slot flying after state_after
interrupt_made = refl
