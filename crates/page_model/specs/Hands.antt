-- The clock with two hands: one move of both, over pages that are locked (the 4.3BSD book).
use Rattle.std.specs.Prelude.{ℕ, zero, suc, ◌/◌, nat_lt, Bool, true, false, List, length, Option, Some, None}
use Rattle.vm_facts.specs.declared.page.Page.{Page}
use Rattle.vm_facts.specs.declared.page.PageState.{PageState}
use Rattle.vm_facts.specs.declared.page.PageState.TheVariants.{Valid, Invalid}
use Rattle.flat_state.specs.PageNames.{is_among}
use Rattle.page_model.specs.Frames.{next_frame}
use Rattle.vm_facts.specs.Lists.{times}
use Rattle.page_model.specs.Placement.{Placement, state_of, mark_of, is_dirty, page_of}
use Rattle.page_model.specs.Moves.{turn, launch_run, retire}
use Rattle.page_model.specs.Runs.{Run, run_out, pages_of_run}

-- The front hand makes a valid page invalid, unless it is locked.
abbrev pub expire_to : Placement → Page → PageState → Placement
expire_to p q (Valid f) = turn p q (Invalid f) (mark_of p q) p.free p.transfers
expire_to p q _ = p

-- the front hand's part, by whether the page is locked: a locked one stays as it is
abbrev pub expire_if : Placement → Page → Bool → Placement
expire_if p q true = p
expire_if p q false = expire_to p q (state_of p q)

-- the front hand's part, by the page that its frame holds; without one nothing changes
abbrev pub expire_of : Placement → List Page → Option Page → Placement
expire_of p locked None = p
expire_of p locked (Some q) = expire_if p q (is_among q locked)

-- the front hand's part of a move, with the pages that are locked
abbrev pub expire : Placement → List Page → Placement
expire p locked = expire_of p locked (page_of p p.front)

-- a page is taken where it is invalid, its frame is off the free list, and it isn't locked
abbrev pub taken_by : Page → PageState → ℕ → Bool → Option Page
taken_by q (Invalid f) zero false = Some q
taken_by q _ _ _ = None

-- what is taken at the back hand, by the page that its frame holds; without one nothing is
abbrev pub taken_of : Placement → List Page → Option Page → Option Page
taken_of p locked None = None
taken_of p locked (Some q) = taken_by q (state_of p q) (times p.back p.free) (is_among q locked)

-- The page that the back hand takes: the one in the frame at the hand, where it is invalid off the free list and isn't locked.
abbrev pub taken : Placement → List Page → Option Page
taken p locked = taken_of p locked (page_of p p.back)

-- a taken page that is dirty has the write of its run begun; the frame of a clean one goes to the tail
abbrev pub sweep_by : Placement → List Page → Page → Bool → Placement
sweep_by p locked q true = launch_run p (pages_of_run q (run_out p locked q))
sweep_by p locked q false = retire p q

-- the back hand's part, by the page that it takes; without one nothing changes
abbrev pub sweep_taken : Placement → List Page → Option Page → Placement
sweep_taken p locked None = p
sweep_taken p locked (Some q) = sweep_by p locked q (is_dirty p q)

-- the back hand's part of a move, with the pages that are locked
abbrev pub sweep : Placement → List Page → Placement
sweep p locked = sweep_taken p locked (taken p locked)

-- a taken page that is dirty is written, with the run that goes along; a clean one isn't
abbrev pub write_by : Placement → List Page → Page → Bool → Option (Page × Run)
write_by p locked q true = Some (q, run_out p locked q)
write_by p locked q false = None

-- the write that begins, by the page that the back hand takes; without one none begins
abbrev pub write_taken : Placement → List Page → Option Page → Option (Page × Run)
write_taken p locked None = None
write_taken p locked (Some q) = write_by p locked q (is_dirty p q)

-- the write that the back hand begins, or none
abbrev pub back_run : Placement → List Page → Option (Page × Run)
back_run p locked = write_taken p locked (taken p locked)

-- the write that a move begins once the front hand has made its page invalid, or none
abbrev pub hand_run : Placement → List Page → Option (Page × Run)
hand_run p locked = back_run (expire p locked) locked

-- both hands go on by one frame, after the last to the first
abbrev pub advance : Placement → Placement
advance p = record p { front = next_frame (length p.holds) p.front; back = next_frame (length p.holds) p.back }

-- One move of both hands: front first, then back, then both go on by one frame.
abbrev pub hand_move : Placement → List Page → Placement
hand_move p locked = advance (sweep (expire p locked) locked)

-- so many moves of both hands, one after another, with the same locked pages
abbrev pub hand_moves : Placement → List Page → ℕ → Placement
hand_moves p locked zero = p
hand_moves p locked (suc n) = hand_moves (hand_move p locked) locked n

-- Moves are made only while fewer than a quarter of the frames are free.
abbrev pub wants_moves : Placement → Bool
wants_moves p = nat_lt (length p.free) (length p.holds / 4)
