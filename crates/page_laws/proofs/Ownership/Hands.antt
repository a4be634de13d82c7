-- A move of the hands keeps the ownership of frames.
use Rattle.std.proofs.Common.{ℕ, zero, suc, ◌&&◌, not, List}
use Rattle.vm_facts.specs.declared.page.Page.{Page}
use Rattle.page_model.specs.PageNames.{number_of, beside, is_among}
use Rattle.page_model.specs.Placement.{Placement, mark_of, is_dirty}
use Rattle.page_model.specs.Runs.{run_out, pages_of_run, goes_along, is_idle, is_near, most_written}
use Rattle.page_model.specs.Hands.{expire, sweep, advance, hand_move, hand_moves}
use Rattle.page_model.specs.Ownership.{OwnsFrames, IsListed}
use Rattle.page_model.specs.Conditions.{EachPage, HasSeat}
use Rattle.page_laws.proofs.Ownership.Pages.{expire_owner, retire_owner}
use Rattle.page_laws.proofs.Lists.Runs.{run_each, run_both_in, run_apart}
use Rattle.std.proofs.lemmas.Bool.{and_parts}
use Rattle.page_laws.proofs.Ownership.Runs.{idle_seat, launch_run_owner, clean_unmarked}
use Rattle.page_laws.proofs.Moves.Taken.{taken_seat, sweep_cases}

-- the pages of the run hold frames off the free list
pub run_out_seats : (p : Placement) (locked : List Page) (q : Page) → HasSeat p q → EachPage (HasSeat p) (pages_of_run q (run_out p locked q))
run_out_seats p locked q c = run_each (HasSeat p) (λ w. goes_along p locked (beside q w) && is_near q w) q (run_out p locked q)
    (run_both_in (λ w. goes_along p locked (beside q w) && is_near q w) (number_of q) most_written) c
    (λ w e. idle_seat p (beside q w)
    (and_parts (is_idle p (beside q w)) (is_dirty p (beside q w) && not (is_among (beside q w) locked)) (and_parts (goes_along p locked (beside q w)) (is_near q w) e).0).0)

pub sweep_owner : (p : Placement) (locked : List Page) → OwnsFrames p → OwnsFrames (sweep p locked)
sweep_owner p locked o = sweep_cases OwnsFrames p locked o
    (λ q t e. launch_run_owner p (pages_of_run q (run_out p locked q)) o (run_out_seats p locked q (taken_seat p locked q o t)) (run_apart q (run_out p locked q)))
    (λ q t e. let h : HasSeat p q = taken_seat p locked q o t in retire_owner p q h.frame o h.seat (clean_unmarked q (mark_of p q) e))

-- where the hands stand says nothing of owners
pub advance_owner : (p : Placement) → OwnsFrames p → OwnsFrames (advance p)
advance_owner p o = record {
  once = o.once;
  frames = o.frames;
  names = o.names;
  named = o.named;
  listed = λ f q b h. let k : IsListed p f q = o.listed f q b h in record { state = k.state; clean = k.clean };
  moves = o.moves;
  dirty = o.dirty;
}

pub move_owner : (p : Placement) (locked : List Page) → OwnsFrames p → OwnsFrames (hand_move p locked)
move_owner p locked o = advance_owner (sweep (expire p locked) locked) (sweep_owner (expire p locked) locked (expire_owner p locked o))

pub moves_owner : (n : ℕ) (p : Placement) (locked : List Page) → OwnsFrames p → OwnsFrames (hand_moves p locked n)
moves_owner zero p locked o = o
moves_owner (suc n) p locked o = moves_owner n (hand_move p locked) locked (move_owner p locked o)
