-- How far serving is from its end: numbers that fall with each unit.
use Rattle.std.specs.Prelude.{◌≡◌, ℕ, zero, suc, ◌+◌, ◌*◌, ◌/◌, ◌<◌, ◌≤◌, Bool, true, false, cond, not, ◌&&◌, List, [], ◌∷◌, length, Option, Some, None}
use Rattle.vm_facts.specs.declared.page.Page.{Page}
use Rattle.vm_facts.specs.declared.page.PageState.{PageState}
use Rattle.vm_facts.specs.declared.page.PageState.TheVariants.{Unfilled, Valid, Invalid, Coming, Going, OnSwap}
use Rattle.vm_facts.specs.declared.entry.Entry.{Entry}
use Rattle.page_model.specs.Pages.{Filling, Zeros, OfImage, is_valid}
use Rattle.flat_state.specs.PageNames.{is_among}
use Rattle.page_model.specs.Frames.{next_frame}
use Rattle.page_model.specs.Placement.{Placement, Transfer, Part, Errand, Writes, slots_of, state_of, filling_of, page_of}
use Rattle.page_model.specs.Serve.{Forces, Serves}
use Rattle.page_model.specs.Conditions.{Spares}
use Rattle.page_model.specs.Ownership.{OwnsFrames}

-- the page's bytes are in its frame, and it has to be reclaimed before it is used
abbrev pub is_invalid : PageState → Bool
is_invalid (Invalid f) = true
is_invalid _ = false

-- the frame holds a page that isn't locked
abbrev pub is_open_page : List Page → Option Page → Bool
is_open_page locked None = false
is_open_page locked (Some q) = not (is_among q locked)

-- this frame holds a page that isn't locked
abbrev pub is_open : Placement → List Page → ℕ → Bool
is_open p locked f = is_open_page locked (page_of p f)

-- the back hand can use the frame
abbrev pub is_usable_page : Placement → List Page → Option Page → Bool
is_usable_page p locked None = false
is_usable_page p locked (Some q) = is_invalid (state_of p q) && not (is_among q locked)

-- the page of this frame is Invalid and not locked, so the back hand can use the frame
abbrev pub is_usable : Placement → List Page → ℕ → Bool
is_usable p locked f = is_usable_page p locked (page_of p f)

-- How many moves of the back hand, from a frame on, till it is at one that it can use: one that it can use now, or,
-- from the front hand on, one that the front hand makes so. The front hand is so many frames ahead; the search ends
-- after a number of frames.
abbrev pub reach : Placement → List Page → ℕ → ℕ → ℕ → ℕ
reach p locked zero ahead f = 0
reach p locked (suc frames) zero f = cond (is_open p locked f) 0 (1 + reach p locked frames zero (next_frame (length p.holds) f))
reach p locked (suc frames) (suc ahead) f = cond (is_usable p locked f) 0 (1 + reach p locked frames ahead (next_frame (length p.holds) f))

-- the frame so many frames on from this one, of n
abbrev pub walk : ℕ → ℕ → ℕ → ℕ
walk n zero f = f
walk n (suc k) f = walk n k (next_frame n f)

-- the hands are at frames, the front hand a quarter of the frames ahead
pub record HandsStand (p : Placement) : Type 0 where
  pub low : 0 < p.back
  pub high : p.back ≤ length p.holds
  pub ahead : p.front ≡ walk (length p.holds) (length p.holds / 4) p.back

-- how far a free frame is while this transfer is the oldest: one unit for a write, else all that may be left to go
abbrev pub far_parts : Placement → Errand → List Part → ℕ → ℕ
far_parts p Writes (x ∷ xs) more = 1
far_parts p e xs more = length p.holds + 4 + more

-- how far a free frame is where none is free: the back hand's way, or what the oldest transfer leaves to go
abbrev pub far_transfers : Placement → List Page → List Transfer → ℕ
far_transfers p locked [] = 2 + reach p locked (length p.holds) (length p.holds / 4) p.back
far_transfers p locked (t ∷ ts) = far_parts p t.errand t.parts (length ts)

-- how far a free frame is, by the free list: no unit where one is there
abbrev pub far_by : Placement → List Page → List ℕ → ℕ
far_by p locked [] = far_transfers p locked p.transfers
far_by p locked (f ∷ fs) = 0

-- how far a free frame is: no further than the hands have to go, once what is in flight has landed
abbrev pub far : Placement → List Page → ℕ
far p locked = far_by p locked p.free

-- how far a page that was never filled is from being valid, by what fills it
abbrev pub rank_unfilled : Placement → List Page → Filling → ℕ
rank_unfilled p locked Zeros = 1 + far p locked
rank_unfilled p locked OfImage = 4 + length p.transfers + 2 * far p locked

-- how far a page is from being valid, by what fills it and its state
abbrev pub rank_by : Placement → List Page → Filling → PageState → ℕ
rank_by p locked x (Valid f) = 0
rank_by p locked x (Invalid f) = 1
rank_by p locked x (Coming f) = 2 + length p.transfers
rank_by p locked x (Going f) = 2 + length p.transfers
rank_by p locked x Unfilled = rank_unfilled p locked x
rank_by p locked x OnSwap = 4 + length p.transfers + 2 * far p locked

-- how far a page is from being valid
abbrev pub rank : Placement → List Page → Page → ℕ
rank p locked q = rank_by p locked (filling_of p q) (state_of p q)

-- enough frames lie ahead of the front hand for all that is locked
pub record HasRoom (p : Placement) (locked : List Page) : Type 0 where
  pub quarter : 0 < length p.holds / 4
  pub rest : length locked + length p.holds / 4 < length p.holds

-- Wholes.

-- forcing as a whole: its units, and the placement that they lead to, in which a frame is free
pub record EndsForcing (p : Placement) (locked : List Page) : Type 0 where
  pub units : List Entry
  pub last : Placement
  pub leads : Forces units p locked last
  pub free : 0 < length last.free
  pub few : length units ≤ far p locked
  pub owner : OwnsFrames last
  pub hands : HandsStand last
  pub frames : length last.holds ≡ length p.holds
  pub spares : Spares p last locked

-- serving a page as a whole: its units, and the placement that they lead to, in which the page is valid
pub record EndsServing (p : Placement) (locked : List Page) (q : Page) : Type 0 where
  pub units : List Entry
  pub last : Placement
  pub leads : Serves units p locked q true last
  pub valid : is_valid (state_of last q) ≡ true
  pub few : length units ≤ rank p locked q
  pub owner : OwnsFrames last
  pub hands : HandsStand last
  pub frames : length last.holds ≡ length p.holds
  pub sizes : (w : Page) → length (slots_of last w) ≡ length (slots_of p w)
  pub spares : Spares p last locked
