-- Runs: which neighbours of a page are read or written with it.
use Rattle.std.specs.Prelude.{ℕ, zero, suc, ◌+◌, ◌-◌, ◌/◌, ◌==◌, min, max, nat_lt, Bool, true, false, cond, not, ◌&&◌, List, length}
use Rattle.vm_facts.specs.declared.page.Page.{Page}
use Rattle.vm_facts.specs.declared.page.Page.TheVariants.{Data, Stack, Text}
use Rattle.vm_facts.specs.declared.page.PageState.{PageState}
use Rattle.vm_facts.specs.declared.page.PageState.TheVariants.{Unfilled, Valid, Invalid, OnSwap}
use Rattle.swap_book.specs.Chunks.{spot, text_spot}
use Rattle.flat_state.specs.PageNames.{number_of, beside, pages_from, is_among}
use Rattle.page_model.specs.Pages.{is_on_swap, is_unfilled}
use Rattle.vm_facts.specs.Lists.{times}
use Rattle.page_model.specs.Placement.{Placement, state_of, is_dirty, slots_of}

-- a run: the number of its lowest page, and how many pages it has
pub record Run : Type 0 where
  pub lo : ℕ
  pub n : ℕ

-- the pages of a run, rising
abbrev pub pages_of_run : Page → Run → List Page
pages_of_run q r = pages_from q r.lo r.n

-- how many pages above page v pass in turn, at most so many
abbrev pub passing_above : (ℕ → Bool) → ℕ → ℕ → ℕ
passing_above passes v zero = 0
passing_above passes v (suc room) = cond (passes (v + 1)) (1 + passing_above passes (v + 1) room) 0

-- how many pages below page v pass in turn, at most so many
abbrev pub passing_below : (ℕ → Bool) → ℕ → ℕ → ℕ
passing_below passes zero room = 0
passing_below passes (suc v) zero = 0
passing_below passes (suc v) (suc room) = cond (passes v) (1 + passing_below passes v room) 0

-- the page and its neighbours that pass, those above first, at most `most` pages in all
abbrev pub run_both : (ℕ → Bool) → ℕ → ℕ → Run
run_both passes v most =
    let above = passing_above passes v (most - 1) in
    let below = passing_below passes v (most - 1 - above) in
    record { lo = v - below; n = below + 1 + above }

-- the page and those above it that pass in turn, at most `most` pages in all
abbrev pub run_up : (ℕ → Bool) → ℕ → ℕ → Run
run_up passes v most = record { lo = v; n = 1 + passing_above passes v (most - 1) }

-- the page alone
abbrev pub run_alone : Page → Run
run_alone q = record { lo = number_of q; n = 1 }

-- the chunk of a data or stack page, or the piece of a text page
abbrev pub chunk_of : Page → ℕ
chunk_of (Data sid v) = (spot v false).0
chunk_of (Stack sid v) = (spot v true).0
chunk_of (Text image v) = (text_spot v).0

-- page w of the segment is in the same chunk as the page, or of text in the same piece
abbrev pub is_near : Page → ℕ → Bool
is_near q w = chunk_of q == chunk_of (beside q w)

-- Reading.

-- how many frames are kept free of neighbours
abbrev pub desired_free : Placement → ℕ
desired_free p = length p.holds / 8

-- how many frames a read may take
abbrev pub spare_frames : Placement → ℕ
spare_frames p = max 1 (length p.free - desired_free p)

-- a neighbour that comes in from swap with a page
abbrev pub comes_from_swap : Placement → Page → ℕ → Bool
comes_from_swap p q w = is_on_swap (state_of p (beside q w)) && is_near q w

-- a neighbour that comes in from the file with a text page
abbrev pub comes_from_file : Placement → Page → ℕ → Bool
comes_from_file p q w = nat_lt w (length (slots_of p q)) && is_unfilled (state_of p (beside q w))

-- the run of a read, by the state of the page and how many frames it may take
abbrev pub run_in_by : Placement → Page → PageState → ℕ → Run
run_in_by p (Text image v) OnSwap spare = run_up (comes_from_swap p (Text image v)) v (min 2 spare)
run_in_by p (Text image v) Unfilled spare = run_up (comes_from_file p (Text image v)) v (min 2 spare)
run_in_by p (Data sid v) OnSwap spare = run_both (comes_from_swap p (Data sid v)) v (min 4 spare)
run_in_by p (Stack sid v) OnSwap spare = run_both (comes_from_swap p (Stack sid v)) v (min 4 spare)
run_in_by p q _ spare = run_alone q

-- the run of a read: of data and stack at most 4 pages of one chunk, of text at most 2, and of a data page from
-- the image the page alone
abbrev pub run_in : Placement → Page → Run
run_in p q = run_in_by p q (state_of p q) (spare_frames p)

-- Writing.

-- the pages of one write at most
abbrev pub most_written : ℕ
most_written = 16

-- a page that the back hand takes along: invalid in a frame off the free list
abbrev pub is_idle_by : Placement → PageState → Bool
is_idle_by p (Invalid f) = times f p.free == 0
is_idle_by p _ = false

-- the page is invalid, in a frame off the free list
abbrev pub is_idle : Placement → Page → Bool
is_idle p q = is_idle_by p (state_of p q)

-- a page that the back hand writes along with another: invalid off the free list, dirty, and not locked
abbrev pub goes_along : Placement → List Page → Page → Bool
goes_along p locked r = is_idle p r && (is_dirty p r && not (is_among r locked))

-- the run of a write that the back hand begins
abbrev pub run_out : Placement → List Page → Page → Run
run_out p locked q = run_both (λ w. goes_along p locked (beside q w) && is_near q w) (number_of q) most_written

-- a page in a frame off the free list, usable or not
abbrev pub is_seated_by : Placement → PageState → Bool
is_seated_by p (Valid f) = true
is_seated_by p (Invalid f) = times f p.free == 0
is_seated_by p _ = false

-- the page is valid, or invalid in a frame off the free list
abbrev pub is_seated : Placement → Page → Bool
is_seated p q = is_seated_by p (state_of p q)

-- the run of a `Put`, by whether its page is dirty
abbrev pub run_put_by : Placement → Page → Bool → Run
run_put_by p q true = run_up (λ w. is_seated p (beside q w) && (is_dirty p (beside q w) && is_near q w)) (number_of q) most_written
run_put_by p q false = run_alone q

-- the run of a `Put`: upwards only, and of a clean page the page alone
abbrev pub run_put : Placement → Page → Run
run_put p q = run_put_by p q (is_dirty p q)
