-- Runs, said of their pages: which neighbours of a page are read or written with it.
use Rattle.std.specs.Prelude.{◌≡◌, ◌≢◌, ◌⊎◌, ℕ, ◌+◌, ◌-◌, ◌<◌, ◌≤◌, true, false, List, length}
use Rattle.vm_facts.specs.declared.page.Page.{Page}
use Rattle.vm_facts.specs.declared.page.PageState.TheVariants.{Valid, Invalid, Unfilled, OnSwap}
use Rattle.page_model.specs.PageNames.{beside, is_among}
use Rattle.vm_facts.specs.Lists.{times}
use Rattle.page_model.specs.Placement.{Placement, slots_of, state_of, is_dirty}
use Rattle.page_model.specs.Runs.{Run, chunk_of, desired_free}

-- A run around page v: it has the page, and all others of it join; those above come before those below; and none could
-- be added, since one more page is too many, or the next one on each side doesn't join.
pub record IsWidestRun (Joins MayBe : ℕ → Type 0) (v : ℕ) (r : Run) : Type 0 where
  pub has : (r.lo ≤ v) × (v < r.lo + r.n)
  pub joins : (w : ℕ) → r.lo ≤ w → w < r.lo + r.n → w ≢ v → Joins w
  pub may_be : MayBe r.n
  pub above_first : r.lo < v → Joins (r.lo + r.n) → ⊥
  pub whole : (MayBe (r.n + 1) → ⊥) ⊎ ((Joins (r.lo + r.n) → ⊥) × (0 < r.lo → Joins (r.lo - 1) → ⊥))

-- A run from page v upwards: all others of it join, and none could be added.
pub record IsLongestRun (Joins MayBe : ℕ → Type 0) (v : ℕ) (r : Run) : Type 0 where
  pub from : r.lo ≡ v
  pub some : 0 < r.n
  pub joins : (w : ℕ) → v < w → w < v + r.n → Joins w
  pub may_be : MayBe r.n
  pub whole : (MayBe (r.n + 1) → ⊥) ⊎ (Joins (v + r.n) → ⊥)

-- Reading.

-- so many pages may be read at once: at most `most`; and where they are several, as many frames are free after
-- them as are desired
abbrev pub MayRead : Placement → ℕ → ℕ → Type 0
MayRead p most n = (n ≤ most) × ((n ≡ 1) ⊎ (n + desired_free p ≤ length p.free))

-- page w of the segment is on swap, in the chunk or the piece of this page
pub record IsSwappedBeside (p : Placement) (q : Page) (w : ℕ) : Type 0 where
  pub state : state_of p (beside q w) ≡ OnSwap
  pub near : chunk_of (beside q w) ≡ chunk_of q

-- page w of the segment is there, and unfilled
pub record IsUnfilledBeside (p : Placement) (q : Page) (w : ℕ) : Type 0 where
  pub there : w < length (slots_of p q)
  pub state : state_of p (beside q w) ≡ Unfilled

-- Writing.

-- page w of the segment is invalid in a frame off the free list, dirty and not locked, in the same chunk or piece
pub record IsIdleBeside (p : Placement) (locked : List Page) (q : Page) (w : ℕ) : Type 0 where
  pub frame : ℕ
  pub state : state_of p (beside q w) ≡ Invalid frame
  pub off : times frame p.free ≡ 0
  pub dirty : is_dirty p (beside q w) ≡ true
  pub unlocked : is_among (beside q w) locked ≡ false
  pub near : chunk_of (beside q w) ≡ chunk_of q

-- page w of the segment is in a frame off the free list, valid or not, and dirty, in the same chunk or piece
pub record IsSeatedBeside (p : Placement) (q : Page) (w : ℕ) : Type 0 where
  pub frame : ℕ
  pub seat : (state_of p (beside q w) ≡ Valid frame) ⊎ ((state_of p (beside q w) ≡ Invalid frame) × (times frame p.free ≡ 0))
  pub dirty : is_dirty p (beside q w) ≡ true
  pub near : chunk_of (beside q w) ≡ chunk_of q
