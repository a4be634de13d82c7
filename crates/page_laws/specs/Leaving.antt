-- The ways in which a page may leave its frame: taken, cut off, or given up with its space.
use Rattle.std.specs.Prelude.{◌≡◌, ◌⊎◌, ℕ, ◌<◌, ◌≤◌, true, false, Bool, Some, None}
use Rattle.vm_facts.specs.declared.page.Page.{Page}
use Rattle.vm_facts.specs.declared.page.Page.TheVariants.{Data, Stack, Text}
use Rattle.vm_facts.specs.declared.page.PageState.TheVariants.{Valid, Invalid, Going}
use Rattle.vm_facts.specs.declared.entry.Entry.{Entry}
use Rattle.vm_facts.specs.declared.entry.Entry.TheVariants as entries
use Rattle.page_model.specs.Change.{Change}
use Rattle.page_model.specs.Change.TheVariants as changes
use Rattle.page_model.specs.Pages.{frame_of, left_state}
use Rattle.vm_facts.specs.Lists.{times}
use Rattle.page_model.specs.Placement.{Placement, state_of, mark_of, is_dirty}
use Rattle.vm_facts.specs.Pages.{is_of_space}
use Rattle.page_model.specs.Ownership.{is_marked_dirty}

-- a fill or a read, which takes frames from the free list
abbrev pub takes_frames : Entry → Bool
takes_frames (entries.Zero q) = true
takes_frames (entries.Copy q) = true
takes_frames (entries.Get q lo n) = true
takes_frames e = false

-- A page whose frame is taken: the frame was free and still held the page, which was invalid and, of data or stack, clean.
-- After it the page is on swap alone, or, text that isn't saved, in its file alone.
pub record IsTaken (p r : Placement) (q : Page) (f : ℕ) : Type 0 where
  pub state : state_of p q ≡ Invalid f
  pub free : 0 < times f p.free
  pub clean : is_marked_dirty q (mark_of p q) ≡ false
  pub left : state_of r q ≡ left_state q (mark_of p q)

-- a page of this space that other sizes cut off
abbrev pub IsCutOff : ℕ → ℕ → ℕ → Page → Type 0
IsCutOff sid data_pages stack_pages (Data t v) = (t ≡ sid) × (data_pages ≤ v)
IsCutOff sid data_pages stack_pages (Stack t v) = (t ≡ sid) × (stack_pages ≤ v)
IsCutOff sid data_pages stack_pages (Text image v) = ⊥

-- a page that a change of a process with this space gives up: other sizes cut it off, or its space goes, which wasn't
-- borrowed, with a new image or with the process
abbrev pub IsGivenUp : ℕ → Bool → Change → Page → Type 0
IsGivenUp sid borrowed (changes.Resize data_pages stack_pages) q = IsCutOff sid data_pages stack_pages q
IsGivenUp sid borrowed (changes.Exec image top) q = (borrowed ≡ false) × (is_of_space sid q ≡ true)
IsGivenUp sid borrowed (changes.End status) q = (borrowed ≡ false) × (is_of_space sid q ≡ true)
IsGivenUp sid borrowed _ q = ⊥

-- after an entry the page has its frame still, or the entry took that
abbrev pub StaysOrTaken : Placement → Entry → Placement → Page → ℕ → Type 0
StaysOrTaken p e r q f = (frame_of (state_of r q) ≡ Some f) ⊎ ((takes_frames e ≡ true) × IsTaken p r q f)

-- after a change the page has the frame that it had, if any, or it has none and was given up
abbrev pub StaysOrGivenUp : Placement → ℕ → Bool → Change → Placement → Page → Type 0
StaysOrGivenUp p sid borrowed change r q =
    (frame_of (state_of r q) ≡ frame_of (state_of p q)) ⊎ ((frame_of (state_of r q) ≡ None) × IsGivenUp sid borrowed change q)

-- a data or stack page that is dirty, in this frame
pub record IsDirtyIn (p : Placement) (q : Page) (f : ℕ) : Type 0 where
  pub frame : frame_of (state_of p q) ≡ Some f
  pub dirty : is_marked_dirty q (mark_of p q) ≡ true

-- after a change it is so still, or was given up
abbrev pub DirtyOrGivenUp : ℕ → Bool → Change → Placement → Page → ℕ → Type 0
DirtyOrGivenUp sid borrowed change r q f = IsDirtyIn r q f ⊎ IsGivenUp sid borrowed change q

-- A page that must be written before its frame may be taken: it is dirty, or text that isn't saved, and is in a frame off
-- the free list, usable or not, or on its way to swap from there.
pub record IsUnwritten (p : Placement) (q : Page) (f : ℕ) : Type 0 where
  pub dirty : is_dirty p q ≡ true
  pub held : (state_of p q ≡ Valid f) ⊎ (((state_of p q ≡ Invalid f) × (times f p.free ≡ 0)) ⊎ (state_of p q ≡ Going f))

-- Its write completed: it was on its way to swap, and is clean now, and still in its frame.
pub record IsWritten (p r : Placement) (q : Page) (f : ℕ) : Type 0 where
  pub was : state_of p q ≡ Going f
  pub now : state_of r q ≡ Invalid f
  pub clean : is_dirty r q ≡ false

-- after an entry it must be written still, or its write completed
abbrev pub StaysOrWritten : Placement → Entry → Placement → Page → ℕ → Type 0
StaysOrWritten p e r q f = IsUnwritten r q f ⊎ ((e ≡ entries.Done) × IsWritten p r q f)
