-- Names of pages, and the lists that hold each page's state, mark and filling.
use Rattle.std.specs.Prelude.{ℕ, zero, suc, ◌==◌, Bool, true, false, cond, not, List, [], ◌∷◌, Option, Some, None}
use Rattle.vm_facts.specs.declared.page.Page.{Page}
use Rattle.vm_facts.specs.declared.page.Page.TheVariants.{Data, Stack, Text}
use Rattle.vm_facts.specs.declared.page.PageState.{PageState}
use Rattle.vm_facts.specs.declared.page.PageState.TheVariants.{Unfilled, Valid, Invalid, Coming, Going, OnSwap}

-- What is said of a page.

-- what an unfilled page is filled with: zeros, or its page of the image's file
pub data Filling : Type 0 where
  Zeros : Filling
  OfImage : Filling

-- the mark of a data or stack page that has to be written before its frame is given away
abbrev pub dirty_mark : Bool
dirty_mark = true

-- the mark of a data or stack page that doesn't have to be written
abbrev pub clean_mark : Bool
clean_mark = false

-- the mark of a text page that is on swap
abbrev pub saved_mark : Bool
saved_mark = true

-- the mark of a text page that isn't on swap
abbrev pub unsaved_mark : Bool
unsaved_mark = false

-- the mark of a page that was never filled or is forgotten: clean, or unsaved
abbrev pub unmarked : Bool
unmarked = false

-- what is said of one page: its state, its mark, and what fills it
pub record Slot : Type 0 where
  pub state : PageState
  -- a data or stack page is dirty or clean; a text page is saved or unsaved
  pub mark : Bool
  pub filling : Filling

-- what is said of a page that isn't there
abbrev pub no_slot : Slot
no_slot = record { state = Unfilled; mark = unmarked; filling = Zeros }

-- what fills a page is remembered as long as the page is unfilled
abbrev pub filling_behind : PageState → Filling → Filling
filling_behind Unfilled x = x
filling_behind _ x = Zeros

-- page v of a segment is now in this state, with this mark
abbrev pub change_slot : List Slot → ℕ → PageState → Bool → List Slot
change_slot [] v s m = []
change_slot (x ∷ xs) zero s m = record { state = s; mark = m; filling = filling_behind s x.filling } ∷ xs
change_slot (x ∷ xs) (suc v) s m = x ∷ change_slot xs v s m

-- a space's number and its image's, and its data and stack pages
pub record SpacePages : Type 0 where
  pub sid : ℕ
  pub image : ℕ
  pub data_pages : List Slot
  pub stack_pages : List Slot

-- an image's number and its text pages, which all spaces of that image share
pub record TextPages : Type 0 where
  pub image : ℕ
  pub text_pages : List Slot

-- Lists whose items have numbers.

-- the first item with this number
abbrev pub numbered : {A : Type 0} → (A → ℕ) → ℕ → List A → Option A
numbered number n [] = None
numbered number n (x ∷ xs) = cond (number x == n) (Some x) (numbered number n xs)

-- the same list, with the first item of this number changed
abbrev pub changed : {A : Type 0} → (A → ℕ) → ℕ → (A → A) → List A → List A
changed number n change [] = []
changed number n change (x ∷ xs) = cond (number x == n) (change x ∷ xs) (x ∷ changed number n change xs)

-- the data pages of a space; none where there is no such space
abbrev pub data_in : Option SpacePages → List Slot
data_in None = []
data_in (Some s) = s.data_pages

-- the stack pages of a space; none where there is no such space
abbrev pub stack_in : Option SpacePages → List Slot
stack_in None = []
stack_in (Some s) = s.stack_pages

-- the text pages of an image; none where there is no such image
abbrev pub text_in : Option TextPages → List Slot
text_in None = []
text_in (Some t) = t.text_pages

-- a space with another data page, or stack page, and an image with another text page
abbrev pub with_data : ℕ → PageState → Bool → SpacePages → SpacePages
with_data v s m x = record x { data_pages = change_slot x.data_pages v s m }

-- a space with stack page v in this state, with this mark
abbrev pub with_stack : ℕ → PageState → Bool → SpacePages → SpacePages
with_stack v s m x = record x { stack_pages = change_slot x.stack_pages v s m }

-- an image with text page v in this state, with this mark
abbrev pub with_text : ℕ → PageState → Bool → TextPages → TextPages
with_text v s m x = record x { text_pages = change_slot x.text_pages v s m }

-- States.

-- the frame that a state names
abbrev pub frame_of : PageState → Option ℕ
frame_of Unfilled = None
frame_of (Valid f) = Some f
frame_of (Invalid f) = Some f
frame_of (Coming f) = Some f
frame_of (Going f) = Some f
frame_of OnSwap = None

-- a page in this state may be used
abbrev pub is_valid : PageState → Bool
is_valid (Valid f) = true
is_valid _ = false

-- the bytes of a page in this state are on swap alone
abbrev pub is_on_swap : PageState → Bool
is_on_swap OnSwap = true
is_on_swap _ = false

-- a page in this state has no frame and no copy on swap, and is still to be filled
abbrev pub is_unfilled : PageState → Bool
is_unfilled Unfilled = true
is_unfilled _ = false

-- a page with this mark has to be written before its frame is given away
abbrev pub is_dirty_by : Page → Bool → Bool
is_dirty_by (Data sid v) dirty = dirty
is_dirty_by (Stack sid v) dirty = dirty
is_dirty_by (Text image v) saved = not saved

-- the mark of a page whose write to swap has ended: data and stack are clean, text is saved
abbrev pub written_mark : Page → Bool
written_mark (Data sid v) = clean_mark
written_mark (Stack sid v) = clean_mark
written_mark (Text image v) = saved_mark

-- where a page is once its free frame is taken: text with the mark false isn't saved, and must be read from the file again
abbrev pub left_state : Page → Bool → PageState
left_state (Text image v) false = Unfilled
left_state (Text image v) true = OnSwap
left_state (Data sid v) mark = OnSwap
left_state (Stack sid v) mark = OnSwap
