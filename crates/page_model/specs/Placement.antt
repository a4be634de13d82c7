-- The state of paging: where all pages are, what each frame holds, what is in flight, what is due. Most clauses of the pager cite this.
use Rattle.std.specs.Prelude.{ℕ, zero, suc, ◌+◌, ◌*◌, ◌/◌, ◌==◌, ◌<◌, ◌≤◌, nat_lt, Bool, false, cond, List, [], ◌∷◌, ◌++◌, length, map, replicate, get_or, Option, Some, None}
use Rattle.vm_facts.specs.declared.page.Page.{Page}
use Rattle.vm_facts.specs.declared.page.Page.TheVariants.{Data, Stack, Text}
use Rattle.vm_facts.specs.declared.page.PageState.{PageState}
use Rattle.vm_facts.specs.declared.page.PageState.TheVariants.{Unfilled, Coming, Going}
use Rattle.flat_state.specs.AoutImageImage.{Image}
use Rattle.flat_state.specs.AoutImageImageSpecs.{data_given, image_data_pages, text_pages_of}
use Rattle.page_model.specs.Pages.{Slot, Filling, Zeros, OfImage, SpacePages, TextPages, numbered, changed, data_in, stack_in, text_in, with_data, with_stack, with_text, no_slot, unmarked, is_dirty_by}
use Rattle.flat_state.specs.PageNames.{number_of, same_page}
use Rattle.page_model.specs.Frames.{at_frame, count_up}

-- where a read is from: swap, or the file of the image
pub data Source : Type 0 where
  FromSwap : Source
  FromFile : Source

-- what a transfer is for: a write, or a read with the page that is demanded
pub data Errand : Type 0 where
  Writes : Errand
  Reads : Source → Page → Errand

-- one page of a transfer, and the frame that it is read into or written from
pub record Part : Type 0 where
  pub page : Page
  pub frame : ℕ

-- a transfer: its pages rising, each with its frame
pub record Transfer : Type 0 where
  pub errand : Errand
  pub parts : List Part

-- a page that is due for a fill before anything else: a new stack page 0, or a child's page and its parent's
pub data Due : Type 0 where
  Start : Page → Due
  CopyOf : Page → Page → Due

-- since which place in the journal a process is resident, or out
pub record Residence : Type 0 where
  pub pid : ℕ
  pub out : Bool
  pub since : ℕ

-- the state of paging: pages, frames, transfers, hands, who is in or out, and the fills that are due
pub record Placement : Type 0 where
  -- the live spaces, in the order in which they were made, and the texts of all images
  pub spaces : List SpacePages
  pub texts : List TextPages
  -- the page of each frame
  pub holds : List (Option Page)
  -- the free frames, the next one first
  pub free : List ℕ
  -- the transfers in flight, the oldest first
  pub transfers : List Transfer
  -- the frames at which the two hands stand
  pub front : ℕ
  pub back : ℕ
  pub residents : List Residence
  pub due : List Due

-- Questions.

-- the number of a space
abbrev pub space_number : SpacePages → ℕ
space_number s = s.sid

-- the number of the image that has these text pages
abbrev pub image_number : TextPages → ℕ
image_number t = t.image

-- the segment of a page
abbrev pub slots_in : List SpacePages → List TextPages → Page → List Slot
slots_in spaces texts (Data sid v) = data_in (numbered space_number sid spaces)
slots_in spaces texts (Stack sid v) = stack_in (numbered space_number sid spaces)
slots_in spaces texts (Text image v) = text_in (numbered image_number image texts)

-- what is said of each page of a page's segment; nothing where there is no such space or image
abbrev pub slots_of : Placement → Page → List Slot
slots_of p q = slots_in p.spaces p.texts q

-- what is said of a page; the same as of an unfilled one with zeros where it isn't there
abbrev pub slot_of : Placement → Page → Slot
slot_of p q = get_or (slots_of p q) (number_of q) no_slot

-- the state of a page; Unfilled where it isn't there
abbrev pub state_of : Placement → Page → PageState
state_of p q = (slot_of p q).state

-- whether a page is dirty, or a text page saved; unmarked where it isn't there
abbrev pub mark_of : Placement → Page → Bool
mark_of p q = (slot_of p q).mark

-- a text page is always its image's
abbrev pub filling_by : Page → Filling → Filling
filling_by (Data sid v) x = x
filling_by (Stack sid v) x = x
filling_by (Text image v) x = OfImage

-- what fills a page that is unfilled
abbrev pub filling_of : Placement → Page → Filling
filling_of p q = filling_by q (slot_of p q).filling

-- a data or stack page is dirty, or a text page isn't saved; so text that is Unfilled counts as dirty, and no step asks it
abbrev pub is_dirty : Placement → Page → Bool
is_dirty p q = is_dirty_by q (mark_of p q)

-- the page is of a live space, or of the text of an image
abbrev pub IsThere : Placement → Page → Type 0
IsThere p q = number_of q < length (slots_of p q)

-- the page of a frame
abbrev pub page_of : Placement → ℕ → Option Page
page_of p f = at_frame p.holds f None

-- this is the number of a frame, from 1 up to how many there are
abbrev pub IsFrame : Placement → ℕ → Type 0
IsFrame p f = (0 < f) × (f ≤ length p.holds)

-- how many live spaces have an image
abbrev pub sharers_in : ℕ → List SpacePages → ℕ
sharers_in image [] = 0
sharers_in image (s ∷ ss) = cond (s.image == image) 1 0 + sharers_in image ss

-- how many live spaces share the text of an image
abbrev pub sharers : Placement → ℕ → ℕ
sharers p image = sharers_in image p.spaces

-- the image of a space; 0 where there is no such space
abbrev pub image_in : Option SpacePages → ℕ
image_in None = 0
image_in (Some s) = s.image

-- the number of a space's image; 0 where there is no such space
abbrev pub image_of : Placement → ℕ → ℕ
image_of p sid = image_in (numbered space_number sid p.spaces)

-- one page with its frame, and what its transfer is for
pub record Moving : Type 0 where
  pub errand : Errand
  pub page : Page
  pub frame : ℕ

-- a page of a transfer, with its frame and what the transfer is for
abbrev pub moving : Errand → Part → Moving
moving e x = record { errand = e; page = x.page; frame = x.frame }

-- all pages in flight, in the order in which they land
abbrev pub parts_of : List Transfer → List Moving
parts_of [] = []
parts_of (t ∷ ts) = map (moving t.errand) t.parts ++ parts_of ts

-- what the transfer that has this frame is for
abbrev pub errand_at : List Moving → ℕ → Option Errand
errand_at [] f = None
errand_at (m ∷ ms) f = cond (m.frame == f) (Some m.errand) (errand_at ms f)

-- the frames in flight
abbrev pub flying : List Moving → List ℕ
flying [] = []
flying (m ∷ ms) = m.frame ∷ flying ms

-- the state of a page in flight
abbrev pub moving_state : Errand → ℕ → PageState
moving_state Writes f = Going f
moving_state (Reads source demanded) f = Coming f

-- the page that is to be filled
abbrev pub due_page : Due → Page
due_page (Start q) = q
due_page (CopyOf q parent) = q

-- what is due of a page
abbrev pub due_of_page : List Due → Page → Option Due
due_of_page [] q = None
due_of_page (d ∷ ds) q = cond (same_page (due_page d) q) (Some d) (due_of_page ds q)

-- Changes.

-- the spaces once this page has this state and mark; a text page changes none of them
abbrev pub spaces_with : List SpacePages → Page → PageState → Bool → List SpacePages
spaces_with spaces (Data sid v) s m = changed space_number sid (with_data v s m) spaces
spaces_with spaces (Stack sid v) s m = changed space_number sid (with_stack v s m) spaces
spaces_with spaces (Text image v) s m = spaces

-- the texts once this page has this state and mark; a data or stack page changes none of them
abbrev pub texts_with : List TextPages → Page → PageState → Bool → List TextPages
texts_with texts (Data sid v) s m = texts
texts_with texts (Stack sid v) s m = texts
texts_with texts (Text image v) s m = changed image_number image (with_text v s m) texts

-- the page is in this state now, with this mark
abbrev pub put : Placement → Page → PageState → Bool → Placement
put p q s m = record p { spaces = spaces_with p.spaces q s m; texts = texts_with p.texts q s m }

-- The start.

-- what fills a data page of an image at first: its file's bytes, where it has any for the page
abbrev pub data_filling : Image → ℕ → Filling
data_filling facts v = cond (nat_lt (1024 * v) (data_given facts)) OfImage Zeros

-- an unfilled page, not marked, with what fills it
abbrev pub unfilled : Filling → Slot
unfilled x = record { state = Unfilled; mark = unmarked; filling = x }

-- so many unfilled data pages of an image, from page v on
abbrev pub unfilled_data : Image → ℕ → ℕ → List Slot
unfilled_data facts v zero = []
unfilled_data facts v (suc n) = unfilled (data_filling facts v) ∷ unfilled_data facts (v + 1) n

-- a space in which an image starts: its data pages and one stack page
abbrev pub new_pages : ℕ → ℕ → Image → SpacePages
new_pages sid image facts = record {
  sid = sid;
  image = image;
  data_pages = unfilled_data facts 0 (image_data_pages facts);
  stack_pages = unfilled Zeros ∷ [];
}

-- an image's text pages at the start, all unfilled and none saved
abbrev pub new_text : ℕ → Image → TextPages
new_text image facts = record { image = image; text_pages = replicate (text_pages_of facts) (unfilled Zeros) }

-- the texts of the images, numbered from one on
abbrev pub texts_from : ℕ → List Image → List TextPages
texts_from image [] = []
texts_from image (facts ∷ more) = new_text image facts ∷ texts_from (image + 1) more

-- a process that starts, by its image's number and facts
pub record Starting : Type 0 where
  pub image : ℕ
  pub facts : Image

-- each starting process has the space of its own number, and is resident from the start
abbrev pub spaces_from : ℕ → List Starting → List SpacePages
spaces_from n [] = []
spaces_from n (a ∷ more) = new_pages n a.image a.facts ∷ spaces_from (n + 1) more

-- the starting processes, numbered from one on, are in since the journal's start
abbrev pub residents_from : ℕ → List Starting → List Residence
residents_from n [] = []
residents_from n (a ∷ more) = record { pid = n; out = false; since = 0 } ∷ residents_from (n + 1) more

-- stack page 0 of each starting process, numbered from one on, is due
abbrev pub due_from : ℕ → List Starting → List Due
due_from n [] = []
due_from n (a ∷ more) = Start (Stack n 0) ∷ due_from (n + 1) more

-- the hands stand a quarter of the frames apart
abbrev pub start_placement : List Image → List Starting → ℕ → Placement
start_placement images first frames = record {
  spaces = spaces_from 1 first;
  texts = texts_from 1 images;
  holds = replicate frames None;
  free = count_up 1 frames;
  transfers = [];
  front = 1 + frames / 4;
  back = 1;
  residents = residents_from 1 first;
  due = due_from 1 first;
}
