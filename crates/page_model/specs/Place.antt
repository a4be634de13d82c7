-- What each entry of the journal does to a placement: paging entries, and changes of processes.
use Rattle.std.specs.Prelude.{ℕ, zero, suc, ◌+◌, ◌-◌, ◌==◌, Bool, true, false, cond, not, List, [], ◌∷◌, ◌++◌, length, map, filter, slice_get, Option, Some, None}
use Rattle.vm_facts.specs.declared.page.Page.{Page}
use Rattle.vm_facts.specs.declared.page.Page.TheVariants.{Data, Stack, Text}
use Rattle.vm_facts.specs.declared.page.PageState.{PageState}
use Rattle.vm_facts.specs.declared.page.PageState.TheVariants.{Unfilled}
use Rattle.vm_facts.specs.declared.entry.Entry.{Entry}
use Rattle.vm_facts.specs.declared.entry.Entry.TheVariants as entries
use Rattle.flat_state.specs.AoutImageImage.{Image}
use Rattle.flat_state.specs.Flat.{Holding, Holds, Lends, Zombie, Process, FlatState, NamedImage, process_of}
use Rattle.flat_state.specs.Change.{is_borrower}
use Rattle.flat_state.specs.declared.change.Change.{Change}
use Rattle.flat_state.specs.declared.change.Change.TheVariants.{Keep, Resize, Fork, Lend, Exec, Reap, Sleep, End}
use Rattle.page_model.specs.Pages.{Slot, Zeros, SpacePages, changed}
use Rattle.flat_state.specs.PageNames.{same_page, pages_from, number_of}
use Rattle.page_model.specs.Placement.{Placement, Residence, Due, Start, CopyOf, due_page, space_number, slots_of, is_dirty, sharers, image_of, unfilled, new_pages}
use Rattle.page_model.specs.Moves.{fill, get_run, launch_run, reclaim, retire, done, touch_all, drop_all, leave_all}
use Rattle.page_model.specs.Hands.{hand_moves}
use Rattle.page_model.specs.Reading.{read_errand}

-- Fills that are due.

-- what is still due once this page is filled: the first goes where it is of this page, else all stays
abbrev pub due_after : List Due → Page → List Due
due_after [] q = []
due_after (d ∷ ds) q = cond (same_page (due_page d) q) ds (d ∷ ds)

-- the fill of the first page that is due takes it off
abbrev pub filled : Placement → Page → Placement
filled p q = record (fill p q) { due = due_after p.due q }

-- Swapping.

-- a clean page's frame goes to the tail; of dirty pages a write begins
abbrev pub put_by : Placement → Page → List Page → Bool → Placement
put_by p q qs true = launch_run p qs
put_by p q qs false = retire p q

-- a `Put` of these pages, by whether the first of them is dirty
abbrev pub put_step : Placement → Page → List Page → Placement
put_step p q qs = put_by p q qs (is_dirty p q)

-- the process is out, or resident, since this place in the journal
abbrev pub moved : Placement → ℕ → Bool → ℕ → Placement
moved p pid out at = record p { residents = changed (λ (r : Residence). r.pid) pid (λ (r : Residence). record r { out = out; since = at }) p.residents }

-- What a paging entry does, with the pages that are locked and the place in the journal of the entry, its length
-- once the entry was added. The other entries move no page.
abbrev pub place_entry : List Page → ℕ → Placement → Entry → Placement
place_entry locked at p (entries.Zero q) = filled p q
place_entry locked at p (entries.Get q lo n) = get_run p (read_errand p q) (pages_from q lo n)
place_entry locked at p (entries.Copy q) = filled p q
place_entry locked at p (entries.Reclaim q) = reclaim p q
place_entry locked at p (entries.Hands n) = hand_moves p locked n
place_entry locked at p (entries.Put q n) = put_step p q (pages_from q (number_of q) n)
place_entry locked at p entries.Done = done p
place_entry locked at p (entries.SwapOut pid) = moved p pid true at
place_entry locked at p (entries.SwapIn pid) = moved p pid false at
place_entry locked at p _ = p

-- Spaces.

-- so many pages from one on, of the data or of the stack of a space
abbrev pub data_from : ℕ → ℕ → ℕ → List Page
data_from sid lo n = pages_from (Data sid lo) lo n

-- so many pages of the stack of a space, from one on
abbrev pub stack_from : ℕ → ℕ → ℕ → List Page
stack_from sid lo n = pages_from (Stack sid lo) lo n

-- a segment of so many pages: pages at its end are cut off, or unfilled ones with zeros are added
abbrev pub sized : ℕ → List Slot → List Slot
sized zero xs = []
sized (suc n) [] = unfilled Zeros ∷ sized n []
sized (suc n) (x ∷ xs) = x ∷ sized n xs

-- other sizes for a space; the pages that go were dropped before
abbrev pub cut_space : Placement → ℕ → ℕ → ℕ → Placement
cut_space p sid data_count stack_count = record p {
  spaces = changed space_number sid
      (λ (s : SpacePages). record s { data_pages = sized data_count s.data_pages; stack_pages = sized stack_count s.stack_pages }) p.spaces;
}

-- how many data pages a space has; 0 where there is no such space
abbrev pub data_count : Placement → ℕ → ℕ
data_count p sid = length (slots_of p (Data sid 0))

-- how many stack pages a space has; 0 where there is no such space
abbrev pub stack_count : Placement → ℕ → ℕ
stack_count p sid = length (slots_of p (Stack sid 0))

-- Growth and break: the frames of the pages that go are at the head of the free list, rising one after another.
abbrev pub resize : Placement → ℕ → ℕ → ℕ → Placement
resize p sid data_now stack_now =
    cut_space (drop_all p (data_from sid data_now (data_count p sid - data_now) ++ stack_from sid stack_now (stack_count p sid - stack_now))) sid data_now
    stack_now

-- the child's page: unfilled as its parent's is; else it has zeros till it is copied
abbrev pub child_slot_by : Slot → PageState → Slot
child_slot_by x Unfilled = unfilled x.filling
child_slot_by x _ = unfilled Zeros

-- what is said of a child's page at a fork, by what is said of its parent's
abbrev pub child_slot : Slot → Slot
child_slot x = child_slot_by x x.state

-- what is due of one page
abbrev pub copy_due : Page → Page → PageState → List Due
copy_due child parent Unfilled = []
copy_due child parent _ = CopyOf child parent ∷ []

-- the copies that are due of a segment from page v on, rising: of each page that the parent filled
abbrev pub copies_from : (ℕ → Page) → (ℕ → Page) → ℕ → List Slot → List Due
copies_from child parent v [] = []
copies_from child parent v (x ∷ xs) = copy_due (child v) (parent v) x.state ++ copies_from child parent (v + 1) xs

-- Fork: a new space, of whose pages those that the parent filled are due for a copy, data first, rising.
abbrev pub fork_space : Placement → ℕ → ℕ → Placement
fork_space p parent child = record p {
  spaces = p.spaces ++ record {
    sid = child;
    image = image_of p parent;
    data_pages = map child_slot (slots_of p (Data parent 0));
    stack_pages = map child_slot (slots_of p (Stack parent 0));
  } ∷ [];
  due = copies_from (Data child) (Data parent) 0 (slots_of p (Data parent 0)) ++ copies_from (Stack child) (Stack parent) 0 (slots_of p (Stack parent 0));
}

-- A new space for an image, whose stack page 0 is due.
abbrev pub enter_space : Placement → ℕ → ℕ → Image → Placement
enter_space p sid image facts = record p { spaces = p.spaces ++ new_pages sid image facts ∷ []; due = Start (Stack sid 0) ∷ [] }

-- the space of this number is gone
abbrev pub remove_space : Placement → ℕ → Placement
remove_space p sid = record p { spaces = filter (λ (s : SpacePages). not (s.sid == sid)) p.spaces }

-- all pages of a space, data first
abbrev pub pages_of_space : Placement → ℕ → List Page
pages_of_space p sid = data_from sid 0 (data_count p sid) ++ stack_from sid 0 (stack_count p sid)

-- all text pages of an image, rising
abbrev pub pages_of_text : Placement → ℕ → List Page
pages_of_text p image = pages_from (Text image 0) 0 (length (slots_of p (Text image 0)))

-- by how many spaces still share the image
abbrev pub leave_text_by : Placement → ℕ → ℕ → Placement
leave_text_by p image zero = leave_all p (pages_of_text p image)
leave_text_by p image (suc n) = p

-- the image's text pages leave where no space shares them any more
abbrev pub leave_text : Placement → ℕ → Placement
leave_text p image = leave_text_by p image (sharers p image)

-- Giving up a space: its frames go to the head, and with the last sharer its text's frames to the tail.
abbrev pub give_up : Placement → ℕ → Placement
give_up p sid = leave_text (remove_space (drop_all p (pages_of_space p sid)) sid) (image_of p sid)

-- Processes that are resident.

-- one more process is in, from this place in the journal on
abbrev pub begin_residence : Placement → ℕ → ℕ → Placement
begin_residence p pid at = record p { residents = p.residents ++ record { pid = pid; out = false; since = at } ∷ [] }

-- the process is neither in nor out any more
abbrev pub end_residence : Placement → ℕ → Placement
end_residence p pid = record p { residents = filter (λ (r : Residence). not (r.pid == pid)) p.residents }

-- The flat entries: what a change of a process does to the placement.

-- the number of the space that is held or lent; 0 for a zombie
abbrev pub space_of_holding : Holding → ℕ
space_of_holding (Holds s) = s.sid
space_of_holding (Lends sid child) = sid
space_of_holding (Zombie status) = 0

-- the number of the space that a process holds or lent; 0 for a zombie, and where there is no such process
abbrev pub space_of_process : Option Process → ℕ
space_of_process None = 0
space_of_process (Some q) = space_of_holding q.holding

-- a space that isn't borrowed is given up
abbrev pub give_up_unless : Bool → Placement → ℕ → Placement
give_up_unless true p sid = p
give_up_unless false p sid = give_up p sid

-- the facts of these images, in order
abbrev pub facts_of : List NamedImage → List Image
facts_of images = map (λ (named : NamedImage). named.image.facts) images

-- the facts of an image by its number, from 1 on
abbrev pub facts_numbered : List Image → ℕ → Option Image
facts_numbered images zero = None
facts_numbered images (suc place) = slice_get images place

-- a new space for the image with these facts; where there is no such image nothing changes
abbrev pub enter_image : Placement → ℕ → ℕ → Option Image → Placement
enter_image p sid image None = p
enter_image p sid image (Some facts) = enter_space p sid image facts

-- what a change of a process goes by
pub record Changing : Type 0 where
  -- the facts of the images
  pub images : List Image
  -- the process
  pub pid : ℕ
  -- the space that it holds, or borrowed
  pub sid : ℕ
  -- it borrowed its space
  pub borrowed : Bool
  -- the number of the next space
  pub next_sid : ℕ
  -- the place of the entry in the journal
  pub at : ℕ

-- the placement after a change of a process
abbrev pub place_change : Changing → Placement → Change → Placement
place_change c p Keep = p
place_change c p (Resize data_pages stack_pages) = resize p c.sid data_pages stack_pages
place_change c p (Fork child) = begin_residence (fork_space p c.sid c.next_sid) child c.at
place_change c p (Lend child) = begin_residence p child c.at
place_change c p (Exec image top) = give_up_unless c.borrowed (enter_image p c.next_sid image (facts_numbered c.images image)) c.sid
place_change c p (Reap child) = p
place_change c p Sleep = p
place_change c p (End status) = end_residence (give_up_unless c.borrowed p c.sid) c.pid

-- what the change of this process goes by, in a flat state; the place is that of the entry in the journal
abbrev pub changing_in : List Image → FlatState → ℕ → ℕ → Changing
changing_in images flat pid at = record {
  images = images;
  pid = pid;
  sid = space_of_process (process_of flat pid);
  borrowed = is_borrower flat.processes pid;
  next_sid = flat.next_sid;
  at = at;
}

-- The placement after an entry of a process with its change: the pages that were written are dirty, and the change is
-- made. The flat state is the one before, and the place that of the entry in the journal.
abbrev pub place_step : List Image → FlatState → ℕ → ℕ → List Page → Change → Placement → Placement
place_step images flat pid at written change p = place_change (changing_in images flat pid at) (touch_all p written) change
