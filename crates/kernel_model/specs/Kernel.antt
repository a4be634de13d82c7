-- The whole machine as lists, and what each of its steps does to them. The machine of the pager is told by this.
use Rattle.std.specs.Prelude.{ℕ, ◌==◌, Bool, cond, not, List, [], ◌∷◌, length, map, filter, set, Option, Some, None}
use Rattle.page_model.specs.Flat.{Holding, Holds, Lends, Zombie, cleared}
use Rattle.vm_facts.specs.declared.page.Page.{Page}
use Rattle.vm_facts.specs.declared.page.PageState.{PageState}
use Rattle.vm_facts.specs.declared.page.PageState.TheVariants.{Valid}
use Rattle.vm_facts.specs.declared.regs.Regs.{Regs}
use Rattle.vm_facts.specs.declared.entry.Entry.{Entry}
use Rattle.vm_facts.specs.declared.entry.Entry.TheVariants as entries
use Rattle.page_model.specs.Holdings.{Holdings}
use Rattle.page_model.specs.Journal.{append}
use Rattle.page_model.specs.Pages.{frame_of}
use Rattle.page_model.specs.PageNames.{same_page}
use Rattle.page_model.specs.Frames.{at_frame, set_frame}
use Rattle.page_model.specs.Placement.{Placement, Transfer, Part, Errand, Writes, Reads, Due, Start, CopyOf, state_of, due_of_page}
use Rattle.page_model.specs.Moves.{touch}
use Rattle.page_model.specs.Place.{filled, place_entry}
use Rattle.page_model.specs.Ownership.{block_of}
use Rattle.page_model.specs.PageBytes.{zeros}
use Rattle.page_model.specs.Stored.{store_at}

-- what a process has: nothing yet; a space; a space that it lent to a child; or an exit status
pub data Life : Type 0 where
  New : Life
  HoldsSpace : ℕ → Life
  LendsSpace : ℕ → ℕ → Life
  Ended : ℕ → Life

-- the record of a process
pub record Proc : Type 0 where
  pub pid : ℕ
  pub parent : ℕ
  pub regs : Regs
  pub life : Life
  pub asleep : Bool

-- the bytes that are kept for a stack page 0 that is due
pub record StartBytes : Type 0 where
  pub page : Page
  pub bytes : List ℕ

-- the whole machine: its placement, holdings, processes, kept stack pages, frames and journal, and whether it stopped
pub record Kernel : Type 0 where
  pub place : Placement
  pub holdings : Holdings
  pub processes : List Proc
  pub next_pid : ℕ
  pub next_sid : ℕ
  pub starts : List StartBytes
  -- the bytes of each frame
  pub frames : List (List ℕ)
  pub journal : List Entry
  pub stopped : Bool

-- Bytes.

-- the bytes that are kept for a page; zeros where none are
abbrev pub start_bytes : List StartBytes → Page → List ℕ
start_bytes [] q = zeros
start_bytes (s ∷ ss) q = cond (same_page s.page q) s.bytes (start_bytes ss q)

-- what is still kept once this page is filled
abbrev pub starts_after : List StartBytes → Page → List StartBytes
starts_after ss q = filter (λ (s : StartBytes). not (same_page s.page q)) ss

-- the bytes of a frame; none where there is no such frame
abbrev pub frame_bytes : Kernel → ℕ → List ℕ
frame_bytes k f = at_frame k.frames f []

-- other bytes in the first free frame
abbrev pub put_first : List ℕ → List (List ℕ) → List ℕ → List (List ℕ)
put_first [] frames bytes = frames
put_first (f ∷ rest) frames bytes = set_frame frames f bytes

-- the bytes of a frame; zeros where a page has none
abbrev pub bytes_at : Kernel → Option ℕ → List ℕ
bytes_at k None = zeros
bytes_at k (Some f) = frame_bytes k f

-- the bytes of the page's own frame
abbrev pub page_bytes : Kernel → Page → List ℕ
page_bytes k q = bytes_at k (frame_of (state_of k.place q))

-- what a child's page is copied from
abbrev pub copied_bytes : Kernel → Option Due → List ℕ
copied_bytes k None = zeros
copied_bytes k (Some (Start q)) = zeros
copied_bytes k (Some (CopyOf q parent)) = page_bytes k parent

-- Steps.

-- a page takes a free frame, and has there what is kept for it, or else zeros
abbrev pub zero_step : Kernel → Page → Kernel
zero_step k q = record k {
  place = filled k.place q;
  frames = put_first k.place.free k.frames (start_bytes k.starts q);
  starts = starts_after k.starts q;
  journal = append k.journal (entries.Zero q);
}

-- a child's page takes a free frame, and has there the bytes of its parent's page
abbrev pub copy_step : Kernel → Page → Kernel
copy_step k q = record k {
  place = filled k.place q;
  frames = put_first k.place.free k.frames (copied_bytes k (due_of_page k.place.due q));
  journal = append k.journal (entries.Copy q);
}

-- a step that moves pages and no bytes
abbrev pub plain_step : Kernel → List Page → Entry → Kernel
plain_step k locked e = record k { place = place_entry locked (length (append k.journal e)) k.place e; journal = append k.journal e }

-- a read of so many pages begins
abbrev pub get_step : Kernel → Page → ℕ → ℕ → Kernel
get_step k q lo n = plain_step k [] (entries.Get q lo n)

-- a page that is Invalid in its frame is Valid again
abbrev pub reclaim_step : Kernel → Page → Kernel
reclaim_step k q = plain_step k [] (entries.Reclaim q)

-- both hands of the clock move once, while these pages are locked
abbrev pub hand_step : Kernel → List Page → Kernel
hand_step k locked = plain_step k locked (entries.Hands 1)

-- a write of so many dirty pages from this one on begins, or a clean page's frame goes to the free list
abbrev pub push_step : Kernel → Page → ℕ → Kernel
push_step k q n = plain_step k [] (entries.Put q n)

-- the pages that were read are in their frames
abbrev pub read_into : List Part → List (List ℕ) → List (List ℕ) → List (List ℕ)
read_into [] read frames = frames
read_into (x ∷ xs) [] frames = frames
read_into (x ∷ xs) (bytes ∷ more) frames = read_into xs more (set_frame frames x.frame bytes)

-- the frames after a transfer of these pages: of a read with what was read, of a write as they were
abbrev pub landed_by : Errand → List Part → List (List ℕ) → List (List ℕ) → List (List ℕ)
landed_by Writes xs read frames = frames
landed_by (Reads source demanded) xs read frames = read_into xs read frames

-- the frames after the oldest transfer; as they were where none is in flight
abbrev pub landed : List Transfer → List (List ℕ) → List (List ℕ) → List (List ℕ)
landed [] read frames = frames
landed (t ∷ ts) read frames = landed_by t.errand t.parts read frames

-- the oldest transfer completes; of a read, with the bytes that were read, page by page
abbrev pub done_step : Kernel → List (List ℕ) → Kernel
done_step k read = record (plain_step k [] entries.Done) { frames = landed k.place.transfers read k.frames }

-- a user write of one byte of a valid page
abbrev pub write_step : Kernel → Page → ℕ → ℕ → ℕ → Kernel
write_step k q f at byte = record k { place = touch k.place q; frames = set_frame k.frames f (set (frame_bytes k f) at byte) }

-- a byte of a page is written where its state is Valid; else nothing changes
abbrev pub write_by_state : Kernel → Page → PageState → ℕ → ℕ → Kernel
write_by_state k q (Valid f) at byte = write_step k q f at byte
write_by_state k q _ at byte = k

-- an entry that moves no page
abbrev pub note_step : Kernel → Entry → Kernel
note_step k e = record k { journal = append k.journal e }

-- a record with these registers, where it is that of this process
abbrev pub with_regs : ℕ → Regs → Proc → Proc
with_regs pid regs p = cond (p.pid == pid) (record p { regs = regs }) p

-- a process goes out: its u page has its registers, and its record none
abbrev pub out_step : Kernel → ℕ → Kernel
out_step k pid = record (plain_step k [] (entries.SwapOut pid)) { processes = map (with_regs pid cleared) k.processes }

-- a process comes in with the registers that its u page holds
abbrev pub in_step : Kernel → ℕ → Regs → Kernel
in_step k pid regs = record (plain_step k [] (entries.SwapIn pid)) { processes = map (with_regs pid regs) k.processes }

-- the image once the pages of a write are in their blocks
abbrev pub store_all : Kernel → List ℕ → List Part → List ℕ
store_all k image [] = image
store_all k image (x ∷ xs) = store_all k (store_at image (block_of k.holdings x.page) (frame_bytes k x.frame)) xs

-- the image after a transfer: of a write with its pages in their blocks, of a read as it was
abbrev pub image_after_by : Kernel → List ℕ → Transfer → Errand → List ℕ
image_after_by k image t Writes = store_all k image t.parts
image_after_by k image t (Reads source demanded) = image

-- the image after the oldest transfer completes
abbrev pub image_after_of : Kernel → List ℕ → List Transfer → List ℕ
image_after_of k image [] = image
image_after_of k image (t ∷ ts) = image_after_by k image t t.errand

-- the image after the oldest of the machine's transfers completes
abbrev pub image_after : Kernel → List ℕ → List ℕ
image_after k image = image_after_of k image k.place.transfers

-- Coupling.

-- what a process of the flat state has, by its holding
abbrev pub life_of : Holding → Life
life_of (Holds s) = HoldsSpace s.sid
life_of (Lends sid child) = LendsSpace sid child
life_of (Zombie status) = Ended status
