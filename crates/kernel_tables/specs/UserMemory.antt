-- The memory of a space, read through its valid pages' frames. A byte of another page is missing.
use Rattle.std.specs.Prelude.{◌≡◌, ℕ, ◌+◌, ◌*◌, ◌/◌, ◌%◌, ◌^◌, ◌<◌, ◌≤◌, false, List, [], ◌∷◌, length, map, Option, Some, None, slice_get, slice_index}
use Rattle.vm_facts.specs.Answers.{Answers, ByteWrite}
use Rattle.vm_facts.specs.declared.memory.ByteRead.{ByteRead}
use Rattle.vm_facts.specs.declared.memory.ByteRead.TheVariants as reads
use Rattle.vm_facts.specs.declared.memory.MayWrite.{MayWrite}
use Rattle.vm_facts.specs.declared.memory.MayWrite.TheVariants as tests
use Rattle.vm_facts.specs.declared.page.Page.{Page}
use Rattle.vm_facts.specs.declared.page.Page.TheVariants as pages
use Rattle.vm_facts.specs.declared.page.PageState.{PageState}
use Rattle.vm_facts.specs.declared.page.PageState.TheVariants.{Valid}
use Rattle.aout_image.specs.Image.{text_pages_of}
use Rattle.space_map.specs.Space.{Places, entry_frame}
use Rattle.flat_state.specs.declared.spot.Spot.{Spot}
use Rattle.flat_state.specs.declared.spot.Spot.TheVariants.{Text, Data, Stack, Below, Outside}
use Rattle.flat_state.specs.Space.{spot_at}
use Rattle.page_model.specs.Pages.{SpacePages}
use Rattle.page_model.specs.Placement.{Placement, space_number, slots_of, state_of, image_of}
use Rattle.page_model.specs.Swapper.{is_out}
use Rattle.page_model.specs.Ownership.{OwnsFrames}
use Rattle.kernel_model.specs.Kernel.{HoldsSpace, Kernel, frame_bytes, write_step, write_by_state}
use Rattle.kernel_model.specs.Asks.{HasSpace}
use Rattle.kernel_tables.specs.Calls.{life_in}
use Rattle.kernel_tables.specs.Rising.{sids_of, AreRising}
use Rattle.kernel_tables.specs.Machine.{Standing}

-- Addresses.

-- how many bytes the pages of a segment have
abbrev pub bytes_of : Placement → Page → ℕ
bytes_of p q = 1024 * length (slots_of p q)

-- how many bytes the text of a space has
abbrev pub text_len : Placement → ℕ → ℕ
text_len p sid = bytes_of p (pages.Text (image_of p sid) 0)

-- how many bytes the data of a space has
abbrev pub data_len : Placement → ℕ → ℕ
data_len p sid = bytes_of p (pages.Data sid 0)

-- how many bytes the stack of a space has
abbrev pub stack_len : Placement → ℕ → ℕ
stack_len p sid = bytes_of p (pages.Stack sid 0)

-- what an address of a space names
abbrev pub spot_in : Placement → ℕ → ℕ → Spot
spot_in p sid address = spot_at (text_len p sid) (data_len p sid) (stack_len p sid) address

-- the page of the byte that an address names
abbrev pub page_at_spot : Placement → ℕ → Spot → Option Page
page_at_spot p sid (Text i) = Some (pages.Text (image_of p sid) (i / 1024))
page_at_spot p sid (Data i) = Some (pages.Data sid (i / 1024))
page_at_spot p sid (Stack i) = Some (pages.Stack sid (i / 1024))
page_at_spot p sid Below = None
page_at_spot p sid Outside = None

-- the page that has the byte at an address of a space; none below the stack, and outside
abbrev pub page_in : Placement → ℕ → ℕ → Option Page
page_in p sid address = page_at_spot p sid (spot_in p sid address)

-- Answers.

-- a byte of a page, by the page's state
abbrev pub read_by_state : Kernel → PageState → ℕ → ByteRead
read_by_state k (Valid f) at = reads.Is (slice_index (frame_bytes k f) at)
read_by_state k _ at = reads.Miss

-- a byte of a page, in its frame; a miss where the page isn't valid
abbrev pub read_page : Kernel → Page → ℕ → ByteRead
read_page k q at = read_by_state k (state_of k.place q) at

-- what a space answers to a read of what an address names
abbrev pub read_spot : Kernel → ℕ → Spot → ByteRead
read_spot k sid (Text i) = read_page k (pages.Text (image_of k.place sid) (i / 1024)) (i % 1024)
read_spot k sid (Data i) = read_page k (pages.Data sid (i / 1024)) (i % 1024)
read_spot k sid (Stack i) = read_page k (pages.Stack sid (i / 1024)) (i % 1024)
read_spot k sid Below = reads.Below
read_spot k sid Outside = reads.Outside

-- a page that is valid may be written; any other one misses
abbrev pub may_write_by : PageState → MayWrite
may_write_by (Valid f) = tests.May
may_write_by _ = tests.Miss

-- text is never written, whatever the state of its page
abbrev pub may_write_spot : Placement → ℕ → Spot → MayWrite
may_write_spot p sid (Text i) = tests.Text
may_write_spot p sid (Data i) = may_write_by (state_of p (pages.Data sid (i / 1024)))
may_write_spot p sid (Stack i) = may_write_by (state_of p (pages.Stack sid (i / 1024)))
may_write_spot p sid Below = tests.Below
may_write_spot p sid Outside = tests.Outside

-- what the space with this number answers
abbrev pub kernel_answers : Kernel → ℕ → Answers
kernel_answers k sid = record {
  read = λ address. read_spot k sid (spot_in k.place sid address);
  may_write = λ address. may_write_spot k.place sid (spot_in k.place sid address);
}

-- Writes.

-- a byte of a page is written, where the page is valid
abbrev pub write_page : Kernel → Page → ℕ → ℕ → Kernel
write_page k q at byte = write_by_state k q (state_of k.place q) at byte

-- the bytes of a page from a place on are written in its frame, one after another
abbrev pub write_run : Kernel → Page → ℕ → ℕ → List ℕ → Kernel
write_run k q f at [] = k
write_run k q f at (byte ∷ bytes) = write_run (write_step k q f at byte) q f (at + 1) bytes

-- the byte that an address names is written, where it is of a valid page of data or stack
abbrev pub write_spot : Kernel → ℕ → Spot → ℕ → Kernel
write_spot k sid (Text i) byte = k
write_spot k sid (Data i) byte = write_page k (pages.Data sid (i / 1024)) (i % 1024) byte
write_spot k sid (Stack i) byte = write_page k (pages.Stack sid (i / 1024)) (i % 1024) byte
write_spot k sid Below byte = k
write_spot k sid Outside byte = k

-- a byte goes into the frame of its page, which is dirty then
abbrev pub write_in : Kernel → ℕ → ByteWrite → Kernel
write_in k sid w = write_spot k sid (spot_in k.place sid w.address) w.byte

-- the bytes of a list are written, one after another
abbrev pub writes_in : Kernel → ℕ → List ByteWrite → Kernel
writes_in k sid [] = k
writes_in k sid (w ∷ ws) = writes_in (write_in k sid w) sid ws

-- the frames of valid pages have the bytes of a page
abbrev pub AreWhole : Kernel → Type 0
AreWhole k = (q : Page) (f : ℕ) → state_of k.place q ≡ Valid f → length (frame_bytes k f) ≡ 1024

-- a byte of a valid page, in frames each of which has one owner
pub record IsWritten (k : Kernel) (sid address : ℕ) : Type 0 where
  pub may : may_write_spot k.place sid (spot_in k.place sid address) ≡ tests.May
  pub owner : OwnsFrames k.place
  pub whole : AreWhole k

-- each of these writes, in order, is of a byte of a valid page
abbrev pub AreWritten : Kernel → ℕ → List ByteWrite → Type 0
AreWritten k sid [] = Unit {0}
AreWritten k sid (w ∷ ws) = IsWritten k sid w.address × AreWritten (write_in k sid w) sid ws

-- The space that lends its memory.

-- the frame of a page that is valid
abbrev pub valid_frame : PageState → Option ℕ
valid_frame (Valid f) = Some f
valid_frame _ = None

-- the entries of a space, and of its text, name the frames of its valid pages
pub record NamesFrames (p : Placement) (sid : ℕ) (space : Places) : Type 0 where
  pub text : (v : ℕ) → entry_frame (slice_get space.text v) ≡ valid_frame (state_of p (pages.Text (image_of p sid) v))
  pub «data» : (v : ℕ) → entry_frame (slice_get space.data v) ≡ valid_frame (state_of p (pages.Data sid v))
  pub stack : (v : ℕ) → entry_frame (slice_get space.stack v) ≡ valid_frame (state_of p (pages.Stack sid v))

-- the page is of the space that stands at this place among all, or of the text that it shares
abbrev pub IsOwnPage : Placement → ℕ → Page → Type 0
IsOwnPage p index (pages.Data sid v) = slice_get (map space_number p.spaces) index ≡ Some sid
IsOwnPage p index (pages.Stack sid v) = slice_get (map space_number p.spaces) index ≡ Some sid
IsOwnPage p index (pages.Text image v) = slice_get (map (λ (s : SpacePages). s.image) p.spaces) index ≡ Some image

-- a space of a machine that runs, by its place among all, its number and its image's, and the lengths of its segments
pub record IsLaidOut (k : Kernel) (index sid image text_bytes data_bytes stack_bytes : ℕ) : Type 0 where
  pub running : k.stopped ≡ false
  pub number : slice_get (map space_number k.place.spaces) index ≡ Some sid
  pub shares : slice_get (map (λ (s : SpacePages). s.image) k.place.spaces) index ≡ Some image
  pub image_is : image ≡ image_of k.place sid
  pub text_is : text_bytes ≡ text_len k.place sid
  pub data_is : data_bytes ≡ data_len k.place sid
  pub stack_is : stack_bytes ≡ stack_len k.place sid
  pub low : text_bytes + data_bytes < 2 ^ 24
  pub high : stack_bytes ≤ 0x80000

-- the image of a space, and the lengths of its segments in bytes
pub record HasLengths (ss : List Places) (index image text_bytes data_bytes stack_bytes : ℕ) : Type 0 where
  pub space : Places
  pub at : slice_get ss index ≡ Some space
  pub rising : AreRising (sids_of ss)
  pub image_is : image ≡ space.image
  pub text_is : text_bytes ≡ 1024 * text_pages_of space.facts
  pub data_is : data_bytes ≡ 1024 * length space.data
  pub stack_is : stack_bytes ≡ 1024 * length space.stack
  pub low : text_bytes + data_bytes < 2 ^ 24
  pub high : stack_bytes ≤ 0x80000

-- the process is there, holds a space that is there, and isn't out
pub record CanLend (k : Kernel) (pid : ℕ) : Type 0 where
  pub sid : ℕ
  pub holds : life_in k pid ≡ HoldsSpace sid
  pub there : HasSpace k.place sid
  pub resident : is_out k.place pid ≡ false

-- these bytes were written in order, each in a valid page, and nothing else became of the machine
pub record Wrote (old : Standing) (sid : ℕ) (ws : List ByteWrite) (new : Standing) : Type 0 where
  pub machine : new ≡ record old { kernel = writes_in old.kernel sid ws }
  pub each : AreWritten old.kernel sid ws

-- a valid page is in this frame
pub record IsHeld (p : Placement) (f : ℕ) : Type 0 where
  pub page : Page
  pub valid : state_of p page ≡ Valid f

-- a byte of a valid page was written, in frames each of which has one owner
pub record WrotePage (old new : Standing) (q : Page) (at byte : ℕ) : Type 0 where
  pub machine : new ≡ record old { kernel = write_page old.kernel q at byte }
  pub owner : OwnsFrames old.kernel.place
  pub whole : AreWhole old.kernel

-- the bytes of a valid page from a place on were written in its frame, in frames each of which has one owner
pub record WroteRun (old new : Standing) (q : Page) (at : ℕ) (bytes : List ℕ) : Type 0 where
  pub frame : ℕ
  pub valid : state_of old.kernel.place q ≡ Valid frame
  pub within : at + length bytes ≤ 1024
  pub machine : new ≡ record old { kernel = write_run old.kernel q frame at bytes }
  pub owner : OwnsFrames old.kernel.place
  pub whole : AreWhole old.kernel
