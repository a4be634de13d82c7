-- The placement and the bytes for which the tables stand, read entry by entry. All contracts of the machine go by this.
use Rattle.std.specs.Prelude.{ℕ, ◌+◌, ◌-◌, ◌==◌, cond, List, [], ◌∷◌, ◌++◌, length, map, Option, Some, None}
use Rattle.std.specs.List.{range_with_len}
use Rattle.vm_facts.specs.declared.page.Page.{Page}
use Rattle.vm_facts.specs.declared.page.Page.TheVariants.{Text}
use Rattle.vax_pte.specs.declared.Place.{Place}
use Rattle.frame_state.specs.Frame.{Frame}
use Rattle.aout_image.specs.declared.Image.{Image}
use Rattle.aout_image.specs.Image.{text_pages_of}
use Rattle.core_map.specs.declared.slot.Slot.{Slot as Token}
use Rattle.core_map.specs.declared.slot.Slot.TheVariants as tokens
use Rattle.core_map.specs.Slots.{slot_at}
use Rattle.space_map.specs.Space.{Places}
use Rattle.text_table.specs.Texts as text_table
use Rattle.transfer_ring.specs.declared.transfer.Inbound.{Inbound}
use Rattle.transfer_ring.specs.declared.transfer.Outbound.{Outbound}
use Rattle.transfer_ring.specs.declared.transfer.Transfer.{Transfer as Flight}
use Rattle.transfer_ring.specs.declared.transfer.Transfer.TheVariants as flights
use Rattle.transfer_ring.specs.declared.transfer.Source.{Source as From}
use Rattle.transfer_ring.specs.declared.transfer.Source.TheVariants as froms
use Rattle.page_model.specs.Pages.{Slot, TextPages}
use Rattle.page_model.specs.Placement.{Placement, Transfer, Part, Writes, Reads, Source, FromSwap, FromFile, Due, Start, CopyOf, Residence}
use Rattle.kernel_model.specs.Kernel.{StartBytes}
use Rattle.kernel_tables.specs.declared.fill.DueFill.{DueFill}
use Rattle.kernel_tables.specs.declared.fill.DueFill.TheVariants as fills
use Rattle.kernel_tables.specs.Shown.{entry_in, text_shown, space_shown}
use Rattle.kernel_tables.specs.Found.{cached_place}

-- a page in flight, with its frame's token
pub record Flown : Type 0 where
  pub page : Page
  pub token : Frame

-- What the tables hold, as lists.
pub record Lists : Type 0 where
  pub slots : List Token
  pub free : List ℕ
  pub transfers : List Transfer
  -- the tokens of the transfers, and those that a running call has taken for one
  pub flown : List Flown
  pub spaces : List Places
  pub texts : List text_table.Text
  pub facts : List Image
  pub fills : List DueFill
  pub residents : List Residence
  pub front : ℕ
  pub back : ℕ

-- Text.

-- where a page of text is: as its entry says, or, where no space has one, as the core map does
abbrev pub text_place_by : Option Place → List Token → Page → ℕ → Place
text_place_by (Some place) slots q v = place
text_place_by None slots q v = cached_place slots q v

-- where a page of text is
abbrev pub text_place : List Places → List Token → Page → ℕ → Place
text_place spaces slots q v = text_place_by (entry_in spaces q) slots q v

-- what is said of a page of an image's text
abbrev pub text_slot : Lists → ℕ → ℕ → Slot
text_slot t image v = text_shown t.slots (text_table.is_saved (text_table.text_numbered t.texts image) v) (text_place t.spaces t.slots (Text image v) v)

-- what is said of the first n pages of an image's text
abbrev pub text_slots : Lists → ℕ → ℕ → List Slot
text_slots t image n = map (text_slot t image) (range_with_len 0 n)

-- the text pages of these images, numbered from this number on
abbrev pub texts_of : Lists → ℕ → List Image → List TextPages
texts_of t image [] = []
texts_of t image (facts ∷ more) = record { image = image; text_pages = text_slots t image (text_pages_of facts) } ∷ texts_of t (image + 1) more

-- how many pages the text of an image has, where these images are numbered from n on
abbrev pub pages_in : ℕ → ℕ → List Image → ℕ
pages_in n image [] = 0
pages_in n image (facts ∷ more) = cond (n == image) (text_pages_of facts) (pages_in (n + 1) image more)

-- Transfers.

-- where a page is read from: swap, or a file
abbrev pub source_of : From → Source
source_of (froms.Swap block) = FromSwap
source_of (froms.File id offset count) = FromFile

-- where a read is from, by the first of its pages
abbrev pub source_shown : List Inbound → Source
source_shown [] = FromSwap
source_shown (x ∷ xs) = source_of x.source

-- a page that is read, and the number of its frame
abbrev pub in_part : Inbound → Part
in_part x = record { page = x.page; frame = x.token.number }

-- a page that is written, and the number of its frame
abbrev pub out_part : Outbound → Part
out_part x = record { page = x.page; frame = x.token.number }

-- a transfer of the ring, with its pages and the numbers of their frames
abbrev pub transfer_shown : Flight → Transfer
transfer_shown (flights.Read demanded parts) = record { errand = Reads (source_shown parts.items) demanded; parts = map in_part parts.items }
transfer_shown (flights.Write parts) = record { errand = Writes; parts = map out_part parts.items }

-- a page that is read, with its frame's token
abbrev pub inbound_flown : Inbound → Flown
inbound_flown x = record { page = x.page; token = x.token }

-- a page that is written, with its frame's token
abbrev pub outbound_flown : Outbound → Flown
outbound_flown x = record { page = x.page; token = x.token }

-- the number of a frame in flight
abbrev pub flown_number : Flown → ℕ
flown_number x = x.token.number

-- the pages of a transfer, with their tokens
abbrev pub flown_in : Flight → List Flown
flown_in (flights.Read demanded parts) = map inbound_flown parts.items
flown_in (flights.Write parts) = map outbound_flown parts.items

-- all pages in flight, with their tokens, in the order in which they land
abbrev pub flown : List Flight → List Flown
flown [] = []
flown (t ∷ ts) = flown_in t ++ flown ts

-- what is in flight with the frame of this number
abbrev pub flown_at : List Flown → ℕ → Option Flown
flown_at [] f = None
flown_at (x ∷ xs) f = cond (x.token.number == f) (Some x) (flown_at xs f)

-- Frames.

-- the page in flight, if there is one
abbrev pub page_flown : Option Flown → Option Page
page_flown None = None
page_flown (Some x) = Some x.page

-- the bytes of the token in flight; none where there is none
abbrev pub bytes_flown : Option Flown → List ℕ
bytes_flown None = []
bytes_flown (Some x) = x.token.bytes

-- the page of a frame: the slot's, or, where its token is away, the one in flight
abbrev pub page_by : Token → Option Flown → Option Page
page_by (tokens.Free token page) o = page
page_by (tokens.Resident token page dirty) o = Some page
page_by tokens.Away o = page_flown o

-- the bytes of a frame: its token's, in the core map or in flight
abbrev pub bytes_by : Token → Option Flown → List ℕ
bytes_by (tokens.Free token page) o = token.bytes
bytes_by (tokens.Resident token page dirty) o = token.bytes
bytes_by tokens.Away o = bytes_flown o

-- the page of the frame of this number
abbrev pub page_held : Lists → ℕ → Option Page
page_held t f = page_by (slot_at t.slots f) (flown_at t.flown f)

-- the bytes of the frame of this number
abbrev pub bytes_held : Lists → ℕ → List ℕ
bytes_held t f = bytes_by (slot_at t.slots f) (flown_at t.flown f)

-- Fills that are due.

-- what is due of a page, without the bytes that are kept for it
abbrev pub due_shown : DueFill → Due
due_shown (fills.Start page bytes) = Start page
due_shown (fills.Copy child parent) = CopyOf child parent

-- the bytes that are kept for the new stack pages that are due
abbrev pub starts_of : List DueFill → List StartBytes
starts_of [] = []
starts_of (fills.Start page bytes ∷ ds) = record { page = page; bytes = bytes } ∷ starts_of ds
starts_of (fills.Copy child parent ∷ ds) = starts_of ds

-- The whole.

-- the placement that the tables stand for
abbrev pub placement_of : Lists → Placement
placement_of t = record {
  spaces = map (space_shown t.slots) t.spaces;
  texts = texts_of t 1 t.facts;
  holds = map (page_held t) (range_with_len 1 (length t.slots - 1));
  free = t.free;
  transfers = t.transfers;
  front = t.front;
  back = t.back;
  residents = t.residents;
  due = map due_shown t.fills;
}

-- the bytes of each frame, from frame 1 on
abbrev pub frames_of : Lists → List (List ℕ)
frames_of t = map (bytes_held t) (range_with_len 1 (length t.slots - 1))
