-- What single moves of the tables leave: a frame taken, a page seated, a read begun.
use Rattle.std.specs.Prelude.{◌≡◌, ℕ, Bool, true, false, List, [], ◌∷◌, ◌++◌, map, drop, slice_set, Some, IsSome}
use Rattle.flat_state.specs.PageNames.{pages_from}
use Rattle.page_model.specs.Moves.{get_run}
use Rattle.page_model.specs.Reading.{read_errand}
use Rattle.page_model.specs.Ownership.{block_of}
use Rattle.transfer_ring.specs.declared.transfer.Inbound.{Inbound}
use Rattle.transfer_ring.specs.Sound.{IsSource, AreSources}
use Rattle.page_model.specs.Placement.{Source, Reads, Writes, Errand, Part}
use Rattle.kernel_tables.specs.View.{Lists, Flown, source_of, in_part, out_part, inbound_flown, outbound_flown, transfer_shown, flown_in, flown, placement_of, frames_of}
use Rattle.transfer_ring.specs.declared.transfer.Outbound.{Outbound}
use Rattle.transfer_ring.specs.declared.transfer.Transfer.{Transfer as Flight}
use Rattle.kernel_tables.specs.Tied.{Tied}
use Rattle.kernel_tables.specs.Machine.{lists_of, images_of, image_at}
use Rattle.kernel_tables.specs.Sourced.{IsFilePage, IsSourced, AreSourcedIn, IsFlightSourced}
use Rattle.vm_facts.specs.declared.page.Page.{Page}
use Rattle.vm_facts.specs.declared.page.Page.TheVariants.{Text}
use Rattle.text_table.specs.Texts.{IsTextTable}
use Rattle.vax_pte.specs.declared.Place.TheVariants as places
use Rattle.frame_state.specs.Frame.{Frame}
use Rattle.core_map.specs.declared.slot.Slot.TheVariants as tokens
use Rattle.core_map.specs.Slots.{slot_at, slot_page, with_byte, with_bytes, with_dirty}
use Rattle.vm_facts.specs.declared.regs.Regs.{Regs}
use Rattle.proc_table.specs.declared.process.Proc.{Proc as Record}
use Rattle.proc_table.specs.Records.{find, Changes, IsProcTable as AreRecords}
use Rattle.kernel_tables.specs.declared.tables.Tables.{Tables}
use Rattle.kernel_tables.specs.Shown.{placed}
use Rattle.vm_facts.specs.Lists.{without}
use Rattle.kernel_tables.specs.Steps.{evicted, revived, saved_texts, source_by}

-- the first free frame is taken: its token has left the core map, and a page that it still held has lost it
pub record TookFrame (t u : Tables) (token : Frame) : Type 0 where
  pub free : t.core.free ≡ token.number ∷ u.core.free
  pub was : slot_at t.core.slots token.number ≡ tokens.Free token (slot_page (slot_at t.core.slots token.number))
  pub slots : u.core.slots ≡ slice_set t.core.slots token.number tokens.Away
  pub spaces : u.spaces ≡ evicted t.texts (slot_page (slot_at t.core.slots token.number)) t.spaces
  pub rest : u ≡ record t { core = u.core; spaces = u.spaces }

-- a page is in the frame of this token, usable, dirty or not
pub record SeatedPage (t u : Tables) (token : Frame) (q : Page) (dirty : Bool) : Type 0 where
  pub free : u.core.free ≡ t.core.free
  pub slots : u.core.slots ≡ slice_set t.core.slots token.number (tokens.Resident token q dirty)
  pub spaces : u.spaces ≡ map (placed q (places.Frame token.number true dirty)) t.spaces
  pub rest : u ≡ record t { core = u.core; spaces = u.spaces }

-- the fill that was due first isn't due any more
pub record FinishedFill (t u : Tables) : Type 0 where
  pub fills : u.fills.items ≡ drop 1 t.fills.items
  pub rest : u ≡ record t { fills = u.fills }

-- what a page is read from: its image's file, or its own blocks
abbrev pub HasSource : Tables → Bool → Page → Type 0
HasSource t true q = IsFilePage (images_of t) (image_at t) q
HasSource t false q = IsSome (block_of t.book.holdings q)

-- the frame that a page is read into, and where its bytes come from
pub record BroughtPage (t u : Tables) (q : Page) (from_file : Bool) (x : Inbound) : Type 0 where
  pub free : t.core.free ≡ x.token.number ∷ u.core.free
  pub was : slot_at t.core.slots x.token.number ≡ tokens.Free x.token (slot_page (slot_at t.core.slots x.token.number))
  pub slots : u.core.slots ≡ slice_set t.core.slots x.token.number tokens.Away
  pub spaces : u.spaces ≡ map (placed q (places.Frame x.token.number false false)) (evicted t.texts (slot_page (slot_at t.core.slots x.token.number)) t.spaces)
  pub page : x.page ≡ q
  pub kind : source_of x.source ≡ source_by from_file
  pub range : IsSource x.source
  pub own : IsSourced (images_of t) (image_at t) t.book.holdings t.book.size q x.source
  pub rest : u ≡ record t { core = u.core; spaces = u.spaces }

-- the tables with a read that begins, of which these pages have their frames
abbrev pub opened : Tables → List Inbound → Source → Page → Lists
opened t parts source q = record (lists_of t) {
  transfers = map transfer_shown t.ring ++ record { errand = Reads source q; parts = map in_part parts } ∷ [];
  flown = flown t.ring ++ map inbound_flown parts;
}

-- all are read from their image's file, or from their own blocks
pub record AreFrom (t : Tables) (from_file : Bool) (xs : List Inbound) : Type 0 where
  pub ranges : AreSources xs
  pub sourced : AreSourcedIn (images_of t) (image_at t) t.book.holdings t.book.size (source_by from_file) xs

-- what a read that begins leaves
pub record BeganRead (t u : Tables) (q : Page) (lo n : ℕ) : Type 0 where
  pub place : placement_of (lists_of u) ≡ get_run (placement_of (lists_of t)) (read_errand (placement_of (lists_of t)) q) (pages_from q lo n)
  pub frames : frames_of (lists_of u) ≡ frames_of (lists_of t)
  pub tied : Tied (lists_of u)
  pub images : (sid : ℕ) → image_at u sid ≡ image_at t sid
  pub flight : Flight
  pub ring : u.ring ≡ t.ring ++ flight ∷ []
  pub sourced : IsFlightSourced (images_of t) (image_at t) t.book.holdings t.book.size flight
  pub rest : u ≡ record t { core = u.core; ring = u.ring; spaces = u.spaces }

-- a page that its frame still held is usable again, and the frame is off the free list
pub record RevivedPage (t u : Tables) (q : Page) (f : ℕ) (changed : Bool) : Type 0 where
  pub free : u.core.free ≡ without f t.core.free
  pub slots : u.core.slots ≡ slice_set t.core.slots f (revived (slot_at t.core.slots f) q changed)
  pub spaces : u.spaces ≡ map (placed q (places.Frame f true changed)) t.spaces
  pub rest : u ≡ record t { core = u.core; spaces = u.spaces }

-- a byte of a page was written in its frame, and the page is dirty
pub record WroteByte (t u : Tables) (q : Page) (f at byte : ℕ) : Type 0 where
  pub free : u.core.free ≡ t.core.free
  pub slots : u.core.slots ≡ slice_set t.core.slots f (with_dirty (with_byte (slot_at t.core.slots f) at byte) true)
  pub spaces : u.spaces ≡ map (placed q (places.Frame f true true)) t.spaces
  pub rest : u ≡ record t { core = u.core; spaces = u.spaces }

-- the bytes of a page from a place on were written in its frame, and the page is dirty
pub record WroteBytes (t u : Tables) (q : Page) (f at : ℕ) (bytes : List ℕ) : Type 0 where
  pub free : u.core.free ≡ t.core.free
  pub slots : u.core.slots ≡ slice_set t.core.slots f (with_dirty (with_bytes (slot_at t.core.slots f) at bytes) true)
  pub spaces : u.spaces ≡ map (placed q (places.Frame f true true)) t.spaces
  pub rest : u ≡ record t { core = u.core; spaces = u.spaces }

-- a page whose frame goes to the tail of the free list
pub record RestedPage (t u : Tables) (token : Frame) (q : Page) : Type 0 where
  pub free : u.core.free ≡ t.core.free ++ token.number ∷ []
  pub slots : u.core.slots ≡ slice_set t.core.slots token.number (tokens.Free token (Some q))
  pub spaces : u.spaces ≡ map (placed q (places.Frame token.number false false)) t.spaces
  pub rest : u ≡ record t { core = u.core; spaces = u.spaces }

-- a page that was read: the demanded one is usable, another goes to the tail of the free list
abbrev pub LandedIn : Bool → Tables → Tables → Frame → Page → Bool → Type 0
LandedIn true t u token q dirty = SeatedPage t u token q dirty
LandedIn false t u token q dirty = RestedPage t u token q

-- a page that was written, whose text is saved then
pub record LandedOut (t u : Tables) (token : Frame) (q : Page) : Type 0 where
  pub free : u.core.free ≡ t.core.free ++ token.number ∷ []
  pub slots : u.core.slots ≡ slice_set t.core.slots token.number (tokens.Free token (Some q))
  pub spaces : u.spaces ≡ map (placed q (places.Frame token.number false false)) t.spaces
  pub texts : u.texts ≡ saved_texts t.texts q
  pub table : (image v : ℕ) → q ≡ Text image v → IsTextTable t.texts
  pub rest : u ≡ record t { core = u.core; spaces = u.spaces; texts = u.texts }

-- the tables with a transfer that has left the ring, of which these pages have to land
abbrev pub closing : Tables → Errand → List Part → List Flown → Lists
closing t e xs fs = record (lists_of t) { transfers = record { errand = e; parts = xs } ∷ map transfer_shown t.ring; flown = fs ++ flown t.ring }

-- the tables with a read that has left the ring, of which these pages have to land
abbrev pub closing_in : Tables → Bool → Page → List Inbound → Lists
closing_in t from_file demanded xs = closing t (Reads (source_by from_file) demanded) (map in_part xs) (map inbound_flown xs)

-- the tables with a write that has left the ring, of which these pages have to land
abbrev pub closing_out : Tables → List Outbound → Lists
closing_out t xs = closing t Writes (map out_part xs) (map outbound_flown xs)

-- the tables with a transfer that has left the ring, and of which no page has landed
abbrev pub ending : Tables → Flight → Lists
ending t x = record (lists_of t) { transfers = transfer_shown x ∷ map transfer_shown t.ring; flown = flown_in x ++ flown t.ring }

-- what landing leaves of the tables beside the places of the pages
pub record LandedAll (t u : Tables) (was : Lists) : Type 0 where
  pub frames : frames_of (lists_of u) ≡ frames_of was
  pub tied : Tied (lists_of u)
  pub images : (sid : ℕ) → image_at u sid ≡ image_at t sid
  pub rest : u ≡ record t { core = u.core; spaces = u.spaces; texts = u.texts }

-- a process's record has other registers
pub record LeftRegs (t u : Tables) (pid : ℕ) (regs : Regs) : Type 0 where
  pub was : Record
  pub there : find pid t.processes ≡ Some was
  pub changes : Changes t.processes u.processes pid (Some (record was { regs = regs }))
  pub sound : AreRecords t.processes
  pub still_sound : AreRecords u.processes
  pub rest : u ≡ record t { processes = u.processes }
