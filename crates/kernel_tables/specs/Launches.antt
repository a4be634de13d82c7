-- What a copy, a write that begins and a move of the hands ask of the tables, and what they leave.
use Rattle.std.specs.Prelude.{◌≡◌, ◌⊎◌, ℕ, zero, suc, ◌<◌, ◌≤◌, Bool, true, false, List, [], ◌∷◌, ◌++◌, length, map, slice_set, Option, Some, None, IsSome}
use Rattle.vm_facts.specs.declared.page.Page.{Page}
use Rattle.vax_pte.specs.declared.Place.{Place}
use Rattle.vax_pte.specs.declared.Place.TheVariants as places
use Rattle.frame_state.specs.Frame.{Frame}
use Rattle.core_map.specs.declared.slot.Slot.{Slot as Token}
use Rattle.core_map.specs.declared.slot.Slot.TheVariants as tokens
use Rattle.core_map.specs.Slots.{slot_at, token_of}
use Rattle.space_map.specs.Space.{Places}
use Rattle.page_model.specs.Holdings.{Holdings}
use Rattle.transfer_ring.specs.declared.transfer.Outbound.{Outbound}
use Rattle.transfer_ring.specs.declared.transfer.Transfer.{Transfer as Flight}
use Rattle.transfer_ring.specs.declared.transfer.Transfer.TheVariants as flights
use Rattle.flat_state.specs.PageNames.{pages_from, is_among}
use Rattle.page_model.specs.Placement.{Placement, Writes, mark_of, is_dirty, IsThere}
use Rattle.page_model.specs.Moves.{launch_run, retire}
use Rattle.page_model.specs.Conditions.{EachPage, HasSeat, IsShared}
use Rattle.page_model.specs.Ownership.{block_of, is_marked_dirty}
use Rattle.kernel_tables.specs.declared.tables.Tables.{Tables}
use Rattle.kernel_tables.specs.Shown.{entry_in, placed, changed_named}
use Rattle.kernel_tables.specs.View.{Lists, out_part, outbound_flown, transfer_shown, flown, placement_of, frames_of}
use Rattle.kernel_tables.specs.Tied.{Tied}
use Rattle.kernel_tables.specs.Known.{Known}
use Rattle.kernel_tables.specs.Machine.{lists_of, image_at}
use Rattle.kernel_tables.specs.Moves.{TookFrame}

-- the bytes of a resident frame are copied into the first free frame
pub record CopiedFrame (t u : Tables) (f : ℕ) (copy : Frame) : Type 0 where
  pub token : Frame
  pub took : TookFrame t u token
  pub is : copy ≡ record { number = token.number; bytes = (token_of (slot_at t.core.slots f)).bytes }

-- a page's resident frame goes to the tail of the free list
pub record RetiredPage (t u : Tables) (q : Page) (f : ℕ) : Type 0 where
  pub free : u.core.free ≡ t.core.free ++ f ∷ []
  pub slots : u.core.slots ≡ slice_set t.core.slots f (tokens.Free (token_of (slot_at t.core.slots f)) (Some q))
  pub spaces : u.spaces ≡ map (placed q (places.Frame f false false)) t.spaces
  pub rest : u ≡ record t { core = u.core; spaces = u.spaces }

-- a page leaves its resident frame for a write to its blocks
pub record LaunchedPage (t u : Tables) (q : Page) (f : ℕ) (x : Outbound) : Type 0 where
  pub free : u.core.free ≡ t.core.free
  pub slots : u.core.slots ≡ slice_set t.core.slots f tokens.Away
  pub spaces : u.spaces ≡ map (placed q (places.Frame f false true)) t.spaces
  pub page : x.page ≡ q
  pub token : x.token ≡ token_of (slot_at t.core.slots f)
  pub number : x.token.number ≡ f
  pub block : block_of t.book.holdings q ≡ Some x.block
  pub rest : u ≡ record t { core = u.core; spaces = u.spaces }

-- the tables with a write that begins, of which these pages have left their frames
abbrev pub launching : Tables → List Outbound → Lists
launching t xs = record (lists_of t) {
  transfers = map transfer_shown t.ring ++ record { errand = Writes; parts = map out_part xs } ∷ [];
  flown = flown t.ring ++ map outbound_flown xs;
}

-- each page is written to its own blocks
abbrev pub HaveOwnBlocks : Holdings → List Outbound → Type 0
HaveOwnBlocks hs [] = Unit {0}
HaveOwnBlocks hs (x ∷ xs) = (block_of hs x.page ≡ Some x.block) × HaveOwnBlocks hs xs

-- a write of pages to their own blocks
abbrev pub IsOwnWrite : Holdings → Flight → Type 0
IsOwnWrite hs (flights.Read demanded parts) = ⊥
IsOwnWrite hs (flights.Write parts) = HaveOwnBlocks hs parts.items

-- pages of a run that are written: dirty, in frames off the free list
pub record MayLaunch (t : Lists) (q : Page) (lo n : ℕ) : Type 0 where
  pub known : Known t
  pub seats : EachPage (HasSeat (placement_of t)) (pages_from q lo n)
  pub dirty : EachPage (λ r. is_dirty (placement_of t) r ≡ true) (pages_from q lo n)

-- every page of a space, and of text that a space shares, has its blocks
abbrev pub HasBlocks : Placement → Holdings → Type 0
HasBlocks p hs = (q : Page) → IsThere p q → IsShared p q → IsSome (block_of hs q)

-- a page whose frame may go to the tail of the free list
pub record MayRetire (p : Placement) (q : Page) : Type 0 where
  pub seat : HasSeat p q
  pub clean : is_marked_dirty q (mark_of p q) ≡ false

-- pages of a run that are written at once
pub record MayWriteRun (p : Placement) (q : Page) (lo n : ℕ) : Type 0 where
  pub seats : EachPage (HasSeat p) (pages_from q lo n)
  pub dirty : EachPage (λ r. is_dirty p r ≡ true) (pages_from q lo n)
  pub most : n ≤ 16
  pub room : length p.transfers < 16

-- The write of a run begins; or, where that has no pages, the frame of a clean page goes to the tail.

-- what this asks: a run that may be written, or a clean page in a frame off the free list
abbrev pub MayPutOut : Placement → Page → ℕ → ℕ → Type 0
MayPutOut p q lo zero = MayRetire p q
MayPutOut p q lo (suc m) = MayWriteRun p q lo (suc m)

-- the placement that this leaves
abbrev pub put_out : Placement → Page → ℕ → ℕ → Placement
put_out p q lo zero = retire p q
put_out p q lo (suc m) = launch_run p (pages_from q lo (suc m))

-- the ring as it was, or with one write of pages to their own blocks
abbrev pub AddsWrite : Holdings → List Flight → List Flight → Type 0
AddsWrite hs old new = (new ≡ old) ⊎ ((x : Flight) × (new ≡ old ++ x ∷ []) × IsOwnWrite hs x)

-- pages move to this placement, and the bytes of frames stay
pub record MovedOn (t u : Tables) (p : Placement) : Type 0 where
  pub place : placement_of (lists_of u) ≡ p
  pub frames : frames_of (lists_of u) ≡ frames_of (lists_of t)
  pub tied : Tied (lists_of u)
  pub images : (sid : ℕ) → image_at u sid ≡ image_at t sid
  pub ring : AddsWrite t.book.holdings t.ring u.ring
  pub rest : u ≡ record t { core = u.core; spaces = u.spaces; ring = u.ring; front = u.front; back = u.back }

-- The page of a resident frame that isn't one of these, and whether it is valid.

-- the entry names a frame, and its page is valid
abbrev pub valid_named : Option Place → Bool
valid_named (Some (places.Frame f valid changed)) = valid
valid_named _ = false

-- a page, and whether it is valid; none where it is one of these
abbrev pub under_if : Bool → Page → Bool → Option (Page × Bool)
under_if true q valid = None
under_if false q valid = Some (q, valid)

-- the page of a resident slot, if it is none of these, and whether it is valid; none of another slot
abbrev pub under_by : List Places → List Page → Token → Option (Page × Bool)
under_by spaces locked (tokens.Resident token q dirty) = under_if (is_among q locked) q (valid_named (entry_in spaces q))
under_by spaces locked _ = None

-- the page of this frame, if the frame is resident and the page none of these, and whether it is valid
abbrev pub under : Lists → List Page → ℕ → Option (Page × Bool)
under t locked f = under_by t.spaces locked (slot_at t.slots f)

-- the front hand makes a valid page invalid
abbrev pub expired_if : Bool → Page → ℕ → List Places → List Places
expired_if true q f spaces = map (placed q (places.Frame f false (changed_named (entry_in spaces q)))) spaces
expired_if false q f spaces = spaces

-- the entries once the page under the front hand, if any, is invalid
abbrev pub expired_by : Option (Page × Bool) → ℕ → List Places → List Places
expired_by None f spaces = spaces
expired_by (Some w) f spaces = expired_if w.1 w.0 f spaces

-- the tables after the front hand's part of a move
abbrev pub expired : Lists → List Page → Lists
expired t locked = record t { spaces = expired_by (under t locked t.front) t.front t.spaces }
