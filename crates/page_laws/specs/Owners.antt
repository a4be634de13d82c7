-- Statements that each frame and each block keeps one owner, step by step.
use Rattle.std.specs.Prelude.{◌≡◌, ℕ, ◌*◌, ◌≤◌, Bool, List, length, Some}
use Rattle.page_model.specs.Flat.{FlatState, process_of}
use Rattle.vm_facts.specs.declared.page.Page.{Page}
use Rattle.vm_facts.specs.declared.entry.Entry.{Entry}
use Rattle.aout_image.specs.declared.Image.{Image}
use Rattle.page_model.specs.Holdings.{Holdings}
use Rattle.page_model.specs.Book.{IsBook}
use Rattle.page_model.specs.Change.{Change as AnyChange}
use Rattle.page_model.specs.Placement.{Placement, Starting, start_placement}
use Rattle.page_model.specs.Moves.{touch_all}
use Rattle.page_model.specs.Place.{Changing, place_entry, place_step, place_change, space_of_process}
use Rattle.page_model.specs.FlatStateChange.{is_borrower}
use Rattle.page_model.specs.Conditions.{CanPlace, CanChange, EntryShared, MayForget}
use Rattle.page_model.specs.Ownership.{OwnsFrames, OneOwner, TextAside, block_of, OwnsBlocks}
use Rattle.page_model.specs.PageBytes.{Bytes, Stores}
use Rattle.page_model.specs.Stored.{stored, store_at}

-- at the start each frame is free, so where each block has one owner, each frame and block has
abbrev pub StartHasOneOwner : Type 0
StartHasOneOwner = (size : ℕ) (lives : ℕ → Bool) (images : List Image) (first : List Starting) (frames : ℕ)
    (hs : Holdings)
    → OwnsBlocks size lives (start_placement images first frames) hs
    → OneOwner size lives (start_placement images first frames) hs

-- a change of a process keeps the owner of each frame
abbrev pub ChangeKeepsFrames : Type 0
ChangeKeepsFrames = (images : List Image) (flat : FlatState) (pid at : ℕ) (written : List Page) (change : AnyChange)
    (p : Placement)
    → OwnsFrames p
    → CanChange (touch_all p written) (space_of_process (process_of flat pid)) (is_borrower flat.processes pid) flat.next_sid change
    → OwnsFrames (place_step images flat pid at written change p)

-- a paging entry keeps the owner of each frame and block
abbrev pub EntryKeepsOwners : Type 0
EntryKeepsOwners = (size : ℕ) (lives : ℕ → Bool) (hs : Holdings) (locked : List Page) (at : ℕ) (p : Placement)
    (e : Entry)
    → OneOwner size lives p hs → CanPlace p e → EntryShared p e → OneOwner size lives (place_entry locked at p e) hs

-- a change of a process leaves text that nobody shares unsaved and, at most, in a free frame
abbrev pub ChangeLeavesTextAside : Type 0
ChangeLeavesTextAside = (c : Changing) (p : Placement) (change : AnyChange)
    → TextAside p → MayForget c.images p c.sid c.borrowed c.next_sid change
    → TextAside (place_change c p change)

-- bytes stored at the block of a page are that page's on swap, and all others have what they had
abbrev pub StoreWritesOnePage : Type 0
StoreWritesOnePage = (size : ℕ) (hs : Holdings) (image bytes : List ℕ) (q : Page) (x : ℕ) (b : Bytes)
    → IsBook size hs → 512 * size ≤ length image → length bytes ≡ 1024 → block_of hs q ≡ Some x
    → Stores (record b { swap = stored hs image }) (record b { swap = stored hs (store_at image (block_of hs q) bytes) }) q bytes
