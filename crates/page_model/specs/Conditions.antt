-- What each step of a placement asks of the pages that it moves. A step is lawful only where these hold.
use Rattle.std.specs.Prelude.{◌≡◌, ◌⊎◌, ℕ, Bool, true, false, List, [], ◌∷◌, length, None, ◌<◌, ◌≢◌}
use Rattle.vm_facts.specs.declared.page.Page.{Page}
use Rattle.vm_facts.specs.declared.page.Page.TheVariants.{Data, Stack, Text}
use Rattle.vm_facts.specs.declared.page.PageState.{PageState}
use Rattle.vm_facts.specs.declared.page.PageState.TheVariants.{Unfilled, Valid, Invalid, Coming, Going, OnSwap}
use Rattle.vm_facts.specs.declared.entry.Entry.{Entry}
use Rattle.vm_facts.specs.declared.entry.Entry.TheVariants as entries
use Rattle.page_model.specs.Pages.{numbered, frame_of, is_valid, SpacePages}
use Rattle.flat_state.specs.PageNames.{number_of, pages_from, is_among}
use Rattle.flat_state.specs.declared.change.Change.{Change}
use Rattle.flat_state.specs.declared.change.Change.TheVariants.{Resize, Fork, Exec, End}
use Rattle.page_model.specs.Place.{data_count, stack_count, remove_space, enter_image, facts_numbered}
use Rattle.vm_facts.specs.Lists.{times}
use Rattle.page_model.specs.Placement.{Placement, Transfer, space_number, state_of, IsThere, sharers, image_of}
use Rattle.flat_state.specs.AoutImageImage.{Image}

-- something is so of each page
abbrev pub EachPage : (Page → Type 0) → List Page → Type 0
EachPage P [] = Unit {0}
EachPage P (q ∷ qs) = P q × EachPage P qs

-- no two pages are one
abbrev pub AllApart : List Page → Type 0
AllApart [] = Unit {0}
AllApart (q ∷ qs) = EachPage (λ r. r ≡ q → ⊥) qs × AllApart qs

-- the states in which no transfer has the page
abbrev pub AtRest : PageState → Type 0
AtRest Unfilled = Unit {0}
AtRest (Valid f) = Unit {0}
AtRest (Invalid f) = Unit {0}
AtRest (Coming f) = ⊥
AtRest (Going f) = ⊥
AtRest OnSwap = Unit {0}

-- no transfer has any of these pages
abbrev pub AllAtRest : Placement → List Page → Type 0
AllAtRest p qs = EachPage (λ q. AtRest (state_of p q)) qs

-- a page that may take a frame: it is there, and has none
pub record CanEnter (p : Placement) (v : Page) : Type 0 where
  pub there : IsThere p v
  pub frameless : frame_of (state_of p v) ≡ None

-- a page that holds this frame off the free list
pub record IsSeated (p : Placement) (v : Page) (f : ℕ) : Type 0 where
  pub state : (state_of p v ≡ Valid f) ⊎ ((state_of p v ≡ Invalid f) × (times f p.free ≡ 0))

-- a page that holds a frame off the free list, whichever
pub record HasSeat (p : Placement) (v : Page) : Type 0 where
  pub frame : ℕ
  pub seat : IsSeated p v frame

-- no space has this number
abbrev pub IsNew : Placement → ℕ → Type 0
IsNew p sid = numbered space_number sid p.spaces ≡ None

-- each of these pages that was valid still is
abbrev pub Spares : Placement → Placement → List Page → Type 0
Spares p q locked = (w : Page) → is_among w locked ≡ true → is_valid (state_of p w) ≡ true → is_valid (state_of q w) ≡ true

-- what a paging entry asks of the pages that it moves
abbrev pub CanPlace : Placement → Entry → Type 0
CanPlace p (entries.Zero q) = CanEnter p q
CanPlace p (entries.Copy q) = CanEnter p q
CanPlace p (entries.Get q lo n) = EachPage (CanEnter p) (pages_from q lo n)
CanPlace p (entries.Put q n) = HasSeat p q × EachPage (HasSeat p) (pages_from q (number_of q) n)
CanPlace p _ = Unit {0}

-- no transfer has a page of the space
pub record IsSettled (p : Placement) (sid : ℕ) : Type 0 where
  pub data_rests : (v : ℕ) → AtRest (state_of p (Data sid v))
  pub stack_rests : (v : ℕ) → AtRest (state_of p (Stack sid v))

-- these are fewer pages of data, or of stack, than the space has
abbrev pub LosesPages : Placement → ℕ → ℕ → ℕ → Type 0
LosesPages p sid data_pages stack_pages = (data_pages < data_count p sid) ⊎ (stack_pages < stack_count p sid)

-- what a change asks, of a process's space and the number of the next space: a space that is given up or loses pages
-- is settled, and a new one is new
abbrev pub CanChange : Placement → ℕ → Bool → ℕ → Change → Type 0
CanChange p sid borrowed next_sid (Resize data_pages stack_pages) = LosesPages p sid data_pages stack_pages → IsSettled p sid
CanChange p sid borrowed next_sid (Fork child) = IsNew p next_sid
CanChange p sid borrowed next_sid (Exec image top) = IsNew p next_sid × (borrowed ≡ false → IsSettled p sid)
CanChange p sid borrowed next_sid (End status) = borrowed ≡ false → IsSettled p sid
CanChange p sid borrowed next_sid _ = Unit {0}

-- how many transfers an entry may begin
abbrev pub begins : Entry → ℕ
begins (entries.Get q lo n) = 1
begins (entries.Put q n) = 1
begins (entries.Hands n) = n
begins _ = 0

-- each transfer has a page
abbrev pub HaveParts : List Transfer → Type 0
HaveParts [] = Unit {0}
HaveParts (t ∷ ts) = (0 < length t.parts) × HaveParts ts

-- an entry that begins a transfer has a page for it, and a read has a frame for that
abbrev pub CanBegin : Placement → Entry → Type 0
CanBegin p (entries.Get q lo n) = (0 < n) × (0 < length p.free)
CanBegin p (entries.Put q n) = 0 < n
CanBegin p _ = Unit {0}

-- a data or stack page, or text that a space shares
abbrev pub IsShared : Placement → Page → Type 0
IsShared p (Data sid n) = Unit {0}
IsShared p (Stack sid n) = Unit {0}
IsShared p (Text image n) = 0 < sharers p image

-- the pages that take frames are of spaces, or of text that a space shares
abbrev pub EntryShared : Placement → Entry → Type 0
EntryShared p (entries.Zero q) = IsShared p q
EntryShared p (entries.Copy q) = IsShared p q
EntryShared p (entries.Get q lo n) = IsShared p q
EntryShared p (entries.Reclaim q) = IsShared p q
EntryShared p _ = Unit {0}

-- all spaces of this number have this image
abbrev pub HasImage : ℕ → ℕ → List SpacePages → Type 0
HasImage sid image [] = Unit {0}
HasImage sid image (s ∷ ss) = (s.sid ≡ sid → s.image ≡ image) × HasImage sid image ss

-- a space that goes, with its text where no other space shares that: all spaces of its number have its image, and no
-- transfer has a page of the text
pub record CanForget (p : Placement) (sid : ℕ) : Type 0 where
  pub image : HasImage sid (image_of p sid) p.spaces
  pub text_rests : sharers (remove_space p sid) (image_of p sid) ≡ 0 → (v : ℕ) → AtRest (state_of p (Text (image_of p sid) v))

-- what a change asks of the text of a space that goes
abbrev pub MayForget : List Image → Placement → ℕ → Bool → ℕ → Change → Type 0
MayForget images p sid borrowed next_sid (Exec image top) = borrowed ≡ false → CanForget (enter_image p next_sid image (facts_numbered images image)) sid
MayForget images p sid borrowed next_sid (End status) = borrowed ≡ false → CanForget p sid
MayForget images p sid borrowed next_sid _ = Unit {0}

-- a space that comes isn't the one that goes
abbrev pub ApartFrom : ℕ → Bool → ℕ → Change → Type 0
ApartFrom sid borrowed next_sid (Exec image top) = borrowed ≡ false → next_sid ≢ sid
ApartFrom sid borrowed next_sid _ = Unit {0}
