-- What each call asks before, and how a machine stands that stopped in one.
use Rattle.std.specs.Prelude.{◌≡◌, ◌≢◌, ℕ, ◌+◌, ◌<◌, ◌≤◌, ◌^◌, true, List, length}
use Rattle.flat_state.specs.Flat.{FlatState, NamedImage}
use Rattle.vm_facts.specs.declared.regs.Regs.{Regs}
use Rattle.flat_state.specs.Change.{apply_change}
use Rattle.flat_state.specs.declared.change.Change.{Change}
use Rattle.vm_facts.specs.declared.page.Page.{Page}
use Rattle.vm_facts.specs.declared.page.PageState.TheVariants.{Unfilled, Invalid}
use Rattle.page_model.specs.Pages.{Zeros}
use Rattle.flat_state.specs.PageNames.{pages_from}
use Rattle.page_model.specs.Conditions.{EachPage, CanEnter, IsShared}
use Rattle.page_model.specs.Placement.{Placement, state_of, filling_of, IsThere}
use Rattle.page_model.specs.PageBytes.{IsWritable, SamePage, ReadsFrom}
use Rattle.page_model.specs.Reading.{source_for}
use Rattle.kernel_model.specs.Kernel.{Kernel}
use Rattle.kernel_model.specs.Coupled.{Coupled, beside_kernel}
use Rattle.kernel_tables.specs.Due.{IsFirstStart}
use Rattle.kernel_tables.specs.Machine.{Standing}

-- a page of zeros, or a new stack page that is due first, and a frame for it
pub record CanZero (p : Placement) (q : Page) : Type 0 where
  pub writable : IsWritable q
  pub there : IsThere p q
  pub unfilled : state_of p q ≡ Unfilled
  pub zeros : filling_of p q ≡ Zeros
  pub first : IsFirstStart p.due q
  pub frame : 0 < length p.free

-- the kernel without the pieces that were found for an entry that comes yet
abbrev pub kernel_before : Standing → Kernel
kernel_before m = record m.kernel { holdings = m.before }

-- The run stops at a call, with the journal, the sizes and the images as before. Where the journal was at its bound the machine is as
-- before, but that room for an instruction may be gone. Where the machine wants memory and runs on, all else is as before too, but for
-- pieces that were found for the entry for which there was none.
pub record HasStopped (old new : Standing) : Type 0 where
  pub journal : new.kernel.journal ≡ old.kernel.journal
  pub params : new.params ≡ old.params
  pub images : new.images ≡ old.images
  pub full : old.params.journal ≤ length old.kernel.journal → new ≡ record old { room = new.room }
  pub held : new.kernel.stopped ≡ old.kernel.stopped → kernel_before new ≡ kernel_before old

-- stopped within a step that has no entry, with the journal, the sizes and the images as before
pub record HasBrokenOff (old new : Standing) : Type 0 where
  pub stopped : new.kernel.stopped ≡ true
  pub journal : new.kernel.journal ≡ old.kernel.journal
  pub params : new.params ≡ old.params
  pub images : new.images ≡ old.images

-- whatever the images and the swap image, the machine still stands for the flat states that it stood for
abbrev pub KeepsFlat : Kernel → Kernel → Type 0
KeepsFlat old new = (images : List NamedImage) (image : List ℕ) (flat : FlatState) → Coupled old images image flat → Coupled new images image flat

-- every page that isn't the one has the same bytes in its frame and on swap
abbrev pub SameElsewhere : Kernel → Kernel → Page → Type 0
SameElsewhere old new q =
    (images : List NamedImage) (image : List ℕ) (flat : FlatState) (w : Page) → w ≢ q
    → SamePage old.place new.place (beside_kernel old images image flat) (beside_kernel new images image flat) w

-- pages with no frame that are all read from where the demanded page is read from, a frame for each, and a transfer
pub record CanBringIn (p : Placement) (q : Page) (lo n : ℕ) : Type 0 where
  pub enter : EachPage (CanEnter p) (pages_from q lo n)
  pub reads : EachPage (ReadsFrom p (source_for (state_of p q)) q) (pages_from q lo n)
  pub shared : IsShared p q
  pub frames : n ≤ length p.free
  pub some : 0 < n
  pub most : n ≤ 16
  pub room : length p.transfers < 16
  pub fits : lo + n < 2 ^ 32

-- every page outside a run has the same bytes in its frame and on swap
abbrev pub SameOutside : Kernel → Kernel → List Page → Type 0
SameOutside old new qs =
    (images : List NamedImage) (image : List ℕ) (flat : FlatState) (w : Page) → EachPage (λ r. w ≢ r) qs
    → SamePage old.place new.place (beside_kernel old images image flat) (beside_kernel new images image flat) w

-- a page that a frame holds, of a space or of text that a space shares
pub record CanReclaim (p : Placement) (q : Page) : Type 0 where
  pub frame : ℕ
  pub invalid : state_of p q ≡ Invalid frame
  pub shared : IsShared p q

-- every page has the same bytes in its frame and on swap
abbrev pub SameEverywhere : Kernel → Kernel → Type 0
SameEverywhere old new =
    (images : List NamedImage) (image : List ℕ) (flat : FlatState) (w : Page)
    → SamePage old.place new.place (beside_kernel old images image flat) (beside_kernel new images image flat) w

-- whatever the images and the swap image, the machine stands for what a change makes of the flat states that it stood for
abbrev pub ChangesFlat : Kernel → Kernel → ℕ → Regs → Change → Type 0
ChangesFlat old new pid regs change =
    (images : List NamedImage) (image : List ℕ) (flat : FlatState) → Coupled old images image flat
    → Coupled new images image (apply_change images flat pid regs change)
