-- The lines that move pages, by the conditions under which each may come, each with its name.
use Rattle.std.specs.Prelude.{◌≡◌, ℕ, ◌+◌, ◌<◌, ◌≤◌, List, [], ◌∷◌, length}
use Rattle.vm_facts.specs.declared.page.Page.{Page}
use Rattle.vm_facts.specs.declared.page.PageState.TheVariants.{Unfilled, Valid, Invalid}
use Rattle.flat_state.specs.PageNames.{number_of, pages_from}
use Rattle.page_model.specs.Pages.{Zeros}
use Rattle.page_model.specs.Placement.{Placement, Due, Start, CopyOf, IsThere, state_of, filling_of}
use Rattle.page_model.specs.Conditions.{EachPage, CanEnter, IsShared}
use Rattle.page_model.specs.PageBytes.{IsWritable, ReadsFrom}
use Rattle.page_model.specs.Reading.{source_for}

-- nothing is due, or this page is due first, as a new stack page 0
abbrev pub FirstStart : List Due → Page → Type 0
FirstStart [] q = Unit {0}
FirstStart (Start r ∷ ds) q = r ≡ q
FirstStart (CopyOf r parent ∷ ds) q = ⊥

-- `Z`: a page of data or stack that was never filled, and is to be filled with zeros; nothing is due before it; and a frame is free.
pub record ZeroComes (p : Placement) (q : Page) : Type 0 where
  pub writable : IsWritable q
  pub there : IsThere p q
  pub unfilled : state_of p q ≡ Unfilled
  pub zeros : filling_of p q ≡ Zeros
  pub first : FirstStart p.due q
  pub free : 0 < length p.free

-- `C`: a copy to this page is due first, from one that is valid; and a frame is free.
pub record CopyComes (p : Placement) (q parent : Page) : Type 0 where
  pub there : IsThere p q
  pub others : List Due
  pub first : p.due ≡ CopyOf q parent ∷ others
  pub frame : ℕ
  pub valid : state_of p parent ≡ Valid frame
  pub free : 0 < length p.free

-- `G`: 1 to 16 pages, the wanted one among them, each with no frame and read from where that one is read from; text is shared; each finds a
-- free frame; and fewer than 16 transfers are in flight.
pub record GetComes (p : Placement) (q : Page) (lo n : ℕ) : Type 0 where
  pub there : IsThere p q
  pub shared : IsShared p q
  pub some : 0 < n
  pub most : n ≤ 16
  pub low : lo ≤ number_of q
  pub high : number_of q < lo + n
  pub enter : EachPage (CanEnter p) (pages_from q lo n)
  pub reads : EachPage (ReadsFrom p (source_for (state_of p q)) q) (pages_from q lo n)
  pub frames : n ≤ length p.free
  pub room : length p.transfers < 16

-- `R`: a frame still holds the page, and text is shared.
pub record ReclaimComes (p : Placement) (q : Page) : Type 0 where
  pub there : IsThere p q
  pub frame : ℕ
  pub invalid : state_of p q ≡ Invalid frame
  pub shared : IsShared p q
