-- Which page a paging entry may name: one that a process waits for, or one that is due.
use Rattle.std.specs.Prelude.{◌≡◌, ◌≢◌, ◌⊎◌, ℕ, ◌+◌, ◌<◌, ◌≤◌, Bool, true, List, ◌∷◌, length, Some}
use Rattle.vm_facts.specs.declared.page.Page.{Page}
use Rattle.vm_facts.specs.declared.page.Page.TheVariants.{Data, Stack, Text}
use Rattle.vm_facts.specs.declared.page.PageState.TheVariants.{Unfilled, OnSwap}
use Rattle.flat_state.specs.Flat.{Inputs}
use Rattle.flat_state.specs.PageNames.{number_of, beside}
use Rattle.page_model.specs.Pages.{is_valid}
use Rattle.page_model.specs.Placement.{Placement, Due, Start, CopyOf, IsThere, page_of, state_of}
use Rattle.page_model.specs.PageBytes.{IsWritable}
use Rattle.page_model.specs.Runs.{chunk_of, desired_free}
use Rattle.run_model.specs.State.{State}
use Rattle.run_model.specs.Wanted.{wanted}
use Rattle.run_model.specs.Kinds.{ProcessRuns}

-- a process runs, with nothing due, and this is the first page that its next instruction touches and that isn't valid
pub record IsWanted (A : Inputs) (s : State) (q : Page) : Type 0 where
  pub pid : ℕ
  pub now : Bool
  pub runs : ProcessRuns A s pid now
  pub wanted : wanted A s ≡ Some q

-- a new stack page, which is due first
pub record IsStartDue (p : Placement) (q : Page) : Type 0 where
  pub rest : List Due
  pub first : p.due ≡ Start q ∷ rest

-- a child's page, which is due first, while its parent's is valid
pub record IsCopyDue (p : Placement) (q : Page) : Type 0 where
  pub parent : Page
  pub rest : List Due
  pub first : p.due ≡ CopyOf q parent ∷ rest
  pub source : is_valid (state_of p parent) ≡ true

-- the parent's page of a child's page that is due first
pub record IsParentOfDue (p : Placement) (q : Page) : Type 0 where
  pub child : Page
  pub rest : List Due
  pub first : p.due ≡ CopyOf child q ∷ rest

-- Reads.

-- the pages of one read at most
abbrev pub most_read : Page → ℕ
most_read (Data sid v) = 4
most_read (Stack sid v) = 4
most_read (Text image v) = 2

-- A read of so many pages from page `lo` on: the demanded page is among them, and each is there and in no frame. Those on
-- swap are of one chunk or piece, and a data page that comes from the image is read alone. Where they are several, as many
-- frames as are desired stay free.
pub record IsSmallRead (p : Placement) (q : Page) (lo n : ℕ) : Type 0 where
  pub has : (lo ≤ number_of q) × (number_of q < lo + n)
  pub few : n ≤ most_read q
  pub there : (w : ℕ) → lo ≤ w → w < lo + n → IsThere p (beside q w)
  pub fresh : (w f : ℕ) → lo ≤ w → w < lo + n → page_of p f ≢ Some (beside q w)
  pub near : (w : ℕ) → state_of p q ≡ OnSwap → lo ≤ w → w < lo + n → chunk_of (beside q w) ≡ chunk_of q
  pub alone : IsWritable q → state_of p q ≡ Unfilled → n ≡ 1
  pub spares : (n ≡ 1) ⊎ (n + desired_free p ≤ length p.free)
