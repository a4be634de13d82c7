-- Bounds that stay so along a run: pages of spaces, and processes.
use Rattle.std.specs.Prelude.{◌≡◌, ℕ, ◌*◌, ◌<◌, ◌≤◌, length, Some}
use Rattle.flat_state.specs.Space.{Space}
use Rattle.flat_state.specs.Flat.{Holding, Holds, Lends, Zombie, FlatState, NamedImage, Inputs, image_numbered}
use Rattle.vm_facts.specs.declared.page.Page.TheVariants.{Data, Stack}
use Rattle.aout_image.specs.Image.{image_data_pages}
use Rattle.flat_state.specs.declared.change.Change.{Change}
use Rattle.flat_state.specs.declared.change.Change.TheVariants.{Resize, Fork, Lend}
use Rattle.page_model.specs.Placement.{Placement, slots_of}
use Rattle.run_laws.specs.Standing.{EachProcess}

-- at most 4,096 pages of data, and 512 of stack
pub record SpaceSized (s : Space) : Type 0 where
  pub data_size : length s.data_bytes ≤ 1024 * 4096
  pub stack_size : length s.stack_bytes ≤ 1024 * 512

-- a space that is held is no larger than may be
abbrev pub HoldingSized : Holding → Type 0
HoldingSized (Holds s) = SpaceSized s
HoldingSized (Lends sid child) = Unit {0}
HoldingSized (Zombie status) = Unit {0}

-- and at most 64 processes, zombies counted
pub record FlatSized (flat : FlatState) : Type 0 where
  pub spaces : EachProcess (λ q. HoldingSized q.holding) flat.processes
  pub count : length flat.processes ≤ 64

-- so it is of the images, and of the first processes
pub record InputsSized (A : Inputs) : Type 0 where
  pub images : (number : ℕ) (named : NamedImage) → image_numbered A.images number ≡ Some named → image_data_pages named.image.facts ≤ 4096
  pub first : length A.first ≤ 64

-- a change by which spaces and processes stay as few
abbrev pub ChangeSized : FlatState → Change → Type 0
ChangeSized F (Resize data_pages stack_pages) = (data_pages ≤ 4096) × (stack_pages ≤ 512)
ChangeSized F (Fork child) = length F.processes < 64
ChangeSized F (Lend child) = length F.processes < 64
ChangeSized F change = Unit {0}

-- the same of a placement
abbrev pub PlaceSized : Placement → Type 0
PlaceSized p = (sid : ℕ) → (length (slots_of p (Data sid 0)) ≤ 4096) × (length (slots_of p (Stack sid 0)) ≤ 512)
