-- What is known of the tables of a machine that runs, also within a call that begins a read.
use Rattle.std.specs.Prelude.{◌≡◌, ℕ, ◌≤◌, map, length}
use Rattle.vm_facts.specs.declared.page.Page.{Page}
use Rattle.core_map.specs.Frames.{IsSoundMap}
use Rattle.flat_state.specs.PageNames.{pages_from}
use Rattle.page_model.specs.Placement.{parts_of, flying}
use Rattle.page_model.specs.Ownership.{OwnsFrames, TextAside}
use Rattle.page_model.specs.Conditions.{EachPage, AllApart, CanEnter, IsShared}
use Rattle.flat_state.specs.Numbers.{AllDistinct}
use Rattle.kernel_tables.specs.View.{Lists, flown_number, placement_of}
use Rattle.kernel_tables.specs.Tied.{Tied}
use Rattle.kernel_tables.specs.Rising.{sids_of}

-- each frame has one owner, text that nobody shares is aside, no two spaces have one number, and the tables are tied
pub record Known (t : Lists) : Type 0 where
  pub core : IsSoundMap t.free t.slots
  pub owns : OwnsFrames (placement_of t)
  pub aside : TextAside (placement_of t)
  pub tied : Tied t
  pub differ : AllDistinct (sids_of t.spaces)
  -- the tokens in flight are those of the transfers
  pub numbers : flying (parts_of t.transfers) ≡ map flown_number t.flown

-- a run of pages may take frames
pub record MayBring (t : Lists) (q : Page) (lo n : ℕ) : Type 0 where
  pub known : Known t
  pub enter : EachPage (CanEnter (placement_of t)) (pages_from q lo n)
  pub apart : AllApart (pages_from q lo n)
  pub shared : EachPage (IsShared (placement_of t)) (pages_from q lo n)
  pub frames : n ≤ length t.free
