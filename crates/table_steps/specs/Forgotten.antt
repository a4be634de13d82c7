-- The tables once a page in a frame is forgotten: its frame is at the free list's head.
use Rattle.std.specs.Prelude.{◌≡◌, ℕ, ◌∷◌, map, None, slice_set}
use Rattle.vm_facts.specs.declared.page.Page.{Page}
use Rattle.vm_facts.specs.Lists.{without}
use Rattle.vax_pte.specs.declared.Place.TheVariants as places
use Rattle.core_map.specs.declared.slot.Slot.TheVariants as tokens
use Rattle.core_map.specs.Slots.{slot_at, token_of}
use Rattle.core_map.specs.Frames.{IsSoundMap}
use Rattle.kernel_tables.specs.declared.tables.Tables.{Tables}
use Rattle.kernel_tables.specs.Shown.{placed}

-- the frame has no page, and is at the head of the free list
pub record ForgotPage (t u : Tables) (q : Page) (f : ℕ) : Type 0 where
  pub free : u.core.free ≡ f ∷ without f t.core.free
  pub slots : u.core.slots ≡ slice_set t.core.slots f (tokens.Free (token_of (slot_at t.core.slots f)) None)
  pub sound : IsSoundMap u.core.free u.core.slots
  pub spaces : u.spaces ≡ map (placed q places.Zero) t.spaces
  pub rest : u ≡ record t { core = u.core; spaces = u.spaces }
