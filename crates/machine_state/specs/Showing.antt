-- What the core map of a machine shows of its placement.
use Rattle.std.specs.Prelude.{◌≡◌, ℕ, ◌+◌, nat_lt, Bool, length, Option, Some}
use Rattle.vm_facts.specs.declared.page.Page.{Page}
use Rattle.vm_facts.specs.Lists.{times}
use Rattle.frame_state.specs.Frame.{Frame}
use Rattle.core_map.specs.declared.slot.Slot.TheVariants.{Free, Resident}
use Rattle.core_map.specs.Slots.{slot_at, listings}
use Rattle.core_map.specs.Frames.{Frames}
use Rattle.table_steps.specs.Space.{Places}
use Rattle.page_model.specs.Placement.{Placement, IsFrame, page_of, is_dirty, parts_of, flying}
use Rattle.table_steps.specs.TableViewShown.{is_away}
use Rattle.table_steps.specs.Views.{ShowsSpace}

-- There is a slot for each frame, after one that is no frame's. The free list is the placement's, and no other frame is
-- free; a free frame has the page that it still holds, if any; the frames in transfers are away, and no other is; and a
-- frame that is neither has its page, with a mark that says whether that is dirty.
pub record ShowsCore (p : Placement) (core : Frames) : Type 0 where
  pub frames : length core.slots ≡ length p.holds + 1
  pub free : p.free ≡ core.free
  pub listed : (f : ℕ) → times f core.free ≡ listings (slot_at core.slots f)
  pub still : (f : ℕ) (token : Frame) (page : Option Page) → slot_at core.slots f ≡ Free token page → page_of p f ≡ page
  pub away : (f : ℕ) → IsFrame p f → is_away (slot_at core.slots f) ≡ nat_lt 0 (times f (flying (parts_of p.transfers)))
  pub kept : (f : ℕ) (token : Frame) (q : Page) (mark : Bool) → slot_at core.slots f ≡ Resident token q mark → (page_of p f ≡ Some q) × (mark ≡ is_dirty p q)

-- some core map shows the placement, and the entries of a space show it with that
pub record IsShown (p : Placement) (s : Places) : Type 0 where
  pub core : Frames
  pub frames : ShowsCore p core
  pub space : ShowsSpace p core s
