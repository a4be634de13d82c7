-- That the core map's mark of a frame says whether its page is dirty.
use Rattle.std.specs.Prelude.{◌≡◌, ℕ, Bool, List}
use Rattle.vm_facts.specs.declared.page.Page.{Page}
use Rattle.frame_state.specs.Frame.{Frame}
use Rattle.core_map.specs.declared.slot.Slot.{Slot as Token}
use Rattle.core_map.specs.declared.slot.Slot.TheVariants as tokens
use Rattle.core_map.specs.Slots.{slot_at}
use Rattle.space_map.specs.Space.{Places}
use Rattle.text_table.specs.Texts.{Text as SharedText}
use Rattle.kernel_tables.specs.Steps.{dirty_shown}

-- the mark of a frame off the free list says whether its page is dirty
abbrev pub AreMarked : List Token → List Places → List SharedText → Type 0
AreMarked slots spaces texts =
    (f : ℕ) (token : Frame) (q : Page) (mark : Bool) → slot_at slots f ≡ tokens.Resident token q mark → mark ≡ dirty_shown spaces texts q
