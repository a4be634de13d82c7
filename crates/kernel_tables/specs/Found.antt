-- The frame that holds a page, found by the core map: also of text that no space shares.
use Rattle.std.specs.Prelude.{ℕ, ◌+◌, Bool, false, cond, List, [], ◌∷◌, Option, Some, None}
use Rattle.vm_facts.specs.declared.page.Page.{Page}
use Rattle.vax_pte.specs.declared.Place.{Place}
use Rattle.vax_pte.specs.declared.Place.TheVariants as places
use Rattle.core_map.specs.declared.slot.Slot.{Slot as Token}
use Rattle.core_map.specs.Slots.{slot_page}
use Rattle.flat_state.specs.PageNames.{same_page}

-- what a frame holds is this page
abbrev pub holds_it : Option Page → Page → Bool
holds_it None q = false
holds_it (Some r) q = same_page r q

-- the first of the slots from number n on that has the page
abbrev pub found_from : ℕ → List Token → Page → Option ℕ
found_from n [] q = None
found_from n (s ∷ ss) q = cond (holds_it (slot_page s) q) (Some n) (found_from (n + 1) ss q)

-- the frame that holds the page, free or not, by the core map; none where no frame does
abbrev pub frame_holding : List Token → Page → Option ℕ
frame_holding slots q = found_from 0 slots q

-- where a text page is that no space shares: still in a free frame, or in its file
abbrev pub cached_by : Option ℕ → ℕ → Place
cached_by None v = places.Image v
cached_by (Some f) v = places.Frame f false false

-- where a text page is that no space shares, by the core map
abbrev pub cached_place : List Token → Page → ℕ → Place
cached_place slots q v = cached_by (frame_holding slots q) v
