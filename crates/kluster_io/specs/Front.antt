-- The page that the front hand makes invalid in the move whose write is sought.
use Rattle.std.specs.Prelude.{◌≡◌, ◌↔◌, Bool, true, false, List, Option, Some, None}
use Rattle.vm_facts.specs.declared.page.Page.{Page}
use Rattle.flat_state.specs.PageNames.{same_page}
use Rattle.page_model.specs.Pages.{is_valid}
use Rattle.page_model.specs.Placement.{Placement, state_of}
use Rattle.page_model.specs.Hands.{expire}

-- this is the page that is valid before the front hand's change and not after it; none, where no page is
abbrev pub Expires : Placement → List Page → Option Page → Type 0
Expires p locked front =
    (q : Page) → (front ≡ Some q) ↔ ((is_valid (state_of p q) ≡ true) × (is_valid (state_of (expire p locked) q) ≡ false))

-- the page is the one that the front hand makes invalid
abbrev pub is_front : Page → Option Page → Bool
is_front q None = false
is_front q (Some r) = same_page q r
