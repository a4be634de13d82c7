-- Which page one move of the hands may take.
use Rattle.std.specs.Prelude.{◌≡◌, ◌⊎◌, ℕ, false, List}
use Rattle.vm_facts.specs.declared.page.Page.{Page}
use Rattle.vm_facts.specs.declared.page.PageState.TheVariants.{Valid, Invalid}
use Rattle.page_model.specs.PageNames.{is_among}
use Rattle.vm_facts.specs.Lists.{times}
use Rattle.page_model.specs.Placement.{Placement, state_of}

-- A page that a move may take from this frame: it isn't locked, and it was invalid there, off the free list, or is made
-- so by the same move, since the front hand stands at the frame.
pub record MayBeSwept (p : Placement) (locked : List Page) (w : Page) (f : ℕ) : Type 0 where
  pub unlocked : is_among w locked ≡ false
  pub idle : ((state_of p w ≡ Invalid f) × (times f p.free ≡ 0)) ⊎ ((state_of p w ≡ Valid f) × (p.front ≡ f))
