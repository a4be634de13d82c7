-- Pages that are invalid in frames off the free list.
use Rattle.std.proofs.Common.{◌≡◌, ◌==◌, ◌∙◌, true, refl, ap}
use Rattle.std.proofs.lemmas.Bool.{eqb-true, eq-eqb}
use Rattle.vm_facts.specs.Lists.{times}
use Rattle.vm_facts.specs.declared.page.Page.{Page}
use Rattle.vm_facts.specs.declared.page.PageState.{PageState}
use Rattle.vm_facts.specs.declared.page.PageState.TheVariants.{Unfilled, Valid, Invalid, Coming, Going, OnSwap}
use Rattle.page_model.specs.Placement.{Placement, state_of}
use Rattle.page_model.specs.Runs.{is_idle_by, is_idle}
use Rattle.kernel_model.specs.HandParts.{IsIdle}

pub idle_is : (p : Placement) (q : Page) → is_idle p q ≡ true → IsIdle p q
idle_is p q e = go (state_of p q) refl e
  where
    go : (s : PageState) → state_of p q ≡ s → is_idle_by p s ≡ true → IsIdle p q
    go (Invalid f) i h = record { frame = f; invalid = i; off = eqb-true (times f p.free) 0 h }
    go Unfilled i h = absurd cc
    go (Valid f) i h = absurd cc
    go (Coming f) i h = absurd cc
    go (Going f) i h = absurd cc
    go OnSwap i h = absurd cc

pub is_idle_so : (p : Placement) (q : Page) → IsIdle p q → is_idle p q ≡ true
is_idle_so p q i = ap (is_idle_by p) i.invalid ∙ eq-eqb (times i.frame p.free) 0 i.off
