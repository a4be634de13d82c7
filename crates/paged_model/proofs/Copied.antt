-- Where no reason is given a copy may be made.
use Rattle.std.proofs.Common.{◌≡◌, ℕ, ◌<◌, List, [], ◌∷◌, length, None, refl, ap, ◌∙◌}
use Rattle.vm_facts.specs.declared.page.Page.{Page}
use Rattle.vm_facts.specs.declared.page.PageState.{PageState}
use Rattle.vm_facts.specs.declared.page.PageState.TheVariants.{Unfilled, Valid, Invalid, Coming, Going, OnSwap}
use Rattle.flat_state.specs.PageNames.{same_page}
use Rattle.flat_state.proofs.PageNames.{same_page_is}
use Rattle.page_model.specs.Placement.{Placement, Due, Start, CopyOf, IsThere, state_of}
use Rattle.paged_model.specs.declared.reason.Reason.TheVariants as reasons
use Rattle.paged_model.specs.Reasons.{unless}
use Rattle.paged_model.specs.Coming.{CopyComes}
use Rattle.paged_model.specs.Moves.{is_there, parent_by, copy_due, copy_reason}
use Rattle.paged_model.proofs.Reasoned.{or_none, unless_none}
use Rattle.paged_model.proofs.There.{true_there, if_there_none}
use Rattle.paged_model.proofs.Comes.{some_free}

record ParentValid (p : Placement) (parent : Page) : Type 0 where
  frame : ℕ
  valid : state_of p parent ≡ Valid frame
  free : 0 < length p.free

parent_valid : (p : Placement) (parent : Page) → parent_by p parent (state_of p parent) ≡ None → ParentValid p parent
parent_valid p parent e = go (state_of p parent) refl e
  where
    go : (s : PageState) → state_of p parent ≡ s → parent_by p parent s ≡ None → ParentValid p parent
    go (Valid f) i n = record { frame = f; valid = i; free = some_free p.free n }
    go Unfilled i n = absurd cc
    go (Invalid f) i n = absurd cc
    go (Coming f) i n = absurd cc
    go (Going f) i n = absurd cc
    go OnSwap i n = absurd cc

-- the page from which it is copied, and the rest
pub copy_comes : (p : Placement) (q : Page) → copy_reason p q ≡ None → (parent : Page) × CopyComes p q parent
copy_comes p q e =
    let x = if_there_none (is_there p q) q (copy_due p q p.due) e in go (true_there p q x.0) p.due refl x.1
  where
    go : IsThere p q → (ds : List Due) → p.due ≡ ds → copy_due p q ds ≡ None → (parent : Page) × CopyComes p q parent
    go there [] i n = absurd cc
    go there (Start w ∷ ds) i n = absurd cc
    go there (CopyOf w parent ∷ ds) i n =
        let o = or_none (unless (same_page w q) (reasons.DueFirst w)) (parent_by p parent (state_of p parent)) n in
        let same : w ≡ q = same_page_is w q (unless_none (same_page w q) (reasons.DueFirst w) o.0) in
        let v : ParentValid p parent = parent_valid p parent o.1 in (
          parent,
          record {
            there = there;
            others = ds;
            first = i ∙ ap (λ (y : Page). CopyOf y parent ∷ ds) same;
            frame = v.frame;
            valid = v.valid;
            free = v.free;
          },
        )
