-- The write that a move of the hands begins.
use Rattle.std.proofs.Common.{◌≡◌, ◌<◌, Bool, true, false, List, Option, Some, None, refl, ap, ◌∙◌, subst, arith}
use Rattle.vm_facts.specs.declared.page.Page.{Page}
use Rattle.vm_facts.specs.declared.page.PageState.{PageState}
use Rattle.vm_facts.specs.declared.page.PageState.TheVariants.{Unfilled, Valid, Invalid, Coming, Going, OnSwap}
use Rattle.page_model.specs.Placement.{Placement, state_of, is_dirty}
use Rattle.page_model.specs.Moves.{launch_run, retire, retire_to}
use Rattle.page_model.specs.Runs.{Run, pages_of_run, run_out}
use Rattle.page_model.specs.Hands.{expire, taken, sweep_by, sweep_taken, write_by, write_taken, hand_run, advance, hand_move}
use Rattle.page_laws.proofs.Moves.Stays.{expire_transfers}

pub retire_flies : (p : Placement) (q : Page) → (retire p q).transfers ≡ p.transfers
retire_flies p q = go (state_of p q)
  where
    go : (s : PageState) → (retire_to p q s).transfers ≡ p.transfers
    go Unfilled = refl
    go (Valid f) = refl
    go (Invalid f) = refl
    go (Coming f) = refl
    go (Going f) = refl
    go OnSwap = refl

-- the write that is named is the one that begins

by_begun : (p : Placement) (locked : List Page) (v : Page) (w : Page × Run) (d : Bool) → write_by p locked v d ≡ Some w
    → sweep_by p locked v d ≡ launch_run p (pages_of_run w.0 w.1)
by_begun p locked v w true e =
    let same : (v, run_out p locked v) ≡ w = cc in
    ap (λ (x : Page × Run). launch_run p (pages_of_run x.0 x.1)) same
by_begun p locked v w false e = absurd cc

of_begun : (p : Placement) (locked : List Page) (w : Page × Run) (o : Option Page) → write_taken p locked o ≡ Some w
    → sweep_taken p locked o ≡ launch_run p (pages_of_run w.0 w.1)
of_begun p locked w None e = absurd cc
of_begun p locked w (Some v) e = by_begun p locked v w (is_dirty p v) e

module _ (p : Placement) (locked : List Page) where
  pub hand_begun : (q : Page) (r : Run) → hand_run p locked ≡ Some (q, r) → hand_move p locked ≡ advance (launch_run (expire p locked) (pages_of_run q r))
  hand_begun q r e = ap advance (of_begun (expire p locked) locked (q, r) (taken (expire p locked) locked) e)

  -- where none is named, none begins

  by_rests : (v : Page) (d : Bool) → write_by p locked v d ≡ None → (sweep_by p locked v d).transfers ≡ p.transfers
  by_rests v true e = absurd cc
  by_rests v false e = retire_flies p v

  of_rests : (o : Option Page) → write_taken p locked o ≡ None → (sweep_taken p locked o).transfers ≡ p.transfers
  of_rests None e = refl
  of_rests (Some v) e = by_rests v (is_dirty p v) e

pub hand_rests : (p : Placement) (locked : List Page) → hand_run p locked ≡ None → (hand_move p locked).transfers ≡ p.transfers
hand_rests p locked e = of_rests (expire p locked) locked (taken (expire p locked) locked) e ∙ expire_transfers p locked

-- the write that is named has a page

by_some : (p : Placement) (locked : List Page) (v : Page) (w : Page × Run) (d : Bool) → write_by p locked v d ≡ Some w → 0 < w.1.n
by_some p locked v w true e =
    let same : (v, run_out p locked v) ≡ w = cc in
    let some : 0 < (run_out p locked v).n = omega arith in
    subst (λ (x : Page × Run). 0 < x.1.n) same some
by_some p locked v w false e = absurd cc

of_some : (p : Placement) (locked : List Page) (w : Page × Run) (o : Option Page) → write_taken p locked o ≡ Some w → 0 < w.1.n
of_some p locked w None e = absurd cc
of_some p locked w (Some v) e = by_some p locked v w (is_dirty p v) e

pub hand_some : (p : Placement) (locked : List Page) (w : Page × Run) → hand_run p locked ≡ Some w → 0 < w.1.n
hand_some p locked w e = of_some (expire p locked) locked w (taken (expire p locked) locked) e
