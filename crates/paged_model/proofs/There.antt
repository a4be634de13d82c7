-- Pages that are there.
use Rattle.std.proofs.Common.{◌≡◌, ◌<◌, Bool, true, false, length, Option, None, refl, arith}
use Rattle.std.proofs.lemmas.Bool.Decides.{nat_tests}
use Rattle.vm_facts.specs.declared.page.Page.{Page}
use Rattle.flat_state.specs.PageNames.{number_of}
use Rattle.page_model.specs.Placement.{Placement, slots_of, IsThere}
use Rattle.paged_model.specs.declared.reason.Reason.{Reason}
use Rattle.paged_model.specs.Moves.{is_there, if_there}

-- a page is there
pub there_true : (p : Placement) (q : Page) → IsThere p q → is_there p q ≡ true
there_true p q h = grind (arith, nat_tests)

pub there_false : (p : Placement) (q : Page) → (IsThere p q → ⊥) → is_there p q ≡ false
there_false p q h = go (is_there p q) refl
  where
    go : (b : Bool) → is_there p q ≡ b → b ≡ false
    go false e = refl
    go true e = absurd (h (let l : number_of q < length (slots_of p q) = grind (arith, nat_tests) in l))

pub true_there : (p : Placement) (q : Page) → is_there p q ≡ true → IsThere p q
true_there p q e = let l : number_of q < length (slots_of p q) = grind (arith, nat_tests) in l

-- with no reason the page is there
pub if_there_none : (b : Bool) (q : Page) (r : Option Reason) → if_there b q r ≡ None → (b ≡ true) × (r ≡ None)
if_there_none true q r e = (refl, e)
if_there_none false q r e = absurd cc
