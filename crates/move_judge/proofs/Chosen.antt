-- Of two reasons the first.
use Rattle.std.proofs.Common.{◌≡◌, List, [], ◌∷◌, Option, Some, None, refl, sym, ap, ◌∙◌}
use Rattle.page_model.specs.Placement.{Due, Start, CopyOf}
use Rattle.paged_model.specs.declared.reason.Reason.{Reason}
use Rattle.paged_model.specs.Reasons.{or_reason}
use Rattle.paged_model.specs.Moves.{due_first}

-- where the first holds it is told
pub first_told : (a b : Option Reason) (r : Reason) → a ≡ Some r → Some r ≡ or_reason a b
first_told a b r e = sym (ap (λ (o : Option Reason). or_reason o b) e)

-- and else the other
pub then_told : (a b x : Option Reason) → a ≡ None → x ≡ b → x ≡ or_reason a b
then_told a b x e f = f ∙ sym (ap (λ (o : Option Reason). or_reason o b) e)

-- with no page due nothing is
pub none_due : (ds : List Due) → due_first ds ≡ None → ds ≡ []
none_due [] e = refl
none_due (Start q ∷ ds) e = absurd cc
none_due (CopyOf q parent ∷ ds) e = absurd cc
