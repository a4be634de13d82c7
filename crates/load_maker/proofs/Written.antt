-- A text that was formatted, said in another way.
use Rattle.std.proofs.Common.{◌≡◌, List, ℕ, Result, Ok, Err, IfOk, ◌∙◌}

pub text_is : {S E : Type 0} (view : S → List ℕ) (r : Result S E) (x y : List ℕ) → IfOk r (λ s. view s ≡ x) → x ≡ y → IfOk r (λ s. view s ≡ y)
text_is view (Ok s) x y h e = h ∙ e
text_is view (Err error) x y h e = tt
