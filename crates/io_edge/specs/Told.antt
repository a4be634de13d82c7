-- What follows where content is told.
use Rattle.std.specs.Prelude.{◌≡◌, ℕ, List, [], ◌++◌, length, Option, Some, None}
use Rattle.std.proofs.Common.{subst, refl, ap, sym, ◌∙◌, append_assoc, append-nil}
use Rattle.std.proofs.lemmas.Option.{same_Some}
use Rattle.vm_facts.specs.SwapImages.{SwapImage}
use Rattle.io_edge.specs.Written.{Extends}

pub some_is : (a b : List ℕ) → Some a ≡ Some b → a ≡ b
some_is a b same = cc

-- the length of what is told
pub told_length : (a b : SwapImage) (n : ℕ) → Some a ≡ Some b → length a.bytes ≡ n → length b.bytes ≡ n
told_length a b n same long = subst (λ (image : SwapImage). length image.bytes ≡ n) (same_Some a b same) long

-- a sink after no call
pub extends_itself : (written : Option (List ℕ)) → Extends written written
extends_itself None = ([], refl)
extends_itself (Some bytes) = ([], ap (λ (kept : List ℕ). Some kept) (sym (append-nil bytes)))

-- a sink after one row of calls and then another
pub extends_through : (a b c : Option (List ℕ)) → Extends a b → Extends b c → Extends a c
extends_through None None c first then = then
extends_through None (Some y) c first then = cc
extends_through (Some x) None c first then = cc
extends_through (Some x) (Some y) c first then = (
  first.0 ++ then.0,
  then.1 ∙ ap (λ (kept : List ℕ).
      Some kept) (ap (λ (kept : List ℕ). kept ++ then.0) (some_is y (x ++ first.0) first.1) ∙ append_assoc x first.0 then.0),
)

-- what isn't told has any length
pub untold_length : (image : SwapImage) (n : ℕ) → None ≡ Some image → length image.bytes ≡ n
untold_length image n told = cc
