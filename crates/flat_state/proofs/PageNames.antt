-- When two names are of one page.
use Rattle.std.proofs.Common.{◌≡◌, ℕ, ◌==◌, ◌&&◌, true, ap, ◌∙◌, arith}
use Rattle.std.proofs.lemmas.Bool.Decides.{nat_tests}
use Rattle.vm_facts.specs.declared.page.Page.{Page}
use Rattle.vm_facts.specs.declared.page.Page.TheVariants.{Data, Stack, Text}
use Rattle.flat_state.specs.PageNames.{same_page}

both_same : (a b v w : ℕ) → ((a == b) && (v == w)) ≡ true → (a ≡ b) × (v ≡ w)
both_same a b v w h = (grind (arith, nat_tests), grind (arith, nat_tests))

pub same_page_is : (q r : Page) → same_page q r ≡ true → q ≡ r
same_page_is (Data a v) (Data b w) h = let e = both_same a b v w h in ap (λ (x : ℕ). Data x v) e.0 ∙ ap (λ (x : ℕ). Data b x) e.1
same_page_is (Stack a v) (Stack b w) h = let e = both_same a b v w h in ap (λ (x : ℕ). Stack x v) e.0 ∙ ap (λ (x : ℕ). Stack b x) e.1
same_page_is (Text a v) (Text b w) h = let e = both_same a b v w h in ap (λ (x : ℕ). Text x v) e.0 ∙ ap (λ (x : ℕ). Text b x) e.1
same_page_is _ _ h = absurd cc

both_self : (a v : ℕ) → ((a == a) && (v == v)) ≡ true
both_self a v = grind (arith, nat_tests)

pub same_page_self : (q : Page) → same_page q q ≡ true
same_page_self (Data a v) = both_self a v
same_page_self (Stack a v) = both_self a v
same_page_self (Text a v) = both_self a v
