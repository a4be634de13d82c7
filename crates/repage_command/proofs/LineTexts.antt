-- A page and a number as a line of a trace has them.
use Rattle.std.proofs.Common.{◌≡◌, ℕ, List, [], ◌∷◌, ◌++◌, codes, Result, Ok, Err, OnOk, append_assoc, sym, ap, ◌∙◌}
use Rattle.std.specs.Prelude.{decimal}
use Rattle.std.proofs.lemmas.List.{append-nil}
use Rattle.vm_facts.specs.declared.page.Page.{Page}
use Rattle.vm_facts.specs.declared.page.Page.TheVariants.{Data, Stack, Text}
use Rattle.run_text.specs.Text.{page_text, rest_of_line}
use Rattle.replay_command.specs.Explaining.{around_number}

put_as : {E : Type 0} (r : Result (Unit {0}) E) (new old text other : List ℕ) → text ≡ other → OnOk r (new ≡ old ++ text) → OnOk r (new ≡ old ++ other)
put_as (Ok u) new old text other same h = h ∙ ap (λ (t : List ℕ). old ++ t) same
put_as (Err e) new old text other same h = tt

-- two pieces that were put are one
pub put_together : {E : Type 0} (r : Result (Unit {0}) E) (new old x y : List ℕ) → OnOk r (new ≡ old ++ x ++ y) → OnOk r (new ≡ old ++ (x ++ y))
put_together (Ok u) new old x y h = h ∙ append_assoc old x y
put_together (Err e) new old x y h = tt

two_numbers : (n b m : List ℕ) → n ++ b ++ m ≡ n ++ (b ++ m ++ [])
two_numbers n b m = append_assoc n b m ∙ ap (λ (x : List ℕ). n ++ x) (sym (append-nil (b ++ m)))

pub data_put : {E : Type 0} (r : Result (Unit {0}) E) (new old : List ℕ) (sid v : ℕ)
    → OnOk r (new ≡ old ++ around_number (codes " d ") sid (codes " ") ++ decimal v) → OnOk r (new ≡ old ++ page_text (Data sid v))
data_put r new old sid v h =
    put_as r new old (around_number (codes " d ") sid (codes " ") ++ decimal v) (page_text (Data sid v))
    (ap (λ (t : List ℕ). codes " d " ++ t) (two_numbers (decimal sid) (codes " ") (decimal v)))
    (put_together r new old (around_number (codes " d ") sid (codes " ")) (decimal v) h)

pub stack_put : {E : Type 0} (r : Result (Unit {0}) E) (new old : List ℕ) (sid v : ℕ)
    → OnOk r (new ≡ old ++ around_number (codes " s ") sid (codes " ") ++ decimal v) → OnOk r (new ≡ old ++ page_text (Stack sid v))
stack_put r new old sid v h =
    put_as r new old (around_number (codes " s ") sid (codes " ") ++ decimal v) (page_text (Stack sid v))
    (ap (λ (t : List ℕ). codes " s " ++ t) (two_numbers (decimal sid) (codes " ") (decimal v)))
    (put_together r new old (around_number (codes " s ") sid (codes " ")) (decimal v) h)

pub text_put : {E : Type 0} (r : Result (Unit {0}) E) (new old : List ℕ) (image v : ℕ)
    → OnOk r (new ≡ old ++ around_number (codes " x ") image (codes " ") ++ decimal v) → OnOk r (new ≡ old ++ page_text (Text image v))
text_put r new old image v h =
    put_as r new old (around_number (codes " x ") image (codes " ") ++ decimal v) (page_text (Text image v))
    (ap (λ (t : List ℕ). codes " x " ++ t) (two_numbers (decimal image) (codes " ") (decimal v)))
    (put_together r new old (around_number (codes " x ") image (codes " ")) (decimal v) h)

counted : (n : ℕ) → around_number (codes " ") n (codes "\n") ≡ rest_of_line (n ∷ [])
counted n = sym (ap (λ (x : List ℕ). x ++ codes "\n") (append-nil (codes " " ++ decimal n)))

pub counted_put : {E : Type 0} (r : Result (Unit {0}) E) (new old letter : List ℕ) (q : Page) (n : ℕ)
    → OnOk r (new ≡ old ++ letter ++ page_text q ++ around_number (codes " ") n (codes "\n")) → OnOk r (new ≡ old ++ letter ++ page_text q ++ rest_of_line (n ∷ []))
counted_put r new old letter q n =
    put_as r new (old ++ letter ++ page_text q) (around_number (codes " ") n (codes "\n")) (rest_of_line (n ∷ [])) (counted n)
