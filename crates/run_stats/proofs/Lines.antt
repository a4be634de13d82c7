-- Texts that go on: one more item's, and one more part.
use Rattle.std.proofs.Common.{OnOk, IfOk, Result, Ok, Err, ◌≡◌, ◌<◌, ◌≤◌, ◌+◌, ℕ, suc, List, ◌++◌, length, drop, get_or, refl, sym, ap, ◌∙◌, subst, append_assoc, add-one}
use Rattle.std.specs.List.{flat_map}
use Rattle.std.proofs.lemmas.List.{append-nil}
use Rattle.run_stats.specs.Rows.{plain_row, row}
use Rattle.run_stats.specs.Table.{lines_to}
use Rattle.run_stats.proofs.Folds.{rest_more, rest_none}

pub text_more : {A : Type 0} (f : A → List ℕ) (xs : List A) (i : ℕ) (d : A) (text new whole : List ℕ) → i < length xs
    → text ++ flat_map f (drop i xs) ≡ whole → new ≡ text ++ f (get_or xs i d) → new ++ flat_map f (drop (i + 1) xs) ≡ whole
text_more f xs i d text new whole lt so_far put =
    ap (λ (t : List ℕ). t ++ flat_map f (drop (i + 1) xs)) put
    ∙ append_assoc text (f (get_or xs i d)) (flat_map f (drop (i + 1) xs))
    ∙ ap (λ (t : List ℕ). text ++ t) (sym (rest_more (flat_map f) xs i d lt))
    ∙ so_far

pub text_all : {A : Type 0} (f : A → List ℕ) (xs : List A) (i : ℕ) (text whole : List ℕ) → length xs ≤ i
    → text ++ flat_map f (drop i xs) ≡ whole → text ≡ whole
text_all f xs i text whole over so_far = sym (append-nil text) ∙ ap (λ (t : List ℕ). text ++ t) (sym (rest_none (flat_map f) xs i over)) ∙ so_far

-- a row with its words and its count
pub row_put : (text new kind words words' : List ℕ) (number n n' : ℕ) → new ≡ text ++ row kind number words n → words ≡ words' → n ≡ n'
    → new ≡ text ++ row kind number words' n'
row_put text new kind words words' number n n' put w c = put ∙ ap (λ (t : List ℕ). text ++ row kind number t n) w ∙ ap (λ (k : ℕ). text ++ row kind number words' k) c

pub plain_put : (text new words words' : List ℕ) (n n' : ℕ) → new ≡ text ++ plain_row words n → words ≡ words' → n ≡ n' → new ≡ text ++ plain_row words' n'
plain_put text new words words' n n' put w c = put ∙ ap (λ (t : List ℕ). text ++ plain_row t n) w ∙ ap (λ (k : ℕ). text ++ plain_row words' k) c

-- a part after a text, and one more after that
pub parts_then : (old text new a b : List ℕ) → text ≡ old ++ a → new ≡ text ++ b → new ≡ old ++ (a ++ b)
parts_then old text new a b first then = then ∙ ap (λ (t : List ℕ). t ++ b) first ∙ append_assoc old a b

-- where a row was put, with its count
pub counted_row : {T E : Type 0} (r : Result T E) (text new kind words : List ℕ) (number n n' : ℕ) → n ≡ n' → OnOk r (new ≡ text ++ row kind number words n)
    → OnOk r (new ≡ text ++ row kind number words n')
counted_row (Ok x) text new kind words number n n' same put = put ∙ ap (λ (k : ℕ). text ++ row kind number words k) same
counted_row (Err e) text new kind words number n n' same put = tt

-- three plain rows, one after another
pub three_rows : {T E : Type 0} (r : Result T E) (old one two three a b c : List ℕ) (k k' m m' n n' : ℕ) → k ≡ k' → m ≡ m' → n ≡ n'
    → one ≡ old ++ plain_row a k → two ≡ one ++ plain_row b m → OnOk r (three ≡ two ++ plain_row c n)
    → OnOk r (three ≡ old ++ ((plain_row a k' ++ plain_row b m') ++ plain_row c n'))
three_rows (Err e) old one two three a b c k k' m m' n n' h i j first second third = tt
three_rows (Ok x) old one two three a b c k k' m m' n n' h i j first second third =
    plain_put two three c c n n' third refl j
    ∙ ap (λ (t : List ℕ). t ++ plain_row c n') (parts_then old one two (plain_row a k') (plain_row b m') (plain_put old one a a k k' first refl h) (plain_put one two b b m m' second refl i))
    ∙ append_assoc old (plain_row a k' ++ plain_row b m') (plain_row c n')

-- one line more
pub lines_none : (line : ℕ → List ℕ) (old : List ℕ) → old ≡ old ++ lines_to line 0
unfolding lines_to
lines_none line old = sym (append-nil old)

step : (line : ℕ → List ℕ) (old text new : List ℕ) (n : ℕ) → text ≡ old ++ lines_to line n → new ≡ text ++ line (suc n) → new ≡ old ++ lines_to line (suc n)
unfolding lines_to
step line old text new n so_far put = put ∙ ap (λ (t : List ℕ). t ++ line (suc n)) so_far ∙ append_assoc old (lines_to line n) (line (suc n))

pub lines_more : (line : ℕ → List ℕ) (old text new : List ℕ) (n : ℕ) → text ≡ old ++ lines_to line n → new ≡ text ++ line (n + 1)
    → new ≡ old ++ lines_to line (n + 1)
lines_more line old text new n so_far =
    subst (λ (k : ℕ). new ≡ text ++ line k → new ≡ old ++ lines_to line k) (sym (add-one n)) (step line old text new n so_far)

-- what is made is the same by another name
pub ok_same : {T E : Type 0} (r : Result T E) (f : T → List ℕ) (a b : List ℕ) → a ≡ b → IfOk r (λ x. f x ≡ a) → IfOk r (λ x. f x ≡ b)
ok_same (Ok x) f a b same h = h ∙ same
ok_same (Err e) f a b same h = tt
