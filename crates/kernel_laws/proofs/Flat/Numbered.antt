-- Lists whose items have numbers: look-ups through a map, a filter, another list after, and an item that gives way.
use Rattle.std.proofs.Common.{◌≡◌, ◌≢◌, inl, inr, ℕ, ◌==◌, Bool, true, false, cond, not, List, [], ◌∷◌, ◌++◌, map, filter, Option, Some, None, refl, sym, ap, ◌∙◌, subst, arith}
use Rattle.std.proofs.lemmas.Bool.{cases_eq, eqb-true}
use Rattle.page_model.specs.Pages.{numbered}
use Rattle.flat_state.specs.Numbers.{IsAbsent, AllDistinct, AllBelow}
use Rattle.page_laws.proofs.Lists.Local.{none_some}
use Rattle.std.proofs.lemmas.Option.{same_Some}
use Rattle.page_laws.proofs.Lists.Pages.{mapped, numbered_hit, numbered_miss}

-- what is found has the number
pub has_number : {A : Type 0} (number : A → ℕ) (n : ℕ) (xs : List A) (x : A) → numbered number n xs ≡ Some x → number x ≡ n
has_number number n [] x e = none_some x e
has_number number n (y ∷ ys) x e = go (number y == n) refl e (has_number number n ys x)
  where
    go : (b : Bool) → (number y == n) ≡ b → cond b (Some y) (numbered number n ys) ≡ Some x → (numbered number n ys ≡ Some x → number x ≡ n) → number x ≡ n
    go true h k ih = ap number (sym (same_Some y x k)) ∙ eqb-true (number y) n h
    go false h k ih = ih k

-- Changed items, and lists one behind the other.

pub numbered_map : {A : Type 0} (number : A → ℕ) (g : A → A) → ((x : A) → number (g x) ≡ number x) → (n : ℕ) (xs : List A)
    → numbered number n (map g xs) ≡ mapped g (numbered number n xs)
numbered_map number g k n [] = refl
numbered_map number g k n (x ∷ xs) = ap (λ (m : ℕ). cond (m == n) (Some (g x)) (numbered number n (map g xs))) (k x) ∙ go (number x == n) (numbered_map number g k n xs)
  where
    go : (b : Bool) → numbered number n (map g xs) ≡ mapped g (numbered number n xs) → cond b (Some (g x)) (numbered number n (map g xs)) ≡ mapped g (cond b (Some x) (numbered number n xs))
    go true ih = refl
    go false ih = ih

abbrev pub or_else : {A : Type 0} → Option A → Option A → Option A
or_else None o = o
or_else (Some x) o = Some x

pub numbered_append : {A : Type 0} (number : A → ℕ) (n : ℕ) (xs ys : List A)
    → numbered number n (xs ++ ys) ≡ or_else (numbered number n xs) (numbered number n ys)
numbered_append number n [] ys = refl
numbered_append number n (x ∷ xs) ys = go (number x == n) (numbered_append number n xs ys)
  where
    go : (b : Bool) → numbered number n (xs ++ ys) ≡ or_else (numbered number n xs) (numbered number n ys)
        → cond b (Some x) (numbered number n (xs ++ ys)) ≡ or_else (cond b (Some x) (numbered number n xs)) (numbered number n ys)
    go true ih = refl
    go false ih = ih

-- Absent numbers.

pub absent_none : {A : Type 0} (number : A → ℕ) (n : ℕ) (xs : List A) → IsAbsent n (map number xs) → numbered number n xs ≡ None
absent_none number n [] a = refl
absent_none number n (x ∷ xs) a = numbered_miss number n x xs a.0 ∙ absent_none number n xs a.1

pub none_absent : {A : Type 0} (number : A → ℕ) (n : ℕ) (xs : List A) → numbered number n xs ≡ None → IsAbsent n (map number xs)
none_absent number n [] e = tt
none_absent number n (x ∷ xs) e = elim (cases_eq (number x) n) [
  | inl h ↦ none_some x (sym e ∙ numbered_hit number n x xs h)
  | inr d ↦ (d, none_absent number n xs (sym (numbered_miss number n x xs d) ∙ e))
]

pub below_absent : (n : ℕ) (xs : List ℕ) → AllBelow n xs → IsAbsent n xs
below_absent n [] b = tt
below_absent n (x ∷ xs) b = ((λ e. absurd (let h = b.0 in omega arith)), below_absent n xs b.1)

pub distinct_append : (xs : List ℕ) (n : ℕ) (ys : List ℕ) → AllDistinct (xs ++ n ∷ ys) → IsAbsent n xs × IsAbsent n ys
distinct_append [] n ys d = (tt, d.0)
distinct_append (x ∷ xs) n ys d = let h = distinct_append xs n ys d.1 in ((among xs d.0, h.0), h.1)
  where
    among : (xs : List ℕ) → IsAbsent x (xs ++ n ∷ ys) → x ≢ n
    among [] a = λ e. a.0 (sym e)
    among (y ∷ xs) a = among xs a.1

-- What a filter leaves.

pub removed_is : {A : Type 0} (number : A → ℕ) (n : ℕ) (xs : List A) → numbered number n (filter (λ (x : A). not (number x == n)) xs) ≡ None
removed_is number n [] = refl
removed_is {A} number n (x ∷ xs) = go (number x == n) refl (removed_is number n xs)
  where
    go : (b : Bool) → (number x == n) ≡ b → numbered number n (filter (λ (x : A). not (number x == n)) xs) ≡ None
        → numbered number n (cond (not b) (x ∷ filter (λ (x : A). not (number x == n)) xs) (filter (λ (x : A). not (number x == n)) xs)) ≡ None
    go true e ih = ih
    go false e ih = ap (λ (b : Bool). cond b (Some x) (numbered number n (filter (λ (x : A). not (number x == n)) xs))) e ∙ ih

pub removed_not : {A : Type 0} (number : A → ℕ) (m n : ℕ) (xs : List A) → m ≢ n
    → numbered number m (filter (λ (x : A). not (number x == n)) xs) ≡ numbered number m xs
removed_not number m n [] d = refl
removed_not {A} number m n (x ∷ xs) d = go (number x == n) refl (removed_not number m n xs d)
  where
    go : (b : Bool) → (number x == n) ≡ b → numbered number m (filter (λ (x : A). not (number x == n)) xs) ≡ numbered number m xs
        → numbered number m (cond (not b) (x ∷ filter (λ (x : A). not (number x == n)) xs) (filter (λ (x : A). not (number x == n)) xs)) ≡ numbered number m (x ∷ xs)
    go true e ih = ih ∙ sym (numbered_miss number m x xs (λ k. d (sym k ∙ eqb-true (number x) n e)))
    go false e ih = ap (λ (o : Option A). cond (number x == m) (Some x) o) ih

abbrev pub only_if : {A : Type 0} → (A → Bool) → Option A → Option A
only_if test None = None
only_if test (Some x) = cond (test x) (Some x) None

filtered_none : {A : Type 0} (number : A → ℕ) (n : ℕ) (test : A → Bool) (xs : List A) → IsAbsent n (map number xs) → numbered number n (filter test xs) ≡ None
filtered_none number n test [] a = refl
filtered_none number n test (x ∷ xs) a = go (test x) (filtered_none number n test xs a.1)
  where
    go : (b : Bool) → numbered number n (filter test xs) ≡ None → numbered number n (cond b (x ∷ filter test xs) (filter test xs)) ≡ None
    go true ih = numbered_miss number n x (filter test xs) a.0 ∙ ih
    go false ih = ih

-- where no number stands twice
pub numbered_filter : {A : Type 0} (number : A → ℕ) (n : ℕ) (test : A → Bool) (xs : List A) → AllDistinct (map number xs)
    → numbered number n (filter test xs) ≡ only_if test (numbered number n xs)
numbered_filter number n test [] d = refl
numbered_filter number n test (x ∷ xs) d = elim (cases_eq (number x) n) [
  | inl e ↦ first (test x) e ∙ sym (ap (only_if test) (numbered_hit number n x xs e))
  | inr m ↦ later (test x) m ∙ numbered_filter number n test xs d.1 ∙ sym (ap (only_if test) (numbered_miss number n x xs m))
]
  where
    first : (b : Bool) → number x ≡ n → numbered number n (cond b (x ∷ filter test xs) (filter test xs)) ≡ cond b (Some x) None
    first true e = numbered_hit number n x (filter test xs) e
    first false e = filtered_none number n test xs (subst (λ (m : ℕ). IsAbsent m (map number xs)) e d.0)

    later : (b : Bool) → number x ≢ n → numbered number n (cond b (x ∷ filter test xs) (filter test xs)) ≡ numbered number n (filter test xs)
    later true m = numbered_miss number n x (filter test xs) m
    later false m = refl

-- what a change of a found item says of the item
pub mapped_some : {A : Type 0} (g : A → A) (o : Option A) (y : A) → mapped g o ≡ Some y → (x : A) × (o ≡ Some x) × (g x ≡ y)
mapped_some g None y e = none_some y e
mapped_some g (Some x) y e = (x, refl, same_Some (g x) y e)

-- what a list of other items, with the same numbers, has at a number
abbrev pub image_by : {A : Type 0} {B : Type 0} → (A → B) → Option A → Option B
image_by f None = None
image_by f (Some x) = Some (f x)

pub numbered_image : {A : Type 0} {B : Type 0} (f : A → B) (number : A → ℕ) (number_now : B → ℕ) → ((x : A) → number_now (f x) ≡ number x)
    → (n : ℕ) (xs : List A) → numbered number_now n (map f xs) ≡ image_by f (numbered number n xs)
numbered_image f number number_now k n [] = refl
numbered_image f number number_now k n (x ∷ xs) = ap (λ (m : ℕ). cond (m == n) (Some (f x)) (numbered number_now n (map f xs))) (k x) ∙ go (number x == n) (numbered_image f number number_now k n xs)
  where
    go : (b : Bool) → numbered number_now n (map f xs) ≡ image_by f (numbered number n xs)
        → cond b (Some (f x)) (numbered number_now n (map f xs)) ≡ image_by f (cond b (Some x) (numbered number n xs))
    go true ih = refl
    go false ih = ih

-- One more item at the end.

or_none : {A : Type 0} (o : Option A) → or_else o None ≡ o
or_none None = refl
or_none (Some x) = refl

pub pushed_new : {A : Type 0} (number : A → ℕ) (n : ℕ) (xs : List A) (x : A) → numbered number n xs ≡ None → number x ≡ n
    → numbered number n (xs ++ x ∷ []) ≡ Some x
pushed_new number n xs x e i = numbered_append number n xs (x ∷ []) ∙ ap (λ o. or_else o (numbered number n (x ∷ []))) e ∙ numbered_hit number n x [] i

pub pushed_old : {A : Type 0} (number : A → ℕ) (n : ℕ) (xs : List A) (x : A) → number x ≢ n → numbered number n (xs ++ x ∷ []) ≡ numbered number n xs
pushed_old number n xs x d = numbered_append number n xs (x ∷ []) ∙ ap (or_else (numbered number n xs)) (numbered_miss number n x [] d) ∙ or_none (numbered number n xs)

pub pushed_found : {A : Type 0} (number : A → ℕ) (n : ℕ) (xs : List A) (x y : A) → numbered number n xs ≡ Some y → numbered number n (xs ++ x ∷ []) ≡ Some y
pushed_found number n xs x y e = numbered_append number n xs (x ∷ []) ∙ ap (λ o. or_else o (numbered number n (x ∷ []))) e

pub map_pushed : {A : Type 0} {B : Type 0} (f : A → B) (xs : List A) (x : A) → map f (xs ++ x ∷ []) ≡ map f xs ++ f x ∷ []
map_pushed f [] x = refl
map_pushed f (y ∷ xs) x = ap (λ l. f y ∷ l) (map_pushed f xs x)
