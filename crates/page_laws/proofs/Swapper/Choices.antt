-- The swapper chooses as is said of it.
use Rattle.std.proofs.Common.{◌≡◌, ◌⊎◌, inl, inr, ℕ, zero, suc, ◌+◌, ◌<◌, ◌≤◌, ◌==◌, nat_lt, nat_le, Bool, true, false, not, ◌&&◌, ◌||◌, cond, List, [], ◌∷◌, length, take, filter, Option, Some, None, refl, sym, ap, ◌∙◌, subst, arith}
use Rattle.std.proofs.lemmas.Bool.Decides.{nat_tests}
use Rattle.std.proofs.lemmas.Bool.{leb-true, not-true, and_parts, not_from_false}
use Rattle.page_model.specs.Placement.{Placement}
use Rattle.page_model.specs.Runs.{desired_free}
use Rattle.page_model.specs.Swapper.{Runner, Choice, In, Out, Nothing, is_out, since, size_in_frames, is_longer, longest_of, longest, is_larger, ranked_in, ranked, may_come_in, may_go_out, sleepers, brings, puts_out, out_of, choice_of_out, choice_by, swap_choice}
use Rattle.page_model.specs.Swapping.{OneOf, IsFirst, ComesIn, MayGo, larger_count, IsPick, GoesOut, NoneMoves}
use Rattle.page_laws.proofs.Lists.Local.{none_some}
use Rattle.std.proofs.lemmas.Option.{same_Some}

-- Orders.

-- a number and a pid before another number and pid
abbrev Before : ℕ → ℕ → ℕ → ℕ → Type 0
Before a i b j = (a < b) ⊎ ((a ≡ b) × (i ≤ j))

before_true : (a i b j : ℕ) → (nat_lt a b || ((a == b) && nat_lt i j)) ≡ true → Before a i b j
before_true a i b j e = grind (arith, nat_tests)

before_false : (a i b j : ℕ) → (nat_lt a b || ((a == b) && nat_lt i j)) ≡ false → Before b j a i
before_false a i b j e = grind (arith, nat_tests)

before_both : (a i b j c k : ℕ) → Before a i b j → Before b j c k → Before a i c k
before_both a i b j c k (inl h) (inl g) = inl (omega arith)
before_both a i b j c k (inl h) (inr g) = inl (let e = g.0 in omega arith)
before_both a i b j c k (inr h) (inl g) = inl (let e = h.0 in omega arith)
before_both a i b j c k (inr h) (inr g) = inr (h.0 ∙ g.0, let l = h.1 in let m = g.1 in omega arith)

-- Lists.

one_map : (r : Runner) (f : Runner → Bool) (xs : List Runner) → OneOf r (filter f xs) → OneOf r xs × (f r ≡ true)
one_map r f [] o = absurd o
one_map r f (x ∷ xs) o = go (f x) refl o (one_map r f xs)
  where
    go : (b : Bool) → f x ≡ b → OneOf r (cond b (x ∷ filter f xs) (filter f xs)) → (OneOf r (filter f xs) → OneOf r xs × (f r ≡ true)) → OneOf r (x ∷ xs) × (f r ≡ true)
    go true e (inl h) ih = (inl h, ap f h ∙ e)
    go true e (inr h) ih = let k = ih h in (inr k.0, k.1)
    go false e h ih = let k = ih h in (inr k.0, k.1)

one_in : (r : Runner) (f : Runner → Bool) (xs : List Runner) → f r ≡ true → OneOf r xs → OneOf r (filter f xs)
one_in r f [] e o = absurd o
one_in r f (x ∷ xs) e (inl h) = subst (λ (b : Bool). OneOf r (cond b (x ∷ filter f xs) (filter f xs))) (sym (ap f (sym h) ∙ e)) (inl h)
one_in r f (x ∷ xs) e (inr h) = go (f x) (one_in r f xs e h)
  where
    go : (b : Bool) → OneOf r (filter f xs) → OneOf r (cond b (x ∷ filter f xs) (filter f xs))
    go true k = inr k
    go false k = k

-- Who is in or out longest.

first_self : (p : Placement) (r : Runner) → IsFirst p r r
first_self p r = inr (refl, omega arith)

pub first_both : (p : Placement) (r x y : Runner) → IsFirst p r x → IsFirst p x y → IsFirst p r y
first_both p r x y h g = before_both (since p r) r.pid (since p x) x.pid (since p y) y.pid h g

longest_one : (p : Placement) (r : Runner) (xs : List Runner) → OneOf (longest_of p r xs) (r ∷ xs)
longest_one p r [] = inl refl
longest_one p r (x ∷ xs) = go (is_longer p x r) (longest_one p (cond (is_longer p x r) x r) xs)
  where
    go : (b : Bool) → OneOf (longest_of p (cond b x r) xs) (cond b x r ∷ xs) → OneOf (longest_of p (cond b x r) xs) (r ∷ x ∷ xs)
    go true (inl h) = inr (inl h)
    go true (inr h) = inr (inr h)
    go false (inl h) = inl h
    go false (inr h) = inr (inr h)

longest_first : (p : Placement) (r : Runner) (xs : List Runner) (y : Runner) → OneOf y (r ∷ xs) → IsFirst p (longest_of p r xs) y
longest_first p r [] y (inl h) = subst (IsFirst p r) (sym h) (first_self p r)
longest_first p r [] y (inr h) = absurd h
longest_first p r (x ∷ xs) y o = go (is_longer p x r) refl (longest_first p (cond (is_longer p x r) x r) xs) o
  where
    go : (b : Bool) → is_longer p x r ≡ b → ((z : Runner) → OneOf z (cond b x r ∷ xs) → IsFirst p (longest_of p (cond b x r) xs) z) → OneOf y (r ∷ x ∷ xs) → IsFirst p (longest_of p (cond b x r) xs) y
    go true e ih (inl h) = first_both p (longest_of p x xs) x y (ih x (inl refl)) (subst (IsFirst p x) (sym h) (before_true (since p x) x.pid (since p r) r.pid e))
    go true e ih (inr (inl h)) = ih y (inl h)
    go true e ih (inr (inr h)) = ih y (inr h)
    go false e ih (inl h) = ih y (inl h)
    go false e ih (inr (inl h)) = first_both p (longest_of p r xs) r y (ih r (inl refl)) (subst (IsFirst p r) (sym h) (before_false (since p x) x.pid (since p r) r.pid e))
    go false e ih (inr (inr h)) = ih y (inr h)

record IsLongest (p : Placement) (xs : List Runner) (r : Runner) : Type 0 where
  pub one : OneOf r xs
  pub first : (y : Runner) → OneOf y xs → IsFirst p r y

longest_is : (p : Placement) (xs : List Runner) (r : Runner) → longest p xs ≡ Some r → IsLongest p xs r
longest_is p [] r e = none_some r e
longest_is p (x ∷ xs) r e =
    let h = same_Some (longest_of p x xs) r e in
    record { one = subst (λ (z : Runner). OneOf z (x ∷ xs)) h (longest_one p x xs); first = λ y o. subst (λ (z : Runner). IsFirst p z y) h (longest_first p x xs y o) }

longest_none : (p : Placement) (xs : List Runner) (y : Runner) → longest p xs ≡ None → OneOf y xs → ⊥
longest_none p [] y e o = absurd o
longest_none p (x ∷ xs) y e o = none_some (longest_of p x xs) (sym e)

-- Those that may come in, or go out.

may_from : (p : Placement) (x : Runner) → is_out p x.pid ≡ true → x.asleep ≡ false → may_come_in p x ≡ true
may_from p x a b = ap (λ (c : Bool). c && not x.asleep) a ∙ not_from_false x.asleep b

may_parts : (p : Placement) (x : Runner) → may_go_out p x ≡ true → MayGo p x
may_parts p x e = let k = and_parts (not (is_out p x.pid)) (not x.borrowed) e in record { resident = not-true (is_out p x.pid) k.0; own = not-true x.borrowed k.1 }

parts_may : (p : Placement) (x : Runner) → MayGo p x → may_go_out p x ≡ true
parts_may p x m = ap (λ (c : Bool). c && not x.borrowed) (not_from_false (is_out p x.pid) m.resident) ∙ not_from_false x.borrowed m.own

few_is : (a b : ℕ) → nat_le a b ≡ false → b < a
few_is a b e = grind (arith, nat_tests)

out_not_in : (p : Placement) (rs : List Runner) (o : Option Runner) (pid : ℕ) → out_of p rs o ≡ In pid → ⊥
out_not_in p rs (Some r) pid e = absurd cc
out_not_in p rs None pid e = go (longest p (take 4 (ranked p rs))) e
  where
    go : (o : Option Runner) → puts_out o ≡ In pid → ⊥
    go None e = absurd cc
    go (Some r) e = absurd cc

-- Coming in.
pub chosen_in : (p : Placement) (rs : List Runner) (pid : ℕ) → swap_choice p rs ≡ In pid → ComesIn p rs pid
chosen_in p rs pid e = go (nat_le (desired_free p) (length p.free)) refl e
  where
    from : (o : Option Runner) → longest p (filter (may_come_in p) rs) ≡ o → brings o ≡ In pid → desired_free p ≤ length p.free → ComesIn p rs pid
    from None l k m = absurd cc
    from (Some r) l k m =
        let i : IsLongest p (filter (may_come_in p) rs) r = longest_is p (filter (may_come_in p) rs) r l in
        let a = one_map r (may_come_in p) rs i.one in
        let b = and_parts (is_out p r.pid) (not r.asleep) a.1 in
        record {
          runner = r;
          one = a.0;
          number = (let h : In r.pid ≡ In pid = k in cc);
          out = b.0;
          awake = not-true r.asleep b.1;
          longest = λ x o u v. i.first x (one_in x (may_come_in p) rs (may_from p x u v) o);
          enough = m;
        }

    go : (b : Bool) → nat_le (desired_free p) (length p.free) ≡ b → choice_by p rs b ≡ In pid → ComesIn p rs pid
    go true h k = from (longest p (filter (may_come_in p) rs)) refl k (leb-true (desired_free p) (length p.free) h)
    go false h k = absurd (out_not_in p (filter (may_go_out p) rs) (longest p (sleepers (filter (may_go_out p) rs))) pid k)

-- The largest.

-- how many of a list are larger
abbrev larger_in : Placement → Runner → List Runner → ℕ
larger_in p x [] = 0
larger_in p x (r ∷ rs) = cond (is_larger p r x) 1 0 + larger_in p x rs

abbrev larger_by : ℕ → ℕ → ℕ → ℕ → Bool
larger_by a i b j = nat_lt b a || ((a == b) && nat_lt i j)

larger_one_way : (a i b j : ℕ) → larger_by a i b j ≡ true → larger_by b j a i ≡ false
larger_one_way a i b j e = grind (arith, nat_tests)

larger_never : (a i : ℕ) → larger_by a i a i ≡ false
larger_never a i = grind (arith, nat_tests)

larger_neither : (a i b j : ℕ) → larger_by a i b j ≡ false → larger_by b j a i ≡ false → i ≡ j
larger_neither a i b j e h = grind (arith, nat_tests)

larger_chain : (a i b j c k : ℕ) → larger_by a i b j ≡ false → larger_by b j c k ≡ false → larger_by a i c k ≡ false
larger_chain a i b j c k e h = grind (arith, nat_tests)

abbrev NoneLarger : Placement → Runner → List Runner → Type 0
NoneLarger p x xs = (y : Runner) → OneOf y xs → is_larger p y x ≡ false

-- the largest first
abbrev Sorted : Placement → List Runner → Type 0
Sorted p [] = Unit {0}
Sorted p (x ∷ xs) = NoneLarger p x xs × Sorted p xs

ranked_in_from : (p : Placement) (r : Runner) (xs : List Runner) (y : Runner) → OneOf y (ranked_in p r xs) → (y ≡ r) ⊎ OneOf y xs
ranked_in_from p r [] y o = o
ranked_in_from p r (x ∷ xs) y o = go (is_larger p x r) o (ranked_in_from p r xs y)
  where
    go : (b : Bool) → OneOf y (cond b (x ∷ ranked_in p r xs) (r ∷ x ∷ xs)) → (OneOf y (ranked_in p r xs) → (y ≡ r) ⊎ OneOf y xs) → (y ≡ r) ⊎ OneOf y (x ∷ xs)
    go true (inl h) ih = inr (inl h)
    go true (inr h) ih = elim (ih h) [
      | inl k ↦ inl k
      | inr k ↦ inr (inr k)
    ]
    go false h ih = h

ranked_in_to : (p : Placement) (r : Runner) (xs : List Runner) (y : Runner) → OneOf y (r ∷ xs) → OneOf y (ranked_in p r xs)
ranked_in_to p r [] y o = o
ranked_in_to p r (x ∷ xs) y o = go (is_larger p x r) o (ranked_in_to p r xs y)
  where
    go : (b : Bool) → OneOf y (r ∷ x ∷ xs) → (OneOf y (r ∷ xs) → OneOf y (ranked_in p r xs)) → OneOf y (cond b (x ∷ ranked_in p r xs) (r ∷ x ∷ xs))
    go true (inl h) ih = inr (ih (inl h))
    go true (inr (inl h)) ih = inl h
    go true (inr (inr h)) ih = inr (ih (inr h))
    go false h ih = h

ranked_from : (p : Placement) (xs : List Runner) (y : Runner) → OneOf y (ranked p xs) → OneOf y xs
ranked_from p [] y o = o
ranked_from p (r ∷ rs) y o = elim (ranked_in_from p r (ranked p rs) y o) [
  | inl h ↦ inl h
  | inr h ↦ inr (ranked_from p rs y h)
]

ranked_to : (p : Placement) (xs : List Runner) (y : Runner) → OneOf y xs → OneOf y (ranked p xs)
ranked_to p [] y o = o
ranked_to p (r ∷ rs) y (inl h) = ranked_in_to p r (ranked p rs) y (inl h)
ranked_to p (r ∷ rs) y (inr h) = ranked_in_to p r (ranked p rs) y (inr (ranked_to p rs y h))

ranked_in_sorted : (p : Placement) (r : Runner) (xs : List Runner) → Sorted p xs → Sorted p (ranked_in p r xs)
ranked_in_sorted p r [] s = ((λ y o. absurd o), tt)
ranked_in_sorted p r (x ∷ xs) s = go (is_larger p x r) refl (ranked_in_sorted p r xs s.1)
  where
    go : (b : Bool) → is_larger p x r ≡ b → Sorted p (ranked_in p r xs) → Sorted p (cond b (x ∷ ranked_in p r xs) (r ∷ x ∷ xs))
    go true e ih = (
      (λ y o. elim (ranked_in_from p r xs y o) [
        | inl h ↦ ap (λ (z : Runner). is_larger p z x) h ∙ larger_one_way (size_in_frames p x) x.pid (size_in_frames p r) r.pid e
        | inr h ↦ s.0 y h
      ]),
      ih,
    )
    go false e ih = (later, s)
      where
        later : (y : Runner) → OneOf y (x ∷ xs) → is_larger p y r ≡ false
        later y (inl h) = ap (λ (z : Runner). is_larger p z r) h ∙ e
        later y (inr h) = larger_chain (size_in_frames p y) y.pid (size_in_frames p x) x.pid (size_in_frames p r) r.pid (s.0 y h) e

ranked_sorted : (p : Placement) (xs : List Runner) → Sorted p (ranked p xs)
ranked_sorted p [] = tt
ranked_sorted p (r ∷ rs) = ranked_in_sorted p r (ranked p rs) (ranked_sorted p rs)

ranked_in_count : (p : Placement) (x r : Runner) (xs : List Runner) → larger_in p x (ranked_in p r xs) ≡ larger_in p x (r ∷ xs)
ranked_in_count p x r [] = refl
ranked_in_count p x r (y ∷ ys) = go (is_larger p y r) (ranked_in_count p x r ys)
  where
    go : (b : Bool) → larger_in p x (ranked_in p r ys) ≡ larger_in p x (r ∷ ys) → larger_in p x (cond b (y ∷ ranked_in p r ys) (r ∷ y ∷ ys)) ≡ larger_in p x (r ∷ y ∷ ys)
    go true ih = omega (arith, ih)
    go false ih = refl

ranked_count : (p : Placement) (x : Runner) (xs : List Runner) → larger_in p x (ranked p xs) ≡ larger_in p x xs
ranked_count p x [] = refl
ranked_count p x (r ∷ rs) = ranked_in_count p x r (ranked p rs) ∙ ap (λ (n : ℕ). cond (is_larger p r x) 1 0 + n) (ranked_count p x rs)

may_count : (p : Placement) (x : Runner) (rs : List Runner) → larger_in p x (filter (may_go_out p) rs) ≡ larger_count p x rs
may_count p x [] = refl
may_count p x (r ∷ rs) = go (may_go_out p r) (may_count p x rs)
  where
    go : (b : Bool) → larger_in p x (filter (may_go_out p) rs) ≡ larger_count p x rs
        → larger_in p x (cond b (r ∷ filter (may_go_out p) rs) (filter (may_go_out p) rs)) ≡ cond (b && is_larger p r x) 1 0 + larger_count p x rs
    go true ih = ap (λ (n : ℕ). cond (is_larger p r x) 1 0 + n) ih
    go false ih = omega (arith, ih)

none_count : (p : Placement) (x : Runner) (xs : List Runner) → NoneLarger p x xs → larger_in p x xs ≡ 0
none_count p x [] n = refl
none_count p x (y ∷ ys) n =
    let a = ap (λ (b : Bool). cond b 1 0 + larger_in p x ys) (n y (inl refl)) in
    let b = none_count p x ys (λ z o. n z (inr o)) in
    omega arith

take_from : (n : ℕ) (xs : List Runner) (y : Runner) → OneOf y (take n xs) → OneOf y xs
take_from zero [] y o = absurd o
take_from zero (x ∷ xs) y o = absurd o
take_from (suc n) [] y o = o
take_from (suc n) (x ∷ xs) y (inl h) = inl h
take_from (suc n) (x ∷ xs) y (inr h) = inr (take_from n xs y h)

-- of those taken from the front fewer are larger
taken_few : (p : Placement) (n : ℕ) (xs : List Runner) (x : Runner) → Sorted p xs → OneOf x (take n xs) → larger_in p x xs < n
taken_few p zero [] x s o = absurd o
taken_few p zero (y ∷ ys) x s o = absurd o
taken_few p (suc n) [] x s o = absurd o
taken_few p (suc n) (y ∷ ys) x s (inl h) =
    let a : larger_in p x (y ∷ ys) ≡ larger_in p y (y ∷ ys) = ap (λ (z : Runner). larger_in p z (y ∷ ys)) h in
    let b : larger_in p y (y ∷ ys) ≡ 0 + larger_in p y ys = ap (λ (b : Bool). cond b 1 0 + larger_in p y ys) (larger_never (size_in_frames p y) y.pid) in
    let c = none_count p y ys s.0 in
    omega arith
taken_few p (suc n) (y ∷ ys) x s (inr h) = let a = taken_few p n ys x s.1 h in one (is_larger p y x) a
  where
    one : (b : Bool) → larger_in p x ys < n → cond b 1 0 + larger_in p x ys < suc n
    one true l = omega arith
    one false l = omega arith

-- one of the same pid among those taken
record Taken (n : ℕ) (xs : List Runner) (x : Runner) : Type 0 where
  pub runner : Runner
  pub one : OneOf runner (take n xs)
  pub number : runner.pid ≡ x.pid

few_taken : (p : Placement) (n : ℕ) (xs : List Runner) (x : Runner) → Sorted p xs → OneOf x xs → larger_in p x xs < n → Taken n xs x
few_taken p zero xs x s o l = absurd (omega arith)
few_taken p (suc n) [] x s o l = absurd o
few_taken p (suc n) (y ∷ ys) x s (inl h) l = record { runner = y; one = inl refl; number = ap (λ (z : Runner). z.pid) (sym h) }
few_taken p (suc n) (y ∷ ys) x s (inr h) l = go (is_larger p y x) refl l (few_taken p n ys x s.1 h)
  where
    go : (b : Bool) → is_larger p y x ≡ b → cond b 1 0 + larger_in p x ys < suc n → (larger_in p x ys < n → Taken n ys x) → Taken (suc n) (y ∷ ys) x
    go true e m ih = let t : Taken n ys x = ih (omega arith) in record { runner = t.runner; one = inr t.one; number = t.number }
    go false e m ih = record { runner = y; one = inl refl; number = larger_neither (size_in_frames p y) y.pid (size_in_frames p x) x.pid e (s.0 x h) }

-- Going out.

asleep_in : (rs : List Runner) (x : Runner) → OneOf x rs → x.asleep ≡ true → OneOf x (sleepers rs)
asleep_in rs x o e = one_in x (λ r. r.asleep) rs e o

first_as : (p : Placement) (r y x : Runner) → y.pid ≡ x.pid → IsFirst p r y → IsFirst p r x
first_as p r y x e h = subst (λ (n : ℕ). Before (since p r) r.pid (Rattle.page_model.specs.Swapper.residence_of p.residents n).since n) e h

awake_or : (x : Runner) (rs : List Runner) (p : Placement) → longest p (sleepers rs) ≡ None → OneOf x rs → x.asleep ≡ false
awake_or x rs p e o = go x.asleep refl
  where
    go : (b : Bool) → x.asleep ≡ b → b ≡ false
    go true h = absurd (longest_none p (sleepers rs) x e (asleep_in rs x o h))
    go false h = refl

sleeper_out : (p : Placement) (rs : List Runner) (r : Runner) (pid : ℕ) → longest p (sleepers (filter (may_go_out p) rs)) ≡ Some r → r.pid ≡ pid
    → length p.free < desired_free p → GoesOut p rs pid
sleeper_out p rs r pid l e m =
    let c = filter (may_go_out p) rs in
    let i : IsLongest p (sleepers (filter (may_go_out p) rs)) r = longest_is p (sleepers c) r l in
    let a = one_map r (λ x. x.asleep) c i.one in
    let b = one_map r (may_go_out p) rs a.0 in
    record {
      runner = r;
      one = b.0;
      number = e;
      may = may_parts p r b.1;
      pick = subst (IsPick p rs r) (sym a.1) (λ x o g s. i.first x (asleep_in c x (one_in x (may_go_out p) rs (parts_may p x g) o) s));
      few = m;
    }

large_out : (p : Placement) (rs : List Runner) (r : Runner) (pid : ℕ) → longest p (sleepers (filter (may_go_out p) rs)) ≡ None
    → longest p (take 4 (ranked p (filter (may_go_out p) rs))) ≡ Some r
    → r.pid ≡ pid → length p.free < desired_free p → GoesOut p rs pid
large_out p rs r pid n l e m =
    let counted : (x : Runner) → larger_in p x (ranked p (filter (may_go_out p) rs)) ≡ larger_count p x rs = λ x. ranked_count p x (filter (may_go_out p) rs) ∙ may_count p x rs in
    let c = filter (may_go_out p) rs in
    let i : IsLongest p (take 4 (ranked p (filter (may_go_out p) rs))) r = longest_is p (take 4 (ranked p c)) r l in
    let d = ranked_from p c r (take_from 4 (ranked p c) r i.one) in
    let b = one_map r (may_go_out p) rs d in
    record {
      runner = r;
      one = b.0;
      number = e;
      may = may_parts p r b.1;
      pick = subst (IsPick p rs r) (sym (awake_or r c p n d)) (
        (λ x o g. awake_or x c p n (one_in x (may_go_out p) rs (parts_may p x g) o)),
        subst (λ (k : ℕ). k < 4) (counted r) (taken_few p 4 (ranked p c) r (ranked_sorted p c) i.one),
        (λ x o g k.
            let t : Taken 4 (ranked p (filter (may_go_out p) rs)) x =
            few_taken p 4 (ranked p c) x (ranked_sorted p c) (ranked_to p c x (one_in x (may_go_out p) rs (parts_may p x g) o)) (subst (λ (j : ℕ). j < 4) (sym (counted x)) k) in
            first_as p r t.runner x t.number (i.first t.runner t.one)),
      );
      few = m;
    }

pub chosen_out : (p : Placement) (rs : List Runner) (pid : ℕ) → swap_choice p rs ≡ Out pid → GoesOut p rs pid
chosen_out p rs pid e = go (nat_le (desired_free p) (length p.free)) refl e
  where
    c : List Runner
    c = filter (may_go_out p) rs

    never : (o : Option Runner) → brings o ≡ Out pid → ⊥
    never None k = absurd cc
    never (Some r) k = absurd cc

    number : (r : Runner) → Out r.pid ≡ Out pid → r.pid ≡ pid
    number r k = cc

    large : (o : Option Runner) → longest p (sleepers c) ≡ None → longest p (take 4 (ranked p c)) ≡ o → puts_out o ≡ Out pid → length p.free < desired_free p → GoesOut p rs pid
    large None n l k m = absurd cc
    large (Some r) n l k m = large_out p rs r pid n l (number r k) m

    by : (o : Option Runner) → longest p (sleepers c) ≡ o → out_of p c o ≡ Out pid → length p.free < desired_free p → GoesOut p rs pid
    by (Some r) l k m = sleeper_out p rs r pid l (number r k) m
    by None l k m = large (longest p (take 4 (ranked p c))) l refl k m

    go : (b : Bool) → nat_le (desired_free p) (length p.free) ≡ b → choice_by p rs b ≡ Out pid → GoesOut p rs pid
    go true h k = absurd (never (longest p (filter (may_come_in p) rs)) k)
    go false h k = by (longest p (sleepers c)) refl k (few_is (desired_free p) (length p.free) h)

-- Nothing.

taken_some : (p : Placement) (xs : List Runner) (x : Runner) → OneOf x xs → longest p (take 4 xs) ≡ None → ⊥
taken_some p [] x o e = absurd o
taken_some p (y ∷ ys) x o e = none_some (longest_of p y (take 3 ys)) (sym e)

pub chosen_none : (p : Placement) (rs : List Runner) → swap_choice p rs ≡ Nothing → NoneMoves p rs
chosen_none p rs e = go (nat_le (desired_free p) (length p.free)) refl e
  where
    c : List Runner
    c = filter (may_go_out p) rs

    nobody_in : (o : Option Runner) → longest p (filter (may_come_in p) rs) ≡ o → brings o ≡ Nothing → (x : Runner) → OneOf x rs → is_out p x.pid ≡ true → (b : Bool) → x.asleep ≡ b → b ≡ true
    nobody_in (Some r) l k x o a b h = absurd cc
    nobody_in None l k x o a true h = refl
    nobody_in None l k x o a false h = absurd (longest_none p (filter (may_come_in p) rs) x l (one_in x (may_come_in p) rs (may_from p x a h) o))

    nobody_out : (o d : Option Runner) → longest p (take 4 (ranked p c)) ≡ d → out_of p c o ≡ Nothing → (o ≡ None → puts_out d ≡ Nothing) → (x : Runner) → OneOf x rs → is_out p x.pid ≡ false
        → (b : Bool) → x.borrowed ≡ b → b ≡ true
    nobody_out (Some r) d l k j x o a b h = absurd cc
    nobody_out None (Some r) l k j x o a b h = absurd (let z = j refl in cc)
    nobody_out None None l k j x o a true h = refl
    nobody_out None None l k j x o a false h = absurd (taken_some p (ranked p c) x (ranked_to p c x (one_in x (may_go_out p) rs (parts_may p x (record { resident = a; own = h })) o)) l)

    put_none : (o : Option Runner) → out_of p c o ≡ Nothing → o ≡ None → puts_out (longest p (take 4 (ranked p c))) ≡ Nothing
    put_none None k h = k
    put_none (Some r) k h = absurd cc

    go : (b : Bool) → nat_le (desired_free p) (length p.free) ≡ b → choice_by p rs b ≡ Nothing → NoneMoves p rs
    go true h k = (
      (λ x o a m. nobody_in (longest p (filter (may_come_in p) rs)) refl k x o a x.asleep refl),
      (λ x o a m. absurd (let l = leb-true (desired_free p) (length p.free) h in omega arith)),
    )
    go false h k = (
      (λ x o a m. absurd (let l = few_is (desired_free p) (length p.free) h in omega arith)),
      (λ x o a m. nobody_out (longest p (sleepers c)) (longest p (take 4 (ranked p c))) refl k (put_none (longest p (sleepers c)) k) x o a x.borrowed refl),
    )
