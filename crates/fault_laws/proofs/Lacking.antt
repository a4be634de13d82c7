-- How many pages of a list aren't among those that are held.
use Rattle.std.proofs.Common.{◌≡◌, ℕ, ◌+◌, ◌≤◌, Bool, true, false, not, List, [], ◌∷◌, length, refl, sym, ap, ◌∙◌, arith, inl, inr, ◌⊎◌}
use Rattle.std.specs.Prelude.{◌==◌, ◌||◌, ◌&&◌, cond}
use Rattle.std.proofs.lemmas.Bool.{cases_eq, cases_Bool, eq-eqb, ne_eqb, eqb-true, false≢true, or_cases, or_left, or_right, or_parts, and_parts, and_from, not-true, not_from_false}
use Rattle.vm_facts.specs.Lists.{without_first}
use Rattle.page_opt.specs.Plans.{has}
use Rattle.page_opt.specs.Cache.{bit, tally, count_in, IsCache}
use Rattle.page_opt.proofs.Counts.{tally_all}
use Rattle.fault_laws.specs.Memory.{lacking}

-- Counting by tests.

-- what passes one test passes another
bit_less : (a b : Bool) → (a ≡ true → b ≡ true) → bit a ≤ bit b
bit_less false b h = omega arith
bit_less true b h = let e = ap bit (h refl) in omega arith

pub tally_less : (f g : ℕ → Bool) (qs : List ℕ) → ((q : ℕ) → has q qs ≡ true → f q ≡ true → g q ≡ true) → tally f qs ≤ tally g qs
unfolding has
tally_less f g [] h = omega arith
tally_less f g (q ∷ qs) h =
    let one = bit_less (f q) (g q) (h q (or_left (q == q) (has q qs) (eq-eqb q q refl))) in
    let rest = tally_less f g qs (λ r k. h r (or_right (q == r) (has r qs) k)) in
    omega arith

-- what passes one test passes one of two others
bit_either : (a b c : Bool) → (a ≡ true → (b ≡ true) ⊎ (c ≡ true)) → bit a ≤ bit b + bit c
bit_either false b c h = omega arith
bit_either true b c h = elim (h refl) [
  | inl e ↦ let k = ap bit e in omega arith
  | inr e ↦ let k = ap bit e in omega arith
]

tally_either : (f g h : ℕ → Bool) (qs : List ℕ) → ((q : ℕ) → f q ≡ true → (g q ≡ true) ⊎ (h q ≡ true)) → tally f qs ≤ tally g qs + tally h qs
tally_either f g h [] k = omega arith
tally_either f g h (q ∷ qs) k =
    let one = bit_either (f q) (g q) (h q) (k q) in
    let rest = tally_either f g h qs k in
    omega arith

tally_none : (qs : List ℕ) → tally (λ q. false) qs ≡ 0
tally_none [] = refl
tally_none (q ∷ qs) = let rest = tally_none qs in omega arith

tally_not : (f : ℕ → Bool) (qs : List ℕ) → tally f qs + tally (λ q. not (f q)) qs ≡ length qs
tally_not f [] = refl
tally_not f (q ∷ qs) = let one = sum (f q) in let rest = tally_not f qs in omega arith
  where
    sum : (b : Bool) → bit b + bit (not b) ≡ 1
    sum true = refl
    sum false = refl

-- two tests that agree on a list
tally_same : (f g : ℕ → Bool) (qs : List ℕ) → ((q : ℕ) → has q qs ≡ true → f q ≡ g q) → tally f qs ≡ tally g qs
unfolding has
tally_same f g [] h = refl
tally_same f g (q ∷ qs) h =
    let one = ap bit (h q (or_left (q == q) (has q qs) (eq-eqb q q refl))) in
    let rest = tally_same f g qs (λ r k. h r (or_right (q == r) (has r qs) k)) in
    omega arith

-- Lists in which each page stands once.

-- one page counts once at most
tally_one : (f : ℕ → Bool) (y : ℕ) (xs : List ℕ) → count_in y xs ≤ 1 → tally (λ p. (y == p) && f p) xs ≤ bit (f y)
tally_one f y xs once = elim (cases_Bool (f y)) [
  | inl passes ↦
      let all = tally_less (λ p. (y == p) && f p) (λ p. p == y) xs (λ p k h. eq-eqb p y (sym (eqb-true y p (and_parts (y == p) (f p) h).0))) in
      let one = ap bit passes in
      omega arith
  | inr fails ↦
      let all = tally_less (λ p. (y == p) && f p) (λ p. false) xs
      (λ p there h. let k = and_parts (y == p) (f p) h in sym fails ∙ ap f (eqb-true y p k.0) ∙ k.1) in
      let none = tally_none xs in
      omega arith
]

-- those of a list that stand in another one are at most as many as the other has
tally_within : (f : ℕ → Bool) (xs ys : List ℕ) → ((q : ℕ) → count_in q xs ≤ 1) → tally (λ p. has p ys && f p) xs ≤ tally f ys
unfolding has
tally_within f xs [] once = let none = tally_none xs in omega arith
tally_within f xs (y ∷ ys) once =
    let all = tally_either (λ p. ((y == p) || has p ys) && f p) (λ p. (y == p) && f p) (λ p. has p ys && f p) xs
    (λ p h. let k = and_parts ((y == p) || has p ys) (f p) h in elim (or_cases (y == p) (has p ys) k.0) [
      | inl e ↦ inl (and_from (y == p) (f p) e k.1)
      | inr e ↦ inr (and_from (has p ys) (f p) e k.1)
    ])
    in
    let one = tally_one f y xs (once y) in
    let rest = tally_within f xs ys once in
    omega arith

-- What isn't held.

-- what isn't held wasn't there before, or was there and isn't held
pub lacking_through : (held before pages : List ℕ) → ((q : ℕ) → count_in q pages ≤ 1) → lacking held pages ≤ lacking before pages + lacking held before
lacking_through held before pages once =
    let all = tally_either (λ p. not (has p held)) (λ p. not (has p before)) (λ p. has p before && not (has p held)) pages
    (λ p h. elim (cases_Bool (has p before)) [
      | inl there ↦ inr (and_from (has p before) (not (has p held)) there h)
      | inr away ↦ inl (not_from_false (has p before) away)
    ])
    in
    let within = tally_within (λ p. not (has p held)) pages before once in
    omega arith

enter_less : (p : ℕ) (held pages : List ℕ) → lacking (p ∷ held) pages ≤ lacking held pages
unfolding has
enter_less p held pages = tally_less (λ q. not (has q (p ∷ held))) (λ q. not (has q held)) pages
    (λ q k h. not_from_false (has q held) (or_parts (p == q) (has q held) (not-true ((p == q) || has q held) h)).1)

-- a page that wasn't held enters
pub enter_fewer : (p : ℕ) (held pages : List ℕ) → has p pages ≡ true → has p held ≡ false → lacking (p ∷ held) pages + 1 ≤ lacking held pages
unfolding has
enter_fewer p held [] there away = absurd (false≢true there)
enter_fewer p held (q ∷ qs) there away = elim (cases_eq q p) [
  | inl same ↦
      let entered = ap (λ (b : Bool). bit (not (b || has q held))) (eq-eqb p q (sym same)) in
      let lacked = ap (λ (r : ℕ). bit (not (has r held))) same in
      let none = ap (λ (b : Bool). bit (not b)) away in
      let rest = enter_less p held qs in
      omega arith
  | inr other ↦
      let skip = ap (λ (b : Bool). bit (not (b || has q held))) (ne_eqb p q (λ e. other (sym e))) in
      let rest = enter_fewer p held qs (later other (or_cases (q == p) (has p qs) there)) away in
      omega arith
]
  where
    later : (q ≡ p → ⊥) → ((q == p) ≡ true) ⊎ (has p qs ≡ true) → has p qs ≡ true
    later other (inl same) = absurd (other (eqb-true q p same))
    later other (inr e) = e

pub without_other : (v q : ℕ) (held : List ℕ) → (q ≡ v → ⊥) → has q (without_first v held) ≡ has q held
unfolding has without_first
without_other v q [] other = refl
without_other v q (r ∷ rs) other = elim (cases_eq r v) [
  | inl same ↦
      ap (λ (b : Bool). has q (cond b rs (r ∷ without_first v rs))) (eq-eqb r v same) ∙
      sym (ap (λ (b : Bool). b || has q rs) (ne_eqb r q (λ e. other (sym e ∙ same))))
  | inr apart ↦
      ap (λ (b : Bool). has q (cond b rs (r ∷ without_first v rs))) (ne_eqb r v apart) ∙
      ap (λ (b : Bool). (r == q) || b) (without_other v q rs other)
]

-- a page leaves that isn't asked for
pub leave_same : (v : ℕ) (held pages : List ℕ) → has v pages ≡ false → lacking (without_first v held) pages ≡ lacking held pages
leave_same v held pages away = tally_same (λ q. not (has q (without_first v held))) (λ q. not (has q held)) pages
    (λ q h. ap not (without_other v q held (λ e. false≢true (sym away ∙ ap (λ (r : ℕ). has r pages) (sym e) ∙ h))))

-- all that are asked for are held
pub lacking_none : (held pages : List ℕ) → ((q : ℕ) → has q pages ≡ true → has q held ≡ true) → lacking held pages ≡ 0
lacking_none held pages all =
    let fewer = tally_less (λ q. not (has q held)) (λ q. false) pages (λ q there h. sym (not-true (has q held) h) ∙ all q there) in
    let none = tally_none pages in
    omega arith

-- or all but one
pub lacking_one : (p : ℕ) (held pages : List ℕ) → count_in p pages ≤ 1 → ((q : ℕ) → has q pages ≡ true → (has q held ≡ true) ⊎ (q ≡ p)) → lacking held pages ≤ 1
lacking_one p held pages once all =
    let fewer = tally_less (λ q. not (has q held)) (λ q. q == p) pages (λ q there h. elim (all q there) [
      | inl held_too ↦ absurd (false≢true (sym (not-true (has q held) h) ∙ held_too))
      | inr same ↦ eq-eqb q p same
    ])
    in
    omega arith

-- A page to let go.

-- a page that is held and isn't in memory
pub record IsIdle (held pages : List ℕ) (v : ℕ) : Type 0 where
  pub there : has v held ≡ true
  pub away : has v pages ≡ false

all_or_idle : (held pages : List ℕ) → ((q : ℕ) → has q held ≡ true → has q pages ≡ true) ⊎ ((v : ℕ) × IsIdle held pages v)
unfolding has
all_or_idle [] pages = inl (λ q h. absurd (false≢true h))
all_or_idle (r ∷ rs) pages = elim (cases_Bool (has r pages)) [
  | inl there ↦ elim (all_or_idle rs pages) [
    | inl all ↦ inl (λ q h. elim (or_cases (r == q) (has q rs) h) [
      | inl e ↦ ap (λ (x : ℕ). has x pages) (sym (eqb-true r q e)) ∙ there
      | inr e ↦ all q e
    ])
    | inr some ↦ (let k : IsIdle rs pages some.0 = some.1 in inr (some.0, record { there = or_right (r == some.0) (has some.0 rs) k.there; away = k.away }))
  ]
  | inr away ↦ inr (r, record { there = or_left (r == r) (has r rs) (eq-eqb r r refl); away = away })
]

-- where all n frames are held and a page of the memory isn't, some page that is held isn't in memory
pub some_idle : (n p : ℕ) (held pages : List ℕ) → IsCache n held → IsCache n pages → n ≤ length held → has p pages ≡ true → has p held ≡ false
    → (v : ℕ) × IsIdle held pages v
some_idle n p held pages c m full there away = elim (all_or_idle held pages) [
  | inl all ↦ absurd (
      let one = enter_fewer p held pages there away in
      let sum = tally_not (λ q. has q held) pages in
      let within = tally_within (λ q. has q held) held pages c.once in
      let whole = tally_all (λ q. has q pages && has q held) held (λ q h. and_from (has q pages) (has q held) (all q h) h) in
      let few = m.small in
      omega arith)
  | inr some ↦ some
]
