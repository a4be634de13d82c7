-- Places of a list's numbers, each written at its number.
use Rattle.std.proofs.Common.{◌≡◌, ◌≢◌, ℕ, ◌+◌, ◌-◌, ◌<◌, ◌≤◌, Bool, cond, List, [], ◌∷◌, length, zero, suc, refl, sym, ap, ◌∙◌, inl, inr, arith, slice_index, set, subst, get_or-set_same, get_or-set_other, length-set}
use Rattle.std.proofs.lemmas.Bool.{cases_eq, cases_lt}
use Rattle.std.proofs.lemmas.Bool.Decides.{nat_tests}
use Rattle.vm_facts.specs.Lists.{times}
use Rattle.vm_facts.proofs.Lists.{times_head, times_other}
use Rattle.core_map.specs.Order.{place_from}
use Rattle.core_map.specs.Links.{walk}

-- the places from n on, each written at its number
pub written : ℕ → List ℕ → List ℕ → List ℕ
written n [] places = places
written n (x ∷ xs) places = written (n + 1) xs (set places x n)

-- one more link is followed
pub written_more : (next : List ℕ) (len i a : ℕ) (places : List ℕ) → i < len
    → written (i + 1) (walk (len - i) next a) places
    ≡ written (i + 1 + 1) (walk (len - (i + 1)) next (slice_index next a)) (set places (slice_index next a) (i + 1))
unfolding written
written_more next len i a places h = let e : len - i ≡ suc (len - (i + 1)) = omega arith in ap (λ (k : ℕ). written (i + 1) (walk k next a) places) e

-- none is left
pub written_all : (next : List ℕ) (len i a : ℕ) (places : List ℕ) → len ≤ i → written (i + 1) (walk (len - i) next a) places ≡ places
unfolding written
written_all next len i a places h = let e : len - i ≡ 0 = omega arith in ap (λ (k : ℕ). written (i + 1) (walk k next a) places) e

pub length_written : (n : ℕ) (xs places : List ℕ) → length (written n xs places) ≡ length places
unfolding written
length_written n [] places = refl
length_written n (x ∷ xs) places = length_written (n + 1) xs (set places x n) ∙ length-set places x n

-- a number that isn't in the list keeps what stands there
pub written_others : (n f : ℕ) (xs places : List ℕ) → times f xs ≡ 0 → slice_index (written n xs places) f ≡ slice_index places f
unfolding written
written_others n f [] places h = refl
written_others n f (x ∷ xs) places h = elim (cases_eq x f) [
  | inl e ↦ absurd (let none : times f (f ∷ xs) ≡ 0 = subst (λ (y : ℕ). times f (y ∷ xs) ≡ 0) e h in omega (arith, none, times_head f xs))
  | inr ne ↦
      written_others (n + 1) f xs (set places x n) (sym (times_other f x xs ne) ∙ h)
      ∙ get_or-set_other places x f n 0 (λ e. ne (sym e))
]

-- a number that is in the list once has its place there
pub written_listed : (n f : ℕ) (xs places : List ℕ) → ((g : ℕ) → times g xs ≤ 1) → f < length places → 0 < times f xs
    → slice_index (written n xs places) f ≡ place_from n f xs
unfolding written
written_listed n f [] places apart low h = absurd (omega arith)
written_listed n f (x ∷ xs) places apart low h = elim (cases_eq x f) [
  | inl e ↦
      let once : times f (f ∷ xs) ≤ 1 = apart_here e in
      let none : times f xs ≡ 0 = omega (arith, once, times_head f xs) in
      written_others (n + 1) f xs (set places x n) none
      ∙ ap (λ (y : ℕ). slice_index (set places y n) f) e
      ∙ get_or-set_same places f n 0 low
      ∙ here e
  | inr ne ↦
      let low' : f < length (set places x n) = omega (arith, low, length-set places x n) in
      let more : 0 < times f xs = omega (arith, h, times_other f x xs ne) in
      written_listed (n + 1) f xs (set places x n) behind low' more ∙ there ne
]
  where
    apart_here : x ≡ f → times f (f ∷ xs) ≤ 1
    apart_here e = subst (λ (y : ℕ). times f (y ∷ xs) ≤ 1) e (apart f)

    here : x ≡ f → n ≡ place_from n f (x ∷ xs)
    here e = grind (arith, nat_tests)

    there : x ≢ f → place_from (n + 1) f xs ≡ place_from n f (x ∷ xs)
    there ne = grind (arith, nat_tests)

    behind : (g : ℕ) → times g xs ≤ 1
    behind g = elim (cases_eq x g) [
      | inl e ↦ omega (arith, times_head g xs, subst (λ (y : ℕ). times g (y ∷ xs) ≤ 1) e (apart g))
      | inr ne ↦ omega (arith, times_other g x xs ne, apart g)
    ]
