-- The pages of a run: each passes, and no two are one.
use Rattle.std.proofs.Common.{◌≡◌, ◌≢◌, ◌⊎◌, inl, inr, ℕ, zero, suc, ◌+◌, ◌-◌, ◌<◌, ◌≤◌, Bool, true, false, cond, List, [], ◌∷◌, ◌++◌, refl, sym, ap, ◌∙◌, subst, arith}
use Rattle.std.proofs.lemmas.Bool.{cases_eq}
use Rattle.page_laws.proofs.Lists.Pages.{beside_self}
use Rattle.vm_facts.specs.declared.page.Page.{Page}
use Rattle.vm_facts.specs.declared.page.Page.TheVariants.{Data}
use Rattle.page_model.specs.PageNames.{number_of, beside, pages_from}
use Rattle.page_model.specs.Runs.{Run, pages_of_run, passing_above, passing_below, run_both, run_up, run_alone}
use Rattle.page_model.specs.Conditions.{EachPage, AllApart}

pub each_page_imp : (P Q : Page → Type 0) (qs : List Page) → EachPage P qs → ((q : Page) → P q → Q q) → EachPage Q qs
each_page_imp P Q [] h k = tt
each_page_imp P Q (q ∷ qs) h k = (k q h.0, each_page_imp P Q qs h.1 k)

pub each_page_both : (P Q R : Page → Type 0) (qs : List Page) → EachPage P qs → EachPage Q qs → ((q : Page) → P q → Q q → R q) → EachPage R qs
each_page_both P Q R [] h g k = tt
each_page_both P Q R (q ∷ qs) h g k = (k q h.0 g.0, each_page_both P Q R qs h.1 g.1 k)

pub each_page_append : (P : Page → Type 0) (qs rs : List Page) → EachPage P qs → EachPage P rs → EachPage P (qs ++ rs)
each_page_append P [] rs h g = g
each_page_append P (q ∷ qs) rs h g = (h.0, each_page_append P qs rs h.1 g)

pub pages_from_each : (P : Page → Type 0) (q : Page) (lo n : ℕ) → ((w : ℕ) → lo ≤ w → w < lo + n → P (beside q w)) → EachPage P (pages_from q lo n)
pages_from_each P q lo zero h = tt
pages_from_each P q lo (suc n) h = (h lo (omega arith) (omega arith), pages_from_each P q (lo + 1) n (λ w l m. h w (omega arith) (omega arith)))

pub number_beside : (q : Page) (w : ℕ) → number_of (beside q w) ≡ w
number_beside (Data sid v) w = refl
number_beside _ w = refl

pub pages_from_apart : (q : Page) (lo n : ℕ) → AllApart (pages_from q lo n)
pages_from_apart q lo zero = tt
pages_from_apart q lo (suc n) = (
  pages_from_each (λ r. r ≢ beside q lo) q (lo + 1) n
      (λ w l m e. absurd (let k : w ≡ lo = sym (number_beside q w) ∙ ap number_of e ∙ number_beside q lo in omega arith)),
  pages_from_apart q (lo + 1) n,
)

-- What passes.

above_by : (passes : ℕ → Bool) (v room : ℕ) (b : Bool) → passes (v + 1) ≡ b
    → ((w : ℕ) → v + 1 < w → w ≤ v + 1 + passing_above passes (v + 1) room → passes w ≡ true)
    → (w : ℕ) → v < w → w ≤ v + cond b (1 + passing_above passes (v + 1) room) 0 → passes w ≡ true
above_by passes v room true e ih w l m = elim (cases_eq w (v + 1)) [
  | inl s ↦ ap passes s ∙ e
  | inr n ↦ ih w (omega arith) (omega arith)
]
above_by passes v room false e ih w l m = absurd (omega arith)

pub above_pass : (passes : ℕ → Bool) (v room w : ℕ) → v < w → w ≤ v + passing_above passes v room → passes w ≡ true
above_pass passes v zero w l m = absurd (omega arith)
above_pass passes v (suc room) w l m = above_by passes v room (passes (v + 1)) refl (above_pass passes (v + 1) room) w l m

below_by : (passes : ℕ → Bool) (v room : ℕ) (b : Bool) → passes v ≡ b → ((w : ℕ) → v ≤ w + passing_below passes v room → w < v → passes w ≡ true)
    → (w : ℕ) → suc v ≤ w + cond b (1 + passing_below passes v room) 0 → w < suc v → passes w ≡ true
below_by passes v room true e ih w l m = elim (cases_eq w v) [
  | inl s ↦ ap passes s ∙ e
  | inr n ↦ ih w (omega arith) (omega arith)
]
below_by passes v room false e ih w l m = absurd (omega arith)

pub below_pass : (passes : ℕ → Bool) (v room w : ℕ) → v ≤ w + passing_below passes v room → w < v → passes w ≡ true
below_pass passes zero room w l m = absurd (omega arith)
below_pass passes (suc v) zero w l m = absurd (omega arith)
below_pass passes (suc v) (suc room) w l m = below_by passes v room (passes v) refl (below_pass passes v room) w l m

pub less_by : (b : Bool) (n v : ℕ) → n ≤ v → cond b (1 + n) 0 ≤ suc v
less_by true n v h = omega arith
less_by false n v h = omega arith

pub below_le : (passes : ℕ → Bool) (v room : ℕ) → passing_below passes v room ≤ v
below_le passes zero room = omega arith
below_le passes (suc v) zero = omega arith
below_le passes (suc v) (suc room) = less_by (passes v) (passing_below passes v room) v (below_le passes v room)

-- each page of a run is the page itself, or passes
abbrev pub InRun : (ℕ → Bool) → ℕ → Run → Type 0
InRun passes v r = (w : ℕ) → r.lo ≤ w → w < r.lo + r.n → (w ≡ v) ⊎ (passes w ≡ true)

pub run_both_in : (passes : ℕ → Bool) (v most : ℕ) → InRun passes v (run_both passes v most)
run_both_in passes v most w l m =
    let split : (a b : ℕ) → (a ≡ b) ⊎ ((a < b) ⊎ (b < a)) = λ a b. elim (cases_eq a b) [
      | inl e ↦ inl e
      | inr n ↦ inr (grind arith)
    ] in
    elim (split w v) [
      | inl e ↦ inl e
      | inr n ↦ elim n [
        | inl h ↦ inr (let k = below_le passes v (most - 1 - passing_above passes v (most - 1)) in below_pass passes v (most - 1 - passing_above passes v (most - 1)) w (omega arith) h)
        | inr h ↦ inr (let k = below_le passes v (most - 1 - passing_above passes v (most - 1)) in above_pass passes v (most - 1) w h (omega arith))
      ]
    ]

pub run_up_in : (passes : ℕ → Bool) (v most : ℕ) → InRun passes v (run_up passes v most)
run_up_in passes v most w l m = elim (cases_eq w v) [
  | inl e ↦ inl e
  | inr n ↦ inr (above_pass passes v (most - 1) w (omega arith) (omega arith))
]

pub run_alone_in : (passes : ℕ → Bool) (q : Page) → InRun passes (number_of q) (run_alone q)
run_alone_in passes q w l m = inl (omega arith)

-- what is so of the page and of each that passes is so of the run
pub run_each : (P : Page → Type 0) (passes : ℕ → Bool) (q : Page) (r : Run) → InRun passes (number_of q) r → P q
    → ((w : ℕ) → passes w ≡ true → P (beside q w)) → EachPage P (pages_of_run q r)
run_each P passes q r h here others = pages_from_each P q r.lo r.n (λ w l m. elim (h w l m) [
  | inl e ↦ subst (λ (x : ℕ). P (beside q x)) (sym e) (subst P (sym (beside_self q)) here)
  | inr e ↦ others w e
])

pub run_apart : (q : Page) (r : Run) → AllApart (pages_of_run q r)
run_apart q r = pages_from_apart q r.lo r.n
