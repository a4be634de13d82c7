-- The place of a page's next use, from one reference to the one before.
use Rattle.std.proofs.Common.{◌≡◌, ℕ, ◌+◌, ◌<◌, ◌≤◌, Bool, cond, List, [], ◌∷◌, length, drop, get_or, set, Option, Some, None, sym, ap, ◌∙◌, subst, arith, inl, inr}
use Rattle.std.proofs.lemmas.Bool.{cases_eq, cases_lt, lt-ltb, le-ltb}
use Rattle.std.proofs.lemmas.List.{drop_more, drop_all, get_or-set_same, get_or-set_other}
use Rattle.page_opt.specs.Furthest.{next_use}
use Rattle.page_opt.specs.Cache.{next_at}
use Rattle.page_opt.proofs.Uses.{next_le, next_here, next_other}

pub next_at_none : (at q : ℕ) (future : List ℕ) → next_use q future ≡ length future → next_at at q future ≡ None
unfolding next_at
next_at_none at q future e =
    ap (λ (b : Bool). cond b (Some (at + next_use q future)) None) (le-ltb (next_use q future) (length future) (omega arith))

pub next_at_some : (at q : ℕ) (future : List ℕ) → next_use q future < length future → next_at at q future ≡ Some (at + next_use q future)
unfolding next_at
next_at_some at q future l =
    ap (λ (b : Bool). cond b (Some (at + next_use q future)) None) (lt-ltb (next_use q future) (length future) l)

next_at_here : (at p : ℕ) (future : List ℕ) → next_at at p (p ∷ future) ≡ Some at
next_at_here at p future =
    let e = next_here p future in
    next_at_some at p (p ∷ future) (omega arith) ∙ ap (λ (k : ℕ). Some k) (omega arith)

next_at_other : (at p q : ℕ) (future : List ℕ) → (p ≡ q → ⊥) → next_at at q (p ∷ future) ≡ next_at (at + 1) q future
next_at_other at p q future other =
    let e = next_other p q future other in
    let top = next_le q future in
    elim (cases_lt (next_use q future) (length future)) [
      | inl again ↦
          next_at_some at q (p ∷ future) (omega arith) ∙ ap (λ (k : ℕ). Some k) (omega arith) ∙
          sym (next_at_some (at + 1) q future again)
      | inr never ↦ next_at_none at q (p ∷ future) (omega arith) ∙ sym (next_at_none (at + 1) q future (omega arith))
    ]

pub next_at_nil : (at q : ℕ) → next_at at q [] ≡ None
next_at_nil at q = let l = next_le q [] in next_at_none at q [] (omega arith)

pub next_at_end : (refs : List ℕ) (q : ℕ) → None ≡ next_at (length refs) q (drop (length refs) refs)
next_at_end refs q =
    sym (ap (λ (future : List ℕ). next_at (length refs) q future) (drop_all (length refs) refs (omega arith)) ∙ next_at_nil (length refs) q)

-- the next uses from a reference on, by those from the one after it on
pub seen_more : (refs : List ℕ) (j : ℕ) (f g : ℕ → Option ℕ) → j < length refs → ((q : ℕ) → f q ≡ next_at (j + 1) q (drop (j + 1) refs))
    → g (get_or refs j 0) ≡ Some j → ((q : ℕ) → (get_or refs j 0 ≡ q → ⊥) → g q ≡ f q) → (q : ℕ) → g q ≡ next_at j q (drop j refs)
seen_more refs j f g l before here other q =
    subst (λ (future : List ℕ). g q ≡ next_at j q future) (sym (drop_more refs j 0 l))
    (elim (cases_eq (get_or refs j 0) q) [
      | inl same ↦
          ap g (sym same) ∙ here ∙ sym (next_at_here j (get_or refs j 0) (drop (j + 1) refs)) ∙
          ap (λ (r : ℕ). next_at j r (get_or refs j 0 ∷ drop (j + 1) refs)) same
      | inr away ↦ other q away ∙ before q ∙ sym (next_at_other j (get_or refs j 0) q (drop (j + 1) refs) away)
    ])

-- a list of next uses, filled from the end
abbrev pub AreNext : List ℕ → ℕ → List (Option ℕ) → Type 0
AreNext refs i next = (k : ℕ) (d : Option ℕ) → i ≤ k → k < length refs → get_or next k d ≡ next_at (k + 1) (get_or refs k 0) (drop (k + 1) refs)

pub next_more : (refs : List ℕ) (j : ℕ) (next : List (Option ℕ)) (w : Option ℕ) → j < length next → AreNext refs (j + 1) next
    → w ≡ next_at (j + 1) (get_or refs j 0) (drop (j + 1) refs) → AreNext refs j (set next j w)
next_more refs j next w within are is = λ k d low high. elim (cases_eq k j) [
  | inl here ↦
      ap (λ (m : ℕ). get_or (set next j w) m d) here ∙ get_or-set_same next j w d within ∙ is ∙
      ap (λ (m : ℕ). next_at (m + 1) (get_or refs m 0) (drop (m + 1) refs)) (sym here)
  | inr other ↦ get_or-set_other next j k w d other ∙ are k d (omega arith) high
]
