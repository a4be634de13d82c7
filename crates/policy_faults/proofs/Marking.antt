-- Marks by page, as a list that may end before a page.
use Rattle.std.proofs.Common.{◌≡◌, ℕ, ◌+◌, ◌-◌, ◌<◌, ◌≤◌, Bool, true, false, cond, List, ◌∷◌, ◌++◌, length, take, replicate, get_or, set, Option, Some, None, refl, sym, ap, ◌∙◌, arith, inl, inr}
use Rattle.std.specs.Prelude.{◌==◌, is_some}
use Rattle.std.proofs.lemmas.Bool.{cases_lt, cases_eq, eq-eqb, ne_eqb, false≢true, cond-false}
use Rattle.std.proofs.lemmas.List.{get_or_past, get_or-set_same, get_or-set_other, get_or_append_left, get_or-append_right, get_or-replicate, take_all, length-replicate}
use Rattle.page_opt.specs.Plans.{has}
use Rattle.policy_faults.specs.Kept.{HaveMarks}
use Rattle.policy_faults.proofs.Rings.{Marks, has_at}

-- a page with a mark has a place
pub there_within : (marks : List (Option Bool)) (page : ℕ) → is_some (get_or marks page None) ≡ true → page < length marks
there_within marks page there = elim (cases_lt page (length marks)) [
  | inl within ↦ within
  | inr past ↦ absurd (false≢true (sym (ap (λ (o : Option Bool). is_some o) (get_or_past marks page None past)) ∙ there))
]

-- one mark was put
pub mark_put : (old new : List (Option Bool)) (page : ℕ) (mark : Option Bool) → page < length old → new ≡ set old page mark
    → Marks (λ q. get_or old q None) (λ q. get_or new q None) page mark
mark_put old new page mark within put = λ q. elim (cases_eq page q) [
  | inl same ↦
      ap (λ (ms : List (Option Bool)). get_or ms q None) put ∙ ap (λ (r : ℕ). get_or (set old page mark) r None) (sym same)
      ∙ get_or-set_same old page mark None within
      ∙ sym (ap (λ (b : Bool). cond b mark (get_or old q None)) (eq-eqb page q same))
  | inr other ↦
      ap (λ (ms : List (Option Bool)). get_or ms q None) put ∙ get_or-set_other old page q mark None (λ e. other (sym e))
      ∙ sym (cond-false (page == q) mark (get_or old q None) (ne_eqb page q other))
]

-- places were added, without marks
pub mark_grown : (old new : List (Option Bool)) (places : ℕ) → length old ≤ places → new ≡ take places old ++ replicate (places - length old) None
    → (q : ℕ) → get_or new q None ≡ get_or old q None
mark_grown old new places more grown q = elim (cases_lt q (length old)) [
  | inl within ↦
      ap (λ (ms : List (Option Bool)). get_or ms q None) (grown ∙ ap (λ (ms : List (Option Bool)). ms ++ replicate (places - length old) None) (take_all places old more))
      ∙ get_or_append_left old (replicate (places - length old) None) None q within
  | inr past ↦
      ap (λ (ms : List (Option Bool)). get_or ms q None) (grown ∙ ap (λ (ms : List (Option Bool)). ms ++ replicate (places - length old) None) (take_all places old more))
      ∙ get_or-append_right old (replicate (places - length old) None) (length old) q None refl past
      ∙ none_there (places - length old) (q - length old) ∙ sym (get_or_past old q None past)
]
  where
    none_there : (n i : ℕ) → get_or (replicate {A = Option Bool} n None) i None ≡ None
    none_there n i = elim (cases_lt i n) [
      | inl within ↦ get_or-replicate {A = Option Bool} n i None None within
      | inr past ↦ get_or_past (replicate {A = Option Bool} n None) i None (let size = length-replicate {A = Option Bool} n None in omega (arith, past))
    ]

-- what is read of a page's mark
pub mark_read : (held marks : List (Option Bool)) (page : ℕ) (o : Option Bool) → o ≡ get_or held page None → held ≡ marks → o ≡ get_or marks page None
mark_read held marks page o read same = read ∙ ap (λ (ms : List (Option Bool)). get_or ms page None) same

-- a mark was put where a place was made for it
pub mark_came : (grown marks new : List (Option Bool)) (page : ℕ) (mark : Option Bool) → page < length grown
    → ((q : ℕ) → get_or grown q None ≡ get_or marks q None) → new ≡ set grown page mark
    → Marks (λ q. get_or marks q None) (λ q. get_or new q None) page mark
mark_came grown marks new page mark within others put = λ q.
    mark_put grown new page mark within put q ∙ ap (λ (o : Option Bool). cond (page == q) mark o) (others q)

-- the page at the front has a mark
pub front_there : (marks : ℕ → Option Bool) (page : ℕ) (ps qs : List ℕ) → ps ≡ page ∷ qs → HaveMarks marks ps → is_some (marks page) ≡ true
front_there marks page ps qs first are = are.inside page ∙ ap (λ (xs : List ℕ). has page xs) first ∙ has_at (page ∷ qs) 0 (omega arith)
