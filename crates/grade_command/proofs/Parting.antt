-- How a trace stands to a journal: it is the journal, or a front of it, or parts from it at one line, and no two of these.
use Rattle.std.proofs.Common.{◌≡◌, ◌↔◌, inl, inr, ℕ, zero, suc, ◌<◌, Bool, true, get_or, List, [], ◌∷◌, ◌++◌, length, slice_get, Some, None, refl, sym, ap, ◌∙◌, subst, append_assoc, arith}
use Rattle.std.proofs.lemmas.Bool.{cases_lt}
use Rattle.std.proofs.lemmas.Option.{same_Some, slice_get_read}
use Rattle.std.proofs.lemmas.List.{length-append}
use Rattle.vm_facts.specs.declared.entry.Entry.{Entry}
use Rattle.grade_command.specs.declared.grading.Grade.{Grade}
use Rattle.grade_command.specs.declared.grading.Grade.TheVariants.{Written, Front, Differs}
use Rattle.grade_command.specs.Grading.{IsFrontOf, PartsAt, IsGradeOf}

-- What stands at a place.

pub at_seam : (xs : List Entry) (e : Entry) (ys : List Entry) → slice_get (xs ++ e ∷ ys) (length xs) ≡ Some e
at_seam [] e ys = refl
at_seam (x ∷ xs) e ys = at_seam xs e ys

pub at_end : (xs : List Entry) → slice_get xs (length xs) ≡ None
at_end [] = refl
at_end (x ∷ xs) = at_end xs

at_front : (xs ys : List Entry) (k : ℕ) → k < length xs → slice_get (xs ++ ys) k ≡ slice_get xs k
at_front [] ys k below = absurd (omega (arith, below))
at_front (x ∷ xs) ys zero below = refl
at_front (x ∷ xs) ys (suc k) below = at_front xs ys k (omega (arith, below))

-- at a place within what comes first in both, both have the same entry
both_have : (good es js left rest : List Entry) (k : ℕ) → es ≡ good ++ rest → js ≡ good ++ left → k < length good → slice_get es k ≡ slice_get js k
both_have good es js left rest k e j below =
    ap (λ (xs : List Entry). slice_get xs k) e ∙ at_front good rest k below ∙ sym (at_front good left k below) ∙ sym (ap (λ (xs : List Entry). slice_get xs k) j)

-- whether the same stands at a place of both
pub same_at : (xs ys : List Entry) (k : ℕ) (x y : Entry) (same : Bool) → k < length xs → k < length ys → x ≡ get_or xs k x → y ≡ get_or ys k y
    → (same ≡ true) ↔ (x ≡ y) → (same ≡ true) ↔ (slice_get xs k ≡ slice_get ys k)
same_at xs ys k x y same here there a b says =
    let p : slice_get xs k ≡ Some x = slice_get_read xs (length xs) k x refl here a in
    let q : slice_get ys k ≡ Some y = slice_get_read ys (length ys) k y refl there b in
    (λ yes. p ∙ ap Some (says.0 yes) ∙ sym q, λ one. says.1 (same_Some x y (sym p ∙ one ∙ q)))

-- At most one of them is so.

whole_or_front : (journal es : List Entry) → es ≡ journal → IsFrontOf journal es → ⊥
whole_or_front journal es whole front =
    let long = ap length front.goes_on in
    let sum = length-append es (front.next ∷ front.more) in
    let same = ap length whole in
    omega (arith, long, sum, same)

whole_or_parted : (journal es : List Entry) (line : ℕ) → es ≡ journal → PartsAt journal es line → ⊥
whole_or_parted journal es line whole parted =
    parted.other (ap (λ (xs : List Entry). slice_get xs (length parted.good)) (sym whole ∙ parted.entries_are) ∙ at_seam parted.good parted.bad parted.more)

front_or_parted : (journal es : List Entry) (line : ℕ) → IsFrontOf journal es → PartsAt journal es line → ⊥
front_or_parted journal es line front parted =
    parted.other
    (ap (λ (xs : List Entry). slice_get xs (length parted.good))
    (front.goes_on ∙ ap (λ (xs : List Entry). xs ++ front.next ∷ front.more) parted.entries_are
    ∙ append_assoc parted.good (parted.bad ∷ parted.more) (front.next ∷ front.more))
    ∙ at_seam parted.good parted.bad (parted.more ++ front.next ∷ front.more))

-- no line before the one at which they part is another such
not_before : (journal es : List Entry) (line other : ℕ) → PartsAt journal es line → PartsAt journal es other → line < other → ⊥
not_before journal es line other p q below =
    let here = p.line_is in
    let there = q.line_is in
    p.other
    (sym (both_have q.good es journal q.first.0 (q.bad ∷ q.more) (length p.good) q.entries_are q.first.1 (omega (arith, here, there, below)))
    ∙ ap (λ (xs : List Entry). slice_get xs (length p.good)) p.entries_are ∙ at_seam p.good p.bad p.more)

one_line : (journal es : List Entry) (line other : ℕ) → PartsAt journal es line → PartsAt journal es other → line ≡ other
one_line journal es line other p q = elim (cases_lt line other) [
  | inl below ↦ absurd (not_before journal es line other p q below)
  | inr most ↦ elim (cases_lt other line) [
    | inl above ↦ absurd (not_before journal es other line q p above)
    | inr least ↦ omega (arith, most, least)
  ]
]

pub one_grade : (journal es : List Entry) (g h : Grade) → IsGradeOf journal es g → IsGradeOf journal es h → g ≡ h
one_grade journal es Written Written x y = refl
one_grade journal es Written Front x y = absurd (whole_or_front journal es x y)
one_grade journal es Written (Differs line) x y = absurd (whole_or_parted journal es line x y)
one_grade journal es Front Written x y = absurd (whole_or_front journal es y x)
one_grade journal es Front Front x y = refl
one_grade journal es Front (Differs line) x y = absurd (front_or_parted journal es line x y)
one_grade journal es (Differs line) Written x y = absurd (whole_or_parted journal es line y x)
one_grade journal es (Differs line) Front x y = absurd (front_or_parted journal es line y x)
one_grade journal es (Differs line) (Differs other) x y = ap Differs (one_line journal es line other x y)

-- so a grade that is right is so exactly
pub exactly : (journal es : List Entry) (g h : Grade) → IsGradeOf journal es g → (g ≡ h) ↔ IsGradeOf journal es h
exactly journal es g h x = (λ same. subst (λ (k : Grade). IsGradeOf journal es k) same x, λ y. one_grade journal es g h x y)
