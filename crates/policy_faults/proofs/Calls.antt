-- What each call makes of a ring, by the pages and the marks that it has before and after.
use Rattle.std.proofs.Common.{◌≡◌, ℕ, ◌<◌, ◌≤◌, Bool, true, false, List, [], ◌∷◌, ◌++◌, length, drop, get_or, Option, Some, None, refl, sym, ap, ◌∙◌, subst, arith, inl, inr}
use Rattle.std.specs.Prelude.{is_some, unwrap_or}
use Rattle.std.proofs.lemmas.Bool.{cases_lt, false≢true}
use Rattle.page_opt.specs.Plans.{has}
use Rattle.page_opt.specs.Cache.{count_in}
use Rattle.policy_faults.specs.Ring.{MarkedPage, is_in_memory, marked_page, unmarked_at, is_hand_marked, hand_passed, paged_in}
use Rattle.policy_faults.specs.Kept.{with_marks, HaveMarks}
use Rattle.policy_faults.proofs.Rings.{Marks, has_at, length-with_marks, ring_marked, ring_unmarked, unmarked_past, ring_passed, ring_left, ring_paged_in, marked_kept, passed_kept, left_kept, paged_in_kept}
use Rattle.policy_faults.proofs.Turning.{pages_are}

pub none_marked : (marks : ℕ → Option Bool) (ps : List ℕ) → ps ≡ [] → ((q : ℕ) → marks q ≡ None) → HaveMarks marks ps
unfolding has
none_marked marks ps none away =
    subst (λ (qs : List ℕ). HaveMarks marks qs) (sym none)
    (record { once = λ q. omega arith; inside = λ q. ap (λ (o : Option Bool). is_some o) (away q) })

pub none_there : (marks : ℕ → Option Bool) (ps : List ℕ) → ps ≡ [] → with_marks marks ps ≡ []
unfolding with_marks
none_there marks ps none = ap (λ (qs : List ℕ). with_marks marks qs) none

module _ (marks : ℕ → Option Bool) (ps : List ℕ) (now : List MarkedPage) (view : with_marks marks ps ≡ now) where
  pub size_told : length ps ≡ length now
  size_told = sym (length-with_marks marks ps) ∙ ap length view

  pub resident_told : (page : ℕ) → HaveMarks marks ps → is_some (marks page) ≡ is_in_memory page now
  resident_told page are = are.inside page ∙ sym (ap (λ (qs : List ℕ). has page qs) (pages_are marks ps)) ∙ ap (λ (ms : List MarkedPage). is_in_memory page ms) view

  pub away_told : (page : ℕ) → is_in_memory page now ≡ false → has page ps ≡ false
  away_told page away = sym (ap (λ (qs : List ℕ). has page qs) (pages_are marks ps)) ∙ ap (λ (ms : List MarkedPage). is_in_memory page ms) view ∙ away

  -- no pages
  empty_now : length ps ≡ 0 → now ≡ []
  empty_now none = by now (size_told) none
    where
      by : (ms : List MarkedPage) → length ps ≡ length ms → length ps ≡ 0 → ms ≡ []
      by [] same none = refl
      by (m ∷ ms) same none = absurd (omega arith)

  empty_ring : (qs : List ℕ) → length qs ≡ 0 → with_marks marks qs ≡ []
  unfolding with_marks
  empty_ring [] none = refl
  empty_ring (q ∷ qs) none = absurd (omega arith)

  pub none_left : (qs : List ℕ) → length ps ≡ 0 → length qs ≡ 0 → with_marks marks qs ≡ drop 1 now
  none_left qs none gone = empty_ring qs gone ∙ sym (ap (λ (ms : List MarkedPage). drop 1 ms) (empty_now none))

  pub none_passed : (qs : List ℕ) → length ps ≡ 0 → length qs ≡ 0 → with_marks marks qs ≡ hand_passed now
  unfolding hand_passed
  none_passed qs none gone = empty_ring qs gone ∙ sym (ap (λ (ms : List MarkedPage). hand_passed ms) (empty_now none))

  pub none_at_hand : length ps ≡ 0 → false ≡ is_hand_marked now
  unfolding is_hand_marked
  none_at_hand none = sym (ap (λ (ms : List MarkedPage). is_hand_marked ms) (empty_now none))

  -- the page at the hand
  pub hand_told : (page : ℕ) → 0 < length ps → page ≡ get_or ps 0 page → unwrap_or (marks page) false ≡ is_hand_marked now
  unfolding is_hand_marked with_marks
  hand_told page some is = by ps some is ∙ ap (λ (ms : List MarkedPage). is_hand_marked ms) view
    where
      by : (qs : List ℕ) → 0 < length qs → page ≡ get_or qs 0 page → unwrap_or (marks page) false ≡ is_hand_marked (with_marks marks qs)
      by [] some is = absurd (omega arith)
      by (q ∷ qs) some is = ap (λ (p : ℕ). unwrap_or (marks p) false) is

  pub touched : (new : ℕ → Option Bool) (page : ℕ) → Marks marks new page (Some true) → with_marks new ps ≡ marked_page page now
  touched new page m = ring_marked marks new page ps m ∙ ap (λ (ms : List MarkedPage). marked_page page ms) view

  pub unmarked_none : (place : ℕ) → length ps ≤ place → now ≡ unmarked_at place now
  unmarked_none place past = sym (unmarked_past place now (let same = size_told in omega arith))

  pub unmarked : (new : ℕ → Option Bool) (page place : ℕ) → place < length ps → page ≡ get_or ps place 0 → HaveMarks marks ps
      → Marks marks new page (Some false)
      → with_marks new ps ≡ unmarked_at place now
  unmarked new page place within is are m =
      ring_unmarked marks new ps place within are.once (subst (λ (p : ℕ). Marks marks new p (Some false)) is m) ∙ ap (λ (ms : List MarkedPage). unmarked_at place ms) view

  pub passed : (page : ℕ) (qs rs : List ℕ) → ps ≡ page ∷ qs → rs ≡ qs ++ page ∷ [] → with_marks marks rs ≡ hand_passed now
  passed page qs rs first last =
      ap (λ (xs : List ℕ). with_marks marks xs) last ∙ ring_passed marks page qs
      ∙ ap (λ (xs : List ℕ). hand_passed (with_marks marks xs)) (sym first) ∙ ap (λ (ms : List MarkedPage). hand_passed ms) view

  pub left : (new : ℕ → Option Bool) (page : ℕ) (qs : List ℕ) → ps ≡ page ∷ qs → HaveMarks marks ps → Marks marks new page None → with_marks new qs ≡ drop 1 now
  left new page qs first are m =
      ring_left marks new page qs m (subst (λ (xs : List ℕ). count_in page xs ≤ 1) first (are.once page))
      ∙ ap (λ (xs : List ℕ). drop 1 (with_marks marks xs)) (sym first) ∙ ap (λ (ms : List MarkedPage). drop 1 ms) view

  pub came : (new : ℕ → Option Bool) (page : ℕ) (qs : List ℕ) → qs ≡ ps ++ page ∷ [] → is_in_memory page now ≡ false → Marks marks new page (Some true)
      → with_marks new qs ≡ paged_in page now
  came new page qs last away m =
      ap (λ (xs : List ℕ). with_marks new xs) last ∙ ring_paged_in marks new page ps m (away_told page away) ∙ ap (λ (ms : List MarkedPage). paged_in page ms) view

-- ---- each page stands once, with a mark

pub touched_kept : (marks new : ℕ → Option Bool) (page : ℕ) (b : Bool) (ps : List ℕ) → HaveMarks marks ps → is_some (marks page) ≡ true
    → Marks marks new page (Some b)
    → HaveMarks new ps
touched_kept marks new page b ps are there m = marked_kept marks new page b ps are (sym (are.inside page) ∙ there) m

pub unmarked_kept : (marks new : ℕ → Option Bool) (page place : ℕ) (ps : List ℕ) → place < length ps → page ≡ get_or ps place 0 → HaveMarks marks ps
    → Marks marks new page (Some false) → HaveMarks new ps
unmarked_kept marks new page place ps within is are m = marked_kept marks new page false ps are (ap (λ (p : ℕ). has p ps) is ∙ has_at ps place within) m

pub there_at : (marks : ℕ → Option Bool) (page place : ℕ) (ps : List ℕ) → place < length ps → page ≡ get_or ps place 0 → HaveMarks marks ps
    → is_some (marks page) ≡ true
there_at marks page place ps within is are = are.inside page ∙ ap (λ (p : ℕ). has p ps) is ∙ has_at ps place within

pub hand_kept : (marks : ℕ → Option Bool) (page : ℕ) (ps qs rs : List ℕ) → ps ≡ page ∷ qs → rs ≡ qs ++ page ∷ [] → HaveMarks marks ps → HaveMarks marks rs
hand_kept marks page ps qs rs first last are =
    subst (λ (xs : List ℕ). HaveMarks marks xs) (sym last) (passed_kept marks page qs (subst (λ (xs : List ℕ). HaveMarks marks xs) first are))

pub first_kept : (marks new : ℕ → Option Bool) (page : ℕ) (ps qs : List ℕ) → ps ≡ page ∷ qs → HaveMarks marks ps → Marks marks new page None → HaveMarks new qs
first_kept marks new page ps qs first are m = left_kept marks new page qs (subst (λ (xs : List ℕ). HaveMarks marks xs) first are) m

pub came_kept : (marks new : ℕ → Option Bool) (page : ℕ) (ps qs : List ℕ) → qs ≡ ps ++ page ∷ [] → HaveMarks marks ps → has page ps ≡ false
    → Marks marks new page (Some true)
    → HaveMarks new qs
came_kept marks new page ps qs last are away m = subst (λ (xs : List ℕ). HaveMarks new xs) (sym last) (paged_in_kept marks new page ps are away m)

-- ---- what a look-up says of a place

-- nothing stands there
pub place_past : (n place : ℕ) → (place < n → false ≡ true) → n ≤ place
place_past n place none = elim (cases_lt place n) [ inl within ↦ absurd (false≢true (none within)) | inr past ↦ past ]
