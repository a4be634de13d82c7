-- Where the hands stand, and how far they have to go.
use Rattle.std.proofs.Common.{◌≡◌, ◌≢◌, inl, inr, ℕ, zero, suc, ◌+◌, ◌-◌, ◌<◌, ◌≤◌, ◌||◌, Bool, true, false, cond, List, [], ◌∷◌, length, refl, sym, ap, ◌∙◌, subst, arith}
use Rattle.std.proofs.lemmas.Bool.{cases_eq}
use Rattle.std.proofs.lemmas.Bool.Decides.{nat_tests}
use Rattle.vm_facts.proofs.Tests.{cases_le}
use Rattle.vm_facts.specs.declared.page.Page.{Page}
use Rattle.page_model.specs.PageNames.{same_page, is_among}
use Rattle.page_model.specs.Frames.{next_frame}
use Rattle.page_model.specs.Placement.{Placement}
use Rattle.page_model.specs.Rank.{is_open, is_usable, reach, walk}
use Rattle.page_model.proofs.PageNames.{same_page_is}

next_more : (n f : ℕ) → f < n → next_frame n f ≡ f + 1
next_more n f l = grind (arith, nat_tests)

next_end : (n : ℕ) → next_frame n n ≡ 1
next_end n = grind (arith, nat_tests)

pub walk_up : (n k f : ℕ) → f + k ≤ n → walk n k f ≡ f + k
walk_up n zero f l = omega arith
walk_up n (suc k) f l = ap (walk n k) (next_more n f (omega arith)) ∙ walk_up n k (f + 1) (omega arith) ∙ (omega arith)

pub walk_over : (n k f : ℕ) → 0 < f → f ≤ n → k < n → n < f + k → walk n k f ≡ f + k - n
walk_over n zero f a b l g = absurd (omega arith)
walk_over n (suc k) f a b l g = elim (cases_eq f n) [
  | inl e ↦ ap (λ (x : ℕ). walk n k (next_frame n x)) e ∙ ap (walk n k) (next_end n) ∙ walk_up n k 1 (omega arith) ∙ (omega arith)
  | inr e ↦ ap (walk n k) (next_more n f (omega arith)) ∙ walk_over n k (f + 1) (omega arith) (omega arith) (omega arith) (omega arith) ∙ (omega arith)
]

-- a walk stays among the frames, and meets none twice within n steps
pub walk_in : (n k f : ℕ) → 0 < f → f ≤ n → k < n → (0 < walk n k f) × (walk n k f ≤ n)
walk_in n k f a b l = elim (cases_le (f + k) n) [
  | inl h ↦ (let e = walk_up n k f h in (omega arith, omega arith))
  | inr h ↦ (let e = walk_over n k f a b l h in (omega arith, omega arith))
]

pub walk_apart : (n i j f : ℕ) → 0 < f → f ≤ n → i < j → j < n → walk n i f ≢ walk n j f
walk_apart n i j f a b l m e = elim (cases_le (f + i) n) [
  | inl h ↦ elim (cases_le (f + j) n) [
    | inl g ↦ absurd (let x = walk_up n i f h in let y = walk_up n j f g in omega arith)
    | inr g ↦ absurd (let x = walk_up n i f h in let y = walk_over n j f a b m g in omega arith)
  ]
  | inr h ↦ absurd (let x = walk_over n i f a b (omega arith) h in let y = walk_over n j f a b m (omega arith) in omega arith)
]

pub walk_next : (n k f : ℕ) → walk n k (next_frame n f) ≡ next_frame n (walk n k f)
walk_next n zero f = refl
walk_next n (suc k) f = walk_next n k (next_frame n f)

pub next_in : (n f : ℕ) → 0 < f → f ≤ n → (0 < next_frame n f) × (next_frame n f ≤ n)
next_in n f a b = elim (cases_eq f n) [
  | inl e ↦ (let h = ap (next_frame n) e ∙ next_end n in (omega arith, omega arith))
  | inr e ↦ (let h = next_more n f (omega arith) in (omega arith, omega arith))
]

-- Among the pages of a list there are no more different ones than it is long.

without_page : Page → List Page → List Page
without_page q [] = []
without_page q (r ∷ rs) = cond (same_page q r) (without_page q rs) (r ∷ without_page q rs)

shorter_by : (b : Bool) (r : Page) (xs rs : List Page) → length xs ≤ length rs → length (cond b xs (r ∷ xs)) ≤ length (r ∷ rs)
shorter_by true r xs rs l = omega arith
shorter_by false r xs rs l = omega arith

without_le : (q : Page) (rs : List Page) → length (without_page q rs) ≤ length rs
unfolding without_page
without_le q [] = omega arith
without_le q (r ∷ rs) = shorter_by (same_page q r) r (without_page q rs) rs (without_le q rs)

less_if : (b : Bool) (r : Page) (xs rs : List Page) → length xs ≤ length rs → (b ≡ false → length xs < length rs)
    → length (cond b xs (r ∷ xs)) < length (r ∷ rs)
less_if true r xs rs l k = omega arith
less_if false r xs rs l k = let h = k refl in omega arith

or_second : (a b : Bool) → (a || b) ≡ true → a ≡ false → b ≡ true
or_second true b h e = absurd cc
or_second false b h e = h

without_less : (q : Page) (rs : List Page) → is_among q rs ≡ true → length (without_page q rs) < length rs
unfolding without_page
without_less q [] h = absurd cc
without_less q (r ∷ rs) h = less_if (same_page q r) r (without_page q rs) rs (without_le q rs) (λ e. without_less q rs (or_second (same_page q r) (is_among q rs) h e))

kept_if : (b : Bool) (w r : Page) (xs : List Page) → (b ≡ true → same_page w r ≡ false) → (same_page w r ≡ false → is_among w xs ≡ true)
    → is_among w (cond b xs (r ∷ xs)) ≡ true
kept_if true w r xs n k = k (n refl)
kept_if false w r xs n k = go (same_page w r) refl
  where
    go : (c : Bool) → same_page w r ≡ c → (c || is_among w xs) ≡ true
    go true e = refl
    go false e = k e

differ : (q w r : Page) → w ≢ q → same_page q r ≡ true → same_page w r ≡ false
differ q w r n e = go (same_page w r) refl
  where
    go : (c : Bool) → same_page w r ≡ c → c ≡ false
    go true h = absurd (n (same_page_is w r h ∙ sym (same_page_is q r e)))
    go false h = refl

without_kept : (q w : Page) (rs : List Page) → w ≢ q → is_among w rs ≡ true → is_among w (without_page q rs) ≡ true
unfolding without_page
without_kept q w [] n h = h
without_kept q w (r ∷ rs) n h = kept_if (same_page q r) w r (without_page q rs) (differ q w r n) (λ e. without_kept q w rs n (or_second (same_page w r) (is_among w rs) h e))

pub pigeons : (m : ℕ) (at : ℕ → Page) (rs : List Page) → ((k : ℕ) → k < m → is_among (at k) rs ≡ true) → ((i j : ℕ) → i < j → j < m → at i ≢ at j)
    → m ≤ length rs
pigeons zero at rs h a = omega arith
pigeons (suc m) at rs h a =
    let l = without_less (at m) rs (h m (omega arith)) in
    let k = pigeons m at (without_page (at m) rs) (λ i b. without_kept (at m) (at i) rs (a i m b (omega arith)) (h i (omega arith))) (λ i j b c. a i j b (omega arith)) in
    omega arith

-- How far the back hand has to go.

cond_le : (b : Bool) (x m : ℕ) → x ≤ m → cond b 0 x ≤ m
cond_le true x m l = omega arith
cond_le false x m l = l

pub reach_le : (p : Placement) (locked : List Page) (m d f : ℕ) → reach p locked m d f ≤ m
reach_le p locked zero d f = omega arith
reach_le p locked (suc m) zero f =
    cond_le (is_open p locked f) (1 + reach p locked m zero (next_frame (length p.holds) f)) (suc m) (omega (arith, reach_le p locked m zero (next_frame (length p.holds) f)))
reach_le p locked (suc m) (suc d) f =
    cond_le (is_usable p locked f) (1 + reach p locked m d (next_frame (length p.holds) f)) (suc m) (omega (arith, reach_le p locked m d (next_frame (length p.holds) f)))

none_by : (b : Bool) (x m : ℕ) → cond b 0 (1 + x) ≡ suc m → (b ≡ false) × (x ≡ m)
none_by true x m e = absurd (omega arith)
none_by false x m e = (refl, omega arith)

-- where none is found, no frame from the front hand on is open
pub reach_none : (p : Placement) (locked : List Page) (m d f k : ℕ) → reach p locked m d f ≡ m → d ≤ k → k < m
    → is_open p locked (walk (length p.holds) k f) ≡ false
reach_none p locked zero d f k e l h = absurd (omega arith)
reach_none p locked (suc m) zero f zero e l h = (none_by (is_open p locked f) (reach p locked m zero (next_frame (length p.holds) f)) m e).0
reach_none p locked (suc m) zero f (suc k) e l h =
    reach_none p locked m zero (next_frame (length p.holds) f) k (none_by (is_open p locked f) (reach p locked m zero (next_frame (length p.holds) f)) m e).1 (omega arith) (omega arith)
reach_none p locked (suc m) (suc d) f zero e l h = absurd (omega arith)
reach_none p locked (suc m) (suc d) f (suc k) e l h =
    reach_none p locked m d (next_frame (length p.holds) f) k (none_by (is_usable p locked f) (reach p locked m d (next_frame (length p.holds) f)) m e).1 (omega arith) (omega arith)

-- What a move that finds nothing leaves: the same frames, what was usable usable, and so the open frame of the front hand.
pub record Passed (p q : Placement) (locked : List Page) (front : ℕ) : Type 0 where
  pub frames : length q.holds ≡ length p.holds
  pub opens : (g : ℕ) → is_open p locked g ≡ true → is_open q locked g ≡ true
  pub usables : (g : ℕ) → is_usable p locked g ≡ true → is_usable q locked g ≡ true
  pub here : is_open p locked front ≡ true → is_usable q locked front ≡ true

shift_by : (b c : Bool) (x y m : ℕ) → (b ≡ true → c ≡ true) → cond b 0 (1 + x) < suc m → (x < m → y ≤ x) → cond c 0 (1 + y) ≤ cond b 0 (1 + x)
shift_by true c x y m h l k = subst (λ (d : Bool). cond d 0 (1 + y) ≤ 0) (sym (h refl)) (omega arith)
shift_by false true x y m h l k = omega arith
shift_by false false x y m h l k = let j = k (omega arith) in omega arith

-- one step on, no frame is further than it was
pub reach_shift : (p q : Placement) (locked : List Page) (front m d f : ℕ) → Passed p q locked front → walk (length p.holds) d f ≡ front
    → reach p locked m d f < m → reach q locked (suc m) (suc d) f ≤ reach p locked m d f
reach_shift p q locked front zero d f s e l = absurd (omega arith)
reach_shift p q locked front (suc m) zero f s e l =
    shift_by (is_open p locked f) (is_usable q locked f) (reach p locked m zero (next_frame (length p.holds) f)) (reach q locked (suc m) zero (next_frame (length q.holds) f)) m
    (λ h. subst (λ (g : ℕ). is_usable q locked g ≡ true) (sym e) (s.here (subst (λ (g : ℕ). is_open p locked g ≡ true) e h))) l
    (λ h. subst (λ (n : ℕ). reach q locked (suc m) zero (next_frame n f) ≤ reach p locked m zero (next_frame (length p.holds) f)) (sym s.frames) (opened m (next_frame (length p.holds) f) h))
  where
    opened : (m f : ℕ) → reach p locked m zero f < m → reach q locked (suc m) zero f ≤ reach p locked m zero f
    opened zero f l = absurd (omega arith)
    opened (suc m) f l =
        shift_by (is_open p locked f) (is_open q locked f) (reach p locked m zero (next_frame (length p.holds) f)) (reach q locked (suc m) zero (next_frame (length q.holds) f)) m (s.opens f) l
        (λ h. subst (λ (n : ℕ). reach q locked (suc m) zero (next_frame n f) ≤ reach p locked m zero (next_frame (length p.holds) f)) (sym s.frames) (opened m (next_frame (length p.holds) f) h))
reach_shift p q locked front (suc m) (suc d) f s e l =
    shift_by (is_usable p locked f) (is_usable q locked f) (reach p locked m d (next_frame (length p.holds) f)) (reach q locked (suc m) (suc d) (next_frame (length q.holds) f)) m (s.usables f) l
    (λ h. subst (λ (n : ℕ). reach q locked (suc m) (suc d) (next_frame n f) ≤ reach p locked m d (next_frame (length p.holds) f)) (sym s.frames)
    (reach_shift p q locked front m d (next_frame (length p.holds) f) s e h))
