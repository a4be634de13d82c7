-- What the entries of a space tell of its pages.
use Rattle.std.proofs.Common.{◌≡◌, ℕ, zero, suc, ◌+◌, ◌-◌, ◌<◌, ◌≤◌, Bool, true, false, cond, List, [], ◌∷◌, ◌++◌, length, Option, Some, None, IsSome, slice_get, refl, sym, ap, ap₂, ◌∙◌, subst, inl, inr, arith}
use Rattle.std.proofs.lemmas.Bool.{cases_lt}
use Rattle.std.proofs.lemmas.List.{get_or_past}
use Rattle.vm_facts.specs.declared.page.Page.{Page}
use Rattle.vm_facts.specs.declared.page.Page.TheVariants.{Data, Stack}
use Rattle.vax_pte.specs.declared.Place.{Place}
use Rattle.vax_pte.specs.declared.Place.TheVariants as places
use Rattle.vax_pte.specs.Words.{is_in_frame}
use Rattle.core_map.specs.declared.slot.Slot.{Slot}
use Rattle.core_map.specs.Frames.{Frames}
use Rattle.flat_state.specs.PageNames.{number_of, beside, pages_from}
use Rattle.space_map.specs.Space.{Places, place_in, segment_in, is_of_kind}
use Rattle.page_model.specs.Pages.{Slot as PageSlot, no_slot}
use Rattle.page_model.specs.Placement.{Placement, IsThere, slots_of}
use Rattle.page_model.specs.Runs.{is_seated, is_seated_by}
use Rattle.page_model.specs.Swapper.{first_seated, seated_count}
use Rattle.page_model.specs.Place.{data_from, stack_from, data_count, stack_count, pages_of_space}
use Rattle.vm_facts.proofs.Tests.{eq_self}
use Rattle.table_view.proofs.Segments.{beside_place}
use Rattle.table_view.specs.Views.{IsNamedBy, ShowsPage, ShowsSpace}
use Rattle.kluster_io.proofs.FewPages.{within}

-- Whether a frame off the free list has the page, by the slot of its frame.

pub shown_page : (p : Placement) (core : Frames) (s : Places) (q : Page) (place : Place) → ShowsSpace p core s → IsNamedBy s q → place_in s q ≡ Some place
    → ShowsPage p core.slots q (Some place)
shown_page p core s q place h n e = subst (ShowsPage p core.slots q) e (h.pages q n)

-- The pages of a segment, from one on.

pub first_passes : (p : Placement) (q : Page) (v n : ℕ) (b : Bool) → v < n → b ≡ is_seated p (beside q v) → b ≡ false
    → first_seated p (pages_from q v (n - v)) ≡ first_seated p (pages_from q (v + 1) (n - (v + 1)))
first_passes p q v n b l e f =
    let m : n - v ≡ suc (n - (v + 1)) = omega arith in
    ap (λ (k : ℕ). first_seated p (pages_from q v k)) m
    ∙ ap (λ (c : Bool). cond c (Some (beside q v)) (first_seated p (pages_from q (v + 1) (n - (v + 1))))) (sym e ∙ f)

pub first_found : (p : Placement) (q : Page) (v n : ℕ) (b : Bool) → v < n → b ≡ is_seated p (beside q v) → b ≡ true
    → first_seated p (pages_from q v (n - v)) ≡ Some (beside q v)
first_found p q v n b l e f =
    let m : n - v ≡ suc (n - (v + 1)) = omega arith in
    ap (λ (k : ℕ). first_seated p (pages_from q v k)) m
    ∙ ap (λ (c : Bool). cond c (Some (beside q v)) (first_seated p (pages_from q (v + 1) (n - (v + 1))))) (sym e ∙ f)

pub count_passes : (p : Placement) (q : Page) (v n c : ℕ) (b : Bool) → v < n → b ≡ is_seated p (beside q v) → b ≡ false
    → c + seated_count p (pages_from q (v + 1) (n - (v + 1))) ≡ c + seated_count p (pages_from q v (n - v))
count_passes p q v n c b l e f =
    let m : n - v ≡ suc (n - (v + 1)) = omega arith in
    let x : seated_count p (pages_from q v (n - v)) ≡ 0 + seated_count p (pages_from q (v + 1) (n - (v + 1))) =
    ap (λ (k : ℕ). seated_count p (pages_from q v k)) m
    ∙ ap (λ (d : Bool). cond d 1 0 + seated_count p (pages_from q (v + 1) (n - (v + 1)))) (sym e ∙ f) in
    omega arith

pub count_found : (p : Placement) (q : Page) (v n c : ℕ) (b : Bool) → v < n → b ≡ is_seated p (beside q v) → b ≡ true
    → (c + 1) + seated_count p (pages_from q (v + 1) (n - (v + 1))) ≡ c + seated_count p (pages_from q v (n - v))
count_found p q v n c b l e f =
    let m : n - v ≡ suc (n - (v + 1)) = omega arith in
    let x : seated_count p (pages_from q v (n - v)) ≡ 1 + seated_count p (pages_from q (v + 1) (n - (v + 1))) =
    ap (λ (k : ℕ). seated_count p (pages_from q v k)) m
    ∙ ap (λ (d : Bool). cond d 1 0 + seated_count p (pages_from q (v + 1) (n - (v + 1)))) (sym e ∙ f) in
    omega arith

-- Pages that are in no frame are passed over.

unframed : (p : Placement) (slots : List Slot) (q : Page) (o : Option Place) → ShowsPage p slots q o → is_of_kind is_in_frame o ≡ false
    → is_seated p q ≡ false
unframed p slots q None x e = elim (cases_lt (number_of q) (length (slots_of p q))) [
  | inl there ↦ absurd (x there)
  | inr past ↦ ap (λ (s : PageSlot). is_seated_by p s.state) (get_or_past (slots_of p q) (number_of q) no_slot past)
]
unframed p slots q (Some places.Zero) x e = ap (is_seated_by p) x.1
unframed p slots q (Some (places.Image v)) x e = ap (is_seated_by p) x.1
unframed p slots q (Some places.Swap) x e = ap (is_seated_by p) x.1
unframed p slots q (Some (places.Frame f valid changed)) x e = absurd cc

-- of the segment's pages from one on, up to another, none is in a frame
abbrev pub NoneFramed : Places → Page → ℕ → ℕ → Type 0
NoneFramed s q v w = (k : ℕ) → v ≤ k → k < w → is_of_kind is_in_frame (slice_get (segment_in s q) k) ≡ false

module _ (p : Placement) (core : Frames) (s : Places) (q : Page) (h : ShowsSpace p core s) (named : (v : ℕ) → IsNamedBy s (beside q v)) where
  unseated : (v w : ℕ) → NoneFramed s q v w → (k : ℕ) → v ≤ k → k < w → is_seated p (beside q k) ≡ false
  unseated v w none k l m =
      unframed p core.slots (beside q k) (place_in s (beside q k)) (h.pages (beside q k) (named k)) (ap (is_of_kind is_in_frame) (beside_place s q k) ∙ none k l m)

  pub first_passed : (v w n : ℕ) → v ≤ w → w ≤ n → NoneFramed s q v w → first_seated p (pages_from q v (n - v)) ≡ first_seated p (pages_from q w (n - w))
  first_passed v w n low high none =
      let end : v + (w - v) ≡ w = omega arith in
      let all : v + (w - v) ≤ w = omega arith in
      subst (λ (x : ℕ). first_seated p (pages_from q v (n - v)) ≡ first_seated p (pages_from q x (n - x))) end (go (w - v) all)
    where
      go : (m : ℕ) → v + m ≤ w → first_seated p (pages_from q v (n - v)) ≡ first_seated p (pages_from q (v + m) (n - (v + m)))
      go zero l = let start : v ≡ v + zero = omega arith in ap (λ (x : ℕ). first_seated p (pages_from q x (n - x))) start
      go (suc m) l =
          let next : v + m + 1 ≡ v + suc m = omega arith in
          go m (omega arith) ∙ first_passes p q (v + m) n false (omega (arith, high, l)) (sym (unseated v w none (v + m) (omega arith) (omega (arith, l)))) refl
          ∙ ap (λ (x : ℕ). first_seated p (pages_from q x (n - x))) next

  pub count_passed : (v w n : ℕ) → v ≤ w → w ≤ n → NoneFramed s q v w → seated_count p (pages_from q v (n - v)) ≡ seated_count p (pages_from q w (n - w))
  count_passed v w n low high none =
      let end : v + (w - v) ≡ w = omega arith in
      let all : v + (w - v) ≤ w = omega arith in
      subst (λ (x : ℕ). seated_count p (pages_from q v (n - v)) ≡ seated_count p (pages_from q x (n - x))) end (go (w - v) all)
    where
      go : (m : ℕ) → v + m ≤ w → seated_count p (pages_from q v (n - v)) ≡ seated_count p (pages_from q (v + m) (n - (v + m)))
      go zero l = let start : v ≡ v + zero = omega arith in ap (λ (x : ℕ). seated_count p (pages_from q x (n - x))) start
      go (suc m) l =
          let next : v + m + 1 ≡ v + suc m = omega arith in
          let here : 0 + seated_count p (pages_from q (v + m + 1) (n - (v + m + 1))) ≡ 0 + seated_count p (pages_from q (v + m) (n - (v + m))) =
          count_passes p q (v + m) n 0 false (omega (arith, high, l)) (sym (unseated v w none (v + m) (omega arith) (omega (arith, l)))) refl in
          let same : seated_count p (pages_from q (v + m) (n - (v + m))) ≡ seated_count p (pages_from q (v + m + 1) (n - (v + m + 1))) = omega (arith, here) in
          go m (omega arith) ∙ same ∙ ap (λ (x : ℕ). seated_count p (pages_from q x (n - x))) next

same_count : (a b : ℕ) → ((v : ℕ) → v < a → v < b) → ((v : ℕ) → v < b → v < a) → a ≡ b
same_count zero zero f g = refl
same_count zero (suc b) f g = absurd (let l = g 0 (omega arith) in omega arith)
same_count (suc a) zero f g = absurd (let l = f 0 (omega arith) in omega arith)
same_count (suc a) (suc b) f g = let l = f a (omega arith) in let m = g b (omega arith) in omega arith

some_page : (p : Placement) (slots : List Slot) (q : Page) (o : Option Place) → ShowsPage p slots q o → IsThere p q → IsSome o
some_page p slots q None x t = absurd (x t)
some_page p slots q (Some place) x t = refl

there_page : (p : Placement) (slots : List Slot) (q : Page) (o : Option Place) → ShowsPage p slots q o → IsSome o → IsThere p q
there_page p slots q None x t = absurd cc
there_page p slots q (Some place) x t = x.0

in_data : (s : Places) (v : ℕ) → place_in s (Data s.sid v) ≡ slice_get s.data v
in_data s v = ap (λ (b : Bool). cond b (slice_get s.data v) None) (eq_self s.sid)

in_stack : (s : Places) (v : ℕ) → place_in s (Stack s.sid v) ≡ slice_get s.stack v
in_stack s v = ap (λ (b : Bool). cond b (slice_get s.stack v) None) (eq_self s.sid)

holds : (xs : List Place) (v : ℕ) → v < length xs → IsSome (slice_get xs v)
holds [] v l = absurd (omega arith)
holds (x ∷ xs) zero l = refl
holds (x ∷ xs) (suc v) l = holds xs v (omega arith)

pub data_pages : (p : Placement) (core : Frames) (s : Places) → ShowsSpace p core s → length s.data ≡ data_count p s.sid
data_pages p core s h = same_count (length s.data) (data_count p s.sid)
    (λ v l. there_page p core.slots (Data s.sid v) (place_in s (Data s.sid v)) (h.pages (Data s.sid v) refl) (subst (λ (o : Option Place). IsSome o) (sym (in_data s v)) (holds s.data v l)))
    (λ v l. within s.data v (subst (λ (o : Option Place). IsSome o) (in_data s v) (some_page p core.slots (Data s.sid v) (place_in s (Data s.sid v)) (h.pages (Data s.sid v) refl) l)))

pub stack_pages : (p : Placement) (core : Frames) (s : Places) → ShowsSpace p core s → length s.stack ≡ stack_count p s.sid
stack_pages p core s h = same_count (length s.stack) (stack_count p s.sid)
    (λ v l. there_page p core.slots (Stack s.sid v) (place_in s (Stack s.sid v)) (h.pages (Stack s.sid v) refl) (subst (λ (o : Option Place). IsSome o) (sym (in_stack s v)) (holds s.stack v l)))
    (λ v l. within s.stack v (subst (λ (o : Option Place). IsSome o) (in_stack s v) (some_page p core.slots (Stack s.sid v) (place_in s (Stack s.sid v)) (h.pages (Stack s.sid v) refl) l)))

-- Data first, and then the stack.

abbrev pub first_of : Option Page → Option Page → Option Page
first_of None w = w
first_of (Some q) w = Some q

first_append : (p : Placement) (qs rs : List Page) (o w : Option Page) → o ≡ first_seated p qs → w ≡ first_seated p rs
    → first_seated p (qs ++ rs) ≡ first_of o w
first_append p [] rs o w e f = sym f ∙ sym (ap (λ (x : Option Page). first_of x w) e)
first_append p (q ∷ qs) rs o w e f = go (is_seated p q) e (λ k. first_append p qs rs o w k f)
  where
    go : (b : Bool) → o ≡ cond b (Some q) (first_seated p qs) → (o ≡ first_seated p qs → first_seated p (qs ++ rs) ≡ first_of o w)
        → cond b (Some q) (first_seated p (qs ++ rs)) ≡ first_of o w
    go true k ih = sym (ap (λ (x : Option Page). first_of x w) k)
    go false k ih = ih k

pub first_whole : (p : Placement) (core : Frames) (s : Places) (sid a b : ℕ) (o w : Option Page) → ShowsSpace p core s → sid ≡ s.sid
    → a ≡ length s.data → b ≡ length s.stack
    → o ≡ first_seated p (pages_from (Data sid 0) 0 a) → w ≡ first_seated p (pages_from (Stack sid 0) 0 b)
    → first_of o w ≡ first_seated p (pages_of_space p s.sid)
first_whole p core s sid a b o w h i x y e f = sym (first_append p (data_from s.sid 0 (data_count p s.sid)) (stack_from s.sid 0 (stack_count p s.sid)) o w
    (e ∙ ap₂ (λ (k n : ℕ). first_seated p (pages_from (Data k 0) 0 n)) i (x ∙ data_pages p core s h))
    (f ∙ ap₂ (λ (k n : ℕ). first_seated p (pages_from (Stack k 0) 0 n)) i (y ∙ stack_pages p core s h)))

pub count_append : (p : Placement) (qs rs : List Page) → seated_count p (qs ++ rs) ≡ seated_count p qs + seated_count p rs
count_append p [] rs = omega arith
count_append p (q ∷ qs) rs = let x = count_append p qs rs in omega arith

pub count_whole : (p : Placement) (core : Frames) (s : Places) (sid a b m n : ℕ) → ShowsSpace p core s → sid ≡ s.sid → a ≡ length s.data → b ≡ length s.stack
    → m ≡ seated_count p (pages_from (Data sid 0) 0 a) → n ≡ seated_count p (pages_from (Stack sid 0) 0 b) → m + n ≡ seated_count p (pages_of_space p s.sid)
count_whole p core s sid a b m n h i x y e f =
    ap₂ (λ (a b : ℕ). a + b)
    (e ∙ ap₂ (λ (k n : ℕ). seated_count p (pages_from (Data k 0) 0 n)) i (x ∙ data_pages p core s h))
    (f ∙ ap₂ (λ (k n : ℕ). seated_count p (pages_from (Stack k 0) 0 n)) i (y ∙ stack_pages p core s h))
    ∙ sym (count_append p (data_from s.sid 0 (data_count p s.sid)) (stack_from s.sid 0 (stack_count p s.sid)))
