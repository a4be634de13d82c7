-- The spaces without one of them: which entries stay, and what holds of the others yet.
use Rattle.std.proofs.Common.{◌≡◌, ◌≢◌, inl, inr, ℕ, zero, suc, ◌+◌, ◌==◌, ◌<◌, not, cond, Bool, true, false, List, [], ◌∷◌, length, map, slice_get, get_or, Option, Some, None, IsSome, refl, sym, ap, ◌∙◌, subst, arith}
use Rattle.std.specs.List.{remove}
use Rattle.std.proofs.lemmas.Bool.{cases_eq, eq-eqb, ne_eqb}
use Rattle.std.proofs.lemmas.Option.{same_Some}
use Rattle.vm_facts.specs.declared.page.Page.{Page}
use Rattle.vm_facts.specs.declared.page.Page.TheVariants.{Text}
use Rattle.vax_pte.specs.declared.Place.{Place}
use Rattle.core_map.specs.declared.slot.Slot.{Slot as Token}
use Rattle.space_map.specs.Space.{Places, place_in}
use Rattle.flat_state.specs.Numbers.{IsAbsent, AllDistinct}
use Rattle.kernel_laws.proofs.PageLawsListsPages.{numbered_hit, numbered_miss}
use Rattle.kernel_laws.proofs.PageLawsBlocksChanges.{rest_of}
use Rattle.page_model.specs.Pages.{SpacePages, numbered}
use Rattle.page_model.specs.Placement.{sharers_in}
use Rattle.kernel_tables.specs.Shown.{space_shown, or_else, entry_in}
use Rattle.kernel_tables.specs.Rising.{sids_of, IsBelowAll, AreRising}
use Rattle.kernel_tables.specs.Alike.{EachSpace, IsLikeFirst, AreAlike}
use Rattle.kernel_tables.specs.Gone.{without_space, sharing}
use Rattle.kernel_tables.proofs.Entries.{text_hit, text_miss}
use Rattle.kernel_tables.proofs.Rising.{above_none, below_at}

-- The list itself.

goes : (sid : ℕ) (s : Places) (ss : List Places) → s.sid ≡ sid → without_space sid (s ∷ ss) ≡ without_space sid ss
goes sid s ss e = ap (λ (b : Bool). cond (not b) (s ∷ without_space sid ss) (without_space sid ss)) (eq-eqb s.sid sid e)

stays : (sid : ℕ) (s : Places) (ss : List Places) → s.sid ≢ sid → without_space sid (s ∷ ss) ≡ s ∷ without_space sid ss
stays sid s ss n = ap (λ (b : Bool). cond (not b) (s ∷ without_space sid ss) (without_space sid ss)) (ne_eqb s.sid sid n)

pub absent_stays : (sid : ℕ) (ss : List Places) → IsAbsent sid (sids_of ss) → without_space sid ss ≡ ss
absent_stays sid [] h = refl
absent_stays sid (s ∷ ss) h = stays sid s ss h.0 ∙ ap (λ (xs : List Places). s ∷ xs) (absent_stays sid ss h.1)

-- where the space stands that goes
pub removed_is : (ss : List Places) (sid i : ℕ) → AreRising (sids_of ss) → slice_get (sids_of ss) i ≡ Some sid
    → remove ss i ≡ without_space sid ss
removed_is [] sid i h e = absurd cc
removed_is (s ∷ ss) sid zero h e =
    let same : s.sid ≡ sid = cc in
    sym (goes sid s ss same ∙ absent_stays sid ss (subst (λ (n : ℕ). IsAbsent n (sids_of ss)) same (above_none s.sid s.sid (sids_of ss) (omega arith) h.0)))
removed_is (s ∷ ss) sid (suc i) h e =
    let l : s.sid < sid = below_at s.sid sid i (sids_of ss) h.0 e in
    ap (λ (xs : List Places). s ∷ xs) (removed_is ss sid i h.1 e) ∙ sym (stays sid s ss (λ k. absurd (omega arith)))

below_rest : (n sid : ℕ) (ss : List Places) → IsBelowAll n (sids_of ss) → IsBelowAll n (sids_of (without_space sid ss))
below_rest n sid [] h = tt
below_rest n sid (s ∷ ss) h = elim (cases_eq s.sid sid) [
  | inl e ↦ subst (λ (xs : List Places). IsBelowAll n (sids_of xs)) (sym (goes sid s ss e)) (below_rest n sid ss h.1)
  | inr d ↦ subst (λ (xs : List Places). IsBelowAll n (sids_of xs)) (sym (stays sid s ss d)) (h.0, below_rest n sid ss h.1)
]

pub rest_rises : (sid : ℕ) (ss : List Places) → AreRising (sids_of ss) → AreRising (sids_of (without_space sid ss))
rest_rises sid [] h = tt
rest_rises sid (s ∷ ss) h = elim (cases_eq s.sid sid) [
  | inl e ↦ subst (λ (xs : List Places). AreRising (sids_of xs)) (sym (goes sid s ss e)) (rest_rises sid ss h.1)
  | inr d ↦ subst (λ (xs : List Places). AreRising (sids_of xs)) (sym (stays sid s ss d)) (below_rest s.sid sid ss h.0, rest_rises sid ss h.1)
]

absent_rest : (n sid : ℕ) (ss : List Places) → IsAbsent n (sids_of ss) → IsAbsent n (sids_of (without_space sid ss))
absent_rest n sid [] h = tt
absent_rest n sid (s ∷ ss) h = elim (cases_eq s.sid sid) [
  | inl e ↦ subst (λ (xs : List Places). IsAbsent n (sids_of xs)) (sym (goes sid s ss e)) (absent_rest n sid ss h.1)
  | inr d ↦ subst (λ (xs : List Places). IsAbsent n (sids_of xs)) (sym (stays sid s ss d)) (h.0, absent_rest n sid ss h.1)
]

pub rest_differs : (sid : ℕ) (ss : List Places) → AllDistinct (sids_of ss) → AllDistinct (sids_of (without_space sid ss))
rest_differs sid [] h = tt
rest_differs sid (s ∷ ss) h = elim (cases_eq s.sid sid) [
  | inl e ↦ subst (λ (xs : List Places). AllDistinct (sids_of xs)) (sym (goes sid s ss e)) (rest_differs sid ss h.1)
  | inr d ↦ subst (λ (xs : List Places). AllDistinct (sids_of xs)) (sym (stays sid s ss d)) (absent_rest s.sid sid ss h.0, rest_differs sid ss h.1)
]

pub each_rest : (P : Places → Type 0) (sid : ℕ) (ss : List Places) → EachSpace P ss → EachSpace P (without_space sid ss)
each_rest P sid [] h = tt
each_rest P sid (s ∷ ss) h = elim (cases_eq s.sid sid) [
  | inl e ↦ subst (EachSpace P) (sym (goes sid s ss e)) (each_rest P sid ss h.1)
  | inr d ↦ subst (EachSpace P) (sym (stays sid s ss d)) (h.0, each_rest P sid ss h.1)
]

-- The placement's spaces.

pub rest_shown : (slots : List Token) (sid : ℕ) (ss : List Places)
    → map (space_shown slots) (without_space sid ss) ≡ rest_of sid (map (space_shown slots) ss)
rest_shown slots sid [] = refl
rest_shown slots sid (s ∷ ss) = go (s.sid == sid) (rest_shown slots sid ss)
  where
    go : (b : Bool) → map (space_shown slots) (without_space sid ss) ≡ rest_of sid (map (space_shown slots) ss)
        → map (space_shown slots) (cond (not b) (s ∷ without_space sid ss) (without_space sid ss))
        ≡ cond (not b) (space_shown slots s ∷ rest_of sid (map (space_shown slots) ss)) (rest_of sid (map (space_shown slots) ss))
    go true h = h
    go false h = ap (λ (xs : List SpacePages). space_shown slots s ∷ xs) h

-- Entries.

-- those of the pages that the space hasn't
pub rest_entry : (sid : ℕ) (q : Page) (ss : List Places) → EachSpace (λ s. s.sid ≡ sid → place_in s q ≡ None) ss
    → entry_in (without_space sid ss) q ≡ entry_in ss q
rest_entry sid q [] h = refl
rest_entry sid q (s ∷ ss) h = elim (cases_eq s.sid sid) [
  | inl e ↦ ap (λ (xs : List Places). entry_in xs q) (goes sid s ss e) ∙ rest_entry sid q ss h.1 ∙ sym (ap (λ (o : Option Place). or_else o (entry_in ss q)) (h.0 e))
  | inr d ↦ ap (λ (xs : List Places). entry_in xs q) (stays sid s ss d) ∙ ap (or_else (place_in s q)) (rest_entry sid q ss h.1)
]

pub each_all : (P : Places → Type 0) (ss : List Places) → ((s : Places) → P s) → EachSpace P ss
each_all P [] h = tt
each_all P (s ∷ ss) h = (h s, each_all P ss h)

-- what a space that stays says is what the first of all says
like_entry : (ss rs : List Places) (i v : ℕ) (y : Place) → EachSpace (IsLikeFirst ss) rs → entry_in rs (Text i v) ≡ Some y
    → entry_in ss (Text i v) ≡ Some y
like_entry ss [] i v y h e = absurd cc
like_entry ss (r ∷ rs) i v y h e = go (place_in r (Text i v)) refl (λ k. like_entry ss rs i v y h.1 k)
  where
    go : (o : Option Place) → place_in r (Text i v) ≡ o → (entry_in rs (Text i v) ≡ Some y → entry_in ss (Text i v) ≡ Some y)
        → entry_in ss (Text i v) ≡ Some y
    go None k behind = behind (sym (ap (λ (o : Option Place). or_else o (entry_in rs (Text i v))) k) ∙ e)
    go (Some x) k behind = h.0 i v y (k ∙ sym (ap (λ (o : Option Place). or_else o (entry_in rs (Text i v))) k) ∙ e)

pub rest_like : (sid : ℕ) (ss : List Places) (i v : ℕ) (y : Place) → AreAlike ss → entry_in (without_space sid ss) (Text i v) ≡ Some y
    → entry_in ss (Text i v) ≡ Some y
rest_like sid ss i v y h e = like_entry ss (without_space sid ss) i v y (each_rest (IsLikeFirst ss) sid ss h) e

abbrev Found : List Places → List Places → Type 0
Found rs zs = (i v : ℕ) → IsSome (entry_in zs (Text i v)) → IsSome (entry_in rs (Text i v))

alike_among : (ss rs zs : List Places) → EachSpace (IsLikeFirst ss) rs → Found rs zs → EachSpace (IsLikeFirst ss) zs
    → EachSpace (IsLikeFirst rs) zs
alike_among ss rs [] a f h = tt
alike_among ss rs (z ∷ zs) a f h = (
  λ i v x e.
      let some = some_of (entry_in rs (Text i v)) (f i v (subst IsSome (sym (ap (λ (o : Option Place). or_else o (entry_in zs (Text i v))) e)) refl)) in
      some.1 ∙ sym (like_entry ss rs i v some.0 a some.1) ∙ h.0 i v x e,
  alike_among ss rs zs a (λ i v k. f i v (behind (place_in z (Text i v)) (entry_in zs (Text i v)) k)) h.1,
)
  where
    some_of : (o : Option Place) → IsSome o → (x : Place) × (o ≡ Some x)
    some_of None h = absurd cc
    some_of (Some x) h = (x, refl)

    behind : (o p : Option Place) → IsSome p → IsSome (or_else o p)
    behind None p h = h
    behind (Some x) p h = refl

pub rest_alike : (sid : ℕ) (ss : List Places) → AreAlike ss → AreAlike (without_space sid ss)
rest_alike sid ss h =
    let a = each_rest (IsLikeFirst ss) sid ss h in
    alike_among ss (without_space sid ss) (without_space sid ss) a (λ i v k. k) a

-- Sharers.

pub sharers_gone : (slots : List Token) (sid : ℕ) (s : Places) (ss : List Places) → AllDistinct (sids_of ss)
    → numbered (λ (s : Places). s.sid) sid ss ≡ Some s
    → sharers_in s.image (map (space_shown slots) ss) ≡ suc (sharers_in s.image (map (space_shown slots) (without_space sid ss)))
sharers_gone slots sid s [] d e = absurd cc
sharers_gone slots sid s (x ∷ xs) d e = elim (cases_eq x.sid sid) [
  | inl i ↦
      let same : x ≡ s = same_Some x s (sym (numbered_hit (λ (s : Places). s.sid) sid x xs i) ∙ e) in
      ap (λ (b : Bool). cond b 1 0 + sharers_in s.image (map (space_shown slots) xs)) (eq-eqb x.image s.image (ap (λ (y : Places). y.image) same))
      ∙ (omega arith)
      ∙ ap (λ (rs : List Places). suc (sharers_in s.image (map (space_shown slots) rs))) (sym (goes sid x xs i ∙ absent_stays sid xs (subst (λ (n : ℕ). IsAbsent n (sids_of xs)) i d.0)))
  | inr n ↦
      ap (λ (k : ℕ). cond (x.image == s.image) 1 0 + k) (sharers_gone slots sid s xs d.1 (sym (numbered_miss (λ (s : Places). s.sid) sid x xs n) ∙ e))
      ∙ (omega arith)
      ∙ ap (λ (rs : List Places). suc (sharers_in s.image (map (space_shown slots) rs))) (sym (stays sid x xs n))
]

-- no space shares the text
pub none_shares : (slots : List Token) (ss : List Places) (i : ℕ) → sharing ss i ≡ None → sharers_in i (map (space_shown slots) ss) ≡ 0
none_shares slots [] i e = refl
none_shares slots (s ∷ ss) i e = elim (cases_eq s.image i) [
  | inl k ↦ absurd (let z : Some s ≡ None = sym (numbered_hit (λ (s : Places). s.image) i s ss k) ∙ e in cc)
  | inr n ↦ ap (λ (b : Bool). cond b 1 0 + sharers_in i (map (space_shown slots) ss)) (ne_eqb s.image i n) ∙ (omega arith)
      ∙ none_shares slots ss i (sym (numbered_miss (λ (s : Places). s.image) i s ss n) ∙ e)
]

pub some_shares : (slots : List Token) (ss : List Places) (i : ℕ) (x : Places) → sharing ss i ≡ Some x
    → 0 < sharers_in i (map (space_shown slots) ss)
some_shares slots [] i x e = absurd cc
some_shares slots (s ∷ ss) i x e = elim (cases_eq s.image i) [
  | inl k ↦ subst (λ (b : Bool). 0 < cond b 1 0 + sharers_in i (map (space_shown slots) ss)) (sym (eq-eqb s.image i k)) (omega arith)
  | inr n ↦ let l = some_shares slots ss i x (sym (numbered_miss (λ (s : Places). s.image) i s ss n) ∙ e) in omega arith
]

-- and its pages have no entry then
pub none_entry : (ss : List Places) (i v : ℕ) → sharing ss i ≡ None → entry_in ss (Text i v) ≡ None
none_entry [] i v e = refl
none_entry (s ∷ ss) i v e = elim (cases_eq s.image i) [
  | inl k ↦ absurd (let z : Some s ≡ None = sym (numbered_hit (λ (s : Places). s.image) i s ss k) ∙ e in cc)
  | inr n ↦ ap (λ (o : Option Place). or_else o (entry_in ss (Text i v))) (text_miss s i v (λ k. n (sym k))) ∙ none_entry ss i v (sym (numbered_miss (λ (s : Places). s.image) i s ss n) ∙ e)
]

-- the first that shares it has entries for its pages
pub first_entry : (ss : List Places) (i v : ℕ) (x : Places) → sharing ss i ≡ Some x → v < length x.text → IsSome (entry_in ss (Text i v))
first_entry [] i v x e l = absurd cc
first_entry (s ∷ ss) i v x e l = elim (cases_eq s.image i) [
  | inl k ↦
      let same : s ≡ x = same_Some s x (sym (numbered_hit (λ (s : Places). s.image) i s ss k) ∙ e) in
      let there = within s.text v (subst (λ (y : Places). v < length y.text) (sym same) l) in
      subst IsSome (sym (ap (λ (o : Option Place). or_else o (entry_in ss (Text i v))) (text_hit s i v (sym k) ∙ there.1))) refl
  | inr n ↦ subst IsSome (sym (ap (λ (o : Option Place). or_else o (entry_in ss (Text i v))) (text_miss s i v (λ k. n (sym k)))))
      (first_entry ss i v x (sym (numbered_miss (λ (s : Places). s.image) i s ss n) ∙ e) l)
]
  where
    within : (xs : List Place) (w : ℕ) → w < length xs → (y : Place) × (slice_get xs w ≡ Some y)
    within [] w l = absurd (omega arith)
    within (y ∷ ys) zero l = (y, refl)
    within (y ∷ ys) (suc w) l = within ys w (omega arith)

pub sharing_each : (P : Places → Type 0) (ss : List Places) (i : ℕ) (x : Places) → sharing ss i ≡ Some x → EachSpace P ss
    → P x × (x.image ≡ i)
sharing_each P [] i x e h = absurd cc
sharing_each P (s ∷ ss) i x e h = elim (cases_eq s.image i) [
  | inl k ↦
      let same : s ≡ x = same_Some s x (sym (numbered_hit (λ (s : Places). s.image) i s ss k) ∙ e) in
      (subst P same h.0, ap (λ (y : Places). y.image) (sym same) ∙ k)
  | inr n ↦ sharing_each P ss i x (sym (numbered_miss (λ (s : Places). s.image) i s ss n) ∙ e) h.1
]

pub found_each : (P : Places → Type 0) (ss : List Places) (sid : ℕ) (x : Places) → numbered (λ (s : Places). s.sid) sid ss ≡ Some x
    → EachSpace P ss → P x × (x.sid ≡ sid)
found_each P [] sid x e h = absurd cc
found_each P (s ∷ ss) sid x e h = elim (cases_eq s.sid sid) [
  | inl k ↦
      let same : s ≡ x = same_Some s x (sym (numbered_hit (λ (s : Places). s.sid) sid s ss k) ∙ e) in
      (subst P same h.0, ap (λ (y : Places). y.sid) (sym same) ∙ k)
  | inr n ↦ found_each P ss sid x (sym (numbered_miss (λ (s : Places). s.sid) sid s ss n) ∙ e) h.1
]

-- all spaces of the number are the one
pub only_space : (ss : List Places) (sid : ℕ) (x : Places) → AllDistinct (sids_of ss) → numbered (λ (s : Places). s.sid) sid ss ≡ Some x
    → EachSpace (λ s. s.sid ≡ sid → s ≡ x) ss
only_space [] sid x d e = tt
only_space (s ∷ ss) sid x d e = elim (cases_eq s.sid sid) [
  | inl k ↦ (λ i. same_Some s x (sym (numbered_hit (λ (s : Places). s.sid) sid s ss k) ∙ e), gone ss (subst (λ (n : ℕ). IsAbsent n (sids_of ss)) k d.0))
  | inr n ↦ (λ i. absurd (n i), only_space ss sid x d.1 (sym (numbered_miss (λ (s : Places). s.sid) sid s ss n) ∙ e))
]
  where
    gone : (rs : List Places) → IsAbsent sid (sids_of rs) → EachSpace (λ s. s.sid ≡ sid → s ≡ x) rs
    gone [] h = tt
    gone (r ∷ rs) h = (λ i. absurd (h.0 i), gone rs h.1)

-- One place of the list is left out.

pub number_at : (ss : List Places) (i : ℕ) (d : Places) → i < length ss → slice_get (sids_of ss) i ≡ Some (get_or ss i d).sid
number_at [] i d l = absurd (omega arith)
number_at (s ∷ ss) zero d l = refl
number_at (s ∷ ss) (suc i) d l = number_at ss i d (omega arith)

pub removed_rises : (ss : List Places) (i : ℕ) (d : Places) → i < length ss → AreRising (sids_of ss) → AreRising (sids_of (remove ss i))
removed_rises ss i d l h =
    let sid : ℕ = (get_or ss i d).sid in
    subst (λ (xs : List Places). AreRising (sids_of xs)) (sym (removed_is ss sid i h (number_at ss i d l))) (rest_rises sid ss h)

pub at_place : (ss : List Places) (i : ℕ) (d : Places) → i < length ss → slice_get ss i ≡ Some (get_or ss i d)
at_place [] i d l = absurd (omega arith)
at_place (s ∷ ss) zero d l = refl
at_place (s ∷ ss) (suc i) d l = at_place ss i d (omega arith)

-- no other image loses a sharer
pub sharers_stay : (slots : List Token) (sid j : ℕ) (ss : List Places) → EachSpace (λ s. s.sid ≡ sid → s.image ≢ j) ss
    → sharers_in j (map (space_shown slots) (without_space sid ss)) ≡ sharers_in j (map (space_shown slots) ss)
sharers_stay slots sid j [] h = refl
sharers_stay slots sid j (s ∷ ss) h = elim (cases_eq s.sid sid) [
  | inl e ↦
      ap (λ (rs : List Places). sharers_in j (map (space_shown slots) rs)) (goes sid s ss e) ∙ sharers_stay slots sid j ss h.1
      ∙ (omega arith) ∙ sym (ap (λ (b : Bool). cond b 1 0 + sharers_in j (map (space_shown slots) ss)) (ne_eqb s.image j (h.0 e)))
  | inr n ↦
      ap (λ (rs : List Places). sharers_in j (map (space_shown slots) rs)) (stays sid s ss n)
      ∙ ap (λ (k : ℕ). cond (s.image == j) 1 0 + k) (sharers_stay slots sid j ss h.1)
]
