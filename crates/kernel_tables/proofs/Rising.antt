-- Spaces that stand by rising numbers: where one of them stands, and that no other has its number.
use Rattle.std.proofs.Common.{◌≡◌, ◌≢◌, Bool, true, false, cond, ◌==◌, option_map, ℕ, zero, suc, ◌<◌, ◌≤◌, List, [], ◌∷◌, length, map, set, get_or, Option, Some, None, Result, Ok, Err, IfSome, IfNone, slice_get, refl, sym, ap, ◌∙◌, inl, inr, arith}
use Rattle.std.specs.List.Sorted.{IsSearchInRange, IsBinarySearchResult, IsNonDecreasingBy}
use Rattle.std.specs.Result.{result_ok}
use Rattle.std.specs.Ordering.{nat_cmp, ordering_index}
use Rattle.std.proofs.lemmas.Cmp.{ranked}
use Rattle.std.proofs.lemmas.Bool.{cases_eq}
use Rattle.std.proofs.lemmas.Bool.Decides.{nat_tests}
use Rattle.std.proofs.lemmas.List.Sorted.{IsNonDecreasingBy-from_default}
use Rattle.vm_facts.specs.declared.page.Page.{Page}
use Rattle.vm_facts.specs.declared.page.Page.TheVariants.{Data, Stack, Text}
use Rattle.vax_pte.specs.declared.Place.{Place}
use Rattle.space_map.specs.Space.{Places, place_in}
use Rattle.page_model.specs.Pages.{numbered}
use Rattle.flat_state.specs.Numbers.{IsAbsent}
use Rattle.kernel_tables.specs.Rising.{sids_of, IsBelowAll, AreRising, StandsAt, space_named}
use Rattle.kernel_tables.specs.Settled.{image_found}
use Rattle.kernel_tables.specs.Shown.{or_else, entry_in, placed}
use Rattle.kernel_tables.proofs.Entries.{data_miss, stack_miss, placed_none, entry_none, placed_heads}
use Rattle.kernel_tables.proofs.Shows.{head_sids}
use Rattle.kernel_tables.proofs.Marks.{within}

-- Numbers.

pub above_none : (n m : ℕ) (ns : List ℕ) → m ≤ n → IsBelowAll n ns → IsAbsent m ns
above_none n m [] l h = tt
above_none n m (k ∷ ns) l h = let above = h.0 in ((λ e. absurd (omega arith)), above_none n m ns l h.1)

pub below_at : (n m i : ℕ) (ns : List ℕ) → IsBelowAll n ns → slice_get ns i ≡ Some m → n < m
below_at n m i [] h e = absurd cc
below_at n m zero (k ∷ ns) h e = let same : k ≡ m = cc in omega (arith, h.0)
below_at n m (suc i) (k ∷ ns) h e = below_at n m i ns h.1 e

-- a place takes no number away
pub placed_sids : (ss : List Places) (q : Page) (place : Place) → sids_of (map (placed q place) ss) ≡ sids_of ss
placed_sids ss q place = head_sids (map (placed q place) ss) ss (placed_heads ss q place)

-- What a search by number finds.

rises : (ss : List Places) (d : Places) (i j : ℕ) → AreRising (sids_of ss) → i < j → j < length ss → (get_or ss i d).sid < (get_or ss j d).sid
rises [] d i j h l k = absurd (omega arith)
rises (s ∷ ss) d zero zero h l k = absurd (omega arith)
rises (s ∷ ss) d zero (suc j) h l k = above ss j h.0 (omega arith)
  where
    above : (rs : List Places) (m : ℕ) → IsBelowAll s.sid (sids_of rs) → m < length rs → s.sid < (get_or rs m d).sid
    above [] m b x = absurd (omega arith)
    above (r ∷ rs) zero b x = b.0
    above (r ∷ rs) (suc m) b x = above rs m b.1 (omega arith)
rises (s ∷ ss) d (suc i) zero h l k = absurd (omega arith)
rises (s ∷ ss) d (suc i) (suc j) h l k = rises ss d i j h.1 (omega arith) (omega arith)

pub at_place : (ss : List Places) (d : Places) (i sid : ℕ) → i < length ss → (get_or ss i d).sid ≡ sid → slice_get (sids_of ss) i ≡ Some sid
at_place [] d i sid l e = absurd (omega arith)
at_place (s ∷ ss) d zero sid l e = ap (λ (n : ℕ). Some n) e
at_place (s ∷ ss) d (suc i) sid l e = at_place ss d i sid (omega arith) e

absent_by : (ss : List Places) (d : Places) (sid : ℕ) → ((i : ℕ) → i < length ss → (get_or ss i d).sid ≢ sid) → IsAbsent sid (sids_of ss)
absent_by [] d sid h = tt
absent_by (s ∷ ss) d sid h = (h 0 (omega arith), absent_by ss d sid (λ i l. h (suc i) (omega arith)))

module _ (ss : List Places) (rising : AreRising (sids_of ss)) (sid : ℕ) where
  -- the comparisons with the number rise along the list, as a binary search asks
  comparisons_rise : (d : Places) → IsNonDecreasingBy (λ (s : Places). ordering_index (nat_cmp s.sid sid)) ss
  comparisons_rise d = IsNonDecreasingBy-from_default (λ (s : Places). ordering_index (nat_cmp s.sid sid)) ss d (λ i j le in_range.
      let keys_rise : (get_or ss i d).sid ≤ (get_or ss j d).sid = grind (arith, rises ss d i j rising, λ (same : i ≡ j). ap (λ (n : ℕ). (get_or ss n d).sid) same) in
      grind (arith, nat_tests))

  -- a binary search by number ends at the number, or where no space has it
  searched_by : (d : Places) (r : Result ℕ ℕ) → IsSearchInRange r (length ss) → IsBinarySearchResult (λ (s : Places). nat_cmp s.sid sid) ss r
      → record { found : IfSome (result_ok r) (StandsAt ss sid); absent : IfNone (result_ok r) (IsAbsent sid (sids_of ss)) }
  searched_by d (Ok at) in_range equal = record { found = record { in_range = in_range; number = at_place ss d at sid in_range (ranked _ sid _ (sym (equal d))) }; absent = tt }
  searched_by d (Err at) in_range parted = record {
    found = tt;
    absent = absent_by ss d sid (λ i l e. elim (within i at) [
      | inl b ↦ let h : (get_or ss i d).sid < sid = ranked _ sid _ (sym ((parted (comparisons_rise d)).0 i d (omega arith) b)) in absurd (omega arith)
      | inr b ↦ let h : sid < (get_or ss i d).sid = ranked _ sid _ (sym ((parted (comparisons_rise d)).1 i d b l)) in absurd (omega arith)
    ]);
  }

pub searched : (ss : List Places) → AreRising (sids_of ss) → (sid : ℕ) (r : Result ℕ ℕ) → IsSearchInRange r (length ss)
    → IsBinarySearchResult (λ (s : Places). nat_cmp s.sid sid) ss r
    → record { found : IfSome (result_ok r) (StandsAt ss sid); absent : IfNone (result_ok r) (IsAbsent sid (sids_of ss)) }
searched [] rising sid (Ok at) in_range equal = absurd (omega arith)
searched [] rising sid (Err at) in_range parted = record { found = tt; absent = tt }
searched (s ∷ ss) rising sid r in_range h = searched_by (s ∷ ss) rising sid s r in_range h

-- The pages of one space.

pub or_none : (o : Option Place) → or_else o None ≡ o
or_none None = refl
or_none (Some x) = refl

-- a page that only a space of this number may have
abbrev pub IsOfSpace : Page → ℕ → Type 0
IsOfSpace q sid = (s : Places) → s.sid ≢ sid → place_in s q ≡ None

pub of_space : (q : Page) (sid : ℕ) → space_named q ≡ Some sid → IsOfSpace q sid
of_space (Data n v) sid e s d = let same : n ≡ sid = cc in data_miss s n v (λ k. d (sym k ∙ same))
of_space (Stack n v) sid e s d = let same : n ≡ sid = cc in stack_miss s n v (λ k. d (sym k ∙ same))
of_space (Text i v) sid e s d = absurd cc

pub data_of_space : (sid v : ℕ) → IsOfSpace (Data sid v) sid
data_of_space sid v s n = data_miss s sid v (λ e. n (sym e))

pub stack_of_space : (sid v : ℕ) → IsOfSpace (Stack sid v) sid
stack_of_space sid v s n = stack_miss s sid v (λ e. n (sym e))

module _ (q : Page) (sid : ℕ) (of : IsOfSpace q sid) where
  pub absent_entry : (ss : List Places) → IsAbsent sid (sids_of ss) → entry_in ss q ≡ None
  absent_entry [] h = refl
  absent_entry (s ∷ ss) h = ap (λ (o : Option Place). or_else o (entry_in ss q)) (of s h.0) ∙ absent_entry ss h.1

  pub absent_places : (ss : List Places) (place : Place) → IsAbsent sid (sids_of ss) → map (placed q place) ss ≡ ss
  absent_places ss place h = entry_none ss q place (absent_entry ss h)

  pub here_places : (ss : List Places) (i : ℕ) (d : Places) (place : Place) → AreRising (sids_of ss) → slice_get (sids_of ss) i ≡ Some sid
      → set ss i (placed q place (get_or ss i d)) ≡ map (placed q place) ss
  here_places [] i d place h e = absurd cc
  here_places (s ∷ ss) zero d place h e =
      let same : s.sid ≡ sid = cc in
      ap (λ (xs : List Places). placed q place s ∷ xs) (sym (absent_places ss place (above_none s.sid sid (sids_of ss) (omega arith) h.0)))
  here_places (s ∷ ss) (suc i) d place h e =
      let l : s.sid < sid = below_at s.sid sid i (sids_of ss) h.0 e in
      ap (λ (x : Places). x ∷ set ss i (placed q place (get_or ss i d))) (sym (placed_none s q place (of s (λ n. absurd (omega arith)))))
      ∙ ap (λ (xs : List Places). placed q place s ∷ xs) (here_places ss i d place h.1 e)

-- The space itself.

num_hit : (n : ℕ) (s : Places) (ss : List Places) → s.sid ≡ n → numbered (λ (s : Places). s.sid) n (s ∷ ss) ≡ Some s
num_hit n s ss e = grind (arith, nat_tests)

num_miss : (n : ℕ) (s : Places) (ss : List Places) → s.sid ≢ n → numbered (λ (s : Places). s.sid) n (s ∷ ss) ≡ numbered (λ (s : Places). s.sid) n ss
num_miss n s ss e = grind (arith, nat_tests)

pub found_none : (ss : List Places) (sid : ℕ) → IsAbsent sid (sids_of ss) → numbered (λ (s : Places). s.sid) sid ss ≡ None
found_none [] sid h = refl
found_none (s ∷ ss) sid h = num_miss sid s ss h.0 ∙ found_none ss sid h.1

pub found_here : (ss : List Places) (sid i : ℕ) (d : Places) → AreRising (sids_of ss) → slice_get (sids_of ss) i ≡ Some sid
    → numbered (λ (s : Places). s.sid) sid ss ≡ Some (get_or ss i d)
found_here [] sid i d h e = absurd cc
found_here (s ∷ ss) sid zero d h e = num_hit sid s ss cc
found_here (s ∷ ss) sid (suc i) d h e =
    let l : s.sid < sid = below_at s.sid sid i (sids_of ss) h.0 e in
    num_miss sid s ss (λ n. absurd (omega arith)) ∙ found_here ss sid i d h.1 e

pub found_entry : (q : Page) (sid : ℕ) → IsOfSpace q sid → (ss : List Places) (s : Places) → AreRising (sids_of ss)
    → numbered (λ (s : Places). s.sid) sid ss ≡ Some s → entry_in ss q ≡ place_in s q
found_entry q sid of [] s h e = absurd cc
found_entry q sid of (x ∷ xs) s h e = elim (cases_eq x.sid sid) [
  | inl i ↦
      let same : x ≡ s = (let k : Some x ≡ Some s = sym (num_hit sid x xs i) ∙ e in cc) in
      ap (or_else (place_in x q)) (absent_entry q sid of xs (above_none x.sid sid (sids_of xs) (omega arith) h.0)) ∙ or_none (place_in x q) ∙ ap (λ (y : Places). place_in y q) same
  | inr n ↦ ap (λ (o : Option Place). or_else o (entry_in xs q)) (of x n) ∙ found_entry q sid of xs s h.1 (sym (num_miss sid x xs n) ∙ e)
]

pub lost_entry : (q : Page) (sid : ℕ) → IsOfSpace q sid → (ss : List Places) → numbered (λ (s : Places). s.sid) sid ss ≡ None → entry_in ss q ≡ None
lost_entry q sid of [] e = refl
lost_entry q sid of (x ∷ xs) e = elim (cases_eq x.sid sid) [
  | inl i ↦ absurd (let k : Some x ≡ None = sym (num_hit sid x xs i) ∙ e in cc)
  | inr n ↦ ap (λ (o : Option Place). or_else o (entry_in xs q)) (of x n) ∙ lost_entry q sid of xs (sym (num_miss sid x xs n) ∙ e)
]

pub found_image : (ss : List Places) (sid : ℕ) → option_map (λ (s : Places). s.image) (numbered (λ (s : Places). s.sid) sid ss) ≡ image_found ss sid
found_image [] sid = refl
found_image (x ∷ xs) sid = go (x.sid == sid) (found_image xs sid)
  where
    go : (b : Bool) → option_map (λ (s : Places). s.image) (numbered (λ (s : Places). s.sid) sid xs) ≡ image_found xs sid
        → option_map (λ (s : Places). s.image) (cond b (Some x) (numbered (λ (s : Places). s.sid) sid xs)) ≡ cond b (Some x.image) (image_found xs sid)
    go true e = refl
    go false e = e

-- The first space that has a page.
