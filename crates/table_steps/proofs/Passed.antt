-- Pages that weren't filled yet are passed over where the pages of a segment are forgotten.
use Rattle.std.proofs.Common.{◌≡◌, ℕ, zero, suc, ◌+◌, ◌-◌, ◌<◌, ◌≤◌, false, List, [], ◌∷◌, Option, Some, None, refl, ap, subst, inl, inr, arith}
use Rattle.std.proofs.lemmas.Bool.{cases_lt}
use Rattle.vm_facts.specs.declared.page.Page.{Page}
use Rattle.vm_facts.specs.declared.page.Page.TheVariants.{Data, Stack, Text}
use Rattle.vax_pte.specs.declared.Place.{Place}
use Rattle.vax_pte.specs.declared.Place.TheVariants as places
use Rattle.vax_pte.specs.Words.{was_filled}
use Rattle.space_map.specs.Space.{Places, is_of_kind}
use Rattle.page_model.specs.Placement.{state_of, IsThere}
use Rattle.page_model.specs.PageBytes.{IsWritable}
use Rattle.page_model.specs.Conditions.{AtRest, EachPage}
use Rattle.flat_state.specs.Numbers.{IsAbsent}
use Rattle.flat_state.specs.PageNames.{beside, pages_from}
use Rattle.kernel_tables.specs.declared.tables.Tables.{Tables}
use Rattle.kernel_tables.specs.Rising.{sids_of, IsHome, space_named}
use Rattle.kernel_tables.specs.Shown.{entry_in}
use Rattle.kernel_tables.specs.View.{placement_of}
use Rattle.kernel_tables.specs.Known.{Known}
use Rattle.kernel_tables.specs.Machine.{lists_of}
use Rattle.kernel_tables.specs.Changing.{Dropped}
use Rattle.kernel_tables.proofs.Rising.{data_of_space, stack_of_space, absent_entry}
use Rattle.table_steps.proofs.Forgets.{MayForgetPage, no_entry, forgets_nothing, next_may, next_dropped}
use Rattle.table_steps.proofs.WholeSpace.{dropped_numbers}
use Rattle.table_steps.proofs.GivenUp.{still_stands}

pub dropped_none : (t : Tables) → Known (lists_of t) → Dropped t t []
dropped_none t k = record { shows = record { place = refl; frames = refl; known = k }; images = λ sid. refl; rest = refl }

-- the space of a page stays where it stands
pub home_stays : (t u : Tables) (qs : List Page) (index : ℕ) (q : Page) → Dropped t u qs → IsHome t.spaces index q → IsHome u.spaces index q
home_stays t u qs index q d h = record { sid = h.sid; named = h.named; stands = still_stands t.spaces u.spaces h.sid index (dropped_numbers t u qs d) h.stands }

-- no page of a space that isn't there was filled
pub none_filled : (ss : List Places) (q : Page) → IsWritable q → ((sid : ℕ) → space_named q ≡ Some sid → IsAbsent sid (sids_of ss))
    → (k : ℕ) → is_of_kind was_filled (entry_in ss (beside q k)) ≡ false
none_filled ss (Data sid v) w h k = ap (is_of_kind was_filled) (absent_entry (Data sid k) sid (data_of_space sid k) ss (h sid refl))
none_filled ss (Stack sid v) w h k = ap (is_of_kind was_filled) (absent_entry (Stack sid k) sid (stack_of_space sid k) ss (h sid refl))
none_filled ss (Text i v) w h k = absurd w

forgets_unfilled : (t : Tables) (q : Page) → MayForgetPage (lists_of t) q → is_of_kind was_filled (entry_in t.spaces q) ≡ false → Dropped t t (q ∷ [])
forgets_unfilled t q m h = go (entry_in t.spaces q) refl h
  where
    go : (o : Option Place) → entry_in t.spaces q ≡ o → is_of_kind was_filled o ≡ false → Dropped t t (q ∷ [])
    go None e k = no_entry t q m e
    go (Some places.Zero) e k = forgets_nothing t q places.Zero m e tt
    go (Some (places.Image v)) e k = forgets_nothing t q (places.Image v) m e tt
    go (Some places.Swap) e k = absurd cc
    go (Some (places.Frame f valid changed)) e k = absurd cc

-- what is asked of the pages of a segment that are to be forgotten, from one on up to another
pub record MayForgetRun (t : Tables) (q : Page) (from to : ℕ) : Type 0 where
  pub writable : IsWritable q
  pub there : EachPage (IsThere (placement_of (lists_of t))) (pages_from q from (to - from))
  pub rest : EachPage (λ r. AtRest (state_of (placement_of (lists_of t)) r)) (pages_from q from (to - from))

-- the pages from one on, up to another, weren't filled
abbrev pub NoneFilled : Tables → Page → ℕ → ℕ → Type 0
NoneFilled u q v w = (k : ℕ) → v ≤ k → k < w → is_of_kind was_filled (entry_in u.spaces (beside q k)) ≡ false

pub passed_over : (t u : Tables) (q : Page) (from to v w : ℕ) → MayForgetRun t q from to → Dropped t u (pages_from q from (v - from))
    → from ≤ v → v ≤ w → w ≤ to → NoneFilled u q v w
    → Dropped t u (pages_from q from (w - from))
passed_over t u q from to v w may d low mid high none =
    let end : v + (w - v) ≡ w = omega arith in
    let all : v + (w - v) ≤ w = omega arith in
    subst (λ (x : ℕ). Dropped t u (pages_from q from (x - from))) end (go (w - v) all)
  where
    go : (n : ℕ) → v + n ≤ w → Dropped t u (pages_from q from (v + n - from))
    go zero h =
        let start : v ≡ v + zero = omega arith in
        subst (λ (x : ℕ). Dropped t u (pages_from q from (x - from))) start d
    go (suc n) h =
        let before : Dropped t u (pages_from q from (v + n - from)) = go n (omega arith) in
        let here : MayForgetPage (lists_of u) (beside q (v + n)) =
        next_may t u q from to (v + n) before (omega (arith, low)) (omega (arith, high, h)) may.writable may.there may.rest in
        let same : Dropped u u (beside q (v + n) ∷ []) = forgets_unfilled u (beside q (v + n)) here (none (v + n) (omega arith) (omega (arith, h))) in
        let next : v + n + 1 ≡ v + suc n = omega arith in
        subst (λ (x : ℕ). Dropped t u (pages_from q from (x - from))) next (next_dropped t u u q from (v + n) (omega (arith, low)) before same)

-- the next page that was filled may be forgotten, and then is
pub passed_may : (t u : Tables) (q : Page) (from to v w : ℕ) → MayForgetRun t q from to → Dropped t u (pages_from q from (v - from))
    → from ≤ v → v ≤ w → w < to → NoneFilled u q v w → MayForgetPage (lists_of u) (beside q w)
passed_may t u q from to v w may d low mid high none =
    next_may t u q from to w (passed_over t u q from to v w may d low mid (omega (arith, high)) none) (omega (arith, low, mid)) high may.writable may.there may.rest

pub passed_dropped : (t u x : Tables) (q : Page) (from to v w : ℕ) → MayForgetRun t q from to → Dropped t u (pages_from q from (v - from))
    → from ≤ v → v ≤ w → w < to → NoneFilled u q v w → Dropped u x (beside q w ∷ []) → Dropped t x (pages_from q from (w + 1 - from))
passed_dropped t u x q from to v w may d low mid high none next =
    next_dropped t u x q from w (omega (arith, low, mid)) (passed_over t u q from to v w may d low mid (omega (arith, high)) none) next

-- the last pages weren't filled
pub passed_last : (t u : Tables) (q : Page) (from to v : ℕ) → MayForgetRun t q from to → Dropped t u (pages_from q from (v - from))
    → from ≤ v → (from ≤ to → v ≤ to) → (to ≤ from → v ≡ from) → NoneFilled u q v to
    → Dropped t u (pages_from q from (to - from))
passed_last t u q from to v may d low within none_less none = elim (cases_lt from to) [
  | inl less ↦ passed_over t u q from to v to may d low (within (omega arith)) (omega arith) none
  | inr past ↦
      let start : v ≡ from = none_less past in
      let nothing : v - from ≡ to - from = omega arith in
      subst (λ (n : ℕ). Dropped t u (pages_from q from n)) nothing d
]
