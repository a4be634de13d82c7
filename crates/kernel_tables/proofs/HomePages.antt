-- The pages of a segment, by the space that stands at their home.
use Rattle.std.proofs.Common.{◌≡◌, ℕ, List, Option, Some, None, IfSome, IfNone, get_or, slice_get, refl, sym, ◌∙◌, subst}
use Rattle.vm_facts.specs.declared.page.Page.{Page}
use Rattle.vm_facts.specs.declared.page.Page.TheVariants.{Data, Stack, Text}
use Rattle.flat_state.specs.Numbers.{IsAbsent}
use Rattle.flat_state.specs.PageNames.{beside}
use Rattle.space_map.specs.Space.{Places, segment_in}
use Rattle.table_view.proofs.Segments.{beside_place}
use Rattle.kernel_tables.specs.Rising.{sids_of, AreRising, StandsAt, IsHome, space_named}
use Rattle.kernel_tables.specs.Shown.{entry_in}
use Rattle.kernel_tables.proofs.Rising.{of_space, found_entry, found_here}

beside_named : (q : Page) (v : ℕ) → space_named (beside q v) ≡ space_named q
beside_named (Data sid w) v = refl
beside_named (Stack sid w) v = refl
beside_named (Text image w) v = refl

pub home_entry : (ss : List Places) (index : ℕ) (q : Page) (d : Places) → AreRising (sids_of ss) → IsHome ss index q
    → (v : ℕ) → entry_in ss (beside q v) ≡ slice_get (segment_in (get_or ss index d) q) v
home_entry ss index q d rising h v =
    let r : Page = beside q v in
    found_entry r h.sid (of_space r h.sid (beside_named q v ∙ h.named)) ss (get_or ss index d) rising (found_here ss h.sid index d rising h.stands.number)
    ∙ beside_place (get_or ss index d) q v

-- a page of data or stack is at home where the space stands that it names
pub home_found : (ss : List Places) (q : Page) (sid : ℕ) (o : Option ℕ) → space_named q ≡ Some sid → IfSome o (StandsAt ss sid)
    → IfSome o (λ index. IsHome ss index q)
home_found ss q sid None e h = tt
home_found ss q sid (Some index) e h = record { sid = sid; named = e; stands = h }

pub home_absent : (ss : List Places) (q : Page) (sid : ℕ) (o : Option ℕ) → space_named q ≡ Some sid → IfNone o (IsAbsent sid (sids_of ss))
    → IfNone o ((n : ℕ) → space_named q ≡ Some n → IsAbsent n (sids_of ss))
home_absent ss q sid None e h = λ n k. let same : Some sid ≡ Some n = sym e ∙ k in let number : sid ≡ n = cc in subst (λ (m : ℕ). IsAbsent m (sids_of ss)) number h
home_absent ss q sid (Some index) e h = tt

-- a page that names no space has no home
pub no_home_found : (ss : List Places) (q : Page) (o : Option ℕ) → o ≡ None → IfSome o (λ index. IsHome ss index q)
no_home_found ss q None e = tt
no_home_found ss q (Some index) e = absurd cc

pub no_home_absent : (ss : List Places) (q : Page) (o : Option ℕ) → None ≡ space_named q → IfNone o ((n : ℕ) → space_named q ≡ Some n → IsAbsent n (sids_of ss))
no_home_absent ss q None e = λ n k. absurd (let none : None ≡ Some n = e ∙ k in cc)
no_home_absent ss q (Some index) e = tt
