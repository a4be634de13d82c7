-- A page that has no entry in the space doesn't go along.
use Rattle.std.proofs.Common.{◌≡◌, ℕ, ◌<◌, ◌≤◌, ◌&&◌, not, nat_lt, Bool, false, List, None, length, sym, ap, subst, arith}
use Rattle.std.proofs.lemmas.Bool.Decides.{nat_tests}
use Rattle.std.proofs.lemmas.List.{get_or_past}
use Rattle.vm_facts.specs.declared.page.Page.{Page}
use Rattle.vm_facts.specs.declared.page.Page.TheVariants.{Data, Stack, Text}
use Rattle.vm_facts.specs.declared.page.PageState.{PageState}
use Rattle.vm_facts.specs.declared.page.PageState.TheVariants.{Unfilled}
use Rattle.core_map.specs.Frames.{Frames}
use Rattle.space_map.specs.Space.{Places, place_in}
use Rattle.flat_state.specs.PageNames.{number_of, beside, is_among}
use Rattle.page_model.specs.Pages.{Slot, no_slot, is_on_swap, is_unfilled}
use Rattle.page_model.specs.Placement.{Placement, slots_of, state_of, is_dirty, IsThere}
use Rattle.page_model.specs.Hands.{expire}
use Rattle.page_model.specs.Runs.{is_near, is_idle_by, is_seated_by}
use Rattle.page_laws.proofs.Moves.Stays.{expire_steady}
use Rattle.table_view.specs.Views.{IsNamedBy, ShowsPage, ShowsSpace}
use Rattle.kluster_io.specs.declared.search.Kin.{Kin}
use Rattle.kluster_io.specs.declared.search.Kin.TheVariants as kins
use Rattle.kluster_io.specs.Joining.{joins}

pub named_beside : (s : Places) (q : Page) (w : ℕ) → IsNamedBy s q → IsNamedBy s (beside q w)
named_beside s (Data sid v) w h = h
named_beside s (Stack sid v) w h = h
named_beside s (Text image v) w h = h

gone : (p : Placement) (core : Frames) (s : Places) (q : Page) → ShowsSpace p core s → IsNamedBy s q → place_in s q ≡ None → IsThere p q → ⊥
gone p core s q h n e = subst (ShowsPage p core.slots q) e (h.pages q n)

unfilled : (p : Placement) (q : Page) → (IsThere p q → ⊥) → state_of p q ≡ Unfilled
unfilled p q n = ap (λ (x : Slot). x.state) (get_or_past (slots_of p q) (number_of q) no_slot (past (number_of q) (length (slots_of p q)) n))
  where
    past : (a b : ℕ) → (a < b → ⊥) → b ≤ a
    past a b n = omega arith

not_less : (a b : ℕ) → (a < b → ⊥) → nat_lt a b ≡ false
not_less a b n = grind (arith, nat_tests)

not_counted : (p : Placement) (q : Page) (w : ℕ) → (IsThere p (beside q w) → ⊥) → nat_lt w (length (slots_of p q)) ≡ false
not_counted p (Data sid v) w n = not_less w (length (slots_of p (Data sid v))) n
not_counted p (Stack sid v) w n = not_less w (length (slots_of p (Stack sid v))) n
not_counted p (Text image v) w n = not_less w (length (slots_of p (Text image v))) n

still_gone : (p : Placement) (locked : List Page) (q : Page) → (IsThere p q → ⊥) → IsThere (expire p locked) q → ⊥
still_gone p locked q n h = n (subst (λ (k : ℕ). number_of q < k) ((expire_steady p locked).sizes q) h)

none_by : (p : Placement) (kin : Kin) (q : Page) (w : ℕ) → (IsThere p (beside q w) → ⊥) → joins p kin q w ≡ false
none_by p kins.OnSwap q w n = ap (λ (s : PageState). is_on_swap s && is_near q w) (unfilled p (beside q w) n)
none_by p kins.Unfilled q w n = ap (λ (b : Bool). b && is_unfilled (state_of p (beside q w))) (not_counted p q w n)
none_by p (kins.Idle locked front) q w n =
    ap (λ (s : PageState). (is_idle_by (expire p locked.now) s && (is_dirty (expire p locked.now) (beside q w) && not (is_among (beside q w) locked.now))) && is_near q w)
    (unfilled (expire p locked.now) (beside q w) (still_gone p locked.now (beside q w) n))
none_by p kins.Seated q w n = ap (λ (s : PageState). is_seated_by p s && (is_dirty p (beside q w) && is_near q w)) (unfilled p (beside q w) n)

pub none_joins : (p : Placement) (core : Frames) (s : Places) (kin : Kin) (q : Page) (w : ℕ) → ShowsSpace p core s → IsNamedBy s q
    → place_in s (beside q w) ≡ None → false ≡ joins p kin q w
none_joins p core s kin q w h n e = sym (none_by p kin q w (gone p core s (beside q w) h (named_beside s q w n) e))
