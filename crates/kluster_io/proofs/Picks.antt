-- The runs of the three calls, by what a search answers.
use Rattle.std.proofs.Common.{◌≡◌, ℕ, ◌&&◌, min, Bool, true, Some, IsSome, sym, ap, ◌∙◌, subst, arith}
use Rattle.std.proofs.lemmas.Bool.{and_parts}
use Rattle.std.proofs.lemmas.Bool.Decides.{nat_tests}
use Rattle.vm_facts.specs.declared.page.Page.{Page}
use Rattle.vm_facts.specs.declared.page.Page.TheVariants.{Data, Stack, Text}
use Rattle.vm_facts.specs.declared.page.PageState.TheVariants.{OnSwap, Unfilled}
use Rattle.vax_pte.specs.declared.Place.{Place}
use Rattle.core_map.specs.Frames.{Frames}
use Rattle.space_map.specs.Space.{Places, place_in}
use Rattle.flat_state.specs.PageNames.{number_of}
use Rattle.page_model.specs.Placement.{Placement, is_dirty}
use Rattle.page_model.specs.Runs.{Run, run_up, run_both, run_in_by, run_put, run_put_by, is_seated_by}
use Rattle.table_view.specs.Shown.{state_shown, ShowsMark}
use Rattle.table_view.specs.Views.{IsNamedBy, ShowsPage, ShowsSpace}
use Rattle.kluster_io.specs.declared.search.Kin.TheVariants as kins
use Rattle.kluster_io.specs.Joining.{joins}

pub named : (s : Places) (q : Page) → IsSome (place_in s q) → IsNamedBy s q
named s (Data sid v) h = grind (arith, nat_tests)
named s (Stack sid v) h = grind (arith, nat_tests)
named s (Text image v) h = grind (arith, nat_tests)

pub text_from_swap : (p : Placement) (q : Page) (image v spare m n : ℕ) → q ≡ Text image v → m ≡ min 2 spare
    → run_up (joins p kins.OnSwap q) (number_of q) m ≡ record { lo = number_of q; n = n }
    → run_in_by p q OnSwap spare ≡ record { lo = v; n = n }
text_from_swap p q image v spare m n e k h =
    subst (λ (x : Page). run_up (joins p kins.OnSwap x) (number_of x) m ≡ record { lo = number_of x; n = n } → run_in_by p x OnSwap spare ≡ record { lo = v; n = n }) (sym e)
    (λ g. ap (run_up (joins p kins.OnSwap (Text image v)) v) (sym k) ∙ g) h

pub text_from_file : (p : Placement) (q : Page) (image v spare m n : ℕ) → q ≡ Text image v → m ≡ min 2 spare
    → run_up (joins p kins.Unfilled q) (number_of q) m ≡ record { lo = number_of q; n = n }
    → run_in_by p q Unfilled spare ≡ record { lo = v; n = n }
text_from_file p q image v spare m n e k h =
    subst (λ (x : Page). run_up (joins p kins.Unfilled x) (number_of x) m ≡ record { lo = number_of x; n = n } → run_in_by p x Unfilled spare ≡ record { lo = v; n = n }) (sym e)
    (λ g. ap (run_up (joins p kins.Unfilled (Text image v)) v) (sym k) ∙ g) h

pub data_from_swap : (p : Placement) (q : Page) (sid v spare m : ℕ) (r : Run) → q ≡ Data sid v → m ≡ min 4 spare
    → run_both (joins p kins.OnSwap q) (number_of q) m ≡ r → run_in_by p q OnSwap spare ≡ r
data_from_swap p q sid v spare m r e k h =
    subst (λ (x : Page). run_both (joins p kins.OnSwap x) (number_of x) m ≡ r → run_in_by p x OnSwap spare ≡ r) (sym e)
    (λ g. ap (run_both (joins p kins.OnSwap (Data sid v)) v) (sym k) ∙ g) h

pub stack_from_swap : (p : Placement) (q : Page) (sid v spare m : ℕ) (r : Run) → q ≡ Stack sid v → m ≡ min 4 spare
    → run_both (joins p kins.OnSwap q) (number_of q) m ≡ r → run_in_by p q OnSwap spare ≡ r
stack_from_swap p q sid v spare m r e k h =
    subst (λ (x : Page). run_both (joins p kins.OnSwap x) (number_of x) m ≡ r → run_in_by p x OnSwap spare ≡ r) (sym e)
    (λ g. ap (run_both (joins p kins.OnSwap (Stack sid v)) v) (sym k) ∙ g) h

-- the page of a `Put` is dirty
pub dirty_put : (p : Placement) (core : Frames) (s : Places) (q : Page) (place : Place) (b : Bool) (n : ℕ) → ShowsSpace p core s
    → IsSome (place_in s q) → Some place ≡ place_in s q
    → ((x : Placement) (dirty : Bool) → x.free ≡ core.free → ShowsMark core.slots place dirty → b ≡ (is_seated_by x (state_shown core.slots place) && dirty))
    → b ≡ true → run_up (joins p kins.Seated q) (number_of q) 16 ≡ record { lo = number_of q; n = n } → n ≡ (run_put p q).n
dirty_put p core s q place b n h some e tests t u =
    let shown : ShowsPage p core.slots q (Some place) = subst (ShowsPage p core.slots q) (sym e) (h.pages q (named s q some)) in
    let dirty : is_dirty p q ≡ true = (and_parts (is_seated_by p (state_shown core.slots place)) (is_dirty p q) (sym (tests p (is_dirty p q) h.free shown.2) ∙ t)).1 in
    sym (ap (λ (x : Run). x.n) (ap (run_put_by p q) dirty ∙ u))
