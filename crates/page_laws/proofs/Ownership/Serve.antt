-- Forcing a frame and serving a page keep the ownership of frames.
use Rattle.std.proofs.Common.{◌≡◌, ◌⊎◌, inl, inr, ℕ, ◌<◌, ◌≤◌, nat_lt, min, true, false, List, [], ◌∷◌, length, refl, sym, ap, ◌∙◌, arith}
use Rattle.std.proofs.lemmas.List.{get_or_past}
use Rattle.std.proofs.lemmas.Bool.{ltb-true, and_parts}
use Rattle.vm_facts.specs.declared.page.Page.{Page}
use Rattle.vm_facts.specs.declared.page.Page.TheVariants.{Data, Stack, Text}
use Rattle.vm_facts.specs.declared.page.PageState.{PageState}
use Rattle.vm_facts.specs.declared.page.PageState.TheVariants.{Unfilled, Valid, Invalid, Coming, Going, OnSwap}
use Rattle.page_model.specs.Pages.{Slot, no_slot, frame_of, is_on_swap, is_unfilled}
use Rattle.page_model.specs.PageNames.{number_of, beside}
use Rattle.page_model.specs.Placement.{Placement, slots_of, state_of, IsThere}
use Rattle.page_model.specs.Runs.{pages_of_run, run_in, run_in_by, run_both, run_up, run_alone, comes_from_swap, comes_from_file, is_near, spare_frames}
use Rattle.page_model.specs.Reading.{read_step, source_for}
use Rattle.page_model.specs.Serve.{force, serve_step, after_serving}
use Rattle.page_model.specs.Ownership.{OwnsFrames}
use Rattle.page_model.specs.Conditions.{EachPage, CanEnter}
use Rattle.page_laws.proofs.Ownership.Pages.{reclaim_owner}
use Rattle.page_laws.proofs.Lists.Runs.{run_each, run_both_in, run_up_in, run_alone_in, run_apart}
use Rattle.page_laws.proofs.Ownership.Runs.{get_run_owner, done_owner}
use Rattle.page_laws.proofs.Ownership.Hands.{move_owner}
use Rattle.page_laws.proofs.Moves.Cases.{force_cases, serving_cases, read_frameless}
use Rattle.page_laws.proofs.Ownership.Entries.{filled_owner}

pub force_owner : (p : Placement) (locked : List Page) → OwnsFrames p → OwnsFrames (force p locked)
force_owner p locked o = force_cases OwnsFrames p locked (λ e. move_owner p locked o) (λ t ts e. done_owner p o)

-- a page in another state than that of one that isn't there is there
pub state_there : (p : Placement) (q : Page) → (state_of p q ≡ Unfilled → ⊥) → IsThere p q
state_there p q n =
    let le_or : (a b : ℕ) → (a < b) ⊎ (b ≤ a) = λ a b. grind arith in
    elim (le_or (number_of q) (length (slots_of p q))) [
      | inl l ↦ l
      | inr m ↦ absurd (n (ap (λ (x : Slot). x.state) (get_or_past (slots_of p q) (number_of q) no_slot m)))
    ]

on_swap_enters : (p : Placement) (q : Page) → state_of p q ≡ OnSwap → CanEnter p q
on_swap_enters p q e = record { there = state_there p q (λ h. let k : OnSwap ≡ Unfilled = sym e ∙ h in absurd cc); frameless = ap frame_of e }

pub on_swap_is : (s : PageState) → is_on_swap s ≡ true → s ≡ OnSwap
on_swap_is OnSwap e = refl
on_swap_is _ e = absurd cc

pub unfilled_is : (s : PageState) → is_unfilled s ≡ true → s ≡ Unfilled
unfilled_is Unfilled e = refl
unfilled_is _ e = absurd cc

swap_enters : (p : Placement) (q : Page) (w : ℕ) → comes_from_swap p q w ≡ true → CanEnter p (beside q w)
swap_enters p q w e = on_swap_enters p (beside q w) (on_swap_is (state_of p (beside q w)) (and_parts (is_on_swap (state_of p (beside q w))) (is_near q w) e).0)

file_enters : (p : Placement) (image v w : ℕ) → comes_from_file p (Text image v) w ≡ true → CanEnter p (Text image w)
file_enters p image v w e = let k = and_parts (nat_lt w (length (slots_of p (Text image v)))) (is_unfilled (state_of p (Text image w))) e in record {
  there = ltb-true w (length (slots_of p (Text image v))) k.0;
  frameless = ap frame_of (unfilled_is (state_of p (Text image w)) k.1);
}

-- each page of a read's run is there, and has no frame
pub run_in_enters : (p : Placement) (q : Page) → CanEnter p q → EachPage (CanEnter p) (pages_of_run q (run_in p q))
run_in_enters p q c = go q c (state_of p q) (spare_frames p)
  where
    alone : (q : Page) → CanEnter p q → EachPage (CanEnter p) (pages_of_run q (run_alone q))
    alone q c = run_each (CanEnter p) (λ w. false) q (run_alone q) (run_alone_in (λ w. false) q) c (λ w e. absurd cc)

    go : (q : Page) → CanEnter p q → (s : PageState) (spare : ℕ) → EachPage (CanEnter p) (pages_of_run q (run_in_by p q s spare))
    go (Text image v) c OnSwap spare = run_each (CanEnter p) (comes_from_swap p (Text image v)) (Text image v) (run_up (comes_from_swap p (Text image v)) v (min 2 spare))
        (run_up_in (comes_from_swap p (Text image v)) v (min 2 spare)) c (swap_enters p (Text image v))
    go (Text image v) c Unfilled spare = run_each (CanEnter p) (comes_from_file p (Text image v)) (Text image v) (run_up (comes_from_file p (Text image v)) v (min 2 spare))
        (run_up_in (comes_from_file p (Text image v)) v (min 2 spare)) c (file_enters p image v)
    go (Text image v) c (Valid f) spare = alone (Text image v) c
    go (Text image v) c (Invalid f) spare = alone (Text image v) c
    go (Text image v) c (Coming f) spare = alone (Text image v) c
    go (Text image v) c (Going f) spare = alone (Text image v) c
    go (Data sid v) c OnSwap spare = run_each (CanEnter p) (comes_from_swap p (Data sid v)) (Data sid v) (run_both (comes_from_swap p (Data sid v)) v (min 4 spare))
        (run_both_in (comes_from_swap p (Data sid v)) v (min 4 spare)) c (swap_enters p (Data sid v))
    go (Data sid v) c Unfilled spare = alone (Data sid v) c
    go (Data sid v) c (Valid f) spare = alone (Data sid v) c
    go (Data sid v) c (Invalid f) spare = alone (Data sid v) c
    go (Data sid v) c (Coming f) spare = alone (Data sid v) c
    go (Data sid v) c (Going f) spare = alone (Data sid v) c
    go (Stack sid v) c OnSwap spare = run_each (CanEnter p) (comes_from_swap p (Stack sid v)) (Stack sid v) (run_both (comes_from_swap p (Stack sid v)) v (min 4 spare))
        (run_both_in (comes_from_swap p (Stack sid v)) v (min 4 spare)) c (swap_enters p (Stack sid v))
    go (Stack sid v) c Unfilled spare = alone (Stack sid v) c
    go (Stack sid v) c (Valid f) spare = alone (Stack sid v) c
    go (Stack sid v) c (Invalid f) spare = alone (Stack sid v) c
    go (Stack sid v) c (Coming f) spare = alone (Stack sid v) c
    go (Stack sid v) c (Going f) spare = alone (Stack sid v) c

pub read_owner : (p : Placement) (q : Page) → OwnsFrames p → CanEnter p q → OwnsFrames (read_step p q)
read_owner p q o c = get_run_owner p (source_for (state_of p q)) q (pages_of_run q (run_in p q)) o (run_in_enters p q c) (run_apart q (run_in p q))

-- one unit of serving
pub serve_owner : (p : Placement) (locked : List Page) (q : Page) → OwnsFrames p → IsThere p q → OwnsFrames (serve_step p locked q)
serve_owner p locked q o there = serving_cases (λ x. OwnsFrames (after_serving p locked x)) p q (λ f s. o) (λ f s. reclaim_owner p q o) (λ f s. done_owner p o)
    (λ n e. force_owner p locked o) (λ f fs e s x. filled_owner p q o (record { there = there; frameless = ap frame_of s })) (λ f fs e r b. done_owner p o)
    (λ f fs e r b. read_owner p q o (record { there = there; frameless = read_frameless p q r }))
