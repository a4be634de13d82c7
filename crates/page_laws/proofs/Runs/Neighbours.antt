-- The runs of reads and writes are the widest and the longest ones.
use Rattle.std.proofs.Common.{◌≡◌, ◌⊎◌, inl, inr, ℕ, ◌+◌, ◌-◌, ◌<◌, ◌≤◌, ◌&&◌, nat_lt, max, min, Bool, true, false, not, List, length, refl, sym, ap, ◌∙◌, subst, arith}
use Rattle.std.proofs.lemmas.Bool.{eqb-true, eq-eqb, ltb-true, lt-ltb, not-true, and_from, and_parts}
use Rattle.page_laws.proofs.Ownership.Serve.{on_swap_is, unfilled_is}
use Rattle.vm_facts.specs.declared.page.Page.{Page}
use Rattle.vm_facts.specs.declared.page.Page.TheVariants.{Data, Stack, Text}
use Rattle.vm_facts.specs.declared.page.PageState.{PageState}
use Rattle.vm_facts.specs.declared.page.PageState.TheVariants.{Unfilled, Valid, Invalid, Coming, Going, OnSwap}
use Rattle.page_model.specs.PageNames.{number_of, beside, is_among}
use Rattle.page_model.specs.Pages.{is_on_swap, is_unfilled}
use Rattle.vm_facts.specs.Lists.{times}
use Rattle.page_model.specs.Placement.{Placement, slots_of, state_of, is_dirty}
use Rattle.page_model.specs.PageBytes.{IsWritable}
use Rattle.page_model.specs.Runs.{run_in, run_in_by, run_out, run_put, run_put_by, run_alone, chunk_of, is_near, desired_free, spare_frames, comes_from_swap, comes_from_file, is_idle, is_idle_by, goes_along, is_seated, is_seated_by}
use Rattle.page_laws.specs.Neighbours.{IsWidestRun, IsLongestRun, MayRead, IsSwappedBeside, IsUnfilledBeside, IsIdleBeside, IsSeatedBeside}
use Rattle.page_laws.proofs.Runs.Widest.{widest, longest}

-- Frames to spare.

spared : (m d l n : ℕ) → 0 < n → n ≤ min m (max 1 (l - d)) → (n ≤ m) × ((n ≡ 1) ⊎ (n + d ≤ l))
spared m d l n s h = grind arith

too_many : (m d l : ℕ) → (min m (max 1 (l - d)) + 1 ≤ m) × ((min m (max 1 (l - d)) + 1 ≡ 1) ⊎ (min m (max 1 (l - d)) + 1 + d ≤ l)) → ⊥
too_many m d l h = grind arith

-- What passes.

swapped_joins : (p : Placement) (q : Page) (w : ℕ) → comes_from_swap p q w ≡ true → IsSwappedBeside p q w
swapped_joins p q w e =
    let k = and_parts (is_on_swap (state_of p (beside q w))) (is_near q w) e in
    record { state = on_swap_is (state_of p (beside q w)) k.0; near = sym (eqb-true (chunk_of q) (chunk_of (beside q w)) k.1) }

swapped_passes : (p : Placement) (q : Page) (w : ℕ) → IsSwappedBeside p q w → comes_from_swap p q w ≡ true
swapped_passes p q w h = and_from (is_on_swap (state_of p (beside q w))) (is_near q w) (ap is_on_swap h.state) (eq-eqb (chunk_of q) (chunk_of (beside q w)) (sym h.near))

filed_joins : (p : Placement) (q : Page) (w : ℕ) → comes_from_file p q w ≡ true → IsUnfilledBeside p q w
filed_joins p q w e =
    let k = and_parts (nat_lt w (length (slots_of p q))) (is_unfilled (state_of p (beside q w))) e in
    record { there = ltb-true w (length (slots_of p q)) k.0; state = unfilled_is (state_of p (beside q w)) k.1 }

filed_passes : (p : Placement) (q : Page) (w : ℕ) → IsUnfilledBeside p q w → comes_from_file p q w ≡ true
filed_passes p q w h = and_from (nat_lt w (length (slots_of p q))) (is_unfilled (state_of p (beside q w))) (lt-ltb w (length (slots_of p q)) h.there) (ap is_unfilled h.state)

pub idle_joins : (p : Placement) (locked : List Page) (q : Page) (w : ℕ) → (goes_along p locked (beside q w) && is_near q w) ≡ true → IsIdleBeside p locked q w
idle_joins p locked q w e =
    let k = and_parts (goes_along p locked (beside q w)) (is_near q w) e in
    let a = and_parts (is_idle p (beside q w)) (is_dirty p (beside q w) && not (is_among (beside q w) locked)) k.0 in
    let b = and_parts (is_dirty p (beside q w)) (not (is_among (beside q w) locked)) a.1 in
    go (state_of p (beside q w)) refl a.0 b.0 (not-true (is_among (beside q w) locked) b.1) (sym (eqb-true (chunk_of q) (chunk_of (beside q w)) k.1))
  where
    go : (s : PageState) → state_of p (beside q w) ≡ s → is_idle_by p s ≡ true → is_dirty p (beside q w) ≡ true → is_among (beside q w) locked ≡ false → chunk_of (beside q w) ≡ chunk_of q
        → IsIdleBeside p locked q w
    go (Invalid f) h i d u n = record { frame = f; state = h; off = eqb-true (times f p.free) 0 i; dirty = d; unlocked = u; near = n }
    go Unfilled h i d u n = absurd cc
    go (Valid f) h i d u n = absurd cc
    go (Coming f) h i d u n = absurd cc
    go (Going f) h i d u n = absurd cc
    go OnSwap h i d u n = absurd cc

idle_passes : (p : Placement) (locked : List Page) (q : Page) (w : ℕ) → IsIdleBeside p locked q w → (goes_along p locked (beside q w) && is_near q w) ≡ true
idle_passes p locked q w h = and_from (goes_along p locked (beside q w)) (is_near q w)
    (and_from (is_idle p (beside q w)) (is_dirty p (beside q w) && not (is_among (beside q w) locked))
    (ap (is_idle_by p) h.state ∙ eq-eqb (times h.frame p.free) 0 h.off)
    (and_from (is_dirty p (beside q w)) (not (is_among (beside q w) locked)) h.dirty (ap not h.unlocked)))
    (eq-eqb (chunk_of q) (chunk_of (beside q w)) (sym h.near))

seated_joins : (p : Placement) (q : Page) (w : ℕ) → (is_seated p (beside q w) && (is_dirty p (beside q w) && is_near q w)) ≡ true → IsSeatedBeside p q w
seated_joins p q w e =
    let k = and_parts (is_seated p (beside q w)) (is_dirty p (beside q w) && is_near q w) e in
    let a = and_parts (is_dirty p (beside q w)) (is_near q w) k.1 in
    go (state_of p (beside q w)) refl k.0 a.0 (sym (eqb-true (chunk_of q) (chunk_of (beside q w)) a.1))
  where
    go : (s : PageState) → state_of p (beside q w) ≡ s → is_seated_by p s ≡ true → is_dirty p (beside q w) ≡ true → chunk_of (beside q w) ≡ chunk_of q → IsSeatedBeside p q w
    go (Valid f) h i d n = record { frame = f; seat = inl h; dirty = d; near = n }
    go (Invalid f) h i d n = record { frame = f; seat = inr (h, eqb-true (times f p.free) 0 i); dirty = d; near = n }
    go Unfilled h i d n = absurd cc
    go (Coming f) h i d n = absurd cc
    go (Going f) h i d n = absurd cc
    go OnSwap h i d n = absurd cc

seated_passes : (p : Placement) (q : Page) (w : ℕ) → IsSeatedBeside p q w → (is_seated p (beside q w) && (is_dirty p (beside q w) && is_near q w)) ≡ true
seated_passes p q w h =
    let seat : is_seated p (beside q w) ≡ true = elim h.seat [
      | inl e ↦ ap (is_seated_by p) e
      | inr e ↦ ap (is_seated_by p) e.0 ∙ eq-eqb (times h.frame p.free) 0 e.1
    ] in
    and_from (is_seated p (beside q w)) (is_dirty p (beside q w) && is_near q w) seat
    (and_from (is_dirty p (beside q w)) (is_near q w) h.dirty (eq-eqb (chunk_of q) (chunk_of (beside q w)) (sym h.near)))

-- Runs.

some_spare : (m n : ℕ) → 0 < m → 0 < min m (max 1 n)
some_spare m n l = grind arith

pub data_in : (p : Placement) (q : Page) → IsWritable q → state_of p q ≡ OnSwap → IsWidestRun (IsSwappedBeside p q) (MayRead p 4) (number_of q) (run_in p q)
data_in p (Text image v) w e = absurd w
data_in p (Data sid v) w e = subst (λ (s : PageState). IsWidestRun (IsSwappedBeside p (Data sid v)) (MayRead p 4) v (run_in_by p (Data sid v) s (spare_frames p))) (sym e)
    (widest (comes_from_swap p (Data sid v)) (IsSwappedBeside p (Data sid v)) (MayRead p 4) v (min 4 (spare_frames p)) (some_spare 4 (length p.free - desired_free p) (omega arith))
    (swapped_joins p (Data sid v)) (swapped_passes p (Data sid v)) (spared 4 (desired_free p) (length p.free)) (too_many 4 (desired_free p) (length p.free)))
data_in p (Stack sid v) w e = subst (λ (s : PageState). IsWidestRun (IsSwappedBeside p (Stack sid v)) (MayRead p 4) v (run_in_by p (Stack sid v) s (spare_frames p))) (sym e)
    (widest (comes_from_swap p (Stack sid v)) (IsSwappedBeside p (Stack sid v)) (MayRead p 4) v (min 4 (spare_frames p)) (some_spare 4 (length p.free - desired_free p) (omega arith))
    (swapped_joins p (Stack sid v)) (swapped_passes p (Stack sid v)) (spared 4 (desired_free p) (length p.free)) (too_many 4 (desired_free p) (length p.free)))

pub text_in : (p : Placement) (image v : ℕ) → state_of p (Text image v) ≡ OnSwap
    → IsLongestRun (IsSwappedBeside p (Text image v)) (MayRead p 2) v (run_in p (Text image v))
text_in p image v e = subst (λ (s : PageState). IsLongestRun (IsSwappedBeside p (Text image v)) (MayRead p 2) v (run_in_by p (Text image v) s (spare_frames p))) (sym e)
    (longest (comes_from_swap p (Text image v)) (IsSwappedBeside p (Text image v)) (MayRead p 2) v (min 2 (spare_frames p)) (some_spare 2 (length p.free - desired_free p) (omega arith))
    (swapped_joins p (Text image v)) (swapped_passes p (Text image v)) (spared 2 (desired_free p) (length p.free)) (too_many 2 (desired_free p) (length p.free)))

pub file_in : (p : Placement) (image v : ℕ) → state_of p (Text image v) ≡ Unfilled
    → IsLongestRun (IsUnfilledBeside p (Text image v)) (MayRead p 2) v (run_in p (Text image v))
file_in p image v e = subst (λ (s : PageState). IsLongestRun (IsUnfilledBeside p (Text image v)) (MayRead p 2) v (run_in_by p (Text image v) s (spare_frames p))) (sym e)
    (longest (comes_from_file p (Text image v)) (IsUnfilledBeside p (Text image v)) (MayRead p 2) v (min 2 (spare_frames p)) (some_spare 2 (length p.free - desired_free p) (omega arith))
    (filed_joins p (Text image v)) (filed_passes p (Text image v)) (spared 2 (desired_free p) (length p.free)) (too_many 2 (desired_free p) (length p.free)))

pub alone_in : (p : Placement) (q : Page) → IsWritable q → state_of p q ≡ Unfilled → run_in p q ≡ run_alone q
alone_in p (Text image v) w e = absurd w
alone_in p x w e = ap (λ (s : PageState). run_in_by p x s (spare_frames p)) e

pub widest_out : (p : Placement) (locked : List Page) (q : Page) → IsWidestRun (IsIdleBeside p locked q) (λ n. n ≤ 16) (number_of q) (run_out p locked q)
widest_out p locked q = widest (λ w. goes_along p locked (beside q w) && is_near q w) (IsIdleBeside p locked q) (λ n. n ≤ 16) (number_of q) 16 (omega arith)
    (idle_joins p locked q) (idle_passes p locked q) (λ n l m. m) (λ l. omega arith)

pub longest_put : (p : Placement) (q : Page) → is_dirty p q ≡ true → IsLongestRun (IsSeatedBeside p q) (λ n. n ≤ 16) (number_of q) (run_put p q)
longest_put p q d = subst (λ (b : Bool). IsLongestRun (IsSeatedBeside p q) (λ n. n ≤ 16) (number_of q) (run_put_by p q b)) (sym d)
    (longest (λ w. is_seated p (beside q w) && (is_dirty p (beside q w) && is_near q w)) (IsSeatedBeside p q) (λ n. n ≤ 16) (number_of q) 16 (omega arith)
    (seated_joins p q) (seated_passes p q) (λ n l m. m) (λ l. omega arith))

pub alone_put : (p : Placement) (q : Page) → is_dirty p q ≡ false → run_put p q ≡ run_alone q
alone_put p q d = ap (run_put_by p q) d
