-- The run of a read by the policy may be read.
use Rattle.std.proofs.Common.{◌≡◌, ℕ, ◌+◌, ◌-◌, ◌<◌, ◌≤◌, ◌==◌, min, max, nat_lt, nat_le, ◌&&◌, not, Bool, true, false, List, [], ◌∷◌, length, Option, None, refl, sym, ap, ◌∙◌, subst, arith}
use Rattle.std.proofs.lemmas.Bool.Decides.{nat_tests}
use Rattle.std.proofs.lemmas.Bool.{and_parts}
use Rattle.vm_facts.proofs.Tests.{eq_self}
use Rattle.vm_facts.specs.declared.page.Page.{Page}
use Rattle.vm_facts.specs.declared.page.Page.TheVariants.{Data, Stack, Text}
use Rattle.vm_facts.specs.declared.page.PageState.{PageState}
use Rattle.vm_facts.specs.declared.page.PageState.TheVariants.{Unfilled, OnSwap}
use Rattle.flat_state.specs.PageNames.{number_of, beside, pages_from}
use Rattle.flat_state.proofs.PageNames.{same_page_self}
use Rattle.page_model.specs.Pages.{is_on_swap, is_unfilled}
use Rattle.page_model.specs.Placement.{Placement, slots_of, state_of, filling_of, IsThere, sharers}
use Rattle.page_model.specs.Runs.{Run, pages_of_run, passing_above, chunk_of, is_near, run_both, run_up, run_alone, run_in, run_in_by, comes_from_swap, comes_from_file, spare_frames, desired_free, most_written}
use Rattle.page_model.specs.Conditions.{EachPage, IsShared}
use Rattle.page_model.specs.Serve.{is_full}
use Rattle.page_laws.proofs.Lists.Pages.{beside_self}
use Rattle.page_laws.proofs.Lists.Runs.{number_beside, below_le, run_both_in, run_up_in, run_alone_in, run_each}
use Rattle.page_laws.proofs.Runs.Widest.{above_le, below_room}
use Rattle.page_laws.proofs.Ownership.Serve.{on_swap_is, state_there}
use Rattle.page_laws.proofs.Moves.Cases.{IsRead, IsSwapped, IsInFile}
use Rattle.paged_model.specs.declared.reason.Reason.{Reason}
use Rattle.paged_model.specs.declared.reason.Reason.TheVariants as reasons
use Rattle.paged_model.specs.Reasons.{unless, or_reason}
use Rattle.paged_model.specs.Moves.{is_there, if_there, has_zeros, few_frames, no_room, unshared, wrong_length, each_page, apart, comes_along, reads_with, read_reason, not_among, run_reason, get_by, get_reason}
use Rattle.paged_model.proofs.Reasoned.{none_or, none_unless}
use Rattle.paged_model.proofs.There.{there_true}
use Rattle.paged_laws.proofs.Virtual.{both}

-- Words.

pub there_none : (p : Placement) (q : Page) (r : Option Reason) → IsThere p q → r ≡ None → if_there (is_there p q) q r ≡ None
there_none p q r h e = ap (λ (b : Bool). if_there b q r) (there_true p q h) ∙ e

pub shared_none : (p : Placement) (q : Page) → IsShared p q → unshared p q ≡ None
shared_none p (Data sid v) h = refl
shared_none p (Stack sid v) h = refl
shared_none p (Text image v) h =
    none_unless (nat_lt 0 (sharers p image)) (reasons.Unshared (Text image v)) (let l : 0 < sharers p image = h in grind (arith, nat_tests))

pub room_none : (p : Placement) → is_full p ≡ false → no_room p ≡ None
room_none p e = none_unless (not (is_full p)) reasons.FullFlight (ap not e)

pub frames_none : (fs : List ℕ) (n : ℕ) → 0 < length fs → n ≤ length fs → few_frames fs n ≡ None
frames_none [] n l m = absurd (omega (arith, l))
frames_none (f ∷ fs) n l m = none_unless (nat_le n (length (f ∷ fs))) (reasons.FewFrames (length (f ∷ fs))) (grind (arith, nat_tests))

pub each_none : (reason : Page → Option Reason) (ws : List Page) → EachPage (λ w. reason w ≡ None) ws → each_page reason ws ≡ None
each_none reason [] h = refl
each_none reason (w ∷ ws) h = none_or (reason w) (each_page reason ws) h.0 (each_none reason ws h.1)

-- near itself
pub near_self : (q : Page) → is_near q (number_of q) ≡ true
near_self q = ap (λ (w : Page). chunk_of q == chunk_of w) (beside_self q) ∙ eq_self (chunk_of q)

pub apart_none : (q : Page) (w : ℕ) → is_near q w ≡ true → apart q (beside q w) ≡ None
apart_none q w e = none_unless (is_near q (number_of (beside q w))) (reasons.InOtherChunk (beside q w)) (ap (is_near q) (number_beside q w) ∙ e)

-- a page that isn't unfilled is there
pub state_is_there : (p : Placement) (q : Page) → state_of p q ≡ OnSwap → IsThere p q
state_is_there p q e = state_there p q (λ x. let y : OnSwap ≡ Unfilled = sym e ∙ x in absurd cc)

-- How far a run reaches.

record IsSmall (v spare : ℕ) (r : Run) : Type 0 where
  low : r.lo ≤ v
  high : v < r.lo + r.n
  some : 0 < r.n
  most : r.n ≤ 16
  spared : r.n ≤ spare

both_small : (passes : ℕ → Bool) (v most spare : ℕ) → 0 < most → most ≤ spare → most ≤ 16 → IsSmall v spare (run_both passes v most)
both_small passes v most spare a b c =
    let x = above_le passes v (most - 1) in
    let y = below_room passes v (most - 1 - passing_above passes v (most - 1)) in
    let z = below_le passes v (most - 1 - passing_above passes v (most - 1)) in
    record { low = omega arith; high = omega arith; some = omega arith; most = omega arith; spared = omega arith }

up_small : (passes : ℕ → Bool) (v most spare : ℕ) → 0 < most → most ≤ spare → most ≤ 16 → IsSmall v spare (run_up passes v most)
up_small passes v most spare a b c =
    let x = above_le passes v (most - 1) in
    record { low = omega arith; high = omega arith; some = omega arith; most = omega arith; spared = omega arith }

alone_small : (q : Page) (spare : ℕ) → 0 < spare → IsSmall (number_of q) spare (run_alone q)
alone_small q spare l = record { low = omega arith; high = omega arith; some = omega arith; most = omega arith; spared = omega arith }

-- The pages of a run.

swap_here : (p : Placement) (q : Page) → state_of p q ≡ OnSwap → read_reason p q OnSwap q ≡ None
swap_here p q e =
    there_none p q (reads_with p q OnSwap q) (state_is_there p q e)
    (none_or (unless (is_on_swap (state_of p q)) (reasons.ReadElsewhere q)) (apart q q)
    (none_unless (is_on_swap (state_of p q)) (reasons.ReadElsewhere q) (ap is_on_swap e))
    (none_unless (is_near q (number_of q)) (reasons.InOtherChunk q) (near_self q)))

swap_other : (p : Placement) (q : Page) (w : ℕ) → comes_from_swap p q w ≡ true → read_reason p q OnSwap (beside q w) ≡ None
swap_other p q w e =
    let parts = and_parts (is_on_swap (state_of p (beside q w))) (is_near q w) e in
    there_none p (beside q w) (reads_with p q OnSwap (beside q w)) (state_is_there p (beside q w) (on_swap_is (state_of p (beside q w)) parts.0))
    (none_or (unless (is_on_swap (state_of p (beside q w))) (reasons.ReadElsewhere (beside q w))) (apart q (beside q w))
    (none_unless (is_on_swap (state_of p (beside q w))) (reasons.ReadElsewhere (beside q w)) parts.0) (apart_none q w parts.1))

along_self : (p : Placement) (q : Page) → state_of p q ≡ Unfilled → comes_along p q q ≡ true
along_self p (Data sid v) e = same_page_self (Data sid v)
along_self p (Stack sid v) e = same_page_self (Stack sid v)
along_self p (Text image v) e = ap is_unfilled e

file_here : (p : Placement) (q : Page) → IsThere p q → state_of p q ≡ Unfilled → read_reason p q Unfilled q ≡ None
file_here p q h e =
    there_none p q (reads_with p q Unfilled q) h (none_unless (comes_along p q q) (reasons.ReadElsewhere q) (along_self p q e))

file_other : (p : Placement) (image v w : ℕ) → comes_from_file p (Text image v) w ≡ true → read_reason p (Text image v) Unfilled (Text image w) ≡ None
file_other p image v w e =
    let parts = and_parts (nat_lt w (length (slots_of p (Text image v)))) (is_unfilled (state_of p (Text image w))) e in
    there_none p (Text image w) (reads_with p (Text image v) Unfilled (Text image w))
    (let t : nat_lt w (length (slots_of p (Text image v))) ≡ true = parts.0 in let l : w < length (slots_of p (Text image v)) = grind (arith, nat_tests) in l)
    (none_unless (is_unfilled (state_of p (Text image w))) (reasons.ReadElsewhere (Text image w)) parts.1)

-- a run, none of whose pages gives a reason
record RunReads (p : Placement) (q : Page) (s : PageState) (spare : ℕ) (r : Run) : Type 0 where
  small : IsSmall (number_of q) spare r
  each : EachPage (λ w. read_reason p q s w ≡ None) (pages_of_run q r)

swapped : (p : Placement) (q : Page) (spare : ℕ) → 0 < spare → state_of p q ≡ OnSwap → RunReads p q OnSwap spare (run_in_by p q OnSwap spare)
swapped p (Text image v) spare l e = record {
  small = up_small (comes_from_swap p (Text image v)) v (min 2 spare) spare (omega arith) (omega arith) (omega arith);
  each = run_each (λ w. read_reason p (Text image v) OnSwap w ≡ None) (comes_from_swap p (Text image v)) (Text image v)
      (run_up (comes_from_swap p (Text image v)) v (min 2 spare)) (run_up_in (comes_from_swap p (Text image v)) v (min 2 spare))
      (swap_here p (Text image v) e) (swap_other p (Text image v));
}
swapped p (Data sid v) spare l e = record {
  small = both_small (comes_from_swap p (Data sid v)) v (min 4 spare) spare (omega arith) (omega arith) (omega arith);
  each = run_each (λ w. read_reason p (Data sid v) OnSwap w ≡ None) (comes_from_swap p (Data sid v)) (Data sid v)
      (run_both (comes_from_swap p (Data sid v)) v (min 4 spare)) (run_both_in (comes_from_swap p (Data sid v)) v (min 4 spare))
      (swap_here p (Data sid v) e) (swap_other p (Data sid v));
}
swapped p (Stack sid v) spare l e = record {
  small = both_small (comes_from_swap p (Stack sid v)) v (min 4 spare) spare (omega arith) (omega arith) (omega arith);
  each = run_each (λ w. read_reason p (Stack sid v) OnSwap w ≡ None) (comes_from_swap p (Stack sid v)) (Stack sid v)
      (run_both (comes_from_swap p (Stack sid v)) v (min 4 spare)) (run_both_in (comes_from_swap p (Stack sid v)) v (min 4 spare))
      (swap_here p (Stack sid v) e) (swap_other p (Stack sid v));
}

alone : (p : Placement) (q : Page) (spare : ℕ) → 0 < spare → IsThere p q → state_of p q ≡ Unfilled → RunReads p q Unfilled spare (run_alone q)
alone p q spare l h e = record {
  small = alone_small q spare l;
  each = run_each (λ w. read_reason p q Unfilled w ≡ None) (λ w. false) q (run_alone q) (run_alone_in (λ w. false) q) (file_here p q h e) (λ w x. absurd cc);
}

filed : (p : Placement) (q : Page) (spare : ℕ) → 0 < spare → IsThere p q → state_of p q ≡ Unfilled → RunReads p q Unfilled spare (run_in_by p q Unfilled spare)
filed p (Text image v) spare l h e = record {
  small = up_small (comes_from_file p (Text image v)) v (min 2 spare) spare (omega arith) (omega arith) (omega arith);
  each = run_each (λ w. read_reason p (Text image v) Unfilled w ≡ None) (comes_from_file p (Text image v)) (Text image v)
      (run_up (comes_from_file p (Text image v)) v (min 2 spare)) (run_up_in (comes_from_file p (Text image v)) v (min 2 spare))
      (file_here p (Text image v) h e) (file_other p image v);
}
filed p (Data sid v) spare l h e = alone p (Data sid v) spare l h e
filed p (Stack sid v) spare l h e = alone p (Stack sid v) spare l h e

among_none : (q : Page) (spare : ℕ) (r : Run) → IsSmall (number_of q) spare r → not_among q r.lo r.n ≡ None
among_none q spare r s =
    let low = s.low in
    let high = s.high in
    let some = s.some in
    let most = s.most in
    none_or (wrong_length r.n) (unless (nat_le r.lo (number_of q) && nat_lt (number_of q) (r.lo + r.n)) (reasons.NotAmong q))
    (none_unless (nat_lt 0 r.n && nat_le r.n most_written) reasons.WrongLength
    (both (nat_lt 0 r.n) (nat_le r.n most_written) (grind (arith, nat_tests)) (let x : nat_le r.n 16 ≡ true = grind (arith, nat_tests) in x)))
    (none_unless (nat_le r.lo (number_of q) && nat_lt (number_of q) (r.lo + r.n)) (reasons.NotAmong q)
    (both (nat_le r.lo (number_of q)) (nat_lt (number_of q) (r.lo + r.n)) (grind (arith, nat_tests)) (grind (arith, nat_tests))))

run_none : (p : Placement) (q : Page) (s : PageState) (r : Run) → RunReads p q s (spare_frames p) r → 0 < length p.free → is_full p ≡ false
    → or_reason (not_among q r.lo r.n) (run_reason p q s r.lo r.n) ≡ None
run_none p q s r x some full =
    let small : IsSmall (number_of q) (spare_frames p) r = x.small in
    let spared : r.n ≤ max 1 (length p.free - desired_free p) = small.spared in
    none_or (not_among q r.lo r.n) (run_reason p q s r.lo r.n) (among_none q (spare_frames p) r small)
    (none_or (each_page (read_reason p q s) (pages_from q r.lo r.n)) (or_reason (few_frames p.free r.n) (no_room p))
    (each_none (read_reason p q s) (pages_from q r.lo r.n) x.each)
    (none_or (few_frames p.free r.n) (no_room p) (frames_none p.free r.n some (omega (arith, spared, some))) (room_none p full)))

-- no reason is given against the read of a page with its run
pub read_none : (p : Placement) (q : Page) → IsThere p q → IsShared p q → IsRead p q → 0 < length p.free → is_full p ≡ false
    → get_reason p q (run_in p q).lo (run_in p q).n ≡ None
read_none p q there shared read some full =
    there_none p q (or_reason (unshared p q) (get_by p q (state_of p q) (run_in p q).lo (run_in p q).n)) there
    (none_or (unshared p q) (get_by p q (state_of p q) (run_in p q).lo (run_in p q).n) (shared_none p q shared) (by read))
  where
    spare : 0 < spare_frames p
    spare = omega arith

    by : IsRead p q → get_by p q (state_of p q) (run_in p q).lo (run_in p q).n ≡ None
    by (IsSwapped e) =
        subst (λ (s : PageState). get_by p q s (run_in_by p q s (spare_frames p)).lo (run_in_by p q s (spare_frames p)).n ≡ None) (sym e)
        (run_none p q OnSwap (run_in_by p q OnSwap (spare_frames p)) (swapped p q (spare_frames p) spare e) some full)
    by (IsInFile e x) =
        subst (λ (s : PageState). get_by p q s (run_in_by p q s (spare_frames p)).lo (run_in_by p q s (spare_frames p)).n ≡ None) (sym e)
        (none_or (unless (not (has_zeros (filling_of p q))) (reasons.OfZeros q))
        (or_reason (not_among q (run_in_by p q Unfilled (spare_frames p)).lo (run_in_by p q Unfilled (spare_frames p)).n)
        (run_reason p q Unfilled (run_in_by p q Unfilled (spare_frames p)).lo (run_in_by p q Unfilled (spare_frames p)).n))
        (none_unless (not (has_zeros (filling_of p q))) (reasons.OfZeros q) (ap (λ y. not (has_zeros y)) x))
        (run_none p q Unfilled (run_in_by p q Unfilled (spare_frames p)) (filed p q (spare_frames p) spare there e) some full))
