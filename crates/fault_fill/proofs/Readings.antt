-- The run of a read can be brought in.
use Rattle.std.proofs.Common.{◌≡◌, ℕ, ◌-◌, ◌<◌, ◌≤◌, min, max, Bool, true, false, length, Option, Some, None, refl, arith}
use Rattle.std.proofs.lemmas.Bool.{and_parts}
use Rattle.vm_facts.specs.declared.page.Page.{Page}
use Rattle.vm_facts.specs.declared.page.Page.TheVariants.{Data, Stack, Text}
use Rattle.vm_facts.specs.declared.page.PageState.{PageState}
use Rattle.vm_facts.specs.declared.page.PageState.TheVariants.{Unfilled, Valid, Invalid, Coming, Going, OnSwap}
use Rattle.flat_state.specs.PageNames.{number_of, beside}
use Rattle.page_model.specs.Pages.{OfImage, frame_of, is_on_swap, is_unfilled}
use Rattle.page_model.specs.Placement.{Placement, Source, FromSwap, FromFile, Due, due_of_page, slots_of, state_of, filling_of, IsThere}
use Rattle.page_model.specs.Runs.{Run, pages_of_run, passing_above, run_both, run_up, run_alone, run_in, run_in_by, comes_from_swap, comes_from_file, spare_frames, desired_free, is_near}
use Rattle.page_model.specs.Reading.{source_for}
use Rattle.page_model.specs.Conditions.{EachPage, IsShared}
use Rattle.page_model.specs.Dues.{IsDue, DueStand, NotDue}
use Rattle.page_model.specs.PageBytes.{ReadsFrom}
use Rattle.page_laws.proofs.Lists.Runs.{run_both_in, run_up_in, run_alone_in, run_each}
use Rattle.page_laws.proofs.Runs.Widest.{above_le, below_room}
use Rattle.page_laws.proofs.Ownership.Serve.{on_swap_is, unfilled_is, run_in_enters}
use Rattle.page_laws.proofs.Moves.Parts.{run_some}
use Rattle.clock_hands.specs.Conditions.{CanBringIn}

-- text is never due
text_not_due : (p : Placement) (image v : ℕ) → DueStand p → due_of_page p.due (Text image v) ≡ None
text_not_due p image v due = go (due_of_page p.due (Text image v)) refl
  where
    go : (o : Option Due) → due_of_page p.due (Text image v) ≡ o → o ≡ None
    go None e = refl
    go (Some d) e = absurd (let i : IsDue p (Text image v) d = due (Text image v) d e in i.writable)

reads_run : (p : Placement) (q : Page) → DueStand p → ReadsFrom p (source_for (state_of p q)) q q
    → EachPage (ReadsFrom p (source_for (state_of p q)) q) (pages_of_run q (run_in p q))
reads_run p q due h = go q (state_of p q) (spare_frames p) h
  where
    alone : (q : Page) (source : Source) → ReadsFrom p source q q → EachPage (ReadsFrom p source q) (pages_of_run q (run_alone q))
    alone q source h = run_each (ReadsFrom p source q) (λ w. false) q (run_alone q) (run_alone_in (λ w. false) q) h (λ w e. absurd cc)

    swap : (q : Page) (w : ℕ) → comes_from_swap p q w ≡ true → state_of p (beside q w) ≡ OnSwap
    swap q w e = on_swap_is (state_of p (beside q w)) (and_parts (is_on_swap (state_of p (beside q w))) (is_near q w) e).0

    file : (image v w : ℕ) → comes_from_file p (Text image v) w ≡ true → ReadsFrom p FromFile (Text image v) (Text image w)
    file image v w e = (
      unfilled_is (state_of p (Text image w)) (and_parts (Rattle.std.specs.Prelude.nat_lt w (length (slots_of p (Text image v)))) (is_unfilled (state_of p (Text image w))) e).1,
      refl,
      text_not_due p image w due,
      λ x. absurd x,
    )

    go : (q : Page) (s : PageState) (spare : ℕ) → ReadsFrom p (source_for s) q q → EachPage (ReadsFrom p (source_for s) q) (pages_of_run q (run_in_by p q s spare))
    go (Text image v) OnSwap spare h =
        run_each (ReadsFrom p FromSwap (Text image v)) (comes_from_swap p (Text image v)) (Text image v)
        (run_up (comes_from_swap p (Text image v)) v (min 2 spare)) (run_up_in (comes_from_swap p (Text image v)) v (min 2 spare)) h (swap (Text image v))
    go (Text image v) Unfilled spare h =
        run_each (ReadsFrom p FromFile (Text image v)) (comes_from_file p (Text image v)) (Text image v)
        (run_up (comes_from_file p (Text image v)) v (min 2 spare)) (run_up_in (comes_from_file p (Text image v)) v (min 2 spare)) h (file image v)
    go (Data sid v) OnSwap spare h =
        run_each (ReadsFrom p FromSwap (Data sid v)) (comes_from_swap p (Data sid v)) (Data sid v)
        (run_both (comes_from_swap p (Data sid v)) v (min 4 spare)) (run_both_in (comes_from_swap p (Data sid v)) v (min 4 spare)) h (swap (Data sid v))
    go (Stack sid v) OnSwap spare h =
        run_each (ReadsFrom p FromSwap (Stack sid v)) (comes_from_swap p (Stack sid v)) (Stack sid v)
        (run_both (comes_from_swap p (Stack sid v)) v (min 4 spare)) (run_both_in (comes_from_swap p (Stack sid v)) v (min 4 spare)) h (swap (Stack sid v))
    go (Data sid v) Unfilled spare h = alone (Data sid v) FromFile h
    go (Data sid v) (Valid f) spare h = alone (Data sid v) FromFile h
    go (Data sid v) (Invalid f) spare h = alone (Data sid v) FromFile h
    go (Data sid v) (Coming f) spare h = alone (Data sid v) FromFile h
    go (Data sid v) (Going f) spare h = alone (Data sid v) FromFile h
    go (Stack sid v) Unfilled spare h = alone (Stack sid v) FromFile h
    go (Stack sid v) (Valid f) spare h = alone (Stack sid v) FromFile h
    go (Stack sid v) (Invalid f) spare h = alone (Stack sid v) FromFile h
    go (Stack sid v) (Coming f) spare h = alone (Stack sid v) FromFile h
    go (Stack sid v) (Going f) spare h = alone (Stack sid v) FromFile h
    go (Text image v) (Valid f) spare h = alone (Text image v) FromFile h
    go (Text image v) (Invalid f) spare h = alone (Text image v) FromFile h
    go (Text image v) (Coming f) spare h = alone (Text image v) FromFile h
    go (Text image v) (Going f) spare h = alone (Text image v) FromFile h

-- how far down a run reaches, and how many pages it has
record IsSmall (v spare : ℕ) (r : Run) : Type 0 where
  low : r.lo ≤ v
  most : r.n ≤ 16
  spared : r.n ≤ spare

both_small : (passes : ℕ → Bool) (v most spare : ℕ) → 0 < most → most ≤ spare → most ≤ 16 → IsSmall v spare (run_both passes v most)
both_small passes v most spare a b c =
    let x = above_le passes v (most - 1) in
    let y = below_room passes v (most - 1 - passing_above passes v (most - 1)) in
    record { low = omega arith; most = omega arith; spared = omega arith }

up_small : (passes : ℕ → Bool) (v most spare : ℕ) → 0 < most → most ≤ spare → most ≤ 16 → IsSmall v spare (run_up passes v most)
up_small passes v most spare a b c =
    let x = above_le passes v (most - 1) in record { low = omega arith; most = omega arith; spared = omega arith }

alone_small : (q : Page) (spare : ℕ) → 0 < spare → IsSmall (number_of q) spare (run_alone q)
alone_small q spare l = record { low = omega arith; most = omega arith; spared = omega arith }

run_small : (p : Placement) (q : Page) (s : PageState) (spare : ℕ) → 0 < spare → IsSmall (number_of q) spare (run_in_by p q s spare)
run_small p (Text image v) OnSwap spare l = up_small (comes_from_swap p (Text image v)) v (min 2 spare) spare (omega arith) (omega arith) (omega arith)
run_small p (Text image v) Unfilled spare l = up_small (comes_from_file p (Text image v)) v (min 2 spare) spare (omega arith) (omega arith) (omega arith)
run_small p (Data sid v) OnSwap spare l = both_small (comes_from_swap p (Data sid v)) v (min 4 spare) spare (omega arith) (omega arith) (omega arith)
run_small p (Stack sid v) OnSwap spare l = both_small (comes_from_swap p (Stack sid v)) v (min 4 spare) spare (omega arith) (omega arith) (omega arith)
run_small p (Text image v) (Valid f) spare l = alone_small (Text image v) spare l
run_small p (Text image v) (Invalid f) spare l = alone_small (Text image v) spare l
run_small p (Text image v) (Coming f) spare l = alone_small (Text image v) spare l
run_small p (Text image v) (Going f) spare l = alone_small (Text image v) spare l
run_small p (Data sid v) Unfilled spare l = alone_small (Data sid v) spare l
run_small p (Data sid v) (Valid f) spare l = alone_small (Data sid v) spare l
run_small p (Data sid v) (Invalid f) spare l = alone_small (Data sid v) spare l
run_small p (Data sid v) (Coming f) spare l = alone_small (Data sid v) spare l
run_small p (Data sid v) (Going f) spare l = alone_small (Data sid v) spare l
run_small p (Stack sid v) Unfilled spare l = alone_small (Stack sid v) spare l
run_small p (Stack sid v) (Valid f) spare l = alone_small (Stack sid v) spare l
run_small p (Stack sid v) (Invalid f) spare l = alone_small (Stack sid v) spare l
run_small p (Stack sid v) (Coming f) spare l = alone_small (Stack sid v) spare l
run_small p (Stack sid v) (Going f) spare l = alone_small (Stack sid v) spare l

-- a page with no frame is read from swap, or from its file
reads_own : (p : Placement) (q : Page) → NotDue p.due q → frame_of (state_of p q) ≡ None
    → (state_of p q ≡ Unfilled → filling_of p q ≡ OfImage) → ReadsFrom p (source_for (state_of p q)) q q
reads_own p q fresh n filled = go (state_of p q) refl n
  where
    go : (s : PageState) → state_of p q ≡ s → frame_of s ≡ None → ReadsFrom p (source_for s) q q
    go Unfilled e n = (e, filled e, fresh, λ w. refl)
    go OnSwap e n = e
    go (Valid f) e n = absurd cc
    go (Invalid f) e n = absurd cc
    go (Coming f) e n = absurd cc
    go (Going f) e n = absurd cc

pub can_read : (p : Placement) (q : Page) → DueStand p → IsThere p q → IsShared p q → NotDue p.due q → frame_of (state_of p q) ≡ None
    → (state_of p q ≡ Unfilled → filling_of p q ≡ OfImage) → 0 < length p.free → length p.transfers < 16 → number_of q ≤ 4096
    → CanBringIn p q (run_in p q).lo (run_in p q).n
can_read p q due there shared fresh n filled some few low =
    let small : IsSmall (number_of q) (spare_frames p) (run_in p q) = run_small p q (state_of p q) (spare_frames p) (omega arith) in
    let spared : (run_in p q).n ≤ max 1 (length p.free - desired_free p) = small.spared in
    record {
      enter = run_in_enters p q (record { there = there; frameless = n });
      reads = reads_run p q due (reads_own p q fresh n filled);
      shared = shared;
      frames = omega (arith, spared);
      some = run_some p q (state_of p q) (spare_frames p);
      most = small.most;
      room = few;
      fits = (let a = small.low in let b = small.most in omega arith);
    }
