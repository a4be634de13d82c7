-- A read is small.
use Rattle.std.proofs.Common.{◌≡◌, ◌≢◌, ◌⊎◌, inl, inr, ℕ, ◌+◌, ◌<◌, ◌≤◌, length, Some, None, refl, sym, ap, ◌∙◌, subst, arith}
use Rattle.std.proofs.lemmas.Bool.{cases_eq}
use Rattle.vm_facts.specs.declared.page.Page.{Page}
use Rattle.vm_facts.specs.declared.page.Page.TheVariants.{Data, Stack, Text}
use Rattle.vm_facts.specs.declared.page.PageState.{PageState}
use Rattle.vm_facts.specs.declared.page.PageState.TheVariants.{Unfilled, Valid, Invalid, Coming, Going, OnSwap}
use Rattle.vm_facts.specs.declared.entry.Entry.TheVariants as entries
use Rattle.flat_state.specs.Flat.{Inputs}
use Rattle.flat_state.specs.PageNames.{number_of, beside, pages_from}
use Rattle.page_model.specs.Pages.{frame_of}
use Rattle.page_model.specs.Placement.{Placement, state_of}
use Rattle.page_model.specs.PageBytes.{IsWritable}
use Rattle.page_model.specs.Runs.{Run, run_in, run_in_by, run_alone, spare_frames, chunk_of, desired_free}
use Rattle.page_model.specs.Conditions.{EachPage, CanEnter}
use Rattle.page_model.specs.Ownership.{OwnsFrames}
use Rattle.page_laws.specs.Neighbours.{IsWidestRun, IsLongestRun, MayRead, IsSwappedBeside, IsUnfilledBeside}
use Rattle.page_laws.proofs.Lists.Local.{none_some}
use Rattle.page_laws.proofs.Lists.Pages.{beside_self}
use Rattle.page_laws.proofs.Ownership.Changes.{each_at}
use Rattle.page_laws.proofs.Runs.Neighbours.{data_in, text_in, file_in, alone_in}
use Rattle.run_model.specs.State.{State}
use Rattle.run_model.specs.Next.{next_unit}
use Rattle.run_laws.specs.Running.{IsRun}
use Rattle.run_laws.specs.Standing.{IsAllowed}
use Rattle.run_laws.proofs.Units.{owns}
use Rattle.run_laws.proofs.Wholes.{unit_allowed}
use Rattle.economy_laws.specs.Called.{most_read, IsSmallRead}
use Rattle.economy_laws.proofs.Called.{get_run}

-- What is so of the run of a page with no frame.
record IsSmallRun (p : Placement) (q : Page) (r : Run) : Type 0 where
  has : (r.lo ≤ number_of q) × (number_of q < r.lo + r.n)
  few : r.n ≤ most_read q
  near : (w : ℕ) → state_of p q ≡ OnSwap → r.lo ≤ w → w < r.lo + r.n → chunk_of (beside q w) ≡ chunk_of q
  alone : IsWritable q → state_of p q ≡ Unfilled → r.n ≡ 1
  spares : (r.n ≡ 1) ⊎ (r.n + desired_free p ≤ length p.free)

-- the page itself is in its chunk, and so is each other
near_by : (p : Placement) (q : Page) (r : Run) → ((w : ℕ) → r.lo ≤ w → w < r.lo + r.n → w ≢ number_of q → IsSwappedBeside p q w) → (w : ℕ) → r.lo ≤ w
    → w < r.lo + r.n → chunk_of (beside q w) ≡ chunk_of q
near_by p q r h w l m = elim (cases_eq w (number_of q)) [
  | inl e ↦ ap (λ (x : ℕ). chunk_of (beside q x)) e ∙ ap chunk_of (beside_self q)
  | inr n ↦ (let k : IsSwappedBeside p q w = h w l m n in k.near)
]

unfilled_swapped : {C : Type 0} (p : Placement) (q : Page) → state_of p q ≡ OnSwap → state_of p q ≡ Unfilled → C
unfilled_swapped p q e h = absurd (let k : OnSwap ≡ Unfilled = sym e ∙ h in cc)

widest_small : (p : Placement) (q : Page) → most_read q ≡ 4 → state_of p q ≡ OnSwap
    → IsWidestRun (IsSwappedBeside p q) (MayRead p 4) (number_of q) (run_in p q) → IsSmallRun p q (run_in p q)
widest_small p q most e w = record {
  has = w.has;
  few = let k = w.may_be in subst (λ (x : ℕ). (run_in p q).n ≤ x) (sym most) k.0;
  near = λ x s. near_by p q (run_in p q) w.joins x;
  alone = λ i h. unfilled_swapped p q e h;
  spares = let k = w.may_be in k.1;
}

alone_small : (p : Placement) (q : Page) → 1 ≤ most_read q → state_of p q ≡ Unfilled → run_in p q ≡ run_alone q → IsSmallRun p q (run_in p q)
alone_small p q most e i = subst (IsSmallRun p q) (sym i) (record {
  has = (omega arith, omega arith);
  few = most;
  near = λ w s l m. unfilled_swapped p q s e;
  alone = λ j h. refl;
  spares = inl refl;
})

text_swapped : (p : Placement) (image v : ℕ) → state_of p (Text image v) ≡ OnSwap
    → IsLongestRun (IsSwappedBeside p (Text image v)) (MayRead p 2) v (run_in p (Text image v))
    → IsSmallRun p (Text image v) (run_in p (Text image v))
text_swapped p image v e w = let from = w.from in let some = w.some in record {
  has = (omega arith, omega arith);
  few = let k = w.may_be in k.0;
  near = λ x s. near_by p (Text image v) (run_in p (Text image v)) (λ y l m n. w.joins y (omega arith) (omega arith)) x;
  alone = λ i h. absurd i;
  spares = let k = w.may_be in k.1;
}

text_filed : (p : Placement) (image v : ℕ) → state_of p (Text image v) ≡ Unfilled
    → IsLongestRun (IsUnfilledBeside p (Text image v)) (MayRead p 2) v (run_in p (Text image v))
    → IsSmallRun p (Text image v) (run_in p (Text image v))
text_filed p image v e w = let from = w.from in let some = w.some in record {
  has = (omega arith, omega arith);
  few = let k = w.may_be in k.0;
  near = λ x s l m. unfilled_swapped p (Text image v) s e;
  alone = λ i h. absurd i;
  spares = let k = w.may_be in k.1;
}

small : (p : Placement) (q : Page) (s : PageState) → state_of p q ≡ s → frame_of s ≡ None → IsSmallRun p q (run_in p q)
small p (Data sid v) OnSwap e h = widest_small p (Data sid v) refl e (data_in p (Data sid v) tt e)
small p (Stack sid v) OnSwap e h = widest_small p (Stack sid v) refl e (data_in p (Stack sid v) tt e)
small p (Text image v) OnSwap e h = text_swapped p image v e (text_in p image v e)
small p (Data sid v) Unfilled e h = alone_small p (Data sid v) (omega arith) e (alone_in p (Data sid v) tt e)
small p (Stack sid v) Unfilled e h = alone_small p (Stack sid v) (omega arith) e (alone_in p (Stack sid v) tt e)
small p (Text image v) Unfilled e h = text_filed p image v e (file_in p image v e)
small p q (Valid f) e h = absurd cc
small p q (Invalid f) e h = absurd cc
small p q (Coming f) e h = absurd cc
small p q (Going f) e h = absurd cc

-- the demanded page is in its run, whatever its state
run_has : (p : Placement) (q : Page) → EachPage (CanEnter p) (pages_from q (run_in p q).lo (run_in p q).n) → frame_of (state_of p q) ≡ None
run_has p q c = go (state_of p q) refl
  where
    alone : run_in p q ≡ run_alone q → frame_of (state_of p q) ≡ None
    alone i =
        let k : EachPage (CanEnter p) (pages_from q (number_of q) 1) = subst (λ (r : Run). EachPage (CanEnter p) (pages_from q r.lo r.n)) i c in
        let e : CanEnter p (beside q (number_of q)) = k.0 in
        ap (λ (x : Page). frame_of (state_of p x)) (sym (beside_self q)) ∙ e.frameless

    held : (q : Page) (s : PageState) (f : ℕ) → frame_of s ≡ Some f → (spare : ℕ) → run_in_by p q s spare ≡ run_alone q
    held (Data sid v) (Valid f) g e spare = refl
    held (Data sid v) (Invalid f) g e spare = refl
    held (Data sid v) (Coming f) g e spare = refl
    held (Data sid v) (Going f) g e spare = refl
    held (Data sid v) Unfilled g e spare = refl
    held (Data sid v) OnSwap g e spare = none_some g e
    held (Stack sid v) (Valid f) g e spare = refl
    held (Stack sid v) (Invalid f) g e spare = refl
    held (Stack sid v) (Coming f) g e spare = refl
    held (Stack sid v) (Going f) g e spare = refl
    held (Stack sid v) Unfilled g e spare = refl
    held (Stack sid v) OnSwap g e spare = none_some g e
    held (Text image v) (Valid f) g e spare = refl
    held (Text image v) (Invalid f) g e spare = refl
    held (Text image v) (Coming f) g e spare = refl
    held (Text image v) (Going f) g e spare = refl
    held (Text image v) Unfilled g e spare = none_some g e
    held (Text image v) OnSwap g e spare = none_some g e

    by : (s : PageState) (f : ℕ) → state_of p q ≡ s → frame_of s ≡ Some f → frame_of (state_of p q) ≡ None
    by s f e h = alone (ap (λ (x : PageState). run_in_by p q x (spare_frames p)) e ∙ held q s f h (spare_frames p))

    go : (s : PageState) → state_of p q ≡ s → frame_of (state_of p q) ≡ None
    go Unfilled e = ap frame_of e
    go OnSwap e = ap frame_of e
    go (Valid f) e = by (Valid f) f e refl
    go (Invalid f) e = by (Invalid f) f e refl
    go (Coming f) e = by (Coming f) f e refl
    go (Going f) e = by (Going f) f e refl

pub read_small : (A : Inputs) (s : State) (q : Page) (lo n : ℕ) → IsRun A s → next_unit A s ≡ Some (entries.Get q lo n) → IsSmallRead s.place q lo n
read_small A s q lo n r h =
    let o : OwnsFrames s.place = owns A s r.placed in
    record {
      has = at_read (λ (a b : ℕ). (a ≤ number_of q) × (number_of q < a + b)) k.has;
      few = subst (λ (x : ℕ). x ≤ most_read q) (sym is.1) k.few;
      there = λ w l m. let e : CanEnter s.place (beside q w) = each_at (CanEnter s.place) q lo n w can l m in e.there;
      fresh = λ w f l m e. let c : CanEnter s.place (beside q w) = each_at (CanEnter s.place) q lo n w can l m in none_some f (sym c.frameless ∙ o.named f (beside q w) e);
      near = at_read (λ (a b : ℕ). (w : ℕ) → state_of s.place q ≡ OnSwap → a ≤ w → w < a + b → chunk_of (beside q w) ≡ chunk_of q) k.near;
      alone = λ i e. is.1 ∙ k.alone i e;
      spares = subst (λ (x : ℕ). (x ≡ 1) ⊎ (x + desired_free s.place ≤ length s.place.free)) (sym is.1) k.spares;
    }
  where
    is : (lo ≡ (run_in s.place q).lo) × (n ≡ (run_in s.place q).n)
    is = get_run A s q lo n h

    can : EachPage (CanEnter s.place) (pages_from q lo n)
    can = let a : IsAllowed s.place (entries.Get q lo n) = unit_allowed A s (entries.Get q lo n) r h in a.can

    at_read : (P : ℕ → ℕ → Type 0) → P (run_in s.place q).lo (run_in s.place q).n → P lo n
    at_read P x = subst (λ (a : ℕ). P a n) (sym is.0) (subst (λ (b : ℕ). P (run_in s.place q).lo b) (sym is.1) x)

    k : IsSmallRun s.place q (run_in s.place q)
    k = small s.place q (state_of s.place q) refl (run_has s.place q (back can))
      where
        back : EachPage (CanEnter s.place) (pages_from q lo n) → EachPage (CanEnter s.place) (pages_from q (run_in s.place q).lo (run_in s.place q).n)
        back c = subst (λ (a : ℕ). EachPage (CanEnter s.place) (pages_from q a (run_in s.place q).n)) is.0 (subst (λ (b : ℕ). EachPage (CanEnter s.place) (pages_from q lo b)) is.1 c)
