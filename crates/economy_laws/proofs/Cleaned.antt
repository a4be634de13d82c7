-- A dirty page stays dirty in its frame till it was written or given up.
use Rattle.std.proofs.Common.{◌≡◌, ◌⊎◌, inl, inr, ℕ, ◌<◌, Bool, true, false, List, [], ◌∷◌, Option, Some, None, refl, sym, ap, ◌∙◌, subst, arith}
use Rattle.vm_facts.specs.declared.page.Page.{Page}
use Rattle.vm_facts.specs.declared.page.Page.TheVariants.{Text}
use Rattle.vm_facts.specs.declared.page.PageState.{PageState}
use Rattle.vm_facts.specs.declared.page.PageState.TheVariants.{Unfilled, Valid, Invalid, Coming, Going, OnSwap}
use Rattle.vm_facts.specs.declared.entry.Entry.{Entry}
use Rattle.vm_facts.specs.declared.entry.Entry.TheVariants as entries
use Rattle.flat_state.specs.Flat.{Inputs}
use Rattle.page_model.specs.Pages.{frame_of, is_dirty_by}
use Rattle.vm_facts.specs.Lists.{times}
use Rattle.page_model.specs.Placement.{Placement, state_of, mark_of}
use Rattle.page_model.specs.Moves.{touch_all}
use Rattle.page_model.specs.Place.{changing_in, place_change, facts_of}
use Rattle.page_model.specs.Ownership.{OwnsFrames, IsListed, is_marked_dirty, may_be_dirty}
use Rattle.page_laws.specs.Leaving.{IsDirtyIn, IsUnwritten}
use Rattle.std.proofs.lemmas.Option.{same_Some}
use Rattle.page_laws.proofs.Leaving.Dirty.{touch_all_dirty, change_dirty}
use Rattle.page_laws.proofs.Leaving.Held.{held_frame}
use Rattle.kernel_model.specs.Start.{ImagesFit}
use Rattle.flat_model.specs.Run.{process_of_entry, step_at}
use Rattle.run_model.specs.State.{State}
use Rattle.run_model.specs.After.{place_at, after}
use Rattle.run_model.specs.Snapshot.{pages_written}
use Rattle.run_model.specs.Next.{next_unit}
use Rattle.run_model.specs.Lawful.{Follows}
use Rattle.run_laws.specs.Running.{IsRun}
use Rattle.run_laws.proofs.Units.{owns}
use Rattle.run_laws.proofs.Wholes.{unit_run}
use Rattle.economy_laws.specs.Cleaned.{IsCleaned, WasWritten, WasGivenUp, CleanedIn}
use Rattle.economy_laws.proofs.Lost.{touched_new, unit_written}

-- Of data and stack, a dirty page is one that must be written.

marked_is : (q : Page) (m : Bool) → is_marked_dirty q m ≡ true → is_dirty_by q m ≡ true
marked_is (Text image v) m h = absurd cc
marked_is _ m h = h

is_marked : (q : Page) (m n : Bool) → is_marked_dirty q m ≡ true → is_dirty_by q n ≡ true → is_marked_dirty q n ≡ true
is_marked (Text image v) m n h k = absurd cc
is_marked _ m n h k = k

zero_or : (n : ℕ) → (n ≡ 0) ⊎ (0 < n)
zero_or n = grind arith

must_write : (p : Placement) (q : Page) (f : ℕ) → OwnsFrames p → IsDirtyIn p q f → IsUnwritten p q f
must_write p q f o d = record { dirty = marked_is q (mark_of p q) d.dirty; held = go (state_of p q) refl (o.dirty q d.dirty) }
  where
    frame : (g : ℕ) (s : PageState) → state_of p q ≡ s → frame_of s ≡ Some g → g ≡ f
    frame g s e h = same_Some g f (sym (ap frame_of e ∙ h) ∙ d.frame)

    idle : (g : ℕ) → state_of p q ≡ Invalid g → (state_of p q ≡ Valid f) ⊎ (((state_of p q ≡ Invalid f) × (times f p.free ≡ 0)) ⊎ (state_of p q ≡ Going f))
    idle g e = elim (zero_or (times f p.free)) [
      | inl z ↦ inr (inl (e ∙ ap Invalid (frame g (Invalid g) e refl), z))
      | inr l ↦ absurd (let k : IsListed p f q = o.listed f q l (o.names q f d.frame) in let z : true ≡ false = sym d.dirty ∙ k.clean in cc)
    ]

    go : (s : PageState) → state_of p q ≡ s → may_be_dirty (state_of p q) ≡ true → (state_of p q ≡ Valid f) ⊎ (((state_of p q ≡ Invalid f) × (times f p.free ≡ 0)) ⊎ (state_of p q ≡ Going f))
    go (Valid g) e h = inl (e ∙ ap Valid (frame g (Valid g) e refl))
    go (Invalid g) e h = idle g e
    go (Going g) e h = inr (inr (e ∙ ap Going (frame g (Going g) e refl)))
    go Unfilled e h = absurd (let z : true ≡ false = sym h ∙ ap may_be_dirty e in cc)
    go (Coming g) e h = absurd (let z : true ≡ false = sym h ∙ ap may_be_dirty e in cc)
    go OnSwap e h = absurd (let z : true ≡ false = sym h ∙ ap may_be_dirty e in cc)

-- Units.

plain_dirty : (A : Inputs) (s : State) (u : Entry) (q : Page) (f : ℕ) → IsRun A s → next_unit A s ≡ Some u → process_of_entry u ≡ None
    → IsDirtyIn s.place q f → IsDirtyIn (after A s u).place q f ⊎ IsCleaned A s u q f
plain_dirty A s u q f r h n d = elim (unit_written A s u q f r h n (must_write s.place q f (owns A s r.placed) d)) [
  | inl k ↦ inl (record { frame = held_frame (after A s u).place q f k; dirty = is_marked q (mark_of s.place q) (mark_of (after A s u).place q) d.dirty k.dirty })
  | inr k ↦ inr (WasWritten k.0 k.1)
]

stepped_dirty : (A : Inputs) (s : State) (u : Entry) (q : Page) (f pid at : ℕ) (qs : List Page) → IsRun A s → process_of_entry u ≡ Some pid
    → IsDirtyIn s.place q f
    → IsDirtyIn (place_change (changing_in (facts_of A.images) s.point.flat pid at) (touch_all s.place qs) (step_at A s.point pid).change) q f
    ⊎ IsCleaned A s u q f
stepped_dirty A s u q f pid at qs r e d =
    elim (change_dirty (changing_in (facts_of A.images) s.point.flat pid at) (touch_all s.place qs) (step_at A s.point pid).change q f
    (touched_new A s qs r) (touch_all_dirty qs s.place q f d)) [
      | inl k ↦ inl k
      | inr k ↦ inr (WasGivenUp pid e k)
    ]

flat_dirty : (A : Inputs) (s : State) (u : Entry) (q : Page) (f pid : ℕ) → IsRun A s → process_of_entry u ≡ Some pid → IsDirtyIn s.place q f
    → IsDirtyIn (after A s u).place q f ⊎ IsCleaned A s u q f
unfolding after
flat_dirty A s (entries.Ran p n) q f pid r e d = stepped_dirty A s (entries.Ran p n) q f p (place_at s (entries.Ran p n)) (pages_written s.point.flat p (step_at A s.point p)) r refl d
flat_dirty A s (entries.Grew p n) q f pid r e d = stepped_dirty A s (entries.Grew p n) q f p (place_at s (entries.Grew p n)) (pages_written s.point.flat p (step_at A s.point p)) r refl d
flat_dirty A s (entries.Call p n b r0 r1) q f pid r e d =
    stepped_dirty A s (entries.Call p n b r0 r1) q f p (place_at s (entries.Call p n b r0 r1)) (pages_written s.point.flat p (step_at A s.point p)) r refl d
flat_dirty A s (entries.Sleeps p) q f pid r e d = stepped_dirty A s (entries.Sleeps p) q f p (place_at s (entries.Sleeps p)) (pages_written s.point.flat p (step_at A s.point p)) r refl d
flat_dirty A s (entries.Ended p n) q f pid r e d = stepped_dirty A s (entries.Ended p n) q f p (place_at s (entries.Ended p n)) (pages_written s.point.flat p (step_at A s.point p)) r refl d
flat_dirty A s (entries.Out p bytes) q f pid r e d = inl d
flat_dirty A s (entries.Refused p) q f pid r e d = inl d
flat_dirty A s _ q f pid r e d = absurd cc

pub unit_dirty : (A : Inputs) (s : State) (u : Entry) (q : Page) (f : ℕ) → IsRun A s → next_unit A s ≡ Some u → IsDirtyIn s.place q f
    → IsDirtyIn (after A s u).place q f ⊎ IsCleaned A s u q f
unit_dirty A s u q f r h d = go (process_of_entry u) refl
  where
    go : (o : Option ℕ) → process_of_entry u ≡ o → IsDirtyIn (after A s u).place q f ⊎ IsCleaned A s u q f
    go None n = plain_dirty A s u q f r h n d
    go (Some pid) n = flat_dirty A s u q f pid r n d

-- Lists of units.

pub units_dirty : (A : Inputs) (us : List Entry) (s t : State) (q : Page) (f : ℕ) → ImagesFit A.images → IsRun A s → Follows A s us t
    → IsDirtyIn s.place q f → IsDirtyIn t.place q f ⊎ CleanedIn A s us q f
units_dirty A [] s t q f images r h d = inl (subst (λ (x : State). IsDirtyIn x.place q f) h d)
units_dirty A (u ∷ us) s t q f images r h d = elim (unit_dirty A s u q f r h.0 d) [
  | inl k ↦ elim (units_dirty A us (after A s u) t q f images (unit_run A s u images r h.0) h.1 k) [
    | inl i ↦ inl i
    | inr i ↦ inr (inr i)
  ]
  | inr k ↦ inr (inl k)
]
