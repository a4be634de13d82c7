-- What a move of the hands frees or writes was invalid, off the free list and not locked.
use Rattle.std.proofs.Common.{◌≡◌, ◌≢◌, ◌⊎◌, inl, inr, ℕ, ◌<◌, ◌&&◌, Bool, true, false, List, [], ◌∷◌, ◌++◌, Option, Some, None, refl, sym, ap, ◌∙◌, subst, arith}
use Rattle.std.proofs.lemmas.Bool.{cases_eq}
use Rattle.vm_facts.specs.declared.page.Page.{Page}
use Rattle.vm_facts.specs.declared.page.PageState.{PageState}
use Rattle.vm_facts.specs.declared.page.PageState.TheVariants.{Unfilled, Valid, Invalid, Coming, Going, OnSwap}
use Rattle.page_model.specs.PageNames.{number_of, beside, is_among}
use Rattle.page_model.specs.Pages.{Slot, frame_of, is_dirty_by}
use Rattle.vm_facts.specs.Lists.{times}
use Rattle.page_model.specs.Placement.{Placement, Writes, slot_of, state_of, mark_of, is_dirty, page_of}
use Rattle.page_model.specs.Moves.{launch_run, retire, retire_to}
use Rattle.page_model.specs.Steps.{begin, launch, launch_to, launch_all}
use Rattle.page_model.specs.Runs.{pages_of_run, run_out, goes_along, is_near, most_written}
use Rattle.page_model.specs.Hands.{expire, expire_of, expire_if, expire_to, sweep, hand_move}
use Rattle.page_model.specs.Ownership.{OwnsFrames}
use Rattle.page_model.specs.Conditions.{EachPage}
use Rattle.page_laws.specs.Neighbours.{IsIdleBeside}
use Rattle.page_laws.specs.Sweeping.{MayBeSwept}
use Rattle.page_laws.proofs.Moves.InSteps.{launch_steps}
use Rattle.page_laws.proofs.Lists.Frames.{times_one_other}
use Rattle.vm_facts.proofs.Lists.{times-append}
use Rattle.page_laws.proofs.Lists.Pages.{page_cases, put_state, put_mark, put_other}
use Rattle.std.proofs.lemmas.Option.{same_Some}
use Rattle.page_laws.proofs.Lists.Runs.{run_each, run_both_in}
use Rattle.page_laws.proofs.Moves.Steps.{page_in}
use Rattle.page_laws.proofs.Moves.Stays.{Steady, expire_free, expire_steady, launch_run_steady}
use Rattle.page_laws.proofs.Ownership.Pages.{expire_owner}
use Rattle.page_laws.proofs.Runs.Neighbours.{idle_joins}
use Rattle.page_laws.proofs.Moves.Taken.{IsTaken, taken_state, sweep_cases}

-- The front hand.

-- the front hand stands at the page's frame, and makes it invalid
record Expires (p : Placement) (locked : List Page) (w : Page) : Type 0 where
  frame : ℕ
  state : state_of p w ≡ Valid frame
  front : p.front ≡ frame
  unlocked : is_among w locked ≡ false
  behind : state_of (expire p locked) w ≡ Invalid frame
  mark : mark_of (expire p locked) w ≡ mark_of p w

expire_slot : (p : Placement) (locked : List Page) (w : Page) → OwnsFrames p → (slot_of (expire p locked) w ≡ slot_of p w) ⊎ Expires p locked w
expire_slot p locked w o = of (page_of p p.front) refl
  where
    of : (h : Option Page) → page_of p p.front ≡ h → (slot_of (expire p locked) w ≡ slot_of p w) ⊎ Expires p locked w
    of None e = inl (ap (λ (x : Option Page). slot_of (expire_of p locked x) w) e)
    of (Some q) e = lock (is_among q locked) refl
      where
        is : expire p locked ≡ expire_if p q (is_among q locked)
        is = ap (expire_of p locked) e

        turns : (f : ℕ) → state_of p q ≡ Valid f → is_among q locked ≡ false → expire p locked ≡ expire_to p q (Valid f)
        turns f h n = is ∙ ap (expire_if p q) n ∙ ap (expire_to p q) h

        own : (f : ℕ) → state_of p q ≡ Valid f → is_among q locked ≡ false → w ≡ q → Expires p locked w
        own f h n s = record {
          frame = f;
          state = ap (state_of p) s ∙ h;
          front = same_Some p.front f (sym (o.named p.front q e) ∙ ap frame_of h);
          unlocked = ap (λ (x : Page). is_among x locked) s ∙ n;
          behind = ap (λ (x : Placement). state_of x w) (turns f h n) ∙ ap (state_of (expire_to p q (Valid f))) s ∙ put_state p q (Invalid f) (mark_of p q) (page_in p q f (ap frame_of h));
          mark = ap (λ (x : Placement). mark_of x w) (turns f h n) ∙ ap (mark_of (expire_to p q (Valid f))) s ∙ put_mark p q (Invalid f) (mark_of p q) (page_in p q f (ap frame_of h))
              ∙ ap (mark_of p) (sym s);
        }

        to : (s : PageState) → state_of p q ≡ s → is_among q locked ≡ false → (slot_of (expire p locked) w ≡ slot_of p w) ⊎ Expires p locked w
        to (Valid f) h n = elim (page_cases w q) [
          | inl s ↦ inr (own f h n s)
          | inr d ↦ inl (ap (λ (x : Placement). slot_of x w) (turns f h n) ∙ put_other p q (Invalid f) (mark_of p q) w d)
        ]
        to Unfilled h n = inl (ap (λ (x : Placement). slot_of x w) (is ∙ ap (expire_if p q) n ∙ ap (expire_to p q) h))
        to (Invalid f) h n = inl (ap (λ (x : Placement). slot_of x w) (is ∙ ap (expire_if p q) n ∙ ap (expire_to p q) h))
        to (Coming f) h n = inl (ap (λ (x : Placement). slot_of x w) (is ∙ ap (expire_if p q) n ∙ ap (expire_to p q) h))
        to (Going f) h n = inl (ap (λ (x : Placement). slot_of x w) (is ∙ ap (expire_if p q) n ∙ ap (expire_to p q) h))
        to OnSwap h n = inl (ap (λ (x : Placement). slot_of x w) (is ∙ ap (expire_if p q) n ∙ ap (expire_to p q) h))

        lock : (b : Bool) → is_among q locked ≡ b → (slot_of (expire p locked) w ≡ slot_of p w) ⊎ Expires p locked w
        lock true n = inl (ap (λ (x : Placement). slot_of x w) (is ∙ ap (expire_if p q) n))
        lock false n = to (state_of p q) refl n

-- The back hand.

-- what the back hand takes: invalid in this frame, off the free list, and not locked
record IsPicked (p : Placement) (locked : List Page) (w : Page) (f : ℕ) (dirty : Bool) : Type 0 where
  state : state_of p w ≡ Invalid f
  off : times f p.free ≡ 0
  unlocked : is_among w locked ≡ false
  mark : is_dirty p w ≡ dirty

-- what was invalid behind the front hand
swept_from : (p : Placement) (locked : List Page) (w : Page) (f : ℕ) (dirty : Bool) → OwnsFrames p → IsPicked (expire p locked) locked w f dirty
    → MayBeSwept p locked w f × (is_dirty p w ≡ dirty)
swept_from p locked w f dirty o t = elim (expire_slot p locked w o) [
  | inl e ↦ (
    record { unlocked = t.unlocked; idle = inl (sym (ap (λ (x : Slot). x.state) e) ∙ t.state, ap (times f) (sym (expire_free p locked)) ∙ t.off) },
    ap (λ (x : Slot). is_dirty_by w x.mark) (sym e) ∙ t.mark,
  )
  | inr e ↦ (
    let same : e.frame ≡ f = same_Some e.frame f (sym (ap frame_of e.behind) ∙ ap frame_of t.state) in
        record { unlocked = e.unlocked; idle = inr (e.state ∙ ap Valid same, e.front ∙ same) },
    ap (is_dirty_by w) (sym e.mark) ∙ t.mark,
  )
]

pub launch_free : (p : Placement) (v : Page) → (launch p v).free ≡ p.free
launch_free p v = go (state_of p v)
  where
    go : (s : PageState) → (launch_to p v s).free ≡ p.free
    go (Valid f) = refl
    go (Invalid f) = refl
    go Unfilled = refl
    go (Coming f) = refl
    go (Going f) = refl
    go OnSwap = refl

pub launch_all_free : (qs : List Page) (p : Placement) → (launch_all p qs).free ≡ p.free
launch_all_free [] p = refl
launch_all_free (q ∷ qs) p = launch_all_free qs (launch p q) ∙ launch_free p q

retired : (p : Placement) (q : Page) (g f : ℕ) → state_of p q ≡ Invalid g → times f p.free ≡ 0 → 0 < times f (retire p q).free → g ≡ f
retired p q g f e z l = elim (cases_eq f g) [
  | inl h ↦ sym h
  | inr n ↦ absurd (
      let a : times f (retire p q).free ≡ times f (p.free ++ g ∷ []) = ap (λ (s : PageState). times f (retire_to p q s).free) e in
      let b = times-append f p.free (g ∷ []) in
      let c = times_one_other g f n in
      omega arith)
]

swept_freed : (p : Placement) (locked : List Page) (f : ℕ) → OwnsFrames p → times f p.free ≡ 0 → 0 < times f (sweep p locked).free
    → (w : Page) × (page_of p f ≡ Some w) × IsPicked p locked w f false
swept_freed p locked f o z l =
    sweep_cases (λ r. 0 < times f r.free → (w : Page) × (page_of p f ≡ Some w) × IsPicked p locked w f false) p locked (λ m. absurd (omega arith))
    (λ q t d m. absurd (let k : 0 < times f p.free = subst (λ (xs : List ℕ). 0 < times f xs)
    (ap (λ (r : Placement). r.free) (sym (launch_steps p (pages_of_run q (run_out p locked q)))) ∙ launch_all_free (pages_of_run q (run_out p locked q)) (begin p Writes)) m in omega arith))
    (λ q t d m.
    let same : t.frame ≡ f = retired p q t.frame f t.state z m in
    (q, o.names q f (ap frame_of t.state ∙ ap (λ (x : ℕ). Some x) same), record { state = t.state ∙ ap Invalid same; off = z; unlocked = t.unlocked; mark = d })) l

-- a page is among these, for each of which something is so, or it is none of them
pub among_or : (P : Page → Type 0) (w : Page) (qs : List Page) → EachPage P qs → P w ⊎ EachPage (λ r. w ≢ r) qs
among_or P w [] h = inr tt
among_or P w (q ∷ qs) h = elim (page_cases w q) [
  | inl e ↦ inl (subst P (sym e) h.0)
  | inr n ↦ elim (among_or P w qs h.1) [
    | inl k ↦ inl k
    | inr k ↦ inr (n, k)
  ]
]

pub launch_other : (p : Placement) (v w : Page) → w ≢ v → slot_of (launch p v) w ≡ slot_of p w
launch_other p v w n = go (state_of p v)
  where
    go : (s : PageState) → slot_of (launch_to p v s) w ≡ slot_of p w
    go (Valid f) = put_other p v (Going f) (mark_of p v) w n
    go (Invalid f) = put_other p v (Going f) (mark_of p v) w n
    go Unfilled = refl
    go (Coming f) = refl
    go (Going f) = refl
    go OnSwap = refl

pub launch_all_other : (qs : List Page) (p : Placement) (w : Page) → EachPage (λ r. w ≢ r) qs → slot_of (launch_all p qs) w ≡ slot_of p w
launch_all_other [] p w n = refl
launch_all_other (v ∷ qs) p w n = launch_all_other qs (launch p v) w n.1 ∙ launch_other p v w n.0

-- a page that goes once these are launched was going, or is one of them
going_from : (P : Page → Type 0) (p : Placement) (qs : List Page) (w : Page) (f : ℕ) → EachPage P qs → state_of (launch_run p qs) w ≡ Going f
    → (state_of p w ≡ Going f) ⊎ (P w × (frame_of (state_of p w) ≡ Some f))
going_from P p qs w f h e = elim (among_or P w qs h) [
  | inl k ↦ inr (k, let s : Steady p (launch_run p qs) = launch_run_steady p qs in sym (s.frames w) ∙ ap frame_of e)
  | inr n ↦ inl (sym (ap (λ (x : Slot). x.state) (launch_all_other qs (begin p Writes) w n)) ∙ ap (λ (r : Placement). state_of r w) (launch_steps p qs) ∙ e)
]

abbrev TakenSome : Placement → List Page → Page → Type 0
TakenSome p locked w = (g : ℕ) × IsPicked p locked w g true

run_taken : (p : Placement) (locked : List Page) (q : Page) → TakenSome p locked q → EachPage (TakenSome p locked) (pages_of_run q (run_out p locked q))
run_taken p locked q h = run_each (TakenSome p locked) (λ w. goes_along p locked (beside q w) && is_near q w) q (run_out p locked q)
    (run_both_in (λ w. goes_along p locked (beside q w) && is_near q w) (number_of q) most_written) h
    (λ w e. let i : IsIdleBeside p locked q w = idle_joins p locked q w e in (i.frame, record { state = i.state; off = i.off; unlocked = i.unlocked; mark = i.dirty }))

taken_at : (p : Placement) (locked : List Page) (w : Page) (f : ℕ) → TakenSome p locked w → frame_of (state_of p w) ≡ Some f → IsPicked p locked w f true
taken_at p locked w f h e =
    let t : IsPicked p locked w h.0 true = h.1 in
    let same : h.0 ≡ f = same_Some h.0 f (sym (ap frame_of t.state) ∙ e) in
    record { state = t.state ∙ ap Invalid same; off = ap (λ (x : ℕ). times x p.free) (sym same) ∙ t.off; unlocked = t.unlocked; mark = t.mark }

retire_going : (p : Placement) (q w : Page) (g f : ℕ) → state_of p q ≡ Invalid g → state_of (retire p q) w ≡ Going f → state_of p w ≡ Going f
retire_going p q w g f e h =
    let at : state_of (retire p q) w ≡ state_of (retire_to p q (Invalid g)) w = ap (λ (s : PageState). state_of (retire_to p q s) w) e in
    elim (page_cases w q) [
      | inl s ↦ absurd
          (let k : Invalid g ≡ Going f = sym (put_state p q (Invalid g) (mark_of p q) (page_in p q g (ap frame_of e))) ∙ ap (state_of (retire_to p q (Invalid g))) (sym s) ∙ sym at ∙ h in cc)
      | inr n ↦ sym (ap (λ (x : Slot). x.state) (put_other p q (Invalid g) (mark_of p q) w n)) ∙ sym at ∙ h
    ]

swept_going : (p : Placement) (locked : List Page) (w : Page) (f : ℕ) → OwnsFrames p → state_of (sweep p locked) w ≡ Going f
    → (state_of p w ≡ Going f) ⊎ IsPicked p locked w f true
swept_going p locked w f o l =
    sweep_cases (λ r. state_of r w ≡ Going f → (state_of p w ≡ Going f) ⊎ IsPicked p locked w f true) p locked (λ m. inl m)
    (λ q t d m. elim (going_from (TakenSome p locked) p (pages_of_run q (run_out p locked q)) w f (run_taken p locked q (picked q t d)) m) [
      | inl h ↦ inl h
      | inr h ↦ inr (taken_at p locked w f h.0 h.1)
    ])
    (λ q t d m. inl (retire_going p q w t.frame f t.state m)) l
  where
    picked : (q : Page) → IsTaken p locked q → is_dirty p q ≡ true → TakenSome p locked q
    picked q t d = (p.back, record { state = taken_state p locked q o t; off = t.off; unlocked = t.unlocked; mark = d })

-- Both hands.

pub move_freed : (p : Placement) (locked : List Page) (f : ℕ) → OwnsFrames p → times f p.free ≡ 0 → 0 < times f (hand_move p locked).free
    → (w : Page) × (page_of p f ≡ Some w) × MayBeSwept p locked w f × (is_dirty p w ≡ false)
move_freed p locked f o z l =
    let t = swept_freed (expire p locked) locked f (expire_owner p locked o) (ap (times f) (expire_free p locked) ∙ z) l in
    let s : Steady p (expire p locked) = expire_steady p locked in
    let k = swept_from p locked t.0 f false o t.2 in
    (t.0, ap (λ (hs : List (Option Page)). Rattle.page_model.specs.Frames.at_frame hs f None) (sym s.holds) ∙ t.1, k.0, k.1)

pub move_written : (p : Placement) (locked : List Page) (w : Page) (f : ℕ) → OwnsFrames p → state_of (hand_move p locked) w ≡ Going f
    → (state_of p w ≡ Going f) ⊎ (MayBeSwept p locked w f × (is_dirty p w ≡ true))
move_written p locked w f o e = elim (swept_going (expire p locked) locked w f (expire_owner p locked o) e) [
  | inl g ↦ elim (expire_slot p locked w o) [
    | inl h ↦ inl (sym (ap (λ (x : Slot). x.state) h) ∙ g)
    | inr h ↦ absurd (let k : Invalid h.frame ≡ Going f = sym h.behind ∙ g in cc)
  ]
  | inr t ↦ inr (swept_from p locked w f true o t)
]
