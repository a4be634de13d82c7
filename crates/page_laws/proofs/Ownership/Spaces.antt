-- Growth, break, fork, a new image and giving up keep the ownership of frames.
use Rattle.std.proofs.Common.{◌≡◌, ◌≢◌, ◌⊎◌, inl, inr, ℕ, zero, suc, ◌+◌, ◌<◌, ◌≤◌, Bool, true, false, List, [], ◌∷◌, ◌++◌, length, get_or, Option, Some, None, refl, sym, ap, ◌∙◌, subst, arith}
use Rattle.std.proofs.lemmas.List.{get_or_past}
use Rattle.vm_facts.specs.declared.page.Page.{Page}
use Rattle.vm_facts.specs.declared.page.Page.TheVariants.{Data, Stack, Text}
use Rattle.vm_facts.specs.declared.page.PageState.{PageState}
use Rattle.vm_facts.specs.declared.page.PageState.TheVariants.{Unfilled, Valid, Invalid, Coming, Going, OnSwap}
use Rattle.page_model.specs.Pages.{Slot, no_slot, frame_of}
use Rattle.page_model.specs.PageNames.{number_of}
use Rattle.vm_facts.specs.Lists.{times}
use Rattle.page_model.specs.Placement.{Placement, Transfer, slots_of, slot_of, state_of, mark_of, page_of, IsFrame, IsThere, parts_of, flying, put}
use Rattle.page_model.specs.Moves.{turn, drop_at, drop_page, drop_all, leave_by, leave_page, leave_all, listed, listed_of}
use Rattle.page_model.specs.Ownership.{OwnsFrames, Each, IsMoving, IsListed, is_marked_dirty, may_be_dirty, seats, seated, seated_of}
use Rattle.page_model.specs.Conditions.{EachPage, AtRest}
use Rattle.page_laws.proofs.Lists.Pages.{page_cases, put_state, put_mark, put_other, put_length}
use Rattle.page_laws.proofs.Lists.Parts.{all_imp}
use Rattle.page_laws.proofs.Lists.Local.{none_some}
use Rattle.page_laws.proofs.Moves.Steps.{Turns, turn_owner, once_at, put_other_state, frameless_rest, drop_owner, marked_false}
use Rattle.page_laws.proofs.Ownership.Pages.{retire_turns, rest_moves}
use Rattle.page_laws.proofs.Lists.Runs.{each_page_imp}

-- Another list of spaces in which each page is as it was, with the same frames.
pub record Reshaped (p q : Placement) : Type 0 where
  pub holds : q.holds ≡ p.holds
  pub free : q.free ≡ p.free
  pub transfers : q.transfers ≡ p.transfers
  pub states : (w : Page) → state_of q w ≡ state_of p w
  pub marks : (w : Page) → is_marked_dirty w (mark_of q w) ≡ is_marked_dirty w (mark_of p w)

pub reshaped_owner : (p q : Placement) → OwnsFrames p → Reshaped p q → OwnsFrames q
reshaped_owner p q o r =
    let frame_was : (f : ℕ) → IsFrame q f → IsFrame p f = λ f b. subst (λ (l : List (Option Page)). (0 < f) × (f ≤ length l)) r.holds b in
    let frame_is : (f : ℕ) → IsFrame p f → IsFrame q f = λ f b. subst (λ (l : List (Option Page)). (0 < f) × (f ≤ length l)) (sym r.holds) b in
    record {
      once = λ f b.
          let s : seated q f ≡ seated p f = seated_same f (page_of p f) refl in
          let a : times f q.free ≡ times f p.free = ap (times f) r.free in
          let c : times f (flying (parts_of q.transfers)) ≡ times f (flying (parts_of p.transfers)) = ap (λ (ts : List Transfer). times f (flying (parts_of ts))) r.transfers in
          let k : times f p.free + times f (flying (parts_of p.transfers)) + seated p f ≡ 1 = o.once f (frame_was f b) in
          omega arith;
      frames = λ f b. frame_is f (o.frames f (subst (λ (l : List ℕ). 0 < times f l) r.free b));
      names = λ w f e. page f ∙ o.names w f (ap frame_of (sym (r.states w)) ∙ e);
      named = λ f w e. ap frame_of (r.states w) ∙ o.named f w (sym (page f) ∙ e);
      listed = λ f w b e.
          let k : IsListed p f w = o.listed f w (subst (λ (l : List ℕ). 0 < times f l) r.free b) (sym (page f) ∙ e) in
          record { state = r.states w ∙ k.state; clean = r.marks w ∙ k.clean };
      moves = subst (λ (ts : List Transfer). Each (IsMoving q) (parts_of ts)) (sym r.transfers)
          (all_imp (IsMoving p) (IsMoving q) (parts_of p.transfers) o.moves (λ m k. r.states m.page ∙ k));
      dirty = λ w e. ap may_be_dirty (r.states w) ∙ o.dirty w (sym (r.marks w) ∙ e);
    }
  where
    page : (f : ℕ) → page_of q f ≡ page_of p f
    page f = ap (λ (l : List (Option Page)). Rattle.page_model.specs.Frames.at_frame l f None) r.holds

    seated_same : (f : ℕ) (h : Option Page) → page_of p f ≡ h → seated q f ≡ seated p f
    seated_same f None e = ap (seated_of q f) (page f ∙ e) ∙ sym (ap (seated_of p f) e)
    seated_same f (Some w) e = ap (seated_of q f) (page f ∙ e) ∙ ap (λ (l : List ℕ). seats (times f l) (state_of q w)) r.free ∙ ap (seats (times f p.free)) (r.states w) ∙ sym (ap (seated_of p f) e)

-- A page with no frame goes to another state with no frame.
pub frameless_owner : (p : Placement) (v : Page) (s : PageState) (m : Bool) → OwnsFrames p → frame_of (state_of p v) ≡ None → frame_of s ≡ None
    → is_marked_dirty v m ≡ false → OwnsFrames (put p v s m)
frameless_owner p v s m o from to clean =
    let le_or : (a b : ℕ) → (a < b) ⊎ (b ≤ a) = λ a b. grind arith in
    let is_there : (IsThere p v) ⊎ (length (slots_of p v) ≤ number_of v) = le_or (number_of v) (length (slots_of p v)) in
    let gone : length (slots_of p v) ≤ number_of v → slot_of (put p v s m) v ≡ no_slot = λ l.
    get_or_past (slots_of (put p v s m) v) (number_of v) no_slot (let h = put_length p v s m v in omega arith) in
    let at_page : (w : Page) → w ≡ v → frame_of (state_of (put p v s m) w) ≡ None = λ w h. subst (λ (x : Page). frame_of (state_of (put p v s m) x) ≡ None) (sym h) (elim is_there [
      | inl l ↦ ap frame_of (put_state p v s m l) ∙ to
      | inr l ↦ ap (λ (x : Slot). frame_of x.state) (gone l)
    ]) in
    let mark_clean : (w : Page) → w ≡ v → is_marked_dirty w (mark_of (put p v s m) w) ≡ false = λ w h.
    subst (λ (x : Page). is_marked_dirty x (mark_of (put p v s m) x) ≡ false) (sym h) (elim is_there [
      | inl l ↦ ap (is_marked_dirty v) (put_mark p v s m l) ∙ clean
      | inr l ↦ ap (λ (x : Slot). is_marked_dirty v x.mark) (gone l) ∙ never v
    ]) in
    record {
      once = λ f b.
          let k : seated (put p v s m) f ≡ seated p f = seated_still f (page_of p f) refl in
          let h : times f p.free + times f (flying (parts_of p.transfers)) + seated p f ≡ 1 = o.once f b in
          omega arith;
      frames = o.frames;
      names = λ w f e. elim (page_cases w v) [
        | inl h ↦ none_some f (sym (at_page w h) ∙ e)
        | inr n ↦ o.names w f (ap frame_of (sym (put_other_state p v s m w n)) ∙ e)
      ];
      named = λ f w e. ap frame_of (put_other_state p v s m w (held_apart f w e)) ∙ o.named f w e;
      listed = λ f w b e.
          let k : IsListed p f w = o.listed f w b e in
          let n : w ≢ v = held_apart f w e in
          record { state = put_other_state p v s m w n ∙ k.state; clean = ap (λ (x : Slot). is_marked_dirty w x.mark) (put_other p v s m w n) ∙ k.clean };
      moves = rest_moves p v s m o (frameless_rest (state_of p v) from);
      dirty = λ w e. elim (page_cases w v) [
        | inl h ↦ absurd (let k : is_marked_dirty w (mark_of (put p v s m) w) ≡ false = mark_clean w h in let j : true ≡ false = sym e ∙ k in cc)
        | inr n ↦ ap may_be_dirty (put_other_state p v s m w n) ∙ o.dirty w (ap (λ (x : Slot). is_marked_dirty w x.mark) (sym (put_other p v s m w n)) ∙ e)
      ];
    }
  where
    held_apart : (f : ℕ) (w : Page) → page_of p f ≡ Some w → w ≢ v
    held_apart f w e h = none_some f (sym from ∙ subst (λ (x : Page). frame_of (state_of p x) ≡ Some f) h (o.named f w e))

    seated_still : (f : ℕ) (h : Option Page) → page_of p f ≡ h → seated (put p v s m) f ≡ seated p f
    seated_still f None e = ap (seated_of (put p v s m) f) e ∙ sym (ap (seated_of p f) e)
    seated_still f (Some w) e = ap (seated_of (put p v s m) f) e ∙ ap (seats (times f p.free)) (put_other_state p v s m w (held_apart f w e)) ∙ sym (ap (seated_of p f) e)

    never : (w : Page) → is_marked_dirty w false ≡ false
    never (Data sid n) = refl
    never (Stack sid n) = refl
    never (Text image n) = refl

-- Giving up pages.

-- never filled, and not marked
pub record IsBlank (p : Placement) (w : Page) : Type 0 where
  pub state : state_of p w ≡ Unfilled
  pub mark : mark_of p w ≡ false

absent_blank : (p : Placement) (w : Page) → length (slots_of p w) ≤ number_of w → IsBlank p w
absent_blank p w l = let e = get_or_past (slots_of p w) (number_of w) no_slot l in record { state = ap (λ (x : Slot). x.state) e; mark = ap (λ (x : Slot). x.mark) e }

pub there_or : (p : Placement) (w : Page) → (IsThere p w) ⊎ (length (slots_of p w) ≤ number_of w)
there_or p w =
    let le_or : (a b : ℕ) → (a < b) ⊎ (b ≤ a) = λ a b. grind arith in
    le_or (number_of w) (length (slots_of p w))

pub blank_put : (p : Placement) (v : Page) → IsBlank (put p v Unfilled false) v
blank_put p v = elim (there_or p v) [
  | inl l ↦ record { state = put_state p v Unfilled false l; mark = put_mark p v Unfilled false l }
  | inr l ↦ absent_blank (put p v Unfilled false) v (let h = put_length p v Unfilled false v in omega arith)
]

blank_still : (p : Placement) (v w : Page) → IsBlank p w → IsBlank (put p v Unfilled false) w
blank_still p v w b = elim (page_cases w v) [
  | inl e ↦ subst (IsBlank (put p v Unfilled false)) (sym e) (blank_put p v)
  | inr n ↦ let e = put_other p v Unfilled false w n in record { state = ap (λ (x : Slot). x.state) e ∙ b.state; mark = ap (λ (x : Slot). x.mark) e ∙ b.mark }
]

-- whichever frame it had, a dropped page is put so
drop_slots : (p : Placement) (v w : Page) → slots_of (drop_page p v) w ≡ slots_of (put p v Unfilled false) w
drop_slots p v w = go (frame_of (state_of p v))
  where
    go : (h : Option ℕ) → slots_of (drop_at p v h) w ≡ slots_of (put p v Unfilled false) w
    go None = refl
    go (Some f) = refl

drop_slot : (p : Placement) (v w : Page) → slot_of (drop_page p v) w ≡ slot_of (put p v Unfilled false) w
drop_slot p v w = ap (λ (xs : List Slot). get_or xs (number_of w) no_slot) (drop_slots p v w)

blank_as : (p q : Placement) (w : Page) → slot_of q w ≡ slot_of p w → IsBlank p w → IsBlank q w
blank_as p q w e b = record { state = ap (λ (x : Slot). x.state) e ∙ b.state; mark = ap (λ (x : Slot). x.mark) e ∙ b.mark }

pub drop_other : (p : Placement) (v w : Page) → w ≢ v → slot_of (drop_page p v) w ≡ slot_of p w
drop_other p v w n = drop_slot p v w ∙ put_other p v Unfilled false w n

pub drop_length : (p : Placement) (v w : Page) → length (slots_of (drop_page p v) w) ≡ length (slots_of p w)
drop_length p v w = ap length (drop_slots p v w) ∙ put_length p v Unfilled false w

pub drop_page_owner : (p : Placement) (v : Page) → OwnsFrames p → AtRest (state_of p v) → OwnsFrames (drop_page p v)
drop_page_owner p v o r = go (frame_of (state_of p v)) refl
  where
    go : (h : Option ℕ) → frame_of (state_of p v) ≡ h → OwnsFrames (drop_at p v h)
    go None e = frameless_owner p v Unfilled false o e refl (marked_false v)
    go (Some f) e = drop_owner p v f o r e

pub drop_rest : (p : Placement) (v w : Page) → AtRest (state_of p w) → AtRest (state_of (drop_page p v) w)
drop_rest p v w r = elim (page_cases w v) [
  | inl e ↦ subst (λ (x : Page). AtRest (state_of (drop_page p v) x)) (sym e)
      (let b : IsBlank (put p v Unfilled false) v = blank_put p v in subst AtRest (sym (ap (λ (x : Slot). x.state) (drop_slot p v v) ∙ b.state)) tt)
  | inr n ↦ subst AtRest (sym (ap (λ (x : Slot). x.state) (drop_other p v w n))) r
]

pub drop_all_owner : (qs : List Page) (p : Placement) → OwnsFrames p → EachPage (λ q. AtRest (state_of p q)) qs → OwnsFrames (drop_all p qs)
drop_all_owner [] p o r = o
drop_all_owner (v ∷ qs) p o r = drop_all_owner qs (drop_page p v) (drop_page_owner p v o r.0)
    (each_page_imp (λ q. AtRest (state_of p q)) (λ q. AtRest (state_of (drop_page p v) q)) qs r.1 (λ w h. drop_rest p v w h))

drop_all_still : (qs : List Page) (p : Placement) (w : Page) → IsBlank p w → IsBlank (drop_all p qs) w
drop_all_still [] p w b = b
drop_all_still (v ∷ qs) p w b = drop_all_still qs (drop_page p v) w (blank_as (put p v Unfilled false) (drop_page p v) w (drop_slot p v w) (blank_still p v w b))

-- pages that were dropped are blank
pub drop_all_blank : (qs : List Page) (p : Placement) → EachPage (IsBlank (drop_all p qs)) qs
drop_all_blank [] p = tt
drop_all_blank (v ∷ qs) p = (drop_all_still qs (drop_page p v) v (blank_as (put p v Unfilled false) (drop_page p v) v (drop_slot p v v) (blank_put p v)), drop_all_blank qs (drop_page p v))

pub drop_all_other : (qs : List Page) (p : Placement) (w : Page) → EachPage (λ r. w ≢ r) qs → slot_of (drop_all p qs) w ≡ slot_of p w
drop_all_other [] p w n = refl
drop_all_other (v ∷ qs) p w n = drop_all_other qs (drop_page p v) w n.1 ∙ drop_other p v w n.0

pub drop_all_length : (qs : List Page) (p : Placement) (w : Page) → length (slots_of (drop_all p qs) w) ≡ length (slots_of p w)
drop_all_length [] p w = refl
drop_all_length (v ∷ qs) p w = drop_all_length qs (drop_page p v) w ∙ drop_length p v w

-- A text that nobody shares any more.

pub remark_turns : (p : Placement) (v : Page) (f n : ℕ) → OwnsFrames p → state_of p v ≡ Invalid f → Turns p v f (Invalid f) false p.free p.transfers
remark_turns p v f n o e = record {
  from = ap frame_of e;
  to = refl;
  other_free = λ g n. refl;
  other_flying = λ g n. refl;
  once =
      let a = once_at p v f o (ap frame_of e) in
      let b : seats (times f p.free) (state_of p v) ≡ seats (times f p.free) (Invalid f) = ap (seats (times f p.free)) e in
      omega arith;
  listed = λ b. (refl, marked_false v);
  dirty = λ h. refl;
  moves = rest_moves p v (Invalid f) false o (subst AtRest (sym e) tt);
}

pub leave_page_owner : (p : Placement) (v : Page) → OwnsFrames p → OwnsFrames (leave_page p v)
leave_page_owner p v o = go (state_of p v) (listed p v) refl refl
  where
    seat : (f : ℕ) → (state_of p v ≡ Valid f) ⊎ ((state_of p v ≡ Invalid f) × (times f p.free ≡ 0)) → OwnsFrames (turn p v (Invalid f) false (p.free ++ f ∷ []) p.transfers)
    seat f s = turn_owner p v f (Invalid f) false (p.free ++ f ∷ []) p.transfers o (retire_turns p v f false o (record { state = s }) (marked_false v))

    go : (s : PageState) (n : ℕ) → state_of p v ≡ s → listed p v ≡ n → OwnsFrames (leave_by p v s n)
    go (Valid f) n e h = seat f (inl e)
    go (Invalid f) zero e h = seat f (inr (e, ap (λ (s : PageState). listed_of p (frame_of s)) (sym e) ∙ h))
    go (Invalid f) (suc n) e h = turn_owner p v f (Invalid f) false p.free p.transfers o (remark_turns p v f n o e)
    go OnSwap n e h = frameless_owner p v Unfilled false o (ap frame_of e) refl (marked_false v)
    go Unfilled n e h = frameless_owner p v Unfilled false o (ap frame_of e) refl (marked_false v)
    go (Coming f) n e h = o
    go (Going f) n e h = o

pub leave_all_owner : (qs : List Page) (p : Placement) → OwnsFrames p → OwnsFrames (leave_all p qs)
leave_all_owner [] p o = o
leave_all_owner (v ∷ qs) p o = leave_all_owner qs (leave_page p v) (leave_page_owner p v o)
