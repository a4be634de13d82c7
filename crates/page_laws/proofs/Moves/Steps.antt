-- A page that moves on with its frame, that takes a frame, or that loses it, keeps the ownership of frames.
use Rattle.std.proofs.Common.{◌≡◌, ◌≢◌, ◌⊎◌, inl, inr, ℕ, zero, suc, ◌+◌, ◌-◌, ◌<◌, ◌≤◌, Bool, true, false, List, length, Option, Some, None, refl, sym, ap, ◌∙◌, subst, arith}
use Rattle.std.proofs.lemmas.List.{get_or_past}
use Rattle.vm_facts.specs.declared.page.Page.{Page}
use Rattle.vm_facts.specs.declared.page.Page.TheVariants.{Data, Stack, Text}
use Rattle.vm_facts.specs.declared.page.PageState.{PageState}
use Rattle.vm_facts.specs.declared.page.PageState.TheVariants.{Unfilled, Valid, Invalid, Coming, Going, OnSwap}
use Rattle.page_model.specs.Pages.{Slot, no_slot, frame_of, left_state}
use Rattle.page_model.specs.PageNames.{number_of}
use Rattle.page_model.specs.Frames.{at_frame}
use Rattle.vm_facts.specs.Lists.{times, without}
use Rattle.page_model.specs.Placement.{Placement, Transfer, Moving, Errand, Writes, Reads, slots_of, slot_of, state_of, mark_of, page_of, IsFrame, IsThere, parts_of, flying, moving_state, put}
use Rattle.page_model.specs.Moves.{evict_at, evict, enter, turn, drop_at}
use Rattle.page_model.specs.Ownership.{OwnsFrames, Each, IsMoving, IsListed, is_marked_dirty, may_be_dirty, seats, seated, seated_of}
use Rattle.page_model.specs.Conditions.{AtRest}
use Rattle.page_laws.proofs.Lists.Frames.{at_set_same, at_set_other, length_set_frame}
use Rattle.vm_facts.proofs.Lists.{times_head, times-without_same, times-without_other, times_other}
use Rattle.page_laws.proofs.Lists.Pages.{put_state, put_mark, put_other, put_length}
use Rattle.page_laws.proofs.Lists.Parts.{all_imp}
use Rattle.page_laws.proofs.Lists.Local.{Local, Here, local_owner, none_some}
use Rattle.std.proofs.lemmas.Option.{same_Some}

-- a page that has a frame is there, and so is a frame that has a page
pub page_in : (p : Placement) (v : Page) (f : ℕ) → frame_of (state_of p v) ≡ Some f → IsThere p v
page_in p v f e =
    let le_or : (a b : ℕ) → (a < b) ⊎ (b ≤ a) = λ a b. grind arith in
    elim (le_or (number_of v) (length (slots_of p v))) [
      | inl l ↦ l
      | inr n ↦ none_some f (sym (ap (λ (x : Slot). frame_of x.state) (get_or_past (slots_of p v) (number_of v) no_slot n)) ∙ e)
    ]

pub frame_there : (xs : List (Option Page)) (f : ℕ) (v : Page) → at_frame xs f None ≡ Some v → (0 < f) × (f ≤ length xs)
frame_there xs zero v e = none_some v e
frame_there xs (suc n) v e =
    let le_or : (a b : ℕ) → (a < b) ⊎ (b ≤ a) = λ a b. grind arith in
    elim (le_or n (length xs)) [
      | inl l ↦ (omega arith, omega arith)
      | inr m ↦ none_some v (sym (get_or_past xs n None m) ∙ e)
    ]

pub frame_in : (p : Placement) (v : Page) (f : ℕ) → page_of p f ≡ Some v → IsFrame p f
frame_in p v f e = frame_there p.holds f v e

-- how the frame of a page stands
pub once_at : (p : Placement) (v : Page) (f : ℕ) → OwnsFrames p → frame_of (state_of p v) ≡ Some f
    → times f p.free + times f (flying (parts_of p.transfers)) + seats (times f p.free) (state_of p v) ≡ 1
once_at p v f o e =
    let h : page_of p f ≡ Some v = o.names v f e in
    let k : seated p f ≡ seats (times f p.free) (state_of p v) = ap (seated_of p f) h in
    let w : times f p.free + times f (flying (parts_of p.transfers)) + seated p f ≡ 1 = o.once f (frame_in p v f h) in
    omega arith

-- a page with no frame isn't dirty
pub frameless_clean : (p : Placement) (v : Page) → OwnsFrames p → frame_of (state_of p v) ≡ None → is_marked_dirty v (mark_of p v) ≡ false
frameless_clean p v o e = go (is_marked_dirty v (mark_of p v)) refl
  where
    never : (s : PageState) → frame_of s ≡ None → may_be_dirty s ≡ false
    never Unfilled h = refl
    never (Valid f) h = none_some f (sym h)
    never (Invalid f) h = none_some f (sym h)
    never (Coming f) h = refl
    never (Going f) h = none_some f (sym h)
    never OnSwap h = refl

    go : (d : Bool) → is_marked_dirty v (mark_of p v) ≡ d → d ≡ false
    go true k = absurd (let a : true ≡ false = sym (o.dirty v k) ∙ never (state_of p v) e in cc)
    go false k = refl

not_moving : (s : PageState) (e : Errand) (f : ℕ) → AtRest s → s ≡ moving_state e f → ⊥
not_moving s Writes f r h = subst AtRest h r
not_moving s (Reads source demanded) f r h = subst AtRest h r

pub frame_of_moving : (e : Errand) (f : ℕ) → frame_of (moving_state e f) ≡ Some f
frame_of_moving Writes f = refl
frame_of_moving (Reads source demanded) f = refl

pub frameless_rest : (s : PageState) → frame_of s ≡ None → AtRest s
frameless_rest (Coming f) e = none_some f (sym e)
frameless_rest (Going f) e = none_some f (sym e)
frameless_rest _ e = tt

-- transfers keep where a page changes that none has
pub moves_kept : (p q : Placement) (v : Page) (ms : List Moving) → AtRest (state_of p v) → ((w : Page) → w ≢ v → state_of q w ≡ state_of p w)
    → Each (IsMoving p) ms → Each (IsMoving q) ms
moves_kept p q v ms r same h = all_imp (IsMoving p) (IsMoving q) ms h
    (λ m k. same m.page (λ e. not_moving (state_of p v) m.errand m.frame r (subst (λ (x : Page). state_of p x ≡ moving_state m.errand m.frame) e k)) ∙ k)

pub put_other_state : (p : Placement) (v : Page) (s : PageState) (m : Bool) (w : Page) → w ≢ v → state_of (put p v s m) w ≡ state_of p w
put_other_state p v s m w n = ap (λ (x : Slot). x.state) (put_other p v s m w n)

module _ (p : Placement) (v : Page) (f : ℕ) (s : PageState) (m : Bool) (free : List ℕ) (transfers : List Transfer) where
  -- A page that moves on with its frame: what has to be shown.
  pub record Turns : Type 0 where
    pub from : frame_of (state_of p v) ≡ Some f
    pub to : frame_of s ≡ Some f
    pub other_free : (g : ℕ) → g ≢ f → times g free ≡ times g p.free
    pub other_flying : (g : ℕ) → g ≢ f → times g (flying (parts_of transfers)) ≡ times g (flying (parts_of p.transfers))
    pub once : times f free + times f (flying (parts_of transfers)) + seats (times f free) s ≡ 1
    pub listed : 0 < times f free → (s ≡ Invalid f) × (is_marked_dirty v m ≡ false)
    pub dirty : is_marked_dirty v m ≡ true → may_be_dirty s ≡ true
    pub moves : Each (IsMoving (put p v s m)) (parts_of transfers)

  pub turn_local : OwnsFrames p → Turns → Local p (turn p v s m free transfers) v f
  turn_local o t = record {
    sizes = put_length p v s m;
    frames = refl;
    frame_in = frame_in p v f (o.names v f t.from);
    other_slots = put_other p v s m;
    other_pages = λ g n. refl;
    other_free = t.other_free;
    other_flying = t.other_flying;
    old_frame = λ g e. same_Some g f (sym e ∙ t.from);
    old_page = λ w e. same_Some w v (sym e ∙ o.names v f t.from);
  }

  pub turn_owner : OwnsFrames p → Turns → OwnsFrames (turn p v s m free transfers)
  turn_owner o t =
      let is : state_of (put p v s m) v ≡ s = put_state p v s m (page_in p v f t.from) in
      let mark : mark_of (put p v s m) v ≡ m = put_mark p v s m (page_in p v f t.from) in
      let page : page_of p f ≡ Some v = o.names v f t.from in
      let here : Here (turn p v s m free transfers) v f = record {
        joined = inl (ap frame_of is ∙ t.to, page);
        once =
            let a : seated (turn p v s m free transfers) f ≡ seats (times f free) s = ap (seated_of (turn p v s m free transfers) f) page ∙ ap (seats (times f free)) is in
            let b = t.once in
            omega arith;
        listed = λ b e. let k = t.listed b in record { state = is ∙ k.0; clean = ap (is_marked_dirty v) mark ∙ k.1 };
        moves = t.moves;
        dirty = λ e. ap may_be_dirty is ∙ t.dirty (ap (is_marked_dirty v) (sym mark) ∙ e);
      } in
      local_owner p (turn p v s m free transfers) v f o (turn_local o t) here

-- A page that takes a free frame: what has to be shown.
pub record Enters (p : Placement) (v : Page) (f : ℕ) (s : PageState) (m : Bool) (transfers : List Transfer) : Type 0 where
  pub page_in : IsThere p v
  pub free : 0 < times f p.free
  pub none : page_of p f ≡ None
  pub from : frame_of (state_of p v) ≡ None
  pub to : frame_of s ≡ Some f
  pub other_flying : (g : ℕ) → g ≢ f → times g (flying (parts_of transfers)) ≡ times g (flying (parts_of p.transfers))
  pub once : times f (flying (parts_of transfers)) + seats 0 s ≡ 1
  pub dirty : is_marked_dirty v m ≡ true → may_be_dirty s ≡ true
  pub moves : Each (IsMoving (put p v s m)) (parts_of transfers)

pub enter_local : (p : Placement) (v : Page) (f : ℕ) (s : PageState) (m : Bool) (transfers : List Transfer) → OwnsFrames p
    → Enters p v f s m transfers → Local p (enter p v f s m transfers) v f
enter_local p v f s m transfers o t = record {
  sizes = put_length p v s m;
  frames = length_set_frame p.holds f (Some v);
  frame_in = o.frames f t.free;
  other_slots = put_other p v s m;
  other_pages = λ g n. at_set_other p.holds f g (Some v) None n;
  other_free = λ g n. times-without_other f g p.free n;
  other_flying = t.other_flying;
  old_frame = λ g e. none_some g (sym t.from ∙ e);
  old_page = λ w e. none_some w (sym t.none ∙ e);
}

pub enter_owner : (p : Placement) (v : Page) (f : ℕ) (s : PageState) (m : Bool) (transfers : List Transfer) → OwnsFrames p
    → Enters p v f s m transfers → OwnsFrames (enter p v f s m transfers)
enter_owner p v f s m transfers o t =
    let is : state_of (put p v s m) v ≡ s = put_state p v s m t.page_in in
    let mark : mark_of (put p v s m) v ≡ m = put_mark p v s m t.page_in in
    let page : page_of (enter p v f s m transfers) f ≡ Some v =
    let b = o.frames f t.free in at_set_same p.holds f (Some v) None b.0 b.1 in
    let here : Here (enter p v f s m transfers) v f = record {
      joined = inl (ap frame_of is ∙ t.to, page);
      once =
          let z : times f (without f p.free) ≡ 0 = times-without_same f p.free in
          let a : seated (enter p v f s m transfers) f ≡ seats 0 s = ap (seated_of (enter p v f s m transfers) f) page ∙ ap (seats (times f (without f p.free))) is ∙ ap (λ (n : ℕ). seats n s) z in
          let b = t.once in
          omega arith;
      listed = λ b e. absurd (let z = times-without_same f p.free in omega arith);
      moves = t.moves;
      dirty = λ e. ap may_be_dirty is ∙ t.dirty (ap (is_marked_dirty v) (sym mark) ∙ e);
    } in
    local_owner p (enter p v f s m transfers) v f o (enter_local p v f s m transfers o t) here

-- A page that loses its frame.

-- the page of a free frame loses it
pub left_frameless : (v : Page) (m : Bool) → frame_of (left_state v m) ≡ None
left_frameless (Data sid n) m = refl
left_frameless (Stack sid n) m = refl
left_frameless (Text image n) true = refl
left_frameless (Text image n) false = refl

pub evict_local : (p : Placement) (f : ℕ) (v : Page) → OwnsFrames p → page_of p f ≡ Some v → Local p (evict_at p f (Some v)) v f
evict_local p f v o e = record {
  sizes = put_length p v (left_state v (mark_of p v)) (mark_of p v);
  frames = length_set_frame p.holds f None;
  frame_in = frame_in p v f e;
  other_slots = put_other p v (left_state v (mark_of p v)) (mark_of p v);
  other_pages = λ g n. at_set_other p.holds f g None None n;
  other_free = λ g n. refl;
  other_flying = λ g n. refl;
  old_frame = λ g h. same_Some g f (sym h ∙ o.named f v e);
  old_page = λ w h. same_Some w v (sym h ∙ e);
}

evict_here : (p : Placement) (f : ℕ) (v : Page) → OwnsFrames p → page_of p f ≡ Some v → 0 < times f p.free → Here (evict_at p f (Some v)) v f
evict_here p f v o e b =
    let was : IsListed p f v = o.listed f v b e in
    let there : IsThere p v = page_in p v f (o.named f v e) in
    let gone : state_of (evict_at p f (Some v)) v ≡ left_state v (mark_of p v) = put_state p v (left_state v (mark_of p v)) (mark_of p v) there in
    let mark : mark_of (evict_at p f (Some v)) v ≡ mark_of p v = put_mark p v (left_state v (mark_of p v)) (mark_of p v) there in
    let none : page_of (evict_at p f (Some v)) f ≡ None =
    let k = frame_in p v f e in at_set_same p.holds f None None k.0 k.1 in
    record {
      joined = inr (ap frame_of gone ∙ left_frameless v (mark_of p v), none);
      once =
          let h : times f p.free + times f (flying (parts_of p.transfers)) + seats (times f p.free) (state_of p v) ≡ 1 = once_at p v f o (o.named f v e) in
          let k : seats (times f p.free) (state_of p v) ≡ 1 - times f p.free = ap (seats (times f p.free)) was.state in
          let a : seated (evict_at p f (Some v)) f ≡ 0 = ap (seated_of (evict_at p f (Some v)) f) none in
          omega arith;
      listed = λ c h. none_some v (sym none ∙ h);
      moves = moves_kept p (evict_at p f (Some v)) v (parts_of p.transfers) (subst AtRest (sym was.state) tt) (put_other_state p v (left_state v (mark_of p v)) (mark_of p v)) o.moves;
      dirty = λ h. absurd (let k : true ≡ false = sym h ∙ ap (is_marked_dirty v) mark ∙ was.clean in cc);
    }

pub evict_owner : (p : Placement) (f : ℕ) → OwnsFrames p → 0 < times f p.free → OwnsFrames (evict p f)
evict_owner p f o b = go (page_of p f) refl
  where
    go : (h : Option Page) → page_of p f ≡ h → OwnsFrames (evict_at p f h)
    go None e = o
    go (Some v) e = local_owner p (evict_at p f (Some v)) v f o (evict_local p f v o e) (evict_here p f v o e b)

-- after it the frame has no page
pub evict_page : (p : Placement) (f : ℕ) → page_of (evict p f) f ≡ None
evict_page p f = go (page_of p f) refl
  where
    go : (h : Option Page) → page_of p f ≡ h → page_of (evict_at p f h) f ≡ None
    go None e = e
    go (Some v) e = let k = frame_in p v f e in at_set_same p.holds f None None k.0 k.1

-- a page with no frame stays as it is
pub evict_other : (p : Placement) (f : ℕ) (w : Page) → OwnsFrames p → frame_of (state_of p w) ≡ None → slot_of (evict p f) w ≡ slot_of p w
evict_other p f w o n = go (page_of p f) refl
  where
    go : (h : Option Page) → page_of p f ≡ h → slot_of (evict_at p f h) w ≡ slot_of p w
    go None e = refl
    go (Some v) e = put_other p v (left_state v (mark_of p v)) (mark_of p v) w (λ s. none_some f (sym n ∙ subst (λ (x : Page). frame_of (state_of p x) ≡ Some f) (sym s) (o.named f v e)))

pub record EvictRest (p q : Placement) : Type 0 where
  pub free : q.free ≡ p.free
  pub transfers : q.transfers ≡ p.transfers
  pub due : q.due ≡ p.due
  pub sizes : (w : Page) → length (slots_of q w) ≡ length (slots_of p w)
  pub frames : length q.holds ≡ length p.holds

pub evict_rest : (p : Placement) (f : ℕ) → EvictRest p (evict p f)
evict_rest p f = go (page_of p f)
  where
    go : (h : Option Page) → EvictRest p (evict_at p f h)
    go None = record { free = refl; transfers = refl; due = refl; sizes = λ w. refl; frames = refl }
    go (Some v) = record { free = refl; transfers = refl; due = refl; sizes = put_length p v (left_state v (mark_of p v)) (mark_of p v); frames = length_set_frame p.holds f None }

-- a page is dropped, and its frame goes to the head
pub drop_local : (p : Placement) (v : Page) (f : ℕ) → OwnsFrames p → frame_of (state_of p v) ≡ Some f → Local p (drop_at p v (Some f)) v f
drop_local p v f o e = record {
  sizes = put_length p v Unfilled false;
  frames = length_set_frame p.holds f None;
  frame_in = frame_in p v f (o.names v f e);
  other_slots = put_other p v Unfilled false;
  other_pages = λ g n. at_set_other p.holds f g None None n;
  other_free = λ g n. times_other g f (without f p.free) (λ i. n (sym i)) ∙ times-without_other f g p.free n;
  other_flying = λ g n. refl;
  old_frame = λ g h. same_Some g f (sym h ∙ e);
  old_page = λ w h. same_Some w v (sym h ∙ o.names v f e);
}

pub not_flying : (n k : ℕ) (s : PageState) (f : ℕ) → AtRest s → frame_of s ≡ Some f → n + k + seats n s ≡ 1 → k ≡ 0
not_flying n k (Valid g) f r e h = omega arith
not_flying n k (Invalid g) f r e h = omega arith
not_flying n k (Coming g) f r e h = absurd r
not_flying n k (Going g) f r e h = absurd r
not_flying n k _ f r e h = none_some f e

pub marked_false : (v : Page) → is_marked_dirty v false ≡ false
marked_false (Data sid n) = refl
marked_false _ = refl

drop_here : (p : Placement) (v : Page) (f : ℕ) → OwnsFrames p → AtRest (state_of p v) → frame_of (state_of p v) ≡ Some f → Here (drop_at p v (Some f)) v f
drop_here p v f o r e =
    let there : IsThere p v = page_in p v f e in
    let is : state_of (put p v Unfilled false) v ≡ Unfilled = put_state p v Unfilled false there in
    let none : page_of (drop_at p v (Some f)) f ≡ None =
    let k = frame_in p v f (o.names v f e) in at_set_same p.holds f None None k.0 k.1 in
    record {
      joined = inr (ap frame_of is, none);
      once =
          let a = not_flying (times f p.free) (times f (flying (parts_of p.transfers))) (state_of p v) f r e (once_at p v f o e) in
          let b = times_head f (without f p.free) in
          let c = times-without_same f p.free in
          let d : seated (drop_at p v (Some f)) f ≡ 0 = ap (seated_of (drop_at p v (Some f)) f) none in
          omega arith;
      listed = λ b h. none_some v (sym none ∙ h);
      moves = moves_kept p (drop_at p v (Some f)) v (parts_of p.transfers) r (put_other_state p v Unfilled false) o.moves;
      dirty = λ h. absurd (let k : true ≡ false = sym h ∙ ap (is_marked_dirty v) (put_mark p v Unfilled false there) ∙ marked_false v in cc);
    }

pub drop_owner : (p : Placement) (v : Page) (f : ℕ) → OwnsFrames p → AtRest (state_of p v) → frame_of (state_of p v) ≡ Some f
    → OwnsFrames (drop_at p v (Some f))
drop_owner p v f o r e = local_owner p (drop_at p v (Some f)) v f o (drop_local p v f o e) (drop_here p v f o r e)
