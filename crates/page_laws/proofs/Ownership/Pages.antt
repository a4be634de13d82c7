-- Each move of one page keeps the ownership of frames.
use Rattle.std.proofs.Common.{◌≡◌, inl, inr, ℕ, ◌+◌, ◌-◌, ◌<◌, Bool, true, false, List, [], ◌∷◌, ◌++◌, Option, Some, None, refl, sym, ap, ◌∙◌, subst, arith}
use Rattle.vm_facts.specs.declared.page.Page.{Page}
use Rattle.vm_facts.specs.declared.page.Page.TheVariants.{Data, Stack, Text}
use Rattle.vm_facts.specs.declared.page.PageState.{PageState}
use Rattle.vm_facts.specs.declared.page.PageState.TheVariants.{Unfilled, Valid, Invalid, Coming, Going, OnSwap}
use Rattle.page_model.specs.Pages.{Slot, frame_of}
use Rattle.vm_facts.specs.Lists.{times, without}
use Rattle.page_model.specs.Placement.{Placement, Transfer, Errand, Writes, Reads, Source, moving, state_of, mark_of, page_of, IsThere, parts_of, flying, moving_state, put}
use Rattle.page_model.specs.Moves.{evict, fill, fill_at, reclaim, reclaim_to, retire, retire_to, touch, touch_to}
use Rattle.page_model.specs.Steps.{join_last, get_one, get_at, launch, launch_to}
use Rattle.page_model.specs.Hands.{expire, expire_of, expire_if, expire_to}
use Rattle.page_model.specs.Ownership.{OwnsFrames, Each, IsMoving, is_marked_dirty, seats}
use Rattle.page_model.specs.Conditions.{AtRest, CanEnter, IsSeated}
use Rattle.page_laws.proofs.Lists.Frames.{times_one, times_one_other, some_free}
use Rattle.vm_facts.proofs.Lists.{times-append, times-without_same, times-without_other}
use Rattle.page_laws.proofs.Lists.Pages.{put_state}
use Rattle.page_laws.proofs.Lists.Parts.{IsOpen, parts_join, times_joined, all_push}
use Rattle.page_laws.proofs.Moves.Steps.{Turns, turn_owner, Enters, enter_owner, once_at, page_in, frameless_clean, frameless_rest, moves_kept, put_other_state, evict_owner, evict_page, evict_other, EvictRest, evict_rest}

-- a page at rest moves on, with the same transfers
pub rest_moves : (p : Placement) (v : Page) (s : PageState) (m : Bool) → OwnsFrames p → AtRest (state_of p v)
    → Each (IsMoving (put p v s m)) (parts_of p.transfers)
rest_moves p v s m o r = moves_kept p (put p v s m) v (parts_of p.transfers) r (put_other_state p v s m) o.moves

clean_is : (d : Bool) {C : Type 0} → d ≡ false → d ≡ true → C
clean_is d e h = absurd (let k : true ≡ false = sym h ∙ e in cc)

-- Taking a frame.

entered_there : (p : Placement) (v : Page) (f : ℕ) → CanEnter p v → IsThere (evict p f) v
entered_there p v f c = let e : EvictRest p (evict p f) = evict_rest p f in let h = e.sizes v in let k = c.there in omega arith

entered_frameless : (p : Placement) (v : Page) (f : ℕ) → OwnsFrames p → CanEnter p v → frame_of (state_of (evict p f) v) ≡ None
entered_frameless p v f o c = ap (λ (x : Slot). frame_of x.state) (evict_other p f v o c.frameless) ∙ c.frameless

pub none_flying : (p : Placement) (f : ℕ) → OwnsFrames p → 0 < times f p.free → times f (flying (parts_of p.transfers)) ≡ 0
none_flying p f o b = let h = o.once f (o.frames f b) in omega arith

pub fill_enters : (p : Placement) (v : Page) (f : ℕ) (rest : List ℕ) → OwnsFrames p → CanEnter p v → p.free ≡ f ∷ rest
    → Enters (evict p f) v f (Valid f) true p.transfers
fill_enters p v f rest o c e =
    let r : EvictRest p (evict p f) = evict_rest p f in
    let some : 0 < times f p.free = some_free p f rest e in
    record {
      page_in = entered_there p v f c;
      free = subst (λ (l : List ℕ). 0 < times f l) (sym r.free) some;
      none = evict_page p f;
      from = entered_frameless p v f o c;
      to = refl;
      other_flying = λ g n. ap (λ (ts : List Transfer). times g (flying (parts_of ts))) (sym r.transfers);
      once = let h = none_flying p f o some in omega arith;
      dirty = λ h. refl;
      moves = subst (λ (ts : List Transfer). Each (IsMoving (put (evict p f) v (Valid f) true)) (parts_of ts)) r.transfers
          (rest_moves (evict p f) v (Valid f) true (evict_owner p f o some) (frameless_rest (state_of (evict p f) v) (entered_frameless p v f o c)));
    }

pub fill_owner : (p : Placement) (v : Page) → OwnsFrames p → CanEnter p v → OwnsFrames (fill p v)
fill_owner p v o c = go p.free refl
  where
    go : (fr : List ℕ) → p.free ≡ fr → OwnsFrames (fill_at p v fr)
    go [] e = o
    go (f ∷ rest) e = enter_owner (evict p f) v f (Valid f) true p.transfers (evict_owner p f o (some_free p f rest e)) (fill_enters p v f rest o c e)

pub get_enters : (p : Placement) (e : Errand) (v : Page) (f : ℕ) (rest : List ℕ) → OwnsFrames p → CanEnter p v → IsOpen p.transfers e
    → moving_state e f ≡ Coming f → p.free ≡ f ∷ rest
    → Enters (evict p f) v f (Coming f) (mark_of p v) (join_last p.transfers e (record { page = v; frame = f }))
get_enters p e v f rest o c latest reads fr =
    let r : EvictRest p (evict p f) = evict_rest p f in
    let some : 0 < times f p.free = some_free p f rest fr in
    record {
      page_in = entered_there p v f c;
      free = subst (λ (l : List ℕ). 0 < times f l) (sym r.free) some;
      none = evict_page p f;
      from = entered_frameless p v f o c;
      to = refl;
      other_flying = λ g n.
          let h = times_joined g p.transfers e (record { page = v; frame = f }) latest in
          let k = times_one_other f g n in
          let m : times g (flying (parts_of (evict p f).transfers)) ≡ times g (flying (parts_of p.transfers)) = ap (λ (ts : List Transfer). times g (flying (parts_of ts))) r.transfers in
          omega arith;
      once =
          let h = times_joined f p.transfers e (record { page = v; frame = f }) latest in
          let k = times_one f in
          let z = none_flying p f o some in
          omega arith;
      dirty = clean_is (is_marked_dirty v (mark_of p v)) (frameless_clean p v o c.frameless);
      moves = subst (Each (IsMoving (put (evict p f) v (Coming f) (mark_of p v)))) (sym (parts_join p.transfers e (record { page = v; frame = f }) latest))
          (all_push (IsMoving (put (evict p f) v (Coming f) (mark_of p v))) (parts_of p.transfers) (moving e (record { page = v; frame = f }))
          (subst (λ (ts : List Transfer). Each (IsMoving (put (evict p f) v (Coming f) (mark_of p v))) (parts_of ts)) r.transfers
          (rest_moves (evict p f) v (Coming f) (mark_of p v) (evict_owner p f o some) (frameless_rest (state_of (evict p f) v) (entered_frameless p v f o c))))
          (put_state (evict p f) v (Coming f) (mark_of p v) (entered_there p v f c) ∙ sym reads));
    }

pub get_owner : (p : Placement) (source : Source) (demanded v : Page) → OwnsFrames p → CanEnter p v → IsOpen p.transfers (Reads source demanded)
    → OwnsFrames (get_one p (Reads source demanded) v)
get_owner p source demanded v o c latest = go p.free refl
  where
    go : (fr : List ℕ) → p.free ≡ fr → OwnsFrames (get_at p (Reads source demanded) v fr)
    go [] e = o
    go (f ∷ rest) e = enter_owner (evict p f) v f (Coming f) (mark_of p v) (join_last p.transfers (Reads source demanded) (record { page = v; frame = f }))
        (evict_owner p f o (some_free p f rest e)) (get_enters p (Reads source demanded) v f rest o c latest refl e)

-- Moving on in a frame.

pub reclaim_turns : (p : Placement) (v : Page) (f : ℕ) → OwnsFrames p → state_of p v ≡ Invalid f
    → Turns p v f (Valid f) (mark_of p v) (without f p.free) p.transfers
reclaim_turns p v f o e = record {
  from = ap frame_of e;
  to = refl;
  other_free = λ g n. times-without_other f g p.free n;
  other_flying = λ g n. refl;
  once =
      let a = once_at p v f o (ap frame_of e) in
      let b : seats (times f p.free) (state_of p v) ≡ 1 - times f p.free = ap (seats (times f p.free)) e in
      let c = times-without_same f p.free in
      omega arith;
  listed = λ b. absurd (let z = times-without_same f p.free in omega arith);
  dirty = λ h. refl;
  moves = rest_moves p v (Valid f) (mark_of p v) o (subst AtRest (sym e) tt);
}

pub reclaim_owner : (p : Placement) (v : Page) → OwnsFrames p → OwnsFrames (reclaim p v)
reclaim_owner p v o = go (state_of p v) refl
  where
    go : (s : PageState) → state_of p v ≡ s → OwnsFrames (reclaim_to p v s)
    go (Invalid f) e = turn_owner p v f (Valid f) (mark_of p v) (without f p.free) p.transfers o (reclaim_turns p v f o e)
    go Unfilled e = o
    go (Valid f) e = o
    go (Coming f) e = o
    go (Going f) e = o
    go OnSwap e = o

pub expire_turns : (p : Placement) (v : Page) (f : ℕ) → OwnsFrames p → state_of p v ≡ Valid f → Turns p v f (Invalid f) (mark_of p v) p.free p.transfers
expire_turns p v f o e =
    let a : times f p.free + times f (flying (parts_of p.transfers)) + seats (times f p.free) (state_of p v) ≡ 1 = once_at p v f o (ap frame_of e) in
    let b : seats (times f p.free) (state_of p v) ≡ 1 = ap (seats (times f p.free)) e in
    record {
      from = ap frame_of e;
      to = refl;
      other_free = λ g n. refl;
      other_flying = λ g n. refl;
      once = omega (arith, a, b);
      listed = λ c. absurd (omega (arith, a, b));
      dirty = λ h. refl;
      moves = rest_moves p v (Invalid f) (mark_of p v) o (subst AtRest (sym e) tt);
    }

pub expire_owner : (p : Placement) (locked : List Page) → OwnsFrames p → OwnsFrames (expire p locked)
expire_owner p locked o = go (page_of p p.front)
  where
    to : (v : Page) (s : PageState) → state_of p v ≡ s → OwnsFrames (expire_to p v s)
    to v (Valid f) e = turn_owner p v f (Invalid f) (mark_of p v) p.free p.transfers o (expire_turns p v f o e)
    to v Unfilled e = o
    to v (Invalid f) e = o
    to v (Coming f) e = o
    to v (Going f) e = o
    to v OnSwap e = o

    at : (v : Page) (b : Bool) → OwnsFrames (expire_if p v b)
    at v true = o
    at v false = to v (state_of p v) refl

    go : (h : Option Page) → OwnsFrames (expire_of p locked h)
    go None = o
    go (Some v) = at v (Rattle.page_model.specs.PageNames.is_among v locked)

pub seated_frame : (p : Placement) (v : Page) (f : ℕ) → IsSeated p v f → frame_of (state_of p v) ≡ Some f
seated_frame p v f c = elim c.state [
  | inl e ↦ ap frame_of e
  | inr e ↦ ap frame_of e.0
]

seated_rest : (p : Placement) (v : Page) (f : ℕ) → IsSeated p v f → AtRest (state_of p v)
seated_rest p v f c = elim c.state [
  | inl e ↦ subst AtRest (sym e) tt
  | inr e ↦ subst AtRest (sym e.0) tt
]

-- its frame is off the free list, and in no transfer
pub seated_alone : (p : Placement) (v : Page) (f : ℕ) → OwnsFrames p → IsSeated p v f → (times f p.free ≡ 0) × (times f (flying (parts_of p.transfers)) ≡ 0)
seated_alone p v f o c = elim c.state [
  | inl e ↦ (let a = once_at p v f o (ap frame_of e) in let b : seats (times f p.free) (state_of p v) ≡ 1 = ap (seats (times f p.free)) e in (omega arith, omega arith))
  | inr e ↦ (let a = once_at p v f o (ap frame_of e.0) in
      let b : seats (times f p.free) (state_of p v) ≡ 1 - times f p.free = ap (seats (times f p.free)) e.0 in let z = e.1 in (omega arith, omega arith))
]

pub launch_turns : (p : Placement) (v : Page) (f : ℕ) → OwnsFrames p → IsSeated p v f → IsOpen p.transfers Writes
    → Turns p v f (Going f) (mark_of p v) p.free (join_last p.transfers Writes (record { page = v; frame = f }))
launch_turns p v f o c latest = record {
  from = seated_frame p v f c;
  to = refl;
  other_free = λ g n. refl;
  other_flying = λ g n. let h = times_joined g p.transfers Writes (record { page = v; frame = f }) latest in let k = times_one_other f g n in omega arith;
  once =
      let h = times_joined f p.transfers Writes (record { page = v; frame = f }) latest in
      let k = times_one f in
      let z = seated_alone p v f o c in
      omega (arith, z.0, z.1);
  listed = λ b. absurd (let z = seated_alone p v f o c in omega (arith, z.0));
  dirty = λ h. refl;
  moves = subst (Each (IsMoving (put p v (Going f) (mark_of p v)))) (sym (parts_join p.transfers Writes (record { page = v; frame = f }) latest))
      (all_push (IsMoving (put p v (Going f) (mark_of p v))) (parts_of p.transfers) (moving Writes (record { page = v; frame = f }))
      (rest_moves p v (Going f) (mark_of p v) o (seated_rest p v f c)) (put_state p v (Going f) (mark_of p v) (page_in p v f (seated_frame p v f c))));
}

pub launch_owner : (p : Placement) (v : Page) (f : ℕ) → OwnsFrames p → IsSeated p v f → IsOpen p.transfers Writes → OwnsFrames (launch p v)
launch_owner p v f o c latest = elim c.state [
  | inl e ↦ subst (λ (s : PageState). OwnsFrames (launch_to p v s)) (sym e)
      (turn_owner p v f (Going f) (mark_of p v) p.free (join_last p.transfers Writes (record { page = v; frame = f })) o (launch_turns p v f o c latest))
  | inr e ↦ subst (λ (s : PageState). OwnsFrames (launch_to p v s)) (sym e.0)
      (turn_owner p v f (Going f) (mark_of p v) p.free (join_last p.transfers Writes (record { page = v; frame = f })) o (launch_turns p v f o c latest))
]

-- a seated page's frame goes to the tail, with this mark
pub retire_turns : (p : Placement) (v : Page) (f : ℕ) (m : Bool) → OwnsFrames p → IsSeated p v f → is_marked_dirty v m ≡ false
    → Turns p v f (Invalid f) m (p.free ++ f ∷ []) p.transfers
retire_turns p v f m o c clean = record {
  from = seated_frame p v f c;
  to = refl;
  other_free = λ g n. let h = times-append g p.free (f ∷ []) in let k = times_one_other f g n in omega arith;
  other_flying = λ g n. refl;
  once = let h = times-append f p.free (f ∷ []) in let k = times_one f in let z = seated_alone p v f o c in omega (arith, z.0, z.1);
  listed = λ b. (refl, clean);
  dirty = λ h. refl;
  moves = rest_moves p v (Invalid f) m o (seated_rest p v f c);
}

pub retire_owner : (p : Placement) (v : Page) (f : ℕ) → OwnsFrames p → IsSeated p v f → is_marked_dirty v (mark_of p v) ≡ false → OwnsFrames (retire p v)
retire_owner p v f o c clean = elim c.state [
  | inl e ↦ subst (λ (s : PageState). OwnsFrames (retire_to p v s)) (sym e) (turn_owner p v f (Invalid f) (mark_of p v) (p.free ++ f ∷ []) p.transfers o (retire_turns p v f (mark_of p v) o c clean))
  | inr e ↦ subst (λ (s : PageState). OwnsFrames (retire_to p v s)) (sym e.0) (turn_owner p v f (Invalid f) (mark_of p v) (p.free ++ f ∷ []) p.transfers o (retire_turns p v f (mark_of p v) o c clean))
]

-- a user write
pub touch_turns : (p : Placement) (v : Page) (f : ℕ) → OwnsFrames p → state_of p v ≡ Valid f → Turns p v f (Valid f) true p.free p.transfers
touch_turns p v f o e =
    let a : times f p.free + times f (flying (parts_of p.transfers)) + seats (times f p.free) (state_of p v) ≡ 1 = once_at p v f o (ap frame_of e) in
    let b : seats (times f p.free) (state_of p v) ≡ 1 = ap (seats (times f p.free)) e in
    record {
      from = ap frame_of e;
      to = refl;
      other_free = λ g n. refl;
      other_flying = λ g n. refl;
      once = omega (arith, a, b);
      listed = λ c. absurd (omega (arith, a, b));
      dirty = λ h. refl;
      moves = rest_moves p v (Valid f) true o (subst AtRest (sym e) tt);
    }

pub touch_owner : (p : Placement) (v : Page) → OwnsFrames p → OwnsFrames (touch p v)
touch_owner p v o = go v (state_of p v) refl
  where
    go : (v : Page) (s : PageState) → state_of p v ≡ s → OwnsFrames (touch_to p v s)
    go (Data sid n) (Valid f) e = turn_owner p (Data sid n) f (Valid f) true p.free p.transfers o (touch_turns p (Data sid n) f o e)
    go (Stack sid n) (Valid f) e = turn_owner p (Stack sid n) f (Valid f) true p.free p.transfers o (touch_turns p (Stack sid n) f o e)
    go (Text image n) s e = o
    go (Data sid n) Unfilled e = o
    go (Data sid n) (Invalid f) e = o
    go (Data sid n) (Coming f) e = o
    go (Data sid n) (Going f) e = o
    go (Data sid n) OnSwap e = o
    go (Stack sid n) Unfilled e = o
    go (Stack sid n) (Invalid f) e = o
    go (Stack sid n) (Coming f) e = o
    go (Stack sid n) (Going f) e = o
    go (Stack sid n) OnSwap e = o
