-- Each move of one page keeps the flat memory.
use Rattle.std.proofs.Common.{◌≡◌, ◌≢◌, ◌⊎◌, inl, inr, ℕ, ◌<◌, Bool, true, false, cond, not, List, [], ◌∷◌, ◌++◌, length, Option, Some, None, refl, sym, ap, ◌∙◌, subst, arith}
use Rattle.vm_facts.specs.declared.page.Page.{Page}
use Rattle.vm_facts.specs.declared.page.Page.TheVariants.{Data, Stack, Text}
use Rattle.vm_facts.specs.declared.page.PageState.{PageState}
use Rattle.vm_facts.specs.declared.page.PageState.TheVariants.{Unfilled, Valid, Invalid, Coming, Going, OnSwap}
use Rattle.page_model.specs.Pages.{Filling, OfImage, frame_of, is_dirty_by, left_state, written_mark}
use Rattle.page_model.specs.PageNames.{same_page, is_among}
use Rattle.page_model.specs.Frames.{at_frame}
use Rattle.vm_facts.specs.Lists.{times, without}
use Rattle.page_model.specs.Placement.{Placement, Transfer, Part, Moving, Errand, Writes, Reads, Source, FromSwap, FromFile, Due, due_page, moving, state_of, mark_of, is_dirty, filling_of, page_of, errand_at, due_of_page, parts_of, IsFrame, IsThere}
use Rattle.page_model.specs.Moves.{evict, evict_at, enter, turn, fill_at, arrived_mark, reclaim, reclaim_to, retire, retire_to, touch, touch_to}
use Rattle.page_model.specs.Steps.{land_then, land_read_then, join_last, get_one, get_at, launch, launch_to}
use Rattle.page_model.specs.Place.{filled, due_after}
use Rattle.page_model.specs.Hands.{expire, expire_of, expire_if, expire_to}
use Rattle.page_model.specs.Conditions.{CanEnter, IsSeated}
use Rattle.page_model.specs.Ownership.{OwnsFrames, IsListed, is_marked_dirty}
use Rattle.page_model.specs.PageBytes.{Bytes, bytes_in, IsInFrame, KeepsUnfilled, IsUnsaved, IsFromFile, KeepsComing, IfSaved, KeepsBy, CouplesPages, with_frame, source_bytes, Stores, WritesBoth, IsWritable, ReadsFrom}
use Rattle.page_laws.proofs.Lists.Frames.{at_set_same, at_set_other, some_free}
use Rattle.page_laws.proofs.Lists.Pages.{put_state, put_mark}
use Rattle.page_model.proofs.PageNames.{same_page_is}
use Rattle.page_laws.proofs.Lists.Parts.{IsOpen, parts_join, errand_push_same, errand_push_other, errand_head, errand_tail}
use Rattle.page_laws.proofs.Lists.Local.{Local}
use Rattle.page_laws.proofs.Moves.Steps.{Turns, turn_local, Enters, enter_local, page_in, frame_in, evict_local, evict_owner, EvictRest, evict_rest}
use Rattle.page_laws.proofs.Ownership.Pages.{fill_enters, get_enters, reclaim_turns, expire_turns, launch_turns, retire_turns, touch_turns, none_flying}
use Rattle.page_laws.proofs.Ownership.Runs.{Landing, landing_state, landing_frame, tail_turns, valid_turns, written_clean, coming_clean}
use Rattle.page_laws.proofs.Bytes.Couples.{Beside, local_coupled}

-- what stands beside, where it stays as it is
pub beside_still : (p q : Placement) (v : Page) (f : ℕ) (b : Bytes) → q.due ≡ p.due
    → ((g : ℕ) → g ≢ f → errand_at (parts_of q.transfers) g ≡ errand_at (parts_of p.transfers) g) → Beside p q v f b b
beside_still p q v f b d e = record {
  frames = λ g n. refl;
  swap = λ w n. refl;
  file = λ w. refl;
  start = λ w n. refl;
  memory = λ w n. refl;
  text = λ i n. refl;
  copied = inl (λ w. refl);
  due = λ w n. ap (λ (ds : List Due). due_of_page ds w) d;
  text_due = λ i n h. ap (λ (ds : List Due). due_of_page ds (Text i n)) d ∙ h;
  errands = e;
}

pub beside_frame : (p q : Placement) (v : Page) (f : ℕ) (b : Bytes) (bytes : List ℕ) → q.due ≡ p.due
    → ((g : ℕ) → g ≢ f → errand_at (parts_of q.transfers) g ≡ errand_at (parts_of p.transfers) g) → Beside p q v f b (with_frame b f bytes)
beside_frame p q v f b bytes d e = record {
  frames = λ g n. at_set_other b.frames f g bytes [] n;
  swap = λ w n. refl;
  file = λ w. refl;
  start = λ w n. refl;
  memory = λ w n. refl;
  text = λ i n. refl;
  copied = inl (λ w. refl);
  due = λ w n. ap (λ (ds : List Due). due_of_page ds w) d;
  text_due = λ i n h. ap (λ (ds : List Due). due_of_page ds (Text i n)) d ∙ h;
  errands = e;
}

-- the page at a state
pub keeps_at : (p : Placement) (b : Bytes) (v : Page) (s : PageState) → CouplesPages p b → IsThere p v → state_of p v ≡ s → KeepsBy p b v s
keeps_at p b v s k there e = subst (KeepsBy p b v) e (k.each v there)

-- A page that moves on with its frame.
pub turn_coupled : (p : Placement) (v : Page) (f : ℕ) (s : PageState) (m : Bool) (free : List ℕ) (ts : List Transfer) (b c : Bytes) → OwnsFrames p
    → Turns p v f s m free ts
    → Beside p (turn p v s m free ts) v f b c → CouplesPages p b → KeepsBy (turn p v s m free ts) c v s → CouplesPages (turn p v s m free ts) c
turn_coupled p v f s m free ts b c o t sd k keep = local_coupled p (turn p v s m free ts) v f b c o (turn_local p v f s m free ts o t) sd k
    (λ _. subst (KeepsBy (turn p v s m free ts) c v) (sym (put_state p v s m (page_in p v f t.from))) keep)

-- in its frame, with the mark that it was put with
pub marked : (p : Placement) (v : Page) (f : ℕ) (s : PageState) (m : Bool) (free : List ℕ) (ts : List Transfer) (c : Bytes) → IsThere p v
    → IsInFrame c (is_dirty_by v m) f v → IsInFrame c (is_dirty (turn p v s m free ts) v) f v
marked p v f s m free ts c there k = subst (λ (d : Bool). IsInFrame c d f v) (sym (ap (is_dirty_by v) (put_mark p v s m there))) k

-- Taking a frame.

left_keeps : (p : Placement) (b : Bytes) (f : ℕ) (v : Page) (m : Bool) → mark_of (evict_at p f (Some v)) v ≡ m → is_marked_dirty v m ≡ false
    → b.file v ≡ b.memory v ⊎ ((image n : ℕ) → v ≢ Text image n)
    → ((image n : ℕ) → v ≡ Text image n → due_of_page p.due v ≡ None) → IsInFrame b (is_dirty_by v m) f v → KeepsBy (evict_at p f (Some v)) b v (left_state v m)
left_keeps p b f (Data sid n) m e c h d k = k.there c
left_keeps p b f (Stack sid n) m e c h d k = k.there c
left_keeps p b f (Text image n) true e c h d k = k.there refl
left_keeps p b f (Text image n) false e c (inl h) d k = (subst (λ (x : Option Due). KeepsUnfilled b (Text image n) x OfImage) (sym (d image n refl)) h, e)
left_keeps p b f (Text image n) false e c (inr h) d k = absurd (h image n refl)

text_or : (p : Placement) (b : Bytes) (v : Page) → CouplesPages p b → b.file v ≡ b.memory v ⊎ ((image n : ℕ) → v ≢ Text image n)
text_or p b (Text image n) k = inl (k.text image n)
text_or p b _ k = inr (λ i m h. absurd cc)

pub evict_coupled : (p : Placement) (f : ℕ) (b : Bytes) → OwnsFrames p → 0 < times f p.free → CouplesPages p b → CouplesPages (evict p f) b
evict_coupled p f b o l k = go (page_of p f) refl
  where
    go : (h : Option Page) → page_of p f ≡ h → CouplesPages (evict_at p f h) b
    go None e = k
    go (Some v) e =
        let was : IsListed p f v = o.listed f v l e in
        let there = page_in p v f (o.named f v e) in
        local_coupled p (evict_at p f (Some v)) v f b b o (evict_local p f v o e) (beside_still p (evict_at p f (Some v)) v f b refl (λ g n. refl)) k
        (λ _. subst (KeepsBy (evict_at p f (Some v)) b v) (sym (put_state p v (left_state v (mark_of p v)) (mark_of p v) there))
        (left_keeps p b f v (mark_of p v) (put_mark p v (left_state v (mark_of p v)) (mark_of p v) there) was.clean (text_or p b v k)
        (λ i n h. subst (λ (x : Page). due_of_page p.due x ≡ None) (sym h) (k.text_due i n)) (keeps_at p b v (Invalid f) k there was.state)))

-- the fill of the first due page, and no other page's
pub due_other : (ds : List Due) (v w : Page) → w ≢ v → due_of_page (due_after ds v) w ≡ due_of_page ds w
due_other [] v w n = refl
due_other (d ∷ ds) v w n = go (same_page (due_page d) v) refl
  where
    miss : same_page (due_page d) v ≡ true → same_page (due_page d) w ≡ false
    miss e = no_page (same_page (due_page d) w) refl
      where
        no_page : (x : Bool) → same_page (due_page d) w ≡ x → x ≡ false
        no_page true h = absurd (n (sym (same_page_is (due_page d) w h) ∙ same_page_is (due_page d) v e))
        no_page false h = refl

    go : (x : Bool) → same_page (due_page d) v ≡ x → due_of_page (cond x ds (d ∷ ds)) w ≡ due_of_page (d ∷ ds) w
    go true e = sym (ap (λ (y : Bool). cond y (Some d) (due_of_page ds w)) (miss e))
    go false e = refl

due_text : (ds : List Due) (v w : Page) → due_of_page ds w ≡ None → due_of_page (due_after ds v) w ≡ None
due_text [] v w e = e
due_text (d ∷ ds) v w e = go (same_page (due_page d) v) (same_page (due_page d) w) refl
  where
    go : (x y : Bool) → same_page (due_page d) w ≡ y → due_of_page (cond x ds (d ∷ ds)) w ≡ None
    go false y h = e
    go true true h = absurd (let k : Some d ≡ None = sym (ap (λ (z : Bool). cond z (Some d) (due_of_page ds w)) h) ∙ e in cc)
    go true false h = sym (ap (λ (z : Bool). cond z (Some d) (due_of_page ds w)) h) ∙ e

writable_dirty : (v : Page) → IsWritable v → is_dirty_by v true ≡ true
writable_dirty (Text image n) w = absurd w
writable_dirty _ w = refl

-- The page takes the first free frame, which now has its bytes, and is no longer due.
pub filled_coupled : (p : Placement) (v : Page) (f : ℕ) (rest : List ℕ) (b : Bytes) (bytes : List ℕ) → OwnsFrames p → CanEnter p v → p.free ≡ f ∷ rest
    → length b.frames ≡ length p.holds → IsWritable v
    → bytes ≡ b.memory v → CouplesPages p b → CouplesPages (filled p v) (with_frame b f bytes)
filled_coupled p v f rest b bytes o c fr tokens w is k =
    let some : 0 < times f p.free = some_free p f rest fr in
    let t : Enters (evict p f) v f (Valid f) true p.transfers = fill_enters p v f rest o c fr in
    let r : EvictRest p (evict p f) = evict_rest p f in
    let q : Placement = record (enter (evict p f) v f (Valid f) true p.transfers) { due = due_after p.due v } in
    let l : Local (evict p f) q v f =
    let x : Local (evict p f) (enter (evict p f) v f (Valid f) true p.transfers) v f = enter_local (evict p f) v f (Valid f) true p.transfers (evict_owner p f o some) t in
    record {
      sizes = x.sizes;
      frames = x.frames;
      frame_in = x.frame_in;
      other_slots = x.other_slots;
      other_pages = x.other_pages;
      other_free = x.other_free;
      other_flying = x.other_flying;
      old_frame = x.old_frame;
      old_page = x.old_page;
    } in
    let sd : Beside (evict p f) q v f b (with_frame b f bytes) = record {
      frames = λ g n. at_set_other b.frames f g bytes [] n;
      swap = λ x n. refl;
      file = λ x. refl;
      start = λ x n. refl;
      memory = λ x n. refl;
      text = λ i n. refl;
      copied = inl (λ x. refl);
      due = λ x n. due_other p.due v x n ∙ ap (λ (ds : List Due). due_of_page ds x) (sym r.due);
      text_due = λ i n h. due_text p.due v (Text i n) (ap (λ (ds : List Due). due_of_page ds (Text i n)) (sym r.due) ∙ h);
      errands = λ g n. ap (λ (ts : List Transfer). errand_at (parts_of ts) g) (sym r.transfers);
    } in
    subst (λ (q : Placement). CouplesPages q (with_frame b f bytes)) (sym (ap (λ (l : List ℕ). record (fill_at p v l) { due = due_after p.due v }) fr))
    (local_coupled (evict p f) q v f b (with_frame b f bytes) (evict_owner p f o some) l sd (evict_coupled p f b o some k)
    (λ _. subst (KeepsBy q (with_frame b f bytes) v) (sym (put_state (evict p f) v (Valid f) true t.page_in))
    (record {
      here = at_set_same b.frames f bytes [] (o.frames f some).0 (let h = (o.frames f some).1 in omega arith) ∙ is;
      there = λ h. absurd (let j : is_dirty q v ≡ true = ap (is_dirty_by v) (put_mark (evict p f) v (Valid f) true t.page_in) ∙ writable_dirty v w in let i : true ≡ false = sym j ∙ h in cc);
    })))

from_file : (v : Page) (m : Bool) (demanded : Page) → IsUnsaved v m → (IsWritable v → v ≡ demanded) → IsFromFile v m demanded
from_file (Text image n) m demanded u h = u
from_file _ m demanded u h = h tt

coming_keeps : (p : Placement) (b : Bytes) (source : Source) (demanded v : Page) → CouplesPages p b → IsThere p v → ReadsFrom p source demanded v
    → KeepsComing b v (mark_of p v) (Some (Reads source demanded))
coming_keeps p b FromSwap demanded v k there h = keeps_at p b v OnSwap k there h
coming_keeps p b FromFile demanded v k there h =
    let u : KeepsUnfilled b v (due_of_page p.due v) (filling_of p v) × IsUnsaved v (mark_of p v) = keeps_at p b v Unfilled k there h.0 in
    (subst (λ (x : Filling). KeepsUnfilled b v None x) h.1 (subst (λ (d : Option Due). KeepsUnfilled b v d (filling_of p v)) h.2 u.0), from_file v (mark_of p v) demanded u.1 h.3)

pub get_coupled : (p : Placement) (source : Source) (demanded v : Page) (b : Bytes) → OwnsFrames p → CanEnter p v
    → IsOpen p.transfers (Reads source demanded) → ReadsFrom p source demanded v
    → CouplesPages p b → CouplesPages (get_one p (Reads source demanded) v) b
get_coupled p source demanded v b o c latest h k = go p.free refl
  where
    go : (fr : List ℕ) → p.free ≡ fr → CouplesPages (get_at p (Reads source demanded) v fr) b
    go [] e = k
    go (f ∷ rest) e =
        let x : Part = record { page = v; frame = f } in
        let some : 0 < times f p.free = some_free p f rest e in
        let t : Enters (evict p f) v f (Coming f) (mark_of p v) (join_last p.transfers (Reads source demanded) x) = get_enters p (Reads source demanded) v f rest o c latest refl e in
        let r : EvictRest p (evict p f) = evict_rest p f in
        let q : Placement = enter (evict p f) v f (Coming f) (mark_of p v) (join_last p.transfers (Reads source demanded) x) in
        local_coupled (evict p f) q v f b b (evict_owner p f o some) (enter_local (evict p f) v f (Coming f) (mark_of p v) (join_last p.transfers (Reads source demanded) x) (evict_owner p f o some) t)
        (beside_still (evict p f) q v f b refl (λ g n. ap (λ (ms : List Moving). errand_at ms g) (parts_join p.transfers (Reads source demanded) x latest)
        ∙ errand_push_other (parts_of p.transfers) (moving (Reads source demanded) x) g n ∙ ap (λ (ts : List Transfer). errand_at (parts_of ts) g) (sym r.transfers)))
        (evict_coupled p f b o some k)
        (λ _. subst (KeepsBy q b v) (sym (put_state (evict p f) v (Coming f) (mark_of p v) t.page_in))
        (subst (λ (m : Bool). KeepsComing b v m (errand_at (parts_of q.transfers) f)) (sym (put_mark (evict p f) v (Coming f) (mark_of p v) t.page_in))
        (subst (KeepsComing b v (mark_of p v)) (sym (ap (λ (ms : List Moving). errand_at ms f) (parts_join p.transfers (Reads source demanded) x latest)
        ∙ errand_push_same (parts_of p.transfers) (moving (Reads source demanded) x) (none_flying p f o some)))
        (coming_keeps p b source demanded v k c.there h))))

-- Moving on in a frame.

pub reclaim_coupled : (p : Placement) (v : Page) (b : Bytes) → OwnsFrames p → CouplesPages p b → CouplesPages (reclaim p v) b
reclaim_coupled p v b o k = go (state_of p v) refl
  where
    go : (s : PageState) → state_of p v ≡ s → CouplesPages (reclaim_to p v s) b
    go (Invalid f) e = let there = page_in p v f (ap frame_of e) in turn_coupled p v f (Valid f) (mark_of p v) (without f p.free) p.transfers b b o (reclaim_turns p v f o e)
        (beside_still p (turn p v (Valid f) (mark_of p v) (without f p.free) p.transfers) v f b refl (λ g n. refl)) k
        (marked p v f (Valid f) (mark_of p v) (without f p.free) p.transfers b there (keeps_at p b v (Invalid f) k there e))
    go Unfilled e = k
    go (Valid f) e = k
    go (Coming f) e = k
    go (Going f) e = k
    go OnSwap e = k

pub expire_coupled : (p : Placement) (locked : List Page) (b : Bytes) → OwnsFrames p → CouplesPages p b → CouplesPages (expire p locked) b
expire_coupled p locked b o k = go (page_of p p.front)
  where
    to : (v : Page) (s : PageState) → state_of p v ≡ s → CouplesPages (expire_to p v s) b
    to v (Valid f) e = let there = page_in p v f (ap frame_of e) in
        turn_coupled p v f (Invalid f) (mark_of p v) p.free p.transfers b b o (expire_turns p v f o e)
        (beside_still p (turn p v (Invalid f) (mark_of p v) p.free p.transfers) v f b refl (λ g n. refl)) k
        (marked p v f (Invalid f) (mark_of p v) p.free p.transfers b there (keeps_at p b v (Valid f) k there e))
    to v Unfilled e = k
    to v (Invalid f) e = k
    to v (Coming f) e = k
    to v (Going f) e = k
    to v OnSwap e = k

    at : (v : Page) (x : Bool) → CouplesPages (expire_if p v x) b
    at v true = k
    at v false = to v (state_of p v) refl

    go : (h : Option Page) → CouplesPages (expire_of p locked h) b
    go None = k
    go (Some v) = at v (is_among v locked)

-- a seated page is in its frame
pub seated_keeps : (p : Placement) (b : Bytes) (v : Page) (f : ℕ) → CouplesPages p b → IsSeated p v f → IsInFrame b (is_dirty p v) f v
seated_keeps p b v f k c = elim c.state [
  | inl e ↦ keeps_at p b v (Valid f) k (page_in p v f (ap frame_of e)) e
  | inr e ↦ keeps_at p b v (Invalid f) k (page_in p v f (ap frame_of e.0)) e.0
]

seated_there : (p : Placement) (v : Page) (f : ℕ) → IsSeated p v f → IsThere p v
seated_there p v f c = elim c.state [
  | inl e ↦ page_in p v f (ap frame_of e)
  | inr e ↦ page_in p v f (ap frame_of e.0)
]

saved_there : (b : Bytes) (v : Page) (m : Bool) → (is_dirty_by v m ≡ false → b.swap v ≡ b.memory v) → IfSaved b v m
saved_there b (Text image n) m h = λ e. h (ap not e)
saved_there b _ m h = tt

pub launch_coupled : (p : Placement) (v : Page) (f : ℕ) (b : Bytes) → OwnsFrames p → IsSeated p v f → IsOpen p.transfers Writes → CouplesPages p b
    → CouplesPages (launch p v) b
launch_coupled p v f b o c latest k =
    let x : Part = record { page = v; frame = f } in
    let there : CouplesPages (turn p v (Going f) (mark_of p v) p.free (join_last p.transfers Writes x)) b =
    turn_coupled p v f (Going f) (mark_of p v) p.free (join_last p.transfers Writes x) b b o (launch_turns p v f o c latest)
    (beside_still p (turn p v (Going f) (mark_of p v) p.free (join_last p.transfers Writes x)) v f b refl
    (λ g n. ap (λ (ms : List Moving). errand_at ms g) (parts_join p.transfers Writes x latest) ∙ errand_push_other (parts_of p.transfers) (moving Writes x) g n))
    k (let i : IsInFrame b (is_dirty p v) f v = seated_keeps p b v f k c in
    (i.here, subst (IfSaved b v) (sym (put_mark p v (Going f) (mark_of p v) (seated_there p v f c))) (saved_there b v (mark_of p v) i.there))) in
    elim c.state [
      | inl e ↦ subst (λ (s : PageState). CouplesPages (launch_to p v s) b) (sym e) there
      | inr e ↦ subst (λ (s : PageState). CouplesPages (launch_to p v s) b) (sym e.0) there
    ]

pub retire_coupled : (p : Placement) (v : Page) (f : ℕ) (b : Bytes) → OwnsFrames p → IsSeated p v f → is_marked_dirty v (mark_of p v) ≡ false
    → CouplesPages p b → CouplesPages (retire p v) b
retire_coupled p v f b o c clean k = elim c.state [
  | inl e ↦ subst (λ (s : PageState). CouplesPages (retire_to p v s) b) (sym e) there
  | inr e ↦ subst (λ (s : PageState). CouplesPages (retire_to p v s) b) (sym e.0) there
]
  where
    there : CouplesPages (turn p v (Invalid f) (mark_of p v) (p.free ++ f ∷ []) p.transfers) b
    there = turn_coupled p v f (Invalid f) (mark_of p v) (p.free ++ f ∷ []) p.transfers b b o (retire_turns p v f (mark_of p v) o c clean)
        (beside_still p (turn p v (Invalid f) (mark_of p v) (p.free ++ f ∷ []) p.transfers) v f b refl (λ g n. refl)) k
        (marked p v f (Invalid f) (mark_of p v) (p.free ++ f ∷ []) p.transfers b (seated_there p v f c) (seated_keeps p b v f k c))

-- The end of a transfer.

landing_errands : (p : Placement) (e : Errand) (x : Part) (rest : List Transfer) → Landing p e x rest → (g : ℕ) → g ≢ x.frame
    → errand_at (parts_of rest) g ≡ errand_at (parts_of p.transfers) g
landing_errands p e x rest l g n = sym (ap (λ (ms : List Moving). errand_at ms g) l.parts ∙ errand_tail (moving e x) (parts_of rest) g n)

landing_errand : (p : Placement) (e : Errand) (x : Part) (rest : List Transfer) → Landing p e x rest → errand_at (parts_of p.transfers) x.frame ≡ Some e
landing_errand p e x rest l = ap (λ (ms : List Moving). errand_at ms x.frame) l.parts ∙ errand_head (moving e x) (parts_of rest)

-- A page that was written: its blocks have the bytes of its frame.
pub land_write_coupled : (p : Placement) (x : Part) (rest : List Transfer) (b c : Bytes) → OwnsFrames p → Landing p Writes x rest
    → Stores b c x.page (bytes_in b x.frame) → CouplesPages p b → CouplesPages (land_then p Writes x rest) c
land_write_coupled p x rest b c o l st k =
    let there : IsThere p x.page = page_in p x.page x.frame (landing_frame p Writes x rest o l) in
    let was : bytes_in b x.frame ≡ b.memory x.page =
    let g : (bytes_in b x.frame ≡ b.memory x.page) × IfSaved b x.page (mark_of p x.page) = keeps_at p b x.page (Going x.frame) k there (landing_state p Writes x rest o l) in g.0 in
    turn_coupled p x.page x.frame (Invalid x.frame) (written_mark x.page) (p.free ++ x.frame ∷ []) rest b c o (tail_turns p Writes x rest (written_mark x.page) o l (written_clean x.page))
    (record {
      frames = λ g n. ap (λ (fs : List (List ℕ)). at_frame fs g []) st.frames;
      swap = st.others;
      file = st.file;
      start = λ w n. st.start w;
      memory = λ w n. st.memory w;
      text = λ i n. st.memory (Text i n);
      copied = inl st.memory;
      due = λ w n. refl;
      text_due = λ i n h. h;
      errands = landing_errands p Writes x rest l;
    }) k
    (marked p x.page x.frame (Invalid x.frame) (written_mark x.page) (p.free ++ x.frame ∷ []) rest c there
    (record { here = ap (λ (fs : List (List ℕ)). at_frame fs x.frame []) st.frames ∙ was ∙ sym (st.memory x.page); there = λ h. st.own ∙ was ∙ sym (st.memory x.page) }))

came : (b : Bytes) (source : Source) (demanded v : Page) (m : Bool) → KeepsComing b v m (Some (Reads source demanded)) → source_bytes b source v ≡ b.memory v
came b FromSwap demanded v m k = k
came b FromFile demanded v m k = k.0

-- a page that is demanded is stored, or dirty from now on
arrived_there : (b : Bytes) (source : Source) (demanded v : Page) (m : Bool) → KeepsComing b v m (Some (Reads source demanded))
    → is_dirty_by v (arrived_mark source v m) ≡ false → b.swap v ≡ b.memory v
arrived_there b FromSwap demanded v m k e = k
arrived_there b FromFile demanded (Data sid n) m k e = absurd cc
arrived_there b FromFile demanded (Stack sid n) m k e = absurd cc
arrived_there b FromFile demanded (Text image n) m k e = absurd (let h : true ≡ false = ap not (sym k.1) ∙ e in cc)

-- a neighbour is stored, or is text that isn't saved
beside_there : (b : Bytes) (source : Source) (demanded v : Page) (m : Bool) → v ≢ demanded → KeepsComing b v m (Some (Reads source demanded))
    → is_dirty_by v m ≡ false → b.swap v ≡ b.memory v
beside_there b FromSwap demanded v m n k e = k
beside_there b FromFile demanded (Data sid x) m n k e = absurd (n k.1)
beside_there b FromFile demanded (Stack sid x) m n k e = absurd (n k.1)
beside_there b FromFile demanded (Text image x) m n k e = absurd (let h : true ≡ false = ap not (sym k.1) ∙ e in cc)

-- A page that was read: its frame has the bytes of its blocks, or of its file.
pub land_read_coupled : (p : Placement) (source : Source) (demanded : Page) (x : Part) (rest : List Transfer) (b : Bytes) → OwnsFrames p
    → Landing p (Reads source demanded) x rest → length b.frames ≡ length p.holds
    → CouplesPages p b → CouplesPages (land_then p (Reads source demanded) x rest) (with_frame b x.frame (source_bytes b source x.page))
land_read_coupled p source demanded x rest b o l tokens k = go (same_page x.page demanded) refl
  where
    frame : IsFrame p x.frame
    frame = frame_in p x.page x.frame (o.names x.page x.frame (landing_frame p (Reads source demanded) x rest o l))

    there : IsThere p x.page
    there = page_in p x.page x.frame (landing_frame p (Reads source demanded) x rest o l)

    c : Bytes
    c = with_frame b x.frame (source_bytes b source x.page)

    was : KeepsComing b x.page (mark_of p x.page) (Some (Reads source demanded))
    was = subst (KeepsComing b x.page (mark_of p x.page)) (landing_errand p (Reads source demanded) x rest l)
        (keeps_at p b x.page (Coming x.frame) k there (landing_state p (Reads source demanded) x rest o l))

    here : bytes_in c x.frame ≡ c.memory x.page
    here = at_set_same b.frames x.frame (source_bytes b source x.page) [] frame.0 (let h = frame.1 in omega arith) ∙ came b source demanded x.page (mark_of p x.page) was

    apart : same_page x.page demanded ≡ false → x.page ≢ demanded
    apart e h = absurd (let i : true ≡ false = sym (Rattle.page_model.proofs.PageNames.same_page_self demanded) ∙ ap (λ (w : Page). same_page w demanded) (sym h) ∙ e in cc)

    go : (d : Bool) → same_page x.page demanded ≡ d → CouplesPages (land_read_then p source x rest d) c
    go true e = turn_coupled p x.page x.frame (Valid x.frame) (arrived_mark source x.page (mark_of p x.page)) p.free rest b c o
        (valid_turns p (Reads source demanded) x rest (arrived_mark source x.page (mark_of p x.page)) o l)
        (beside_frame p (turn p x.page (Valid x.frame) (arrived_mark source x.page (mark_of p x.page)) p.free rest) x.page x.frame b (source_bytes b source x.page) refl
        (landing_errands p (Reads source demanded) x rest l)) k
        (marked p x.page x.frame (Valid x.frame) (arrived_mark source x.page (mark_of p x.page)) p.free rest c there
        (record { here = here; there = λ h. arrived_there b source demanded x.page (mark_of p x.page) was h }))
    go false e = turn_coupled p x.page x.frame (Invalid x.frame) (mark_of p x.page) (p.free ++ x.frame ∷ []) rest b c o
        (tail_turns p (Reads source demanded) x rest (mark_of p x.page) o l (coming_clean p x.page x.frame o (landing_state p (Reads source demanded) x rest o l)))
        (beside_frame p (turn p x.page (Invalid x.frame) (mark_of p x.page) (p.free ++ x.frame ∷ []) rest) x.page x.frame b (source_bytes b source x.page) refl
        (landing_errands p (Reads source demanded) x rest l)) k
        (marked p x.page x.frame (Invalid x.frame) (mark_of p x.page) (p.free ++ x.frame ∷ []) rest c there
        (record { here = here; there = λ h. beside_there b source demanded x.page (mark_of p x.page) (apart e) was h }))

-- A user write.

pub touch_coupled : (p : Placement) (v : Page) (f : ℕ) (b c : Bytes) (bytes : List ℕ) → OwnsFrames p → state_of p v ≡ Valid f → IsWritable v
    → p.due ≡ [] → length b.frames ≡ length p.holds
    → WritesBoth b c v f bytes → CouplesPages p b → CouplesPages (touch p v) c
touch_coupled p v f b c bytes o e w due tokens wr k = go v w refl
  where
    frame : IsFrame p f
    frame = frame_in p v f (o.names v f (ap frame_of e))

    text_apart : (u : Page) → IsWritable u → (i n : ℕ) → Text i n ≢ u
    text_apart (Data sid m) u i n h = absurd cc
    text_apart (Stack sid m) u i n h = absurd cc
    text_apart (Text image m) u i n h = absurd u

    turned : CouplesPages (turn p v (Valid f) true p.free p.transfers) c
    turned = turn_coupled p v f (Valid f) true p.free p.transfers b c o (touch_turns p v f o e)
        (record {
          frames = λ g n. ap (λ (fs : List (List ℕ)). at_frame fs g []) wr.frames ∙ at_set_other b.frames f g bytes [] n;
          swap = λ u n. wr.swap u;
          file = wr.file;
          start = λ u n. wr.start u;
          memory = wr.others;
          text = λ i n. wr.others (Text i n) (text_apart v w i n);
          copied = inr due;
          due = λ u n. refl;
          text_due = λ i n h. h;
          errands = λ g n. refl;
        }) k
        (marked p v f (Valid f) true p.free p.transfers c (page_in p v f (ap frame_of e))
        (record {
          here = ap (λ (fs : List (List ℕ)). at_frame fs f []) wr.frames ∙ at_set_same b.frames f bytes [] frame.0 (let h = frame.1 in omega arith) ∙ sym wr.own;
          there = λ h. absurd (let i : true ≡ false = sym (writable_dirty v w) ∙ h in cc);
        }))

    go : (u : Page) → IsWritable u → v ≡ u → CouplesPages (touch p v) c
    go (Data sid n) u h = subst (λ (s : PageState). CouplesPages (touch_to p v s) c) (sym e)
        (subst (λ (x : Page). CouplesPages (touch_to p x (Valid f)) c) (sym h) (subst (λ (x : Page). CouplesPages (turn p x (Valid f) true p.free p.transfers) c) h turned))
    go (Stack sid n) u h = subst (λ (s : PageState). CouplesPages (touch_to p v s) c) (sym e)
        (subst (λ (x : Page). CouplesPages (touch_to p x (Valid f)) c) (sym h) (subst (λ (x : Page). CouplesPages (turn p x (Valid f) true p.free p.transfers) c) h turned))
    go (Text image n) u h = absurd u
