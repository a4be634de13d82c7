-- Reads and writes of several pages, their beginning and their end, keep the ownership of frames.
use Rattle.std.proofs.Common.{◌≡◌, ◌≢◌, inl, inr, ℕ, ◌+◌, ◌==◌, Bool, true, false, List, [], ◌∷◌, ◌++◌, Some, refl, sym, ap, ◌∙◌, subst, arith}
use Rattle.std.proofs.lemmas.Bool.Decides.{nat_tests}
use Rattle.vm_facts.specs.declared.page.Page.{Page}
use Rattle.vm_facts.specs.declared.page.Page.TheVariants.{Data, Text}
use Rattle.vm_facts.specs.declared.page.PageState.{PageState}
use Rattle.vm_facts.specs.declared.page.PageState.TheVariants.{Unfilled, Valid, Invalid, Coming, Going, OnSwap}
use Rattle.page_model.specs.Pages.{Slot, frame_of, written_mark, is_dirty_by}
use Rattle.page_model.specs.PageNames.{same_page}
use Rattle.vm_facts.specs.Lists.{times}
use Rattle.page_model.specs.Placement.{Placement, Transfer, Part, Moving, Errand, Writes, Reads, Source, moving, state_of, mark_of, is_dirty, parts_of, flying, moving_state, put}
use Rattle.page_model.specs.Moves.{evict, turn, get_run, launch_run, arrived_mark, done}
use Rattle.page_model.specs.Steps.{land_then, land_read_then, land_all_then, begin, join_last, get_one, get_at, get_all, launch, launch_to, launch_all}
use Rattle.page_model.specs.Runs.{is_idle, is_idle_by, is_seated, is_seated_by}
use Rattle.page_model.specs.Place.{put_step, put_by}
use Rattle.page_model.specs.Ownership.{OwnsFrames, Each, IsMoving, IsListed, is_marked_dirty, may_be_dirty, seated}
use Rattle.page_model.specs.Conditions.{EachPage, AllApart, CanEnter, IsSeated, HasSeat}
use Rattle.page_laws.proofs.Lists.Frames.{times_one, times_one_other}
use Rattle.vm_facts.proofs.Lists.{times-append, times_head, times_other}
use Rattle.page_laws.proofs.Lists.Pages.{put_length}
use Rattle.page_laws.proofs.Lists.Parts.{IsOpen, begin_open, join_open, parts_begin, all_absent}
use Rattle.std.proofs.lemmas.Option.{same_Some}
use Rattle.page_laws.proofs.Moves.InSteps.{get_steps, launch_steps, done_cases}
use Rattle.page_laws.proofs.Moves.Steps.{Turns, turn_owner, once_at, put_other_state, frame_of_moving, evict_other, EvictRest, evict_rest}
use Rattle.page_laws.proofs.Ownership.Pages.{get_owner, launch_owner, retire_owner}
use Rattle.page_laws.proofs.Lists.Runs.{each_page_imp, each_page_both}

-- other transfers with the same pages
pub same_parts_owner : (p : Placement) (ts : List Transfer) → OwnsFrames p → parts_of ts ≡ parts_of p.transfers → OwnsFrames (record p { transfers = ts })
same_parts_owner p ts o e = record {
  once = λ f b. subst (λ (ms : List Moving). times f p.free + times f (flying ms) + seated p f ≡ 1) (sym e) (o.once f b);
  frames = o.frames;
  names = o.names;
  named = o.named;
  listed = λ f q b h. let k : IsListed p f q = o.listed f q b h in record { state = k.state; clean = k.clean };
  moves = subst (Each (IsMoving p)) (sym e) o.moves;
  dirty = o.dirty;
}

pub begin_owner : (p : Placement) (e : Errand) → OwnsFrames p → OwnsFrames (begin p e)
begin_owner p e o = same_parts_owner p (p.transfers ++ record { errand = e; parts = [] } ∷ []) o (parts_begin p.transfers e)

-- Reads.

pub get_enters_still : (p : Placement) (e : Errand) (v w : Page) → OwnsFrames p → w ≢ v → CanEnter p w → CanEnter (get_one p e v) w
get_enters_still p e v w o n c = go p.free
  where
    go : (fr : List ℕ) → CanEnter (get_at p e v fr) w
    go [] = c
    go (f ∷ rest) =
        let r : EvictRest p (evict p f) = evict_rest p f in
        record {
          there = let a = put_length (evict p f) v (Coming f) (mark_of p v) w in let b = r.sizes w in let h = c.there in omega arith;
          frameless = ap frame_of (put_other_state (evict p f) v (Coming f) (mark_of p v) w n) ∙ ap (λ (x : Slot). frame_of x.state) (evict_other p f w o c.frameless) ∙ c.frameless;
        }

pub get_open_still : (p : Placement) (e : Errand) (v : Page) → IsOpen p.transfers e → IsOpen (get_one p e v).transfers e
get_open_still p e v latest = go p.free
  where
    go : (fr : List ℕ) → IsOpen (get_at p e v fr).transfers e
    go [] = latest
    go (f ∷ rest) = join_open p.transfers e (record { page = v; frame = f }) latest

pub get_all_owner : (qs : List Page) (p : Placement) (source : Source) (demanded : Page) → OwnsFrames p → EachPage (CanEnter p) qs → AllApart qs
    → IsOpen p.transfers (Reads source demanded)
    → OwnsFrames (get_all p (Reads source demanded) qs)
get_all_owner [] p source demanded o c a latest = o
get_all_owner (v ∷ qs) p source demanded o c a latest =
    get_all_owner qs (get_one p (Reads source demanded) v) source demanded (get_owner p source demanded v o c.0 latest)
    (each_page_both (CanEnter p) (λ r. r ≢ v) (CanEnter (get_one p (Reads source demanded) v)) qs c.1 a.0 (λ w h n. get_enters_still p (Reads source demanded) v w o n h))
    a.1 (get_open_still p (Reads source demanded) v latest)

pub get_run_owner : (p : Placement) (source : Source) (demanded : Page) (qs : List Page) → OwnsFrames p → EachPage (CanEnter p) qs → AllApart qs
    → OwnsFrames (get_run p (Reads source demanded) qs)
get_run_owner p source demanded qs o c a =
    subst OwnsFrames (get_steps p (Reads source demanded) qs) (get_all_owner qs (begin p (Reads source demanded)) source demanded (begin_owner p (Reads source demanded) o)
    (each_page_imp (CanEnter p) (CanEnter (begin p (Reads source demanded))) qs c (λ q h. record { there = h.there; frameless = h.frameless })) a
    (begin_open p.transfers (Reads source demanded)))

-- Writes.

launch_is : (p : Placement) (v : Page) (c : HasSeat p v)
    → launch p v ≡ turn p v (Going c.frame) (mark_of p v) p.free (join_last p.transfers Writes (record { page = v; frame = c.frame }))
launch_is p v c = let k : IsSeated p v c.frame = c.seat in elim k.state [
  | inl e ↦ ap (launch_to p v) e
  | inr e ↦ ap (launch_to p v) e.0
]

pub launch_still : (p : Placement) (v w : Page) → HasSeat p v → w ≢ v → HasSeat p w → HasSeat (launch p v) w
launch_still p v w c n h = subst (λ (q : Placement). HasSeat q w) (sym (launch_is p v c)) (record {
  frame = h.frame;
  seat = record {
    state = let k : IsSeated p w h.frame = h.seat in elim k.state [
      | inl e ↦ inl (put_other_state p v (Going c.frame) (mark_of p v) w n ∙ e)
      | inr e ↦ inr (put_other_state p v (Going c.frame) (mark_of p v) w n ∙ e.0, e.1)
    ];
  };
})

pub launch_open_still : (p : Placement) (v : Page) → HasSeat p v → IsOpen p.transfers Writes → IsOpen (launch p v).transfers Writes
launch_open_still p v c latest = subst (λ (q : Placement). IsOpen q.transfers Writes) (sym (launch_is p v c)) (join_open p.transfers Writes (record { page = v; frame = c.frame }) latest)

pub launch_all_owner : (qs : List Page) (p : Placement) → OwnsFrames p → EachPage (HasSeat p) qs → AllApart qs → IsOpen p.transfers Writes
    → OwnsFrames (launch_all p qs)
launch_all_owner [] p o c a latest = o
launch_all_owner (v ∷ qs) p o c a latest =
    let h : HasSeat p v = c.0 in
    launch_all_owner qs (launch p v) (launch_owner p v h.frame o h.seat latest)
    (each_page_both (HasSeat p) (λ r. r ≢ v) (HasSeat (launch p v)) qs c.1 a.0 (λ w k n. launch_still p v w h n k)) a.1 (launch_open_still p v h latest)

pub launch_run_owner : (p : Placement) (qs : List Page) → OwnsFrames p → EachPage (HasSeat p) qs → AllApart qs → OwnsFrames (launch_run p qs)
launch_run_owner p qs o c a =
    subst OwnsFrames (launch_steps p qs) (launch_all_owner qs (begin p Writes) (begin_owner p Writes o)
    (each_page_imp (HasSeat p) (HasSeat (begin p Writes)) qs c (λ q h. record { frame = h.frame; seat = record { state = let k : IsSeated p q h.frame = h.seat in k.state } })) a
    (begin_open p.transfers Writes))

-- what the tests of the runs say
zero_is : (n : ℕ) → (n == 0) ≡ true → n ≡ 0
zero_is n e = grind (arith, nat_tests)

pub idle_seat : (p : Placement) (v : Page) → is_idle p v ≡ true → HasSeat p v
idle_seat p v e = go (state_of p v) refl e
  where
    go : (s : PageState) → state_of p v ≡ s → is_idle_by p s ≡ true → HasSeat p v
    go (Invalid f) h k = record { frame = f; seat = record { state = inr (h, zero_is (times f p.free) k) } }
    go Unfilled h k = absurd cc
    go (Valid f) h k = absurd cc
    go (Coming f) h k = absurd cc
    go (Going f) h k = absurd cc
    go OnSwap h k = absurd cc

pub seated_seat : (p : Placement) (v : Page) → is_seated p v ≡ true → HasSeat p v
seated_seat p v e = go (state_of p v) refl e
  where
    go : (s : PageState) → state_of p v ≡ s → is_seated_by p s ≡ true → HasSeat p v
    go (Valid f) h k = record { frame = f; seat = record { state = inl h } }
    go (Invalid f) h k = record { frame = f; seat = record { state = inr (h, zero_is (times f p.free) k) } }
    go Unfilled h k = absurd cc
    go (Coming f) h k = absurd cc
    go (Going f) h k = absurd cc
    go OnSwap h k = absurd cc

pub clean_unmarked : (v : Page) (m : Bool) → is_dirty_by v m ≡ false → is_marked_dirty v m ≡ false
clean_unmarked (Text image n) m e = refl
clean_unmarked _ m e = e

-- `Put`
pub put_step_owner : (p : Placement) (v : Page) (qs : List Page) → OwnsFrames p → HasSeat p v → EachPage (HasSeat p) qs → AllApart qs
    → OwnsFrames (put_step p v qs)
put_step_owner p v qs o c cs a = go (is_dirty p v) refl
  where
    go : (d : Bool) → is_dirty p v ≡ d → OwnsFrames (put_by p v qs d)
    go true e = launch_run_owner p qs o cs a
    go false e = retire_owner p v c.frame o c.seat (clean_unmarked v (mark_of p v) e)

-- The end of a transfer.

module _ (p : Placement) (e : Errand) (x : Part) (rest : List Transfer) where
  -- the oldest transfer lands its next page
  pub record Landing : Type 0 where
    pub parts : parts_of p.transfers ≡ moving e x ∷ parts_of rest

  landing_moves : OwnsFrames p → Landing → Each (IsMoving p) (moving e x ∷ parts_of rest)
  landing_moves o l = subst (Each (IsMoving p)) l.parts o.moves

  pub landing_state : OwnsFrames p → Landing → state_of p x.page ≡ moving_state e x.frame
  landing_state o l = (landing_moves o l).0

  pub landing_frame : OwnsFrames p → Landing → frame_of (state_of p x.page) ≡ Some x.frame
  landing_frame o l = ap frame_of (landing_state o l) ∙ frame_of_moving e x.frame

  -- its frame is in no other transfer, and off the free list
  pub landing_alone : OwnsFrames p → Landing → (times x.frame p.free ≡ 0) × (times x.frame (flying (parts_of rest)) ≡ 0)
  landing_alone o l =
      let a = once_at p x.page x.frame o (landing_frame o l) in
      let b : times x.frame (flying (parts_of p.transfers)) ≡ 1 + times x.frame (flying (parts_of rest)) =
      ap (λ (ms : List Moving). times x.frame (flying ms)) l.parts ∙ times_head x.frame (flying (parts_of rest)) in
      (omega arith, omega arith)

  land_moves : (s : PageState) (m : Bool) → OwnsFrames p → Landing → Each (IsMoving (put p x.page s m)) (parts_of rest)
  land_moves s m o l = all_absent (IsMoving p) (IsMoving (put p x.page s m)) x.frame (parts_of rest) (landing_alone o l).1 (landing_moves o l).1
      (λ y n k. put_other_state p x.page s m y.page
      (λ h. n (same_Some y.frame x.frame (sym (frame_of_moving y.errand y.frame) ∙ ap frame_of (sym k) ∙ ap (λ (w : Page). frame_of (state_of p w)) h ∙ landing_frame o l))) ∙ k)

  other_landing : Landing → (g : ℕ) → g ≢ x.frame → times g (flying (parts_of rest)) ≡ times g (flying (parts_of p.transfers))
  other_landing l g n = sym (ap (λ (ms : List Moving). times g (flying ms)) l.parts ∙ times_other g x.frame (flying (parts_of rest)) (λ i. n (sym i)))

  -- a page that lands goes to the tail of the free list
  pub tail_turns : (m : Bool) → OwnsFrames p → Landing
      → is_marked_dirty x.page m ≡ false → Turns p x.page x.frame (Invalid x.frame) m (p.free ++ x.frame ∷ []) rest
  tail_turns m o l clean = record {
    from = landing_frame o l;
    to = refl;
    other_free = λ g n. let h = times-append g p.free (x.frame ∷ []) in let k = times_one_other x.frame g n in omega arith;
    other_flying = other_landing l;
    once = let h = times-append x.frame p.free (x.frame ∷ []) in let k = times_one x.frame in let z = landing_alone o l in omega (arith, z.0, z.1);
    listed = λ b. (refl, clean);
    dirty = λ h. refl;
    moves = land_moves (Invalid x.frame) m o l;
  }

  -- a page that lands is valid
  pub valid_turns : (m : Bool) → OwnsFrames p → Landing → Turns p x.page x.frame (Valid x.frame) m p.free rest
  valid_turns m o l = record {
    from = landing_frame o l;
    to = refl;
    other_free = λ g n. refl;
    other_flying = other_landing l;
    once = let z = landing_alone o l in omega (arith, z.0, z.1);
    listed = λ b. absurd (let z = landing_alone o l in omega (arith, z.0));
    dirty = λ h. refl;
    moves = land_moves (Valid x.frame) m o l;
  }

pub written_clean : (v : Page) → is_marked_dirty v (written_mark v) ≡ false
written_clean (Data sid n) = refl
written_clean _ = refl

-- a page that is being read isn't dirty
pub coming_clean : (p : Placement) (v : Page) (f : ℕ) → OwnsFrames p → state_of p v ≡ Coming f → is_marked_dirty v (mark_of p v) ≡ false
coming_clean p v f o e = go (is_marked_dirty v (mark_of p v)) refl
  where
    go : (d : Bool) → is_marked_dirty v (mark_of p v) ≡ d → d ≡ false
    go true k = absurd (let a : true ≡ false = sym (o.dirty v k) ∙ ap may_be_dirty e in cc)
    go false k = refl

pub land_owner : (p : Placement) (e : Errand) (x : Part) (rest : List Transfer) → OwnsFrames p → Landing p e x rest → OwnsFrames (land_then p e x rest)
land_owner p Writes x rest o l =
    turn_owner p x.page x.frame (Invalid x.frame) (written_mark x.page) (p.free ++ x.frame ∷ []) rest o (tail_turns p Writes x rest (written_mark x.page) o l (written_clean x.page))
land_owner p (Reads source demanded) x rest o l = go (same_page x.page demanded)
  where
    go : (b : Bool) → OwnsFrames (land_read_then p source x rest b)
    go true = turn_owner p x.page x.frame (Valid x.frame) (arrived_mark source x.page (mark_of p x.page)) p.free rest o
        (valid_turns p (Reads source demanded) x rest (arrived_mark source x.page (mark_of p x.page)) o l)
    go false = turn_owner p x.page x.frame (Invalid x.frame) (mark_of p x.page) (p.free ++ x.frame ∷ []) rest o
        (tail_turns p (Reads source demanded) x rest (mark_of p x.page) o l (coming_clean p x.page x.frame o (landing_state p (Reads source demanded) x rest o l)))

pub land_transfers : (p : Placement) (e : Errand) (x : Part) (rest : List Transfer) → (land_then p e x rest).transfers ≡ rest
land_transfers p Writes x rest = refl
land_transfers p (Reads source demanded) x rest = go (same_page x.page demanded)
  where
    go : (b : Bool) → (land_read_then p source x rest b).transfers ≡ rest
    go true = refl
    go false = refl

pub land_all_owner : (xs : List Part) (p : Placement) (e : Errand) (ts : List Transfer) → OwnsFrames p
    → p.transfers ≡ record { errand = e; parts = xs } ∷ ts → OwnsFrames (land_all_then p e xs ts)
land_all_owner [] p e ts o h = same_parts_owner p ts o (sym (ap parts_of h))
land_all_owner (x ∷ xs) p e ts o h = land_all_owner xs (land_then p e x (record { errand = e; parts = xs } ∷ ts)) e ts
    (land_owner p e x (record { errand = e; parts = xs } ∷ ts) o (record { parts = ap parts_of h }))
    (land_transfers p e x (record { errand = e; parts = xs } ∷ ts))

pub done_owner : (p : Placement) → OwnsFrames p → OwnsFrames (done p)
done_owner p o = done_cases OwnsFrames p o (λ t ts e. land_all_owner t.parts p t.errand ts o e)
