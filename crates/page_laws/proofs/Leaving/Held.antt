-- A page that must be written keeps its frame through each paging entry, till its write completes.
use Rattle.std.proofs.Common.{◌≡◌, ◌≢◌, ◌⊎◌, inl, inr, ℕ, zero, suc, ◌<◌, Bool, true, false, List, [], ◌∷◌, ◌++◌, Option, Some, None, refl, sym, ap, ◌∙◌, subst, arith}
use Rattle.std.proofs.lemmas.Bool.{cases_eq}
use Rattle.vm_facts.specs.declared.page.Page.{Page}
use Rattle.vm_facts.specs.declared.page.Page.TheVariants.{Data}
use Rattle.vm_facts.specs.declared.page.PageState.{PageState}
use Rattle.vm_facts.specs.declared.page.PageState.TheVariants.{Unfilled, Valid, Invalid, Coming, Going, OnSwap}
use Rattle.vm_facts.specs.declared.entry.Entry.{Entry}
use Rattle.vm_facts.specs.declared.entry.Entry.TheVariants as entries
use Rattle.page_model.specs.PageNames.{number_of, pages_from, is_among, same_page}
use Rattle.page_model.specs.Pages.{Slot, frame_of, is_dirty_by, left_state, written_mark}
use Rattle.vm_facts.specs.Lists.{times, without}
use Rattle.page_model.specs.Placement.{Placement, Transfer, Part, Errand, Writes, Reads, Source, moving_state, slot_of, state_of, mark_of, is_dirty, page_of, parts_of}
use Rattle.page_model.specs.Moves.{evict, evict_at, fill, fill_at, turn}
use Rattle.page_model.specs.Moves.{launch_run, arrived_mark, done, reclaim, reclaim_to, retire, retire_to}
use Rattle.page_model.specs.Steps.{land_then, land_read_then, land_all_then, begin, get_one, get_at, get_all, join_last, launch, launch_to, launch_all}
use Rattle.page_model.specs.Runs.{pages_of_run, run_out}
use Rattle.page_model.specs.Hands.{expire, expire_of, expire_if, expire_to, sweep, hand_move, hand_moves}
use Rattle.page_model.specs.Place.{put_step, put_by, place_entry}
use Rattle.page_model.specs.Reading.{source_for, read_errand}
use Rattle.page_model.specs.Conditions.{EachPage, CanPlace}
use Rattle.page_model.specs.Ownership.{OwnsFrames, IsListed, seats}
use Rattle.page_laws.specs.Leaving.{IsUnwritten, IsWritten}
use Rattle.page_laws.proofs.Lists.Frames.{times_one_other, some_free}
use Rattle.vm_facts.proofs.Lists.{times-append, times-without_same, times-without_other}
use Rattle.std.proofs.lemmas.Option.{same_Some}
use Rattle.page_laws.proofs.Lists.Pages.{page_cases, put_state, put_mark, put_other}
use Rattle.page_laws.proofs.Moves.InSteps.{get_steps, launch_steps, done_cases}
use Rattle.page_laws.proofs.Moves.Steps.{page_in, once_at}
use Rattle.page_laws.proofs.Ownership.Pages.{expire_owner}
use Rattle.page_laws.proofs.Ownership.Hands.{move_owner}
use Rattle.page_laws.proofs.Ownership.Runs.{Landing, landing_state, landing_frame, land_owner, land_transfers}
use Rattle.page_laws.proofs.Leaving.Entries.{CanReadAll, reads_on, reading, enters_other, entering_others}
use Rattle.page_laws.proofs.Moves.Taken.{sweep_cases}

pub held_frame : (p : Placement) (w : Page) (f : ℕ) → IsUnwritten p w f → frame_of (state_of p w) ≡ Some f
held_frame p w f u = elim u.held [
  | inl e ↦ ap frame_of e
  | inr e ↦ elim e [
    | inl h ↦ ap frame_of h.0
    | inr h ↦ ap frame_of h
  ]
]

-- the page's slot stays, and its frame doesn't come onto the free list
still : (p q : Placement) (w : Page) (f : ℕ) → slot_of q w ≡ slot_of p w → (times f p.free ≡ 0 → times f q.free ≡ 0) → IsUnwritten p w f → IsUnwritten q w f
still p q w f e z u =
    let s : state_of q w ≡ state_of p w = ap (λ (x : Slot). x.state) e in
    record {
      dirty = ap (λ (x : Slot). is_dirty_by w x.mark) e ∙ u.dirty;
      held = elim u.held [
        | inl h ↦ inl (s ∙ h)
        | inr h ↦ elim h [
          | inl k ↦ inr (inl (s ∙ k.0, z k.1))
          | inr k ↦ inr (inr (s ∙ k))
        ]
      ];
    }

-- it isn't the page of a free frame
not_listed : (p : Placement) (w : Page) (f : ℕ) → OwnsFrames p → IsUnwritten p w f → 0 < times f p.free → ⊥
not_listed p w f o u l =
    let k : IsListed p f w = o.listed f w l (o.names w f (held_frame p w f u)) in
    elim u.held [
      | inl e ↦ absurd (let z : Valid f ≡ Invalid f = sym e ∙ k.state in cc)
      | inr e ↦ elim e [
        | inl h ↦ absurd (let z = h.1 in omega arith)
        | inr h ↦ absurd (let z : Going f ≡ Invalid f = sym h ∙ k.state in cc)
      ]
    ]

-- Frames that are taken.

evict_free : (p : Placement) (g : ℕ) → (evict p g).free ≡ p.free
evict_free p g = at (page_of p g)
  where
    at : (x : Option Page) → (evict_at p g x).free ≡ p.free
    at None = refl
    at (Some y) = refl

evict_held : (p : Placement) (g : ℕ) (w : Page) (f : ℕ) → OwnsFrames p → 0 < times g p.free → IsUnwritten p w f → slot_of (evict p g) w ≡ slot_of p w
evict_held p g w f o l u = go (page_of p g) refl
  where
    go : (h : Option Page) → page_of p g ≡ h → slot_of (evict p g) w ≡ slot_of p w
    go None h = ap (λ (x : Option Page). slot_of (evict_at p g x) w) h
    go (Some v) h = elim (page_cases w v) [
      | inl s ↦ absurd (
          let at : page_of p g ≡ Some w = h ∙ ap (λ (x : Page). Some x) (sym s) in
          let same : g ≡ f = same_Some g f (sym (o.named g w at) ∙ held_frame p w f u) in
          not_listed p w f o u (subst (λ (x : ℕ). 0 < times x p.free) same l))
      | inr n ↦ ap (λ (x : Option Page). slot_of (evict_at p g x) w) h ∙ put_other p v (left_state v (mark_of p v)) (mark_of p v) w n
    ]

without_none : (f g : ℕ) (xs : List ℕ) → times f xs ≡ 0 → times f (without g xs) ≡ 0
without_none f g xs z = elim (cases_eq f g) [
  | inl e ↦ ap (λ (x : ℕ). times x (without g xs)) e ∙ times-without_same g xs
  | inr n ↦ times-without_other g f xs n ∙ z
]

tail_none : (f g : ℕ) (xs : List ℕ) → f ≢ g → times f xs ≡ 0 → times f (xs ++ g ∷ []) ≡ 0
tail_none f g xs n z = let a = times-append f xs (g ∷ []) in let b = times_one_other g f n in omega arith

fill_held : (p : Placement) (v w : Page) (f : ℕ) → OwnsFrames p → w ≢ v → IsUnwritten p w f → IsUnwritten (fill p v) w f
fill_held p v w f o n u = go p.free refl
  where
    go : (fr : List ℕ) → p.free ≡ fr → IsUnwritten (fill_at p v fr) w f
    go [] h = u
    go (g ∷ rest) h = still p (fill_at p v (g ∷ rest)) w f (put_other (evict p g) v (Valid g) true w n ∙ evict_held p g w f o (some_free p g rest h) u)
        (λ z. without_none f g (evict p g).free (ap (times f) (evict_free p g) ∙ z)) u

get_held : (p : Placement) (e : Errand) (v w : Page) (f : ℕ) → OwnsFrames p → w ≢ v → IsUnwritten p w f → IsUnwritten (get_one p e v) w f
get_held p e v w f o n u = go p.free refl
  where
    go : (fr : List ℕ) → p.free ≡ fr → IsUnwritten (get_at p e v fr) w f
    go [] h = u
    go (g ∷ rest) h = still p (get_at p e v (g ∷ rest)) w f (put_other (evict p g) v (Coming g) (mark_of p v) w n ∙ evict_held p g w f o (some_free p g rest h) u)
        (λ z. without_none f g (evict p g).free (ap (times f) (evict_free p g) ∙ z)) u

get_all_held : (qs : List Page) (p : Placement) (source : Source) (demanded w : Page) (f : ℕ) → CanReadAll qs p source demanded
    → EachPage (λ r. w ≢ r) qs → IsUnwritten p w f → IsUnwritten (get_all p (Reads source demanded) qs) w f
get_all_held [] p source demanded w f r n u = u
get_all_held (v ∷ qs) p source demanded w f r n u =
    get_all_held qs (get_one p (Reads source demanded) v) source demanded w f (reads_on v qs p source demanded r) n.1 (get_held p (Reads source demanded) v w f r.owns n.0 u)

-- Pages that move on with their frames.

-- another page has another frame
other_frame : (p : Placement) (v w : Page) (g f : ℕ) → OwnsFrames p → w ≢ v → frame_of (state_of p v) ≡ Some g → frame_of (state_of p w) ≡ Some f → f ≢ g
other_frame p v w g f o n e h s = n (same_Some w v (sym (o.names w f h) ∙ ap (page_of p) s ∙ o.names v g e))

reclaim_held : (p : Placement) (v w : Page) (f : ℕ) → IsUnwritten p w f → IsUnwritten (reclaim p v) w f
reclaim_held p v w f u = go (state_of p v) refl
  where
    own : (g : ℕ) → state_of p v ≡ Invalid g → w ≡ v → IsUnwritten (reclaim_to p v (Invalid g)) w f
    own g e s =
        let there = page_in p v g (ap frame_of e) in
        let same : g ≡ f = same_Some g f (sym (ap frame_of e) ∙ ap (λ (x : Page). frame_of (state_of p x)) (sym s) ∙ held_frame p w f u) in
        record {
          dirty = subst (λ (x : Page). is_dirty (reclaim_to p v (Invalid g)) x ≡ true) (sym s)
              (ap (is_dirty_by v) (put_mark p v (Valid g) (mark_of p v) there) ∙ subst (λ (x : Page). is_dirty p x ≡ true) s u.dirty);
          held = inl (ap (state_of (reclaim_to p v (Invalid g))) s ∙ put_state p v (Valid g) (mark_of p v) there ∙ ap Valid same);
        }

    go : (s : PageState) → state_of p v ≡ s → IsUnwritten (reclaim_to p v s) w f
    go (Invalid g) e = elim (page_cases w v) [
      | inl s ↦ own g e s
      | inr n ↦ still p (reclaim_to p v (Invalid g)) w f (put_other p v (Valid g) (mark_of p v) w n) (without_none f g p.free) u
    ]
    go Unfilled e = u
    go (Valid g) e = u
    go (Coming g) e = u
    go (Going g) e = u
    go OnSwap e = u

expire_held : (p : Placement) (locked : List Page) (w : Page) (f : ℕ) → OwnsFrames p → IsUnwritten p w f → IsUnwritten (expire p locked) w f
expire_held p locked w f o u = of (page_of p p.front)
  where
    own : (v : Page) (g : ℕ) → state_of p v ≡ Valid g → w ≡ v → IsUnwritten (expire_to p v (Valid g)) w f
    own v g e s =
        let there = page_in p v g (ap frame_of e) in
        let same : g ≡ f = same_Some g f (sym (ap frame_of e) ∙ ap (λ (x : Page). frame_of (state_of p x)) (sym s) ∙ held_frame p w f u) in
        let once = once_at p v g o (ap frame_of e) in
        let one : seats (times g p.free) (state_of p v) ≡ 1 = ap (seats (times g p.free)) e in
        let off : times g p.free ≡ 0 = omega arith in
        record {
          dirty = subst (λ (x : Page). is_dirty (expire_to p v (Valid g)) x ≡ true) (sym s)
              (ap (is_dirty_by v) (put_mark p v (Invalid g) (mark_of p v) there) ∙ subst (λ (x : Page). is_dirty p x ≡ true) s u.dirty);
          held = inr (inl (ap (state_of (expire_to p v (Valid g))) s ∙ put_state p v (Invalid g) (mark_of p v) there ∙ ap Invalid same, ap (λ (x : ℕ). times x p.free) (sym same) ∙ off));
        }

    to : (v : Page) (s : PageState) → state_of p v ≡ s → IsUnwritten (expire_to p v s) w f
    to v (Valid g) e = elim (page_cases w v) [
      | inl s ↦ own v g e s
      | inr n ↦ still p (expire_to p v (Valid g)) w f (put_other p v (Invalid g) (mark_of p v) w n) (λ z. z) u
    ]
    to v Unfilled e = u
    to v (Invalid g) e = u
    to v (Coming g) e = u
    to v (Going g) e = u
    to v OnSwap e = u

    lock : (v : Page) (b : Bool) → IsUnwritten (expire_if p v b) w f
    lock v true = u
    lock v false = to v (state_of p v) refl

    of : (h : Option Page) → IsUnwritten (expire_of p locked h) w f
    of None = u
    of (Some v) = lock v (is_among v locked)

-- of a page that is clean the frame goes to the tail
retire_held : (p : Placement) (v w : Page) (f : ℕ) → OwnsFrames p → is_dirty p v ≡ false → IsUnwritten p w f → IsUnwritten (retire p v) w f
retire_held p v w f o d u = go (state_of p v) refl
  where
    apart : w ≢ v
    apart s = absurd (let z : true ≡ false = sym u.dirty ∙ ap (is_dirty p) s ∙ d in cc)

    tail : (g : ℕ) → frame_of (state_of p v) ≡ Some g → IsUnwritten (turn p v (Invalid g) (mark_of p v) (p.free ++ g ∷ []) p.transfers) w f
    tail g e = still p (turn p v (Invalid g) (mark_of p v) (p.free ++ g ∷ []) p.transfers) w f (put_other p v (Invalid g) (mark_of p v) w apart)
        (tail_none f g p.free (other_frame p v w g f o apart e (held_frame p w f u))) u

    go : (s : PageState) → state_of p v ≡ s → IsUnwritten (retire_to p v s) w f
    go (Valid g) e = tail g (ap frame_of e)
    go (Invalid g) e = tail g (ap frame_of e)
    go Unfilled e = u
    go (Coming g) e = u
    go (Going g) e = u
    go OnSwap e = u

launch_held : (p : Placement) (v w : Page) (f : ℕ) → IsUnwritten p w f → IsUnwritten (launch p v) w f
launch_held p v w f u = go (state_of p v) refl
  where
    goes : (g : ℕ) (ts : List Transfer) → frame_of (state_of p v) ≡ Some g → w ≡ v → IsUnwritten (turn p v (Going g) (mark_of p v) p.free ts) w f
    goes g ts e s =
        let there = page_in p v g e in
        let same : g ≡ f = same_Some g f (sym e ∙ ap (λ (x : Page). frame_of (state_of p x)) (sym s) ∙ held_frame p w f u) in
        record {
          dirty = subst (λ (x : Page). is_dirty (turn p v (Going g) (mark_of p v) p.free ts) x ≡ true) (sym s)
              (ap (is_dirty_by v) (put_mark p v (Going g) (mark_of p v) there) ∙ subst (λ (x : Page). is_dirty p x ≡ true) s u.dirty);
          held = inr (inr (ap (state_of (turn p v (Going g) (mark_of p v) p.free ts)) s ∙ put_state p v (Going g) (mark_of p v) there ∙ ap Going same));
        }

    seated : (g : ℕ) (ts : List Transfer) → frame_of (state_of p v) ≡ Some g → IsUnwritten (turn p v (Going g) (mark_of p v) p.free ts) w f
    seated g ts e = elim (page_cases w v) [
      | inl s ↦ goes g ts e s
      | inr n ↦ still p (turn p v (Going g) (mark_of p v) p.free ts) w f (put_other p v (Going g) (mark_of p v) w n) (λ z. z) u
    ]

    go : (s : PageState) → state_of p v ≡ s → IsUnwritten (launch_to p v s) w f
    go (Valid g) e = seated g (join_last p.transfers Writes (record { page = v; frame = g })) (ap frame_of e)
    go (Invalid g) e = seated g (join_last p.transfers Writes (record { page = v; frame = g })) (ap frame_of e)
    go Unfilled e = u
    go (Coming g) e = u
    go (Going g) e = u
    go OnSwap e = u

launch_all_held : (qs : List Page) (p : Placement) (w : Page) (f : ℕ) → IsUnwritten p w f → IsUnwritten (launch_all p qs) w f
launch_all_held [] p w f u = u
launch_all_held (v ∷ qs) p w f u = launch_all_held qs (launch p v) w f (launch_held p v w f u)

launch_run_held : (p : Placement) (qs : List Page) (w : Page) (f : ℕ) → IsUnwritten p w f → IsUnwritten (launch_run p qs) w f
launch_run_held p qs w f u = subst (λ (r : Placement). IsUnwritten r w f) (launch_steps p qs) (launch_all_held qs (begin p Writes) w f (record { dirty = u.dirty; held = u.held }))

sweep_held : (p : Placement) (locked : List Page) (w : Page) (f : ℕ) → OwnsFrames p → IsUnwritten p w f → IsUnwritten (sweep p locked) w f
sweep_held p locked w f o u = sweep_cases (λ r. IsUnwritten r w f) p locked u
    (λ v t e. launch_run_held p (pages_of_run v (run_out p locked v)) w f u) (λ v t e. retire_held p v w f o e u)

move_held : (p : Placement) (locked : List Page) (w : Page) (f : ℕ) → OwnsFrames p → IsUnwritten p w f → IsUnwritten (hand_move p locked) w f
move_held p locked w f o u =
    let k = sweep_held (expire p locked) locked w f (expire_owner p locked o) (expire_held p locked w f o u) in
    record { dirty = k.dirty; held = k.held }

moves_held : (n : ℕ) (p : Placement) (locked : List Page) (w : Page) (f : ℕ) → OwnsFrames p → IsUnwritten p w f → IsUnwritten (hand_moves p locked n) w f
moves_held zero p locked w f o u = u
moves_held (suc n) p locked w f o u = moves_held n (hand_move p locked) locked w f (move_owner p locked o) (move_held p locked w f o u)

put_held : (p : Placement) (v : Page) (qs : List Page) (w : Page) (f : ℕ) → OwnsFrames p → IsUnwritten p w f → IsUnwritten (put_step p v qs) w f
put_held p v qs w f o u = go (is_dirty p v) refl
  where
    go : (d : Bool) → is_dirty p v ≡ d → IsUnwritten (put_by p v qs d) w f
    go true e = launch_run_held p qs w f u
    go false e = retire_held p v w f o e u

-- Transfers that end.

-- after the write the page is clean, in its frame
record IsClean (p : Placement) (w : Page) (f : ℕ) : Type 0 where
  state : state_of p w ≡ Invalid f
  clean : is_dirty p w ≡ false

pub written_clean : (v : Page) → is_dirty_by v (written_mark v) ≡ false
written_clean (Data sid v) = refl
written_clean _ = refl

land_other : (p : Placement) (e : Errand) (x : Part) (rest : List Transfer) (w : Page) → w ≢ x.page → slot_of (land_then p e x rest) w ≡ slot_of p w
land_other p Writes x rest w n = put_other p x.page (Invalid x.frame) (written_mark x.page) w n
land_other p (Reads source demanded) x rest w n = go (same_page x.page demanded)
  where
    go : (b : Bool) → slot_of (land_read_then p source x rest b) w ≡ slot_of p w
    go true = put_other p x.page (Valid x.frame) (arrived_mark source x.page (mark_of p x.page)) w n
    go false = put_other p x.page (Invalid x.frame) (mark_of p x.page) w n

land_free : (p : Placement) (e : Errand) (x : Part) (rest : List Transfer) (f : ℕ) → f ≢ x.frame → times f p.free ≡ 0 → times f (land_then p e x rest).free ≡ 0
land_free p Writes x rest f n z = tail_none f x.frame p.free n z
land_free p (Reads source demanded) x rest f n z = go (same_page x.page demanded)
  where
    go : (b : Bool) → times f (land_read_then p source x rest b).free ≡ 0
    go true = z
    go false = tail_none f x.frame p.free n z

not_coming : (p : Placement) (w : Page) (f g : ℕ) → IsUnwritten p w f → state_of p w ≡ Coming g → ⊥
not_coming p w f g u e = elim u.held [
  | inl h ↦ absurd (let z : Valid f ≡ Coming g = sym h ∙ e in cc)
  | inr h ↦ elim h [
    | inl k ↦ absurd (let z : Invalid f ≡ Coming g = sym k.0 ∙ e in cc)
    | inr k ↦ absurd (let z : Going f ≡ Coming g = sym k ∙ e in cc)
  ]
]

land_own : (p : Placement) (e : Errand) (x : Part) (rest : List Transfer) (w : Page) (f : ℕ) → OwnsFrames p → Landing p e x rest → w ≡ x.page
    → IsUnwritten p w f → (state_of p w ≡ Going f) × IsClean (land_then p e x rest) w f
land_own p (Reads source demanded) x rest w f o l s u = absurd (not_coming p w f x.frame u (ap (state_of p) s ∙ landing_state p (Reads source demanded) x rest o l))
land_own p Writes x rest w f o l s u =
    let is : state_of p w ≡ Going x.frame = ap (state_of p) s ∙ landing_state p Writes x rest o l in
    let same : x.frame ≡ f = same_Some x.frame f (sym (ap frame_of is) ∙ held_frame p w f u) in
    let there = page_in p x.page x.frame (landing_frame p Writes x rest o l) in (
      is ∙ ap Going same,
      record {
        state = ap (state_of (land_then p Writes x rest)) s ∙ put_state p x.page (Invalid x.frame) (written_mark x.page) there ∙ ap Invalid same;
        clean = ap (is_dirty (land_then p Writes x rest)) s ∙ ap (is_dirty_by x.page) (put_mark p x.page (Invalid x.frame) (written_mark x.page) there) ∙ written_clean x.page;
      },
    )

landing_at : (x : Part) (xs : List Part) (p : Placement) (e : Errand) (ts : List Transfer) → p.transfers ≡ record { errand = e; parts = x ∷ xs } ∷ ts
    → Landing p e x (record { errand = e; parts = xs } ∷ ts)
landing_at x xs p e ts h = record { parts = ap parts_of h }

not_moving : (e : Errand) (g f : ℕ) → moving_state e g ≡ Invalid f → ⊥
not_moving Writes g f h = absurd cc
not_moving (Reads source demanded) g f h = absurd cc

land_all_clean : (xs : List Part) (p : Placement) (e : Errand) (ts : List Transfer) (w : Page) (f : ℕ) → OwnsFrames p
    → p.transfers ≡ record { errand = e; parts = xs } ∷ ts → IsClean p w f → IsClean (land_all_then p e xs ts) w f
land_all_clean [] p e ts w f o h c = record { state = c.state; clean = c.clean }
land_all_clean (x ∷ xs) p e ts w f o h c =
    let l = landing_at x xs p e ts h in
    let n : w ≢ x.page = λ s. absurd (not_moving e x.frame f (sym (landing_state p e x (record { errand = e; parts = xs } ∷ ts) o l) ∙ ap (state_of p) (sym s) ∙ c.state)) in
    let k = land_other p e x (record { errand = e; parts = xs } ∷ ts) w n in
    land_all_clean xs (land_then p e x (record { errand = e; parts = xs } ∷ ts)) e ts w f (land_owner p e x (record { errand = e; parts = xs } ∷ ts) o l)
    (land_transfers p e x (record { errand = e; parts = xs } ∷ ts))
    (record { state = ap (λ (y : Slot). y.state) k ∙ c.state; clean = ap (λ (y : Slot). is_dirty_by w y.mark) k ∙ c.clean })

land_all_held : (xs : List Part) (p : Placement) (e : Errand) (ts : List Transfer) (w : Page) (f : ℕ) → OwnsFrames p
    → p.transfers ≡ record { errand = e; parts = xs } ∷ ts → IsUnwritten p w f
    → IsUnwritten (land_all_then p e xs ts) w f ⊎ ((state_of p w ≡ Going f) × IsClean (land_all_then p e xs ts) w f)
land_all_held [] p e ts w f o h u = inl (record { dirty = u.dirty; held = u.held })
land_all_held (x ∷ xs) p e ts w f o h u =
    let rest : List Transfer = record { errand = e; parts = xs } ∷ ts in
    let q : Placement = land_then p e x rest in
    let l : Landing p e x rest = landing_at x xs p e ts h in
    let oq : OwnsFrames q = land_owner p e x rest o l in
    let tq : q.transfers ≡ rest = land_transfers p e x rest in
    elim (page_cases w x.page) [
      | inl s ↦ (let k = land_own p e x rest w f o l s u in inr (k.0, land_all_clean xs q e ts w f oq tq k.1))
      | inr n ↦ (
          let k = land_other p e x rest w n in
          let v : IsUnwritten q w f = still p q w f k (land_free p e x rest f (other_frame p x.page w x.frame f o n (landing_frame p e x rest o l) (held_frame p w f u))) u in
          elim (land_all_held xs q e ts w f oq tq v) [
            | inl i ↦ inl i
            | inr i ↦ inr (ap (λ (y : Slot). y.state) (sym k) ∙ i.0, i.1)
          ])
    ]

done_held : (p : Placement) (w : Page) (f : ℕ) → OwnsFrames p → IsUnwritten p w f → IsUnwritten (done p) w f ⊎ IsWritten p (done p) w f
done_held p w f o u = done_cases (λ (r : Placement). IsUnwritten r w f ⊎ IsWritten p r w f) p (inl u) (λ t ts e. elim (land_all_held t.parts p t.errand ts w f o e u) [
  | inl k ↦ inl k
  | inr k ↦ inr (let c : IsClean (land_all_then p t.errand t.parts ts) w f = k.1 in record { was = k.0; now = c.state; clean = c.clean })
])

-- All paging entries.

pub entry_held : (locked : List Page) (at : ℕ) (p : Placement) (e : Entry) (w : Page) (f : ℕ) → OwnsFrames p → CanPlace p e → IsUnwritten p w f
    → IsUnwritten (place_entry locked at p e) w f ⊎ ((e ≡ entries.Done) × IsWritten p (place_entry locked at p e) w f)
entry_held locked at p (entries.Zero q) w f o c u = let k = fill_held p q w f o (enters_other p q w f c (held_frame p w f u)) u in inl (record { dirty = k.dirty; held = k.held })
entry_held locked at p (entries.Copy q) w f o c u = let k = fill_held p q w f o (enters_other p q w f c (held_frame p w f u)) u in inl (record { dirty = k.dirty; held = k.held })
entry_held locked at p (entries.Get q lo n) w f o c u = inl
    (subst (λ (r : Placement). IsUnwritten r w f) (get_steps p (read_errand p q) (pages_from q lo n)) (get_all_held (pages_from q lo n) (begin p (read_errand p q)) (source_for (state_of p q)) q w f
    (reading p q lo n o c) (entering_others (pages_from q lo n) p w f c (held_frame p w f u)) (record { dirty = u.dirty; held = u.held })))
entry_held locked at p (entries.Reclaim q) w f o c u = inl (reclaim_held p q w f u)
entry_held locked at p (entries.Hands n) w f o c u = inl (moves_held n p locked w f o u)
entry_held locked at p (entries.Put q n) w f o c u = inl (put_held p q (pages_from q (number_of q) n) w f o u)
entry_held locked at p entries.Done w f o c u = elim (done_held p w f o u) [
  | inl k ↦ inl k
  | inr k ↦ inr (refl, k)
]
entry_held locked at p (entries.SwapOut pid) w f o c u = inl (record { dirty = u.dirty; held = u.held })
entry_held locked at p (entries.SwapIn pid) w f o c u = inl (record { dirty = u.dirty; held = u.held })
entry_held locked at p _ w f o c u = inl u
