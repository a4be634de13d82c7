-- Which pages lose their frames by a paging entry.
use Rattle.std.proofs.Common.{◌≡◌, ◌≢◌, ◌⊎◌, inl, inr, ℕ, zero, suc, ◌<◌, Bool, true, List, [], ◌∷◌, Option, Some, None, refl, sym, ap, ◌∙◌, subst, arith}
use Rattle.std.proofs.lemmas.Bool.{cases_eq}
use Rattle.vm_facts.specs.declared.page.Page.{Page}
use Rattle.vm_facts.specs.declared.page.PageState.{PageState}
use Rattle.vm_facts.specs.declared.page.PageState.TheVariants.{Valid, Invalid, Coming}
use Rattle.vm_facts.specs.declared.entry.Entry.{Entry}
use Rattle.vm_facts.specs.declared.entry.Entry.TheVariants as entries
use Rattle.page_model.specs.PageNames.{number_of, pages_from}
use Rattle.page_model.specs.Pages.{Slot, frame_of, left_state}
use Rattle.vm_facts.specs.Lists.{times, without}
use Rattle.page_model.specs.Placement.{Placement, Reads, Source, slot_of, state_of, mark_of, page_of}
use Rattle.page_model.specs.Moves.{evict, evict_at, fill, fill_at, done, reclaim}
use Rattle.page_model.specs.Steps.{begin, get_one, get_at, get_all}
use Rattle.page_model.specs.Hands.{hand_move, hand_moves}
use Rattle.page_model.specs.Place.{put_step, place_entry}
use Rattle.page_model.specs.Reading.{source_for, read_errand}
use Rattle.page_model.specs.Conditions.{EachPage, AllApart, CanEnter, CanPlace}
use Rattle.page_model.specs.Ownership.{OwnsFrames, IsListed, is_marked_dirty}
use Rattle.page_laws.specs.Leaving.{IsTaken, takes_frames}
use Rattle.vm_facts.proofs.Lists.{times-without_same, times-without_other}
use Rattle.page_laws.proofs.Moves.InSteps.{get_steps}
use Rattle.page_laws.proofs.Lists.Local.{none_some}
use Rattle.std.proofs.lemmas.Option.{same_Some}
use Rattle.page_laws.proofs.Lists.Frames.{some_free}
use Rattle.page_laws.proofs.Lists.Pages.{page_cases, put_state, put_other}
use Rattle.page_laws.proofs.Lists.Parts.{IsOpen, begin_open}
use Rattle.page_laws.proofs.Lists.Runs.{each_page_imp, each_page_both, pages_from_apart}
use Rattle.page_laws.proofs.Moves.Steps.{page_in, left_frameless, evict_other}
use Rattle.page_laws.proofs.Moves.Stays.{Steady, Stays, move_stays, done_steady}
use Rattle.page_laws.proofs.Ownership.Pages.{get_owner}
use Rattle.page_laws.proofs.Ownership.Runs.{begin_owner, get_enters_still, get_open_still}
use Rattle.page_laws.proofs.Bytes.Others.{put_steady, reclaim_steady}

-- a page that enters isn't one that has a frame
pub enters_other : (p : Placement) (v w : Page) (f : ℕ) → CanEnter p v → frame_of (state_of p w) ≡ Some f → w ≢ v
enters_other p v w f c e s = none_some f (sym c.frameless ∙ ap (λ (x : Page). frame_of (state_of p x)) (sym s) ∙ e)

pub entering_others : (qs : List Page) (p : Placement) (w : Page) (f : ℕ) → EachPage (CanEnter p) qs → frame_of (state_of p w) ≡ Some f
    → EachPage (λ r. w ≢ r) qs
entering_others [] p w f c e = tt
entering_others (v ∷ qs) p w f c e = (enters_other p v w f c.0 e, entering_others qs p w f c.1 e)

evict_kept : (p : Placement) (g : ℕ) (w : Page) (f : ℕ) → OwnsFrames p → 0 < times g p.free → frame_of (state_of p w) ≡ Some f
    → (slot_of (evict p g) w ≡ slot_of p w) ⊎ IsTaken p (evict p g) w f
evict_kept p g w f o l e = go (page_of p g) refl
  where
    go : (h : Option Page) → page_of p g ≡ h → (slot_of (evict p g) w ≡ slot_of p w) ⊎ IsTaken p (evict p g) w f
    go None h = inl (ap (λ (x : Option Page). slot_of (evict_at p g x) w) h)
    go (Some v) h = elim (page_cases w v) [
      | inl s ↦ (
          let at : page_of p g ≡ Some w = h ∙ ap (λ (x : Page). Some x) (sym s) in
          let same : f ≡ g = same_Some f g (sym e ∙ o.named g w at) in
          let k : IsListed p g w = o.listed g w l at in
          inr (record {
            state = k.state ∙ ap Invalid (sym same);
            free = subst (λ (x : ℕ). 0 < times x p.free) (sym same) l;
            clean = k.clean;
            left = ap (λ (x : Option Page). state_of (evict_at p g x) w) at ∙ put_state p w (left_state w (mark_of p w)) (mark_of p w) (page_in p w f e);
          }))
      | inr n ↦ inl (ap (λ (x : Option Page). slot_of (evict_at p g x) w) h ∙ put_other p v (left_state v (mark_of p v)) (mark_of p v) w n)
    ]

-- the rest of the step leaves it as it is then
later : (p q r : Placement) (w : Page) (f : ℕ) → slot_of r w ≡ slot_of q w → IsTaken p q w f → IsTaken p r w f
later p q r w f e t = record { state = t.state; free = t.free; clean = t.clean; left = ap (λ (x : Slot). x.state) e ∙ t.left }

fill_kept : (p : Placement) (v w : Page) (f : ℕ) → OwnsFrames p → CanEnter p v → frame_of (state_of p w) ≡ Some f
    → (slot_of (fill p v) w ≡ slot_of p w) ⊎ IsTaken p (fill p v) w f
fill_kept p v w f o c e = go p.free refl
  where
    go : (fr : List ℕ) → p.free ≡ fr → (slot_of (fill_at p v fr) w ≡ slot_of p w) ⊎ IsTaken p (fill_at p v fr) w f
    go [] h = inl refl
    go (g ∷ rest) h =
        let n : slot_of (fill_at p v (g ∷ rest)) w ≡ slot_of (evict p g) w = put_other (evict p g) v (Valid g) true w (enters_other p v w f c e) in
        elim (evict_kept p g w f o (some_free p g rest h) e) [
          | inl k ↦ inl (n ∙ k)
          | inr k ↦ inr (later p (evict p g) (fill_at p v (g ∷ rest)) w f n k)
        ]

-- Reads.

get_kept : (p : Placement) (source : Source) (demanded v w : Page) (f : ℕ) → OwnsFrames p → CanEnter p v → frame_of (state_of p w) ≡ Some f
    → (slot_of (get_one p (Reads source demanded) v) w ≡ slot_of p w) ⊎ IsTaken p (get_one p (Reads source demanded) v) w f
get_kept p source demanded v w f o c e = go p.free refl
  where
    go : (fr : List ℕ) → p.free ≡ fr → (slot_of (get_at p (Reads source demanded) v fr) w ≡ slot_of p w) ⊎ IsTaken p (get_at p (Reads source demanded) v fr) w f
    go [] h = inl refl
    go (g ∷ rest) h =
        let n : slot_of (get_at p (Reads source demanded) v (g ∷ rest)) w ≡ slot_of (evict p g) w = put_other (evict p g) v (Coming g) (mark_of p v) w (enters_other p v w f c e) in
        elim (evict_kept p g w f o (some_free p g rest h) e) [
          | inl k ↦ inl (n ∙ k)
          | inr k ↦ inr (later p (evict p g) (get_at p (Reads source demanded) v (g ∷ rest)) w f n k)
        ]

-- a page with no frame that isn't read stays as it is
get_frameless : (p : Placement) (source : Source) (demanded v w : Page) → OwnsFrames p → w ≢ v → frame_of (state_of p w) ≡ None
    → slot_of (get_one p (Reads source demanded) v) w ≡ slot_of p w
get_frameless p source demanded v w o n e = go p.free
  where
    go : (fr : List ℕ) → slot_of (get_at p (Reads source demanded) v fr) w ≡ slot_of p w
    go [] = refl
    go (g ∷ rest) = put_other (evict p g) v (Coming g) (mark_of p v) w n ∙ evict_other p g w o e

-- what is free after it was free before
without_some : (f g : ℕ) (xs : List ℕ) → 0 < times f (without g xs) → 0 < times f xs
without_some f g xs l = elim (cases_eq f g) [
  | inl e ↦ absurd (let z = times-without_same g xs in let k : times f (without g xs) ≡ times g (without g xs) = ap (λ (x : ℕ). times x (without g xs)) e in omega arith)
  | inr n ↦ (let k = times-without_other g f xs n in omega arith)
]

get_some : (p : Placement) (source : Source) (demanded v : Page) (f : ℕ) → 0 < times f (get_one p (Reads source demanded) v).free → 0 < times f p.free
get_some p source demanded v f l = go p.free refl l
  where
    go : (fr : List ℕ) → p.free ≡ fr → 0 < times f (get_at p (Reads source demanded) v fr).free → 0 < times f p.free
    go [] h m = m
    go (g ∷ rest) h m = let k : (evict p g).free ≡ p.free = evict_free in without_some f g p.free (subst (λ (xs : List ℕ). 0 < times f (without g xs)) k m)
      where
        evict_free : (evict p g).free ≡ p.free
        evict_free = at (page_of p g)
          where
            at : (x : Option Page) → (evict_at p g x).free ≡ p.free
            at None = refl
            at (Some y) = refl

pub record CanReadAll (qs : List Page) (p : Placement) (source : Source) (demanded : Page) : Type 0 where
  pub owns : OwnsFrames p
  pub enter : EachPage (CanEnter p) qs
  pub apart : AllApart qs
  pub latest : IsOpen p.transfers (Reads source demanded)

pub reads_on : (v : Page) (qs : List Page) (p : Placement) (source : Source) (demanded : Page) → CanReadAll (v ∷ qs) p source demanded
    → CanReadAll qs (get_one p (Reads source demanded) v) source demanded
reads_on v qs p source demanded r = record {
  owns = get_owner p source demanded v r.owns r.enter.0 r.latest;
  enter = each_page_both (CanEnter p) (λ x. x ≢ v) (CanEnter (get_one p (Reads source demanded) v)) qs r.enter.1 r.apart.0 (λ w h n. get_enters_still p (Reads source demanded) v w r.owns n h);
  apart = r.apart.1;
  latest = get_open_still p (Reads source demanded) v r.latest;
}

get_all_frameless : (qs : List Page) (p : Placement) (source : Source) (demanded w : Page) → CanReadAll qs p source demanded
    → EachPage (λ r. w ≢ r) qs → frame_of (state_of p w) ≡ None
    → slot_of (get_all p (Reads source demanded) qs) w ≡ slot_of p w
get_all_frameless [] p source demanded w r n e = refl
get_all_frameless (v ∷ qs) p source demanded w r n e =
    let k = get_frameless p source demanded v w r.owns n.0 e in
    get_all_frameless qs (get_one p (Reads source demanded) v) source demanded w (reads_on v qs p source demanded r) n.1 (ap (λ (x : Slot). frame_of x.state) k ∙ e) ∙ k

left_none : (w : Page) (s : PageState) (m : Bool) → s ≡ left_state w m → frame_of s ≡ None
left_none w s m e = ap frame_of e ∙ left_frameless w m

get_all_kept : (qs : List Page) (p : Placement) (source : Source) (demanded w : Page) (f : ℕ) → CanReadAll qs p source demanded
    → frame_of (state_of p w) ≡ Some f
    → (slot_of (get_all p (Reads source demanded) qs) w ≡ slot_of p w) ⊎ IsTaken p (get_all p (Reads source demanded) qs) w f
get_all_kept [] p source demanded w f r e = inl refl
get_all_kept (v ∷ qs) p source demanded w f r e =
    let q : Placement = get_one p (Reads source demanded) v in
    let on : CanReadAll qs q source demanded = reads_on v qs p source demanded r in
    elim (get_kept p source demanded v w f r.owns r.enter.0 e) [
      | inl k ↦ elim (get_all_kept qs q source demanded w f on (ap (λ (x : Slot). frame_of x.state) k ∙ e)) [
        | inl h ↦ inl (h ∙ k)
        | inr h ↦ inr (record {
          state = ap (λ (x : Slot). x.state) (sym k) ∙ h.state;
          free = get_some p source demanded v f h.free;
          clean = ap (λ (x : Slot). is_marked_dirty w x.mark) (sym k) ∙ h.clean;
          left = h.left ∙ ap (λ (x : Slot). left_state w x.mark) k;
        })
      ]
      | inr k ↦ inr (later p q (get_all q (Reads source demanded) qs) w f
          (get_all_frameless qs q source demanded w on (entering_others qs p w f r.enter.1 e) (left_none w (state_of q w) (mark_of p w) k.left)) k)
    ]

pub reading : (p : Placement) (q : Page) (lo n : ℕ) → OwnsFrames p → EachPage (CanEnter p) (pages_from q lo n)
    → CanReadAll (pages_from q lo n) (begin p (read_errand p q)) (source_for (state_of p q)) q
reading p q lo n o c = record {
  owns = begin_owner p (read_errand p q) o;
  enter = each_page_imp (CanEnter p) (CanEnter (begin p (read_errand p q))) (pages_from q lo n) c (λ x h. record { there = h.there; frameless = h.frameless });
  apart = pages_from_apart q lo n;
  latest = begin_open p.transfers (read_errand p q);
}

read_kept : (p : Placement) (q : Page) (lo n : ℕ) (w : Page) (f : ℕ) → OwnsFrames p → EachPage (CanEnter p) (pages_from q lo n)
    → frame_of (state_of p w) ≡ Some f
    → (slot_of (get_all (begin p (read_errand p q)) (read_errand p q) (pages_from q lo n)) w ≡ slot_of p w)
    ⊎ IsTaken p (get_all (begin p (read_errand p q)) (read_errand p q) (pages_from q lo n)) w f
read_kept p q lo n w f o c e = elim (get_all_kept (pages_from q lo n) (begin p (read_errand p q)) (source_for (state_of p q)) q w f (reading p q lo n o c) e) [
  | inl h ↦ inl h
  | inr h ↦ inr (record { state = h.state; free = h.free; clean = h.clean; left = h.left })
]

-- Moves of the hands.

pub moves_frame : (n : ℕ) (p : Placement) (locked : List Page) (w : Page) → frame_of (state_of (hand_moves p locked n) w) ≡ frame_of (state_of p w)
moves_frame zero p locked w = refl
moves_frame (suc n) p locked w = let s : Stays p (hand_move p locked) = move_stays p locked in moves_frame n (hand_move p locked) locked w ∙ s.frames w

-- All paging entries.

pub entry_frame : (locked : List Page) (at : ℕ) (p : Placement) (e : Entry) (w : Page) (f : ℕ) → OwnsFrames p → CanPlace p e → frame_of (state_of p w) ≡ Some f
    → (frame_of (state_of (place_entry locked at p e) w) ≡ Some f) ⊎ ((takes_frames e ≡ true) × IsTaken p (place_entry locked at p e) w f)
entry_frame locked at p (entries.Zero q) w f o c e = elim (fill_kept p q w f o c e) [
  | inl k ↦ inl (ap (λ (x : Slot). frame_of x.state) k ∙ e)
  | inr k ↦ inr (refl, record { state = k.state; free = k.free; clean = k.clean; left = k.left })
]
entry_frame locked at p (entries.Copy q) w f o c e = elim (fill_kept p q w f o c e) [
  | inl k ↦ inl (ap (λ (x : Slot). frame_of x.state) k ∙ e)
  | inr k ↦ inr (refl, record { state = k.state; free = k.free; clean = k.clean; left = k.left })
]
entry_frame locked at p (entries.Get q lo n) w f o c e =
    elim (subst (λ (r : Placement). (slot_of r w ≡ slot_of p w) ⊎ IsTaken p r w f) (get_steps p (read_errand p q) (pages_from q lo n)) (read_kept p q lo n w f o c e)) [
      | inl k ↦ inl (ap (λ (x : Slot). frame_of x.state) k ∙ e)
      | inr k ↦ inr (refl, k)
    ]
entry_frame locked at p (entries.Reclaim q) w f o c e = let s : Steady p (reclaim p q) = reclaim_steady p q in inl (s.frames w ∙ e)
entry_frame locked at p (entries.Hands n) w f o c e = inl (moves_frame n p locked w ∙ e)
entry_frame locked at p (entries.Put q n) w f o c e = let s : Steady p (put_step p q (pages_from q (number_of q) n)) = put_steady p q (pages_from q (number_of q) n) in inl (s.frames w ∙ e)
entry_frame locked at p entries.Done w f o c e = let s : Steady p (done p) = done_steady p o in inl (s.frames w ∙ e)
entry_frame locked at p _ w f o c e = inl e
