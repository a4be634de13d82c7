-- What is locked and valid stays valid, whatever frame is forced and whatever page is served.
use Rattle.std.proofs.Common.{◌≡◌, ◌≢◌, inl, inr, ℕ, ◌<◌, ◌&&◌, Bool, true, false, not, List, [], ◌∷◌, Option, Some, None, refl, sym, ap, ◌∙◌, subst}
use Rattle.vm_facts.specs.declared.page.Page.{Page}
use Rattle.vm_facts.specs.declared.page.PageState.{PageState}
use Rattle.vm_facts.specs.declared.page.PageState.TheVariants.{Unfilled, Valid, Invalid, Coming, Going, OnSwap}
use Rattle.page_model.specs.Pages.{Slot, frame_of, is_valid, left_state, written_mark}
use Rattle.page_model.specs.PageNames.{number_of, beside, is_among, same_page}
use Rattle.vm_facts.specs.Lists.{times}
use Rattle.page_model.specs.Placement.{Placement, Transfer, Part, Errand, Writes, Reads, Source, state_of, mark_of, is_dirty, page_of, IsThere, moving_state, put}
use Rattle.page_model.specs.Moves.{evict, evict_at, enter, fill, fill_at, done, reclaim, reclaim_to, retire_to, arrived_mark}
use Rattle.page_model.specs.Steps.{land_then, land_read_then, land_all_then, begin, join_last, get_one, get_at, get_all, launch, launch_to, launch_all}
use Rattle.page_model.specs.Runs.{run_out, pages_of_run, goes_along, is_idle, is_idle_by, is_near, most_written, run_in}
use Rattle.page_model.specs.Hands.{expire, expire_of, expire_if, expire_to, sweep, hand_move}
use Rattle.page_model.specs.Reading.{read_step, read_errand, source_for}
use Rattle.page_model.specs.Serve.{force, serve_step, after_serving}
use Rattle.page_model.specs.Conditions.{EachPage, AllApart, CanEnter, Spares}
use Rattle.page_model.specs.Ownership.{OwnsFrames, IsListed}
use Rattle.page_laws.proofs.Lists.Pages.{page_cases}
use Rattle.page_laws.proofs.Lists.Parts.{IsOpen, begin_open}
use Rattle.page_laws.proofs.Moves.InSteps.{get_steps, launch_steps, done_cases}
use Rattle.page_laws.proofs.Moves.Steps.{put_other_state, evict_other}
use Rattle.page_laws.proofs.Ownership.Pages.{get_owner}
use Rattle.page_laws.proofs.Lists.Runs.{each_page_imp, each_page_both, run_each, run_both_in, run_apart}
use Rattle.std.proofs.lemmas.Bool.{and_parts}
use Rattle.page_laws.proofs.Lists.Frames.{some_free}
use Rattle.page_laws.proofs.Ownership.Runs.{begin_owner, get_enters_still, get_open_still, Landing, landing_state, land_owner, land_transfers}
use Rattle.page_laws.proofs.Ownership.Serve.{run_in_enters}
use Rattle.page_laws.proofs.Moves.Taken.{sweep_cases}
use Rattle.page_laws.proofs.Moves.Cases.{force_cases, serving_cases, read_frameless, frameless_not}

pub spares_both : (p q r : Placement) (locked : List Page) → Spares p q locked → Spares q r locked → Spares p r locked
spares_both p q r locked a b w i v = b w i (a w i v)

not_valid : (s : PageState) → is_valid s ≡ false → is_valid s ≡ true → ⊥
not_valid s e h = absurd (let k : true ≡ false = sym h ∙ e in cc)

-- another state at a page that wasn't valid, or isn't locked
pub put_spares : (p : Placement) (v : Page) (s : PageState) (m : Bool) (locked : List Page)
    → (is_among v locked ≡ true → is_valid (state_of p v) ≡ true → ⊥) → Spares p (put p v s m) locked
put_spares p v s m locked n w i h = elim (page_cases w v) [
  | inl e ↦ absurd (n (subst (λ (x : Page). is_among x locked ≡ true) e i) (subst (λ (x : Page). is_valid (state_of p x) ≡ true) e h))
  | inr d ↦ ap is_valid (put_other_state p v s m w d) ∙ h
]

put_invalid : (p : Placement) (v : Page) (s : PageState) (m : Bool) (locked : List Page) → is_valid (state_of p v) ≡ false → Spares p (put p v s m) locked
put_invalid p v s m locked e = put_spares p v s m locked (λ i. not_valid (state_of p v) e)

-- Taking a frame.

evict_spares : (p : Placement) (f : ℕ) (locked : List Page) → OwnsFrames p → 0 < times f p.free → Spares p (evict p f) locked
evict_spares p f locked o b = go (page_of p f) refl
  where
    go : (h : Option Page) → page_of p f ≡ h → Spares p (evict_at p f h) locked
    go None e = λ w i h. h
    go (Some v) e = let k : IsListed p f v = o.listed f v b e in λ w i h. put_invalid p v (left_state v (mark_of p v)) (mark_of p v) locked (ap is_valid k.state) w i h

enter_spares : (p : Placement) (v : Page) (f : ℕ) (s : PageState) (m : Bool) (ts : List Transfer) (locked : List Page) → OwnsFrames p
    → 0 < times f p.free → frame_of (state_of p v) ≡ None → Spares p (enter (evict p f) v f s m ts) locked
enter_spares p v f s m ts locked o b n = spares_both p (evict p f) (enter (evict p f) v f s m ts) locked (evict_spares p f locked o b)
    (λ w i h. put_invalid (evict p f) v s m locked (ap (λ (x : Slot). is_valid x.state) (evict_other p f v o n) ∙ frameless_not (state_of p v) n) w i h)

pub fill_spares : (p : Placement) (v : Page) (locked : List Page) → OwnsFrames p → CanEnter p v → Spares p (fill p v) locked
fill_spares p v locked o c = go p.free refl
  where
    go : (fr : List ℕ) → p.free ≡ fr → Spares p (fill_at p v fr) locked
    go [] e = λ w i h. h
    go (f ∷ rest) e = enter_spares p v f (Valid f) true p.transfers locked o (some_free p f rest e) c.frameless

get_spares : (p : Placement) (e : Errand) (v : Page) (locked : List Page) → OwnsFrames p → CanEnter p v → Spares p (get_one p e v) locked
get_spares p e v locked o c = go p.free refl
  where
    go : (fr : List ℕ) → p.free ≡ fr → Spares p (get_at p e v fr) locked
    go [] h = λ w i k. k
    go (f ∷ rest) h = enter_spares p v f (Coming f) (mark_of p v) (join_last p.transfers e (record { page = v; frame = f })) locked o (some_free p f rest h) c.frameless

get_all_spares : (qs : List Page) (p : Placement) (source : Source) (demanded : Page) (locked : List Page) → OwnsFrames p → EachPage (CanEnter p) qs
    → AllApart qs
    → IsOpen p.transfers (Reads source demanded) → Spares p (get_all p (Reads source demanded) qs) locked
get_all_spares [] p source demanded locked o c a latest = λ w i h. h
get_all_spares (v ∷ qs) p source demanded locked o c a latest =
    spares_both p (get_one p (Reads source demanded) v) (get_all (get_one p (Reads source demanded) v) (Reads source demanded) qs) locked
    (get_spares p (Reads source demanded) v locked o c.0)
    (get_all_spares qs (get_one p (Reads source demanded) v) source demanded locked (get_owner p source demanded v o c.0 latest)
    (each_page_both (CanEnter p) (λ r. r ≢ v) (CanEnter (get_one p (Reads source demanded) v)) qs c.1 a.0 (λ w h n. get_enters_still p (Reads source demanded) v w o n h))
    a.1 (get_open_still p (Reads source demanded) v latest))

pub read_spares : (p : Placement) (q : Page) (locked : List Page) → OwnsFrames p → CanEnter p q → Spares p (read_step p q) locked
read_spares p q locked o c = subst (λ (r : Placement). Spares p r locked) (get_steps p (read_errand p q) (pages_of_run q (run_in p q)))
    (λ w i h. get_all_spares (pages_of_run q (run_in p q)) (begin p (read_errand p q)) (source_for (state_of p q)) q locked (begin_owner p (read_errand p q) o)
    (each_page_imp (CanEnter p) (CanEnter (begin p (read_errand p q))) (pages_of_run q (run_in p q)) (run_in_enters p q c) (λ r k. record { there = k.there; frameless = k.frameless }))
    (run_apart q (run_in p q)) (begin_open p.transfers (read_errand p q)) w i h)

pub reclaim_spares : (p : Placement) (v : Page) (locked : List Page) → Spares p (reclaim p v) locked
reclaim_spares p v locked = go (state_of p v) refl
  where
    go : (s : PageState) → state_of p v ≡ s → Spares p (reclaim_to p v s) locked
    go (Invalid f) e = λ w i h. put_invalid p v (Valid f) (mark_of p v) locked (ap is_valid e) w i h
    go Unfilled e = λ w i h. h
    go (Valid f) e = λ w i h. h
    go (Coming f) e = λ w i h. h
    go (Going f) e = λ w i h. h
    go OnSwap e = λ w i h. h

-- The hands.

pub expire_spares : (p : Placement) (locked : List Page) → Spares p (expire p locked) locked
expire_spares p locked = go (page_of p p.front)
  where
    to : (v : Page) (s : PageState) → is_among v locked ≡ false → Spares p (expire_to p v s) locked
    to v (Valid f) e = λ w i h. put_spares p v (Invalid f) (mark_of p v) locked (λ k. absurd (let j : true ≡ false = sym k ∙ e in cc)) w i h
    to v Unfilled e = λ w i h. h
    to v (Invalid f) e = λ w i h. h
    to v (Coming f) e = λ w i h. h
    to v (Going f) e = λ w i h. h
    to v OnSwap e = λ w i h. h

    at : (v : Page) (b : Bool) → is_among v locked ≡ b → Spares p (expire_if p v b) locked
    at v true e = λ w i h. h
    at v false e = to v (state_of p v) e

    go : (h : Option Page) → Spares p (expire_of p locked h) locked
    go None = λ w i h. h
    go (Some v) = at v (is_among v locked) refl

launch_spares : (p : Placement) (v : Page) (locked : List Page) → is_valid (state_of p v) ≡ false → Spares p (launch p v) locked
launch_spares p v locked n = go (state_of p v) refl
  where
    go : (s : PageState) → state_of p v ≡ s → Spares p (launch_to p v s) locked
    go (Valid f) e = λ w i h. put_invalid p v (Going f) (mark_of p v) locked n w i h
    go (Invalid f) e = λ w i h. put_invalid p v (Going f) (mark_of p v) locked n w i h
    go Unfilled e = λ w i h. h
    go (Coming f) e = λ w i h. h
    go (Going f) e = λ w i h. h
    go OnSwap e = λ w i h. h

launch_still : (p : Placement) (v w : Page) → w ≢ v → state_of (launch p v) w ≡ state_of p w
launch_still p v w n = go (state_of p v)
  where
    go : (s : PageState) → state_of (launch_to p v s) w ≡ state_of p w
    go (Valid f) = put_other_state p v (Going f) (mark_of p v) w n
    go (Invalid f) = put_other_state p v (Going f) (mark_of p v) w n
    go Unfilled = refl
    go (Coming f) = refl
    go (Going f) = refl
    go OnSwap = refl

launch_all_spares : (qs : List Page) (p : Placement) (locked : List Page) → EachPage (λ q. is_valid (state_of p q) ≡ false) qs → AllApart qs
    → Spares p (launch_all p qs) locked
launch_all_spares [] p locked n a = λ w i h. h
launch_all_spares (v ∷ qs) p locked n a = spares_both p (launch p v) (launch_all (launch p v) qs) locked (launch_spares p v locked n.0)
    (launch_all_spares qs (launch p v) locked
    (each_page_both (λ q. is_valid (state_of p q) ≡ false) (λ r. r ≢ v) (λ q. is_valid (state_of (launch p v) q) ≡ false) qs n.1 a.0 (λ w e d. ap is_valid (launch_still p v w d) ∙ e)) a.1)

idle_not : (p : Placement) (s : PageState) → is_idle_by p s ≡ true → is_valid s ≡ false
idle_not p (Valid f) e = absurd cc
idle_not p _ e = refl

pub sweep_spares : (p : Placement) (locked : List Page) → Spares p (sweep p locked) locked
sweep_spares p locked = sweep_cases (λ r. Spares p r locked) p locked (λ w i h. h)
    (λ q t e. subst (λ (r : Placement). Spares p r locked) (launch_steps p (pages_of_run q (run_out p locked q)))
    (λ w i h. launch_all_spares (pages_of_run q (run_out p locked q)) (begin p Writes) locked
    (run_each (λ r. is_valid (state_of p r) ≡ false) (λ x. goes_along p locked (beside q x) && is_near q x) q (run_out p locked q)
    (run_both_in (λ x. goes_along p locked (beside q x) && is_near q x) (number_of q) most_written) (ap is_valid t.state)
    (λ x k. idle_not p (state_of p (beside q x))
    (and_parts (is_idle p (beside q x)) (is_dirty p (beside q x) && not (is_among (beside q x) locked)) (and_parts (goes_along p locked (beside q x)) (is_near q x) k).0).0))
    (run_apart q (run_out p locked q)) w i h))
    (λ q t e. subst (λ (s : PageState). Spares p (retire_to p q s) locked) (sym t.state) (λ w i h. put_invalid p q (Invalid t.frame) (mark_of p q) locked (ap is_valid t.state) w i h))

pub move_spares : (p : Placement) (locked : List Page) → Spares p (hand_move p locked) locked
move_spares p locked w i h = sweep_spares (expire p locked) locked w i (expire_spares p locked w i h)

-- Transfers.

moving_not : (e : Errand) (f : ℕ) → is_valid (moving_state e f) ≡ false
moving_not Writes f = refl
moving_not (Reads source demanded) f = refl

land_spares : (p : Placement) (e : Errand) (x : Part) (rest : List Transfer) (locked : List Page) → is_valid (state_of p x.page) ≡ false
    → Spares p (land_then p e x rest) locked
land_spares p Writes x rest locked n = λ w i h. put_invalid p x.page (Invalid x.frame) (written_mark x.page) locked n w i h
land_spares p (Reads source demanded) x rest locked n = go (same_page x.page demanded)
  where
    go : (b : Bool) → Spares p (land_read_then p source x rest b) locked
    go true = λ w i h. put_invalid p x.page (Valid x.frame) (arrived_mark source x.page (mark_of p x.page)) locked n w i h
    go false = λ w i h. put_invalid p x.page (Invalid x.frame) (mark_of p x.page) locked n w i h

land_all_spares : (xs : List Part) (p : Placement) (e : Errand) (ts : List Transfer) (locked : List Page) → OwnsFrames p
    → p.transfers ≡ record { errand = e; parts = xs } ∷ ts → Spares p (land_all_then p e xs ts) locked
land_all_spares [] p e ts locked o h = λ w i k. k
land_all_spares (x ∷ xs) p e ts locked o h =
    let l : Landing p e x (record { errand = e; parts = xs } ∷ ts) = record { parts = ap Rattle.page_model.specs.Placement.parts_of h } in
    spares_both p (land_then p e x (record { errand = e; parts = xs } ∷ ts)) (land_all_then (land_then p e x (record { errand = e; parts = xs } ∷ ts)) e xs ts) locked
    (land_spares p e x (record { errand = e; parts = xs } ∷ ts) locked (ap is_valid (landing_state p e x (record { errand = e; parts = xs } ∷ ts) o l) ∙ moving_not e x.frame))
    (land_all_spares xs (land_then p e x (record { errand = e; parts = xs } ∷ ts)) e ts locked (land_owner p e x (record { errand = e; parts = xs } ∷ ts) o l)
    (land_transfers p e x (record { errand = e; parts = xs } ∷ ts)))

pub done_spares : (p : Placement) (locked : List Page) → OwnsFrames p → Spares p (done p) locked
done_spares p locked o = done_cases (λ (r : Placement). Spares p r locked) p (λ w i h. h) (λ t ts e. land_all_spares t.parts p t.errand ts locked o e)

-- Forcing and serving.

pub force_spares : (p : Placement) (locked : List Page) → OwnsFrames p → Spares p (force p locked) locked
force_spares p locked o = force_cases (λ r. Spares p r locked) p locked (λ e. move_spares p locked) (λ t ts e. done_spares p locked o)

pub serve_spares : (p : Placement) (locked : List Page) (q : Page) → OwnsFrames p → IsThere p q → Spares p (serve_step p locked q) locked
serve_spares p locked q o there = serving_cases (λ x. Spares p (after_serving p locked x) locked) p q (λ f s w i h. h) (λ f s. reclaim_spares p q locked)
    (λ f s. done_spares p locked o) (λ n e. force_spares p locked o)
    (λ f fs e s x. fill_spares p q locked o (record { there = there; frameless = ap frame_of s })) (λ f fs e r b. done_spares p locked o)
    (λ f fs e r b. read_spares p q locked o (record { there = there; frameless = read_frameless p q r }))
