-- Serving a page ends: its rank falls with each unit.
use Rattle.std.proofs.Common.{◌≡◌, ◌≢◌, ◌⊎◌, inl, inr, ℕ, zero, suc, ◌+◌, ◌-◌, ◌*◌, ◌/◌, ◌<◌, ◌≤◌, nat_le, min, Bool, true, false, List, [], ◌∷◌, length, Option, Some, None, refl, sym, ap, ◌∙◌, subst, arith}
use Rattle.std.proofs.lemmas.Bool.{cases_eq, or_left, or_right, or_cases}
use Rattle.std.proofs.lemmas.Bool.Decides.{nat_tests}
use Rattle.std.proofs.lemmas.List.{length_push}
use Rattle.page_laws.proofs.Moves.InSteps.{get_steps, land_steps, done_cases}
use Rattle.page_laws.proofs.Moves.Transfers.{sweep_count, land_all_rest}
use Rattle.page_laws.proofs.Runs.Widest.{above_le, below_room}
use Rattle.vm_facts.specs.declared.page.Page.{Page}
use Rattle.vm_facts.specs.declared.page.Page.TheVariants.{Data, Stack, Text}
use Rattle.vm_facts.specs.declared.page.PageState.{PageState}
use Rattle.vm_facts.specs.declared.page.PageState.TheVariants.{Unfilled, Valid, Invalid, Coming, Going, OnSwap}
use Rattle.page_model.specs.Pages.{Slot, Filling, Zeros, OfImage, frame_of, is_valid, written_mark}
use Rattle.page_model.specs.PageNames.{number_of, beside, pages_from, is_among, same_page}
use Rattle.vm_facts.specs.Lists.{times, without}
use Rattle.page_model.specs.Placement.{Placement, Transfer, Part, Errand, Writes, Reads, Source, filling_by, slot_of, state_of, mark_of, filling_of, page_of, IsThere, parts_of, flying, put}
use Rattle.page_model.specs.Moves.{evict, evict_at, fill_at, done, done_of, reclaim_to, arrived_mark, reclaim, taken_parts}
use Rattle.page_model.specs.Steps.{land_then, land_read_then, land_all_then, begin, get_one, get_at, get_all}
use Rattle.page_model.specs.Runs.{Run, pages_of_run, passing_above, run_both, run_up, run_alone, run_in, run_in_by, comes_from_swap, comes_from_file, spare_frames}
use Rattle.page_model.specs.Hands.{expire}
use Rattle.page_model.specs.Reading.{read_step, read_errand, source_for}
use Rattle.page_model.specs.Serve.{force, serve_step, is_full, after_serving}
use Rattle.page_model.specs.Conditions.{EachPage, AllApart, CanEnter}
use Rattle.page_model.specs.Rank.{HandsStand, far, far_by, far_transfers, far_parts, rank, rank_by, rank_unfilled, HasRoom}
use Rattle.page_model.specs.Ownership.{OwnsFrames, IsListed, seats}
use Rattle.page_model.specs.Place.{filled}
use Rattle.page_laws.proofs.Lists.Frames.{without_head, some_free}
use Rattle.vm_facts.proofs.Lists.{times_head}
use Rattle.page_laws.proofs.Lists.Pages.{page_cases, put_state, put_length, beside_self}
use Rattle.page_model.proofs.PageNames.{same_page_self}
use Rattle.page_laws.proofs.Lists.Parts.{IsOpen, begin_open}
use Rattle.page_laws.proofs.Lists.Local.{none_some}
use Rattle.page_laws.proofs.Moves.Steps.{once_at, put_other_state, EvictRest, evict_rest}
use Rattle.page_laws.proofs.Ownership.Pages.{get_owner}
use Rattle.page_laws.proofs.Lists.Runs.{each_page_imp, each_page_both, below_le, run_apart}
use Rattle.page_laws.proofs.Ownership.Runs.{begin_owner, get_enters_still, get_open_still}
use Rattle.page_laws.proofs.Ownership.Serve.{run_in_enters}
use Rattle.page_laws.proofs.Moves.Stays.{Steady, Stays, done_steady, force_stays, expire_transfers}
use Rattle.page_laws.proofs.Moves.Hands.{reach_le}
use Rattle.page_laws.proofs.Ends.Forcing.{move_falls}
use Rattle.page_laws.proofs.Moves.Cases.{force_cases, serving_cases, IsRead, IsSwapped, IsInFile, read_frameless, some_of}

-- What the end of a transfer leaves.

land_free : (p : Placement) (e : Errand) (x : Part) (rest : List Transfer) → length p.free ≤ length (land_then p e x rest).free
land_free p Writes x rest = let h = length_push p.free x.frame in omega arith
land_free p (Reads source demanded) x rest = go (same_page x.page demanded)
  where
    go : (b : Bool) → length p.free ≤ length (land_read_then p source x rest b).free
    go true = omega arith
    go false = let h = length_push p.free x.frame in omega arith

pub land_all_free : (xs : List Part) (p : Placement) (e : Errand) (ts : List Transfer) → length p.free ≤ length (land_all_then p e xs ts).free
land_all_free [] p e ts = omega arith
land_all_free (x ∷ xs) p e ts =
    let a = land_free p e x (record { errand = e; parts = xs } ∷ ts) in let b = land_all_free xs (land_then p e x (record { errand = e; parts = xs } ∷ ts)) e ts in omega arith

-- a write that ends frees a frame
pub write_frees : (xs : List Part) (p : Placement) (ts : List Transfer) → (xs ≡ [] → ⊥) → 0 < length (land_all_then p Writes xs ts).free
write_frees [] p ts n = absurd (n refl)
write_frees (x ∷ xs) p ts n =
    let a = length_push p.free x.frame in
    let b = land_all_free xs (land_then p Writes x (record { errand = Writes; parts = xs } ∷ ts)) Writes ts in
    omega arith

free_near : (p : Placement) (locked : List Page) → 0 < length p.free → far p locked ≡ 0
free_near p locked l = go p.free l
  where
    go : (fr : List ℕ) → 0 < length fr → far_by p locked fr ≡ 0
    go [] l = absurd (omega arith)
    go (f ∷ fs) l = refl

pub far_parts_le : (p : Placement) (e : Errand) (xs : List Part) (more : ℕ) → far_parts p e xs more ≤ length p.holds + 4 + more
far_parts_le p Writes (x ∷ xs) more = omega arith
far_parts_le p Writes [] more = omega arith
far_parts_le p (Reads source demanded) xs more = omega arith

far_le : (p : Placement) (locked : List Page) → far p locked ≤ length p.holds + 3 + length p.transfers
far_le p locked = go p.free
  where
    flights : (ts : List Transfer) → far_transfers p locked ts ≤ length p.holds + 3 + length ts
    flights [] = let h = reach_le p locked (length p.holds) (length p.holds / 4) p.back in omega arith
    flights (t ∷ ts) = let h = far_parts_le p t.errand t.parts (length ts) in omega arith

    go : (fr : List ℕ) → far_by p locked fr ≤ length p.holds + 3 + length p.transfers
    go [] = flights p.transfers
    go (f ∷ fs) = omega arith

-- The oldest transfer brings a frame nearer.
done_falls : (p : Placement) (locked : List Page) (t : Transfer) (ts : List Transfer) → OwnsFrames p → p.free ≡ [] → p.transfers ≡ t ∷ ts
    → far (done p) locked < far p locked
done_falls p locked t ts o e h = subst (λ (n : ℕ). far (done p) locked < n) (sym (ap (far_by p locked) e ∙ ap (far_transfers p locked) h)) (by t.errand t.parts refl refl)
  where
    is : done p ≡ land_all_then p t.errand t.parts ts
    is = ap (done_of p) h ∙ sym (land_steps t.parts p t.errand ts)

    s : Steady p (done p)
    s = done_steady p o

    after : far (done p) locked ≤ length p.holds + 3 + length ts
    after =
        let a = far_le (done p) locked in
        let b : (done p).transfers ≡ ts = ap (λ (us : List Transfer). (done_of p us).transfers) h ∙ land_all_rest t.parts p t.errand ts in
        let c = ap length s.holds in
        let d = ap length b in
        omega arith

    by : (d : Errand) (xs : List Part) → t.errand ≡ d → t.parts ≡ xs → far (done p) locked < far_parts p d xs (length ts)
    by Writes (x ∷ xs) a b =
        let k : done p ≡ land_all_then p Writes (x ∷ xs) ts = is ∙ ap (λ (d : Errand). land_all_then p d t.parts ts) a ∙ ap (λ (ys : List Part). land_all_then p Writes ys ts) b in
        let z = free_near (done p) locked (subst (λ (q : Placement). 0 < length q.free) (sym k) (write_frees (x ∷ xs) p ts (λ (n : x ∷ xs ≡ []). absurd cc))) in
        omega arith
    by Writes [] a b = omega (arith, after)
    by (Reads source demanded) xs a b = omega (arith, after)

-- Each unit of forcing falls.
pub force_falls : (p : Placement) (locked : List Page) → OwnsFrames p → HandsStand p → HasRoom p locked → p.free ≡ []
    → far (force p locked) locked < far p locked
force_falls p locked o h r e = force_cases (λ x. far x locked < far p locked) p locked (λ t. move_falls p locked o h r e t)
    (λ t ts k. done_falls p locked t ts o e k)

-- A read: the page is coming, and one more transfer is in flight.

abbrev pub is_coming : PageState → Bool
is_coming (Coming f) = true
is_coming _ = false

coming_frame : (s : PageState) → is_coming s ≡ true → frame_of s ≡ None → ⊥
coming_frame (Coming f) e h = none_some f (sym h)
coming_frame _ e h = absurd cc

not_coming : (s : PageState) (f : ℕ) → s ≡ Invalid f → is_coming s ≡ true → ⊥
not_coming s f e h = absurd (let k : true ≡ false = sym h ∙ ap is_coming e in cc)

evict_coming : (p : Placement) (f : ℕ) (q : Page) → OwnsFrames p → 0 < times f p.free → is_coming (state_of p q) ≡ true
    → is_coming (state_of (evict p f) q) ≡ true
evict_coming p f q o b c = go (page_of p f) refl
  where
    go : (h : Option Page) → page_of p f ≡ h → is_coming (state_of (evict_at p f h) q) ≡ true
    go None e = c
    go (Some v) e = let k : IsListed p f v = o.listed f v b e in ap is_coming (put_other_state p v (Rattle.page_model.specs.Pages.left_state v (mark_of p v)) (mark_of p v) q
        (λ h. not_coming (state_of p v) f k.state (subst (λ (x : Page). is_coming (state_of p x) ≡ true) h c))) ∙ c

get_coming_still : (p : Placement) (e : Errand) (v q : Page) → OwnsFrames p → CanEnter p v → is_coming (state_of p q) ≡ true
    → is_coming (state_of (get_one p e v) q) ≡ true
get_coming_still p e v q o c h = go p.free refl
  where
    go : (fr : List ℕ) → p.free ≡ fr → is_coming (state_of (get_at p e v fr) q) ≡ true
    go [] k = h
    go (f ∷ rest) k = ap is_coming (put_other_state (evict p f) v (Coming f) (mark_of p v) q (λ s. coming_frame (state_of p q) h (ap (λ (x : Page). frame_of (state_of p x)) s ∙ c.frameless)))
        ∙ evict_coming p f q o (some_free p f rest k) h

get_comes : (p : Placement) (e : Errand) (v : Page) → CanEnter p v → 0 < length p.free → is_coming (state_of (get_one p e v) v) ≡ true
get_comes p e v c l = go p.free l
  where
    go : (fr : List ℕ) → 0 < length fr → is_coming (state_of (get_at p e v fr) v) ≡ true
    go [] l = absurd (omega arith)
    go (f ∷ rest) l = ap is_coming (put_state (evict p f) v (Coming f) (mark_of p v) (let r : EvictRest p (evict p f) = evict_rest p f in let h = r.sizes v in let k = c.there in omega arith))

-- each page of a run takes one frame
get_takes : (p : Placement) (e : Errand) (v : Page) → OwnsFrames p → length p.free ≤ length (get_one p e v).free + 1
get_takes p e v o = go p.free refl
  where
    go : (fr : List ℕ) → p.free ≡ fr → length fr ≤ length (get_at p e v fr).free + 1
    go [] k = omega arith
    go (f ∷ rest) k =
        let some = some_free p f rest k in
        let was = o.once f (o.frames f some) in
        let one : times f (f ∷ rest) ≡ 1 = (let a : times f p.free ≡ times f (f ∷ rest) = ap (times f) k in let b = times_head f rest in omega arith) in
        let r : EvictRest p (evict p f) = evict_rest p f in
        let left : without f (evict p f).free ≡ rest = ap (without f) (r.free ∙ k) ∙ without_head f rest one in
        let h = ap length left in omega arith

get_all_still : (qs : List Page) (p : Placement) (source : Source) (demanded q : Page) → OwnsFrames p → EachPage (CanEnter p) qs → AllApart qs
    → IsOpen p.transfers (Reads source demanded)
    → is_coming (state_of p q) ≡ true → is_coming (state_of (get_all p (Reads source demanded) qs) q) ≡ true
get_all_still [] p source demanded q o c a latest h = h
get_all_still (v ∷ qs) p source demanded q o c a latest h =
    get_all_still qs (get_one p (Reads source demanded) v) source demanded q (get_owner p source demanded v o c.0 latest)
    (each_page_both (CanEnter p) (λ r. r ≢ v) (CanEnter (get_one p (Reads source demanded) v)) qs c.1 a.0 (λ w k n. get_enters_still p (Reads source demanded) v w o n k))
    a.1 (get_open_still p (Reads source demanded) v latest) (get_coming_still p (Reads source demanded) v q o c.0 h)

get_all_comes : (qs : List Page) (p : Placement) (source : Source) (demanded q : Page) → OwnsFrames p → EachPage (CanEnter p) qs → AllApart qs
    → IsOpen p.transfers (Reads source demanded)
    → length qs ≤ length p.free → is_among q qs ≡ true → is_coming (state_of (get_all p (Reads source demanded) qs) q) ≡ true
get_all_comes [] p source demanded q o c a latest l h = absurd cc
get_all_comes (v ∷ qs) p source demanded q o c a latest l h =
    let o2 = get_owner p source demanded v o c.0 latest in
    let c2 = each_page_both (CanEnter p) (λ r. r ≢ v) (CanEnter (get_one p (Reads source demanded) v)) qs c.1 a.0 (λ w k n. get_enters_still p (Reads source demanded) v w o n k) in
    let latest2 = get_open_still p (Reads source demanded) v latest in
    elim (or_cases (same_page q v) (is_among q qs) h) [
      | inl e ↦ get_all_still qs (get_one p (Reads source demanded) v) source demanded q o2 c2 a.1 latest2
          (subst (λ (x : Page). is_coming (state_of (get_one p (Reads source demanded) v) x) ≡ true) (sym (Rattle.page_model.proofs.PageNames.same_page_is q v e))
          (get_comes p (Reads source demanded) v c.0 (omega arith)))
      | inr e ↦ get_all_comes qs (get_one p (Reads source demanded) v) source demanded q o2 c2 a.1 latest2 (let k = get_takes p (Reads source demanded) v o in omega arith) e
    ]

-- The run of a read: the page is in it, and it has no more pages than frames are free.

abbrev Fits : Page → ℕ → Run → Type 0
Fits q spare r = (r.lo ≤ number_of q) × (number_of q < r.lo + r.n) × (r.n ≤ spare)

both_fits : (passes : ℕ → Bool) (q : Page) (most spare : ℕ) → 0 < most → most ≤ spare → Fits q spare (run_both passes (number_of q) most)
both_fits passes q most spare a b =
    let x = above_le passes (number_of q) (most - 1) in
    let y = below_room passes (number_of q) (most - 1 - passing_above passes (number_of q) (most - 1)) in
    let z = below_le passes (number_of q) (most - 1 - passing_above passes (number_of q) (most - 1)) in
    (omega arith, omega arith, omega arith)

up_fits : (passes : ℕ → Bool) (q : Page) (most spare : ℕ) → 0 < most → most ≤ spare → Fits q spare (run_up passes (number_of q) most)
up_fits passes q most spare a b = let x = above_le passes (number_of q) (most - 1) in (omega arith, omega arith, omega arith)

alone_fits : (q : Page) (spare : ℕ) → 0 < spare → Fits q spare (run_alone q)
alone_fits q spare l = (omega arith, omega arith, omega arith)

min_within : (k spare : ℕ) → 0 < k → 0 < spare → (0 < min k spare) × (min k spare ≤ spare)
min_within k spare a b = (omega arith, omega arith)

run_in_fits : (p : Placement) (q : Page) (s : PageState) (spare : ℕ) → 0 < spare → Fits q spare (run_in_by p q s spare)
run_in_fits p (Text image v) OnSwap spare l = let m = min_within 2 spare (omega arith) l in up_fits (comes_from_swap p (Text image v)) (Text image v) (min 2 spare) spare m.0 m.1
run_in_fits p (Text image v) Unfilled spare l = let m = min_within 2 spare (omega arith) l in up_fits (comes_from_file p (Text image v)) (Text image v) (min 2 spare) spare m.0 m.1
run_in_fits p (Text image v) _ spare l = alone_fits (Text image v) spare l
run_in_fits p (Data sid v) OnSwap spare l = let m = min_within 4 spare (omega arith) l in both_fits (comes_from_swap p (Data sid v)) (Data sid v) (min 4 spare) spare m.0 m.1
run_in_fits p (Data sid v) _ spare l = alone_fits (Data sid v) spare l
run_in_fits p (Stack sid v) OnSwap spare l = let m = min_within 4 spare (omega arith) l in both_fits (comes_from_swap p (Stack sid v)) (Stack sid v) (min 4 spare) spare m.0 m.1
run_in_fits p (Stack sid v) _ spare l = alone_fits (Stack sid v) spare l

pub pages_length : (q : Page) (lo n : ℕ) → length (pages_from q lo n) ≡ n
pages_length q lo zero = refl
pages_length q lo (suc n) = ap suc (pages_length q (lo + 1) n)

pages_among : (q : Page) (lo n w : ℕ) → lo ≤ w → w < lo + n → is_among (beside q w) (pages_from q lo n) ≡ true
pages_among q lo zero w l m = absurd (omega arith)
pages_among q lo (suc n) w l m = elim (cases_eq w lo) [
  | inl e ↦ or_left (same_page (beside q w) (beside q lo)) (is_among (beside q w) (pages_from q (lo + 1) n))
      (subst (λ (x : ℕ). same_page (beside q w) (beside q x) ≡ true) e (same_page_self (beside q w)))
  | inr k ↦ or_right (same_page (beside q w) (beside q lo)) (is_among (beside q w) (pages_from q (lo + 1) n)) (pages_among q (lo + 1) n w (omega arith) (omega arith))
]

pub read_comes : (p : Placement) (q : Page) → OwnsFrames p → CanEnter p q → 0 < length p.free → is_coming (state_of (read_step p q) q) ≡ true
read_comes p q o c l =
    let spare : 0 < spare_frames p = omega arith in
    let f = run_in_fits p q (state_of p q) (spare_frames p) spare in
    subst (λ (r : Placement). is_coming (state_of r q) ≡ true) (get_steps p (read_errand p q) (pages_of_run q (run_in p q)))
    (get_all_comes (pages_of_run q (run_in p q)) (begin p (read_errand p q)) (source_for (state_of p q)) q q (begin_owner p (read_errand p q) o)
    (each_page_imp (CanEnter p) (CanEnter (begin p (read_errand p q))) (pages_of_run q (run_in p q)) (run_in_enters p q c) (λ r k. record { there = k.there; frameless = k.frameless }))
    (run_apart q (run_in p q)) (begin_open p.transfers (read_errand p q))
    (let h = pages_length q (run_in p q).lo (run_in p q).n in omega (arith, f.2))
    (subst (λ (x : Page). is_among x (pages_of_run q (run_in p q)) ≡ true) (beside_self q) (pages_among q (run_in p q).lo (run_in p q).n (number_of q) f.0 f.1)))

pub read_length : (p : Placement) (q : Page) → length (read_step p q).transfers ≡ length p.transfers + 1
read_length p q = length_push p.transfers (record { errand = read_errand p q; parts = taken_parts (pages_of_run q (run_in p q)) p.free })

-- Serving.

pub done_rest : (p : Placement) (t : Transfer) (ts : List Transfer) → p.transfers ≡ t ∷ ts → (done p).transfers ≡ ts
done_rest p t ts e = ap (λ (us : List Transfer). (done_of p us).transfers) e ∙ land_all_rest t.parts p t.errand ts

force_length : (p : Placement) (locked : List Page) → length (force p locked).transfers ≤ length p.transfers + 1
force_length p locked = force_cases (λ r. length r.transfers ≤ length p.transfers + 1) p locked
    (λ e. let a = sweep_count (expire p locked) locked in let b = ap length (expire_transfers p locked) in omega arith)
    (λ t ts e. let a = ap length (done_rest p t ts e) in let b = ap length e in omega arith)

-- a page in flight lands, or stays as it is
abbrev pub Landed : PageState → Type 0
Landed (Valid f) = Unit {0}
Landed (Invalid f) = Unit {0}
Landed _ = ⊥

landed_rank : (p : Placement) (locked : List Page) (x : Filling) (s : PageState) → Landed s → rank_by p locked x s ≤ 1
landed_rank p locked x (Valid f) l = omega arith
landed_rank p locked x (Invalid f) l = omega arith
landed_rank p locked x _ l = absurd l

put_lands : (p : Placement) (v : Page) (s : PageState) (m : Bool) (q : Page) (was : PageState) → Landed s → IsThere p q
    → ((state_of p q ≡ was) ⊎ Landed (state_of p q)) → (state_of (put p v s m) q ≡ was) ⊎ Landed (state_of (put p v s m) q)
put_lands p v s m q was l there h = elim (page_cases q v) [
  | inl e ↦ inr (subst (λ (x : Page). Landed (state_of (put p v s m) x)) (sym e) (subst Landed (sym (put_state p v s m (subst (IsThere p) e there))) l))
  | inr n ↦ elim h [
    | inl k ↦ inl (put_other_state p v s m q n ∙ k)
    | inr k ↦ inr (subst Landed (sym (put_other_state p v s m q n)) k)
  ]
]

land_lands : (p : Placement) (e : Errand) (x : Part) (rest : List Transfer) (q : Page) (was : PageState) → IsThere p q
    → ((state_of p q ≡ was) ⊎ Landed (state_of p q))
    → (state_of (land_then p e x rest) q ≡ was) ⊎ Landed (state_of (land_then p e x rest) q)
land_lands p Writes x rest q was there h = put_lands p x.page (Invalid x.frame) (written_mark x.page) q was tt there h
land_lands p (Reads source demanded) x rest q was there h = go (same_page x.page demanded)
  where
    go : (b : Bool) → (state_of (land_read_then p source x rest b) q ≡ was) ⊎ Landed (state_of (land_read_then p source x rest b) q)
    go true = put_lands p x.page (Valid x.frame) (arrived_mark source x.page (mark_of p x.page)) q was tt there h
    go false = put_lands p x.page (Invalid x.frame) (mark_of p x.page) q was tt there h

land_there : (p : Placement) (e : Errand) (x : Part) (rest : List Transfer) (q : Page) → IsThere p q → IsThere (land_then p e x rest) q
land_there p Writes x rest q there = let h = put_length p x.page (Invalid x.frame) (written_mark x.page) q in omega arith
land_there p (Reads source demanded) x rest q there = go (same_page x.page demanded)
  where
    go : (b : Bool) → IsThere (land_read_then p source x rest b) q
    go true = let h = put_length p x.page (Valid x.frame) (arrived_mark source x.page (mark_of p x.page)) q in omega arith
    go false = let h = put_length p x.page (Invalid x.frame) (mark_of p x.page) q in omega arith

pub land_all_lands : (xs : List Part) (p : Placement) (e : Errand) (ts : List Transfer) (q : Page) (was : PageState) → IsThere p q
    → ((state_of p q ≡ was) ⊎ Landed (state_of p q))
    → (state_of (land_all_then p e xs ts) q ≡ was) ⊎ Landed (state_of (land_all_then p e xs ts) q)
land_all_lands [] p e ts q was there h = h
land_all_lands (x ∷ xs) p e ts q was there h = land_all_lands xs (land_then p e x (record { errand = e; parts = xs } ∷ ts)) e ts q was
    (land_there p e x (record { errand = e; parts = xs } ∷ ts) q there) (land_lands p e x (record { errand = e; parts = xs } ∷ ts) q was there h)

-- a page on its way is in a transfer
in_flight : (p : Placement) (q : Page) (f : ℕ) → OwnsFrames p → frame_of (state_of p q) ≡ Some f → (state_of p q ≡ Invalid f → ⊥)
    → seats 0 (state_of p q) ≡ 0 → p.transfers ≡ [] → ⊥
in_flight p q f o e n z t =
    let zero_or : (m : ℕ) → (m ≡ 0) ⊎ (0 < m) = λ m. grind arith in
    elim (zero_or (times f p.free)) [
      | inl y ↦ absurd (
          let a = once_at p q f o e in
          let b : seats (times f p.free) (state_of p q) ≡ 0 = ap (λ (k : ℕ). seats k (state_of p q)) y ∙ z in
          let c : times f (flying (parts_of p.transfers)) ≡ 0 = ap (λ (ts : List Transfer). times f (flying (parts_of ts))) t in
          omega arith)
      | inr y ↦ n (let k : IsListed p f q = o.listed f q y (o.names q f e) in k.state)
    ]

pub flying_in : (p : Placement) (q : Page) (f : ℕ) → OwnsFrames p → (state_of p q ≡ Coming f) ⊎ (state_of p q ≡ Going f) → p.transfers ≡ [] → ⊥
flying_in p q f o s = elim s [
  | inl e ↦ in_flight p q f o (ap frame_of e) (λ k. absurd (let z : Coming f ≡ Invalid f = sym e ∙ k in cc)) (ap (seats 0) e)
  | inr e ↦ in_flight p q f o (ap frame_of e) (λ k. absurd (let z : Going f ≡ Invalid f = sym e ∙ k in cc)) (ap (seats 0) e)
]

-- the oldest transfer brings a page in flight nearer
done_rank : (p : Placement) (locked : List Page) (q : Page) → IsThere p q → (p.transfers ≡ [] → ⊥)
    → ((r : Placement) (x : Filling) → rank_by r locked x (state_of p q) ≡ 2 + length r.transfers)
    → rank (done p) locked q < 2 + length p.transfers
done_rank p locked q there n is = go p.transfers refl
  where
    go : (ts : List Transfer) → p.transfers ≡ ts → rank (done_of p ts) locked q < 2 + length ts
    go [] e = absurd (n e)
    go (t ∷ ts) e = subst (λ (r : Placement). rank r locked q < 2 + length (t ∷ ts)) (land_steps t.parts p t.errand ts) (elim (land_all_lands t.parts p t.errand ts q (state_of p q) there (inl refl)) [
      | inl h ↦ subst (λ (s : PageState). rank_by (land_all_then p t.errand t.parts ts) locked (filling_of (land_all_then p t.errand t.parts ts) q) s < 2 + length (t ∷ ts)) (sym h)
          (let a = is (land_all_then p t.errand t.parts ts) (filling_of (land_all_then p t.errand t.parts ts) q) in
          let b : length (land_all_then p t.errand t.parts ts).transfers ≡ length ts =
          ap (λ (r : Placement). length r.transfers) (land_steps t.parts p t.errand ts) ∙ ap length (land_all_rest t.parts p t.errand ts) in omega arith)
      | inr h ↦ let a =
          landed_rank (land_all_then p t.errand t.parts ts) locked (filling_of (land_all_then p t.errand t.parts ts) q) (state_of (land_all_then p t.errand t.parts ts) q) h in omega arith
    ])

pub full_some : (p : Placement) → is_full p ≡ true → 0 < length p.transfers
full_some p e =
    let at_least : (n : ℕ) → nat_le 16 n ≡ true → 0 < n = λ n e. grind (arith, nat_tests) in
    at_least (length p.transfers) e

coming_rank : (p : Placement) (locked : List Page) (x : Filling) (s : PageState) → is_coming s ≡ true → rank_by p locked x s ≡ 2 + length p.transfers
coming_rank p locked x (Coming f) e = refl
coming_rank p locked x _ e = absurd cc

-- what stays keeps its state and filling
still_rank : (p r : Placement) (locked : List Page) (q : Page) → slot_of r q ≡ slot_of p q → rank r locked q ≡ rank_by r locked (filling_of p q) (state_of p q)
still_rank p r locked q e = ap (λ (x : Slot). rank_by r locked (filling_by q x.filling) x.state) e

done_near : (p : Placement) (locked : List Page) (f : ℕ) (fs : List ℕ) → p.free ≡ f ∷ fs → far (done p) locked ≡ 0
done_near p locked f fs e = free_near (done p) locked
    (done_cases (λ (r : Placement). 0 < length r.free) p some (λ t ts k. let h = land_all_free t.parts p t.errand ts in omega (arith, some)))
  where
    some : 0 < length p.free
    some = let h = ap length e in omega arith

fill_rank : (p : Placement) (locked : List Page) (q : Page) (f : ℕ) (fs : List ℕ) → IsThere p q → p.free ≡ f ∷ fs → rank (filled p q) locked q ≡ 0
fill_rank p locked q f fs there e = ap (rank_by (filled p q) locked (filling_of (filled p q) q)) (ap (λ (fr : List ℕ). state_of (fill_at p q fr) q) e
    ∙ put_state (evict p f) q (Valid f) true (let r : EvictRest p (evict p f) = evict_rest p f in let h = r.sizes q in omega arith))

pub serve_falls : (p : Placement) (locked : List Page) (q : Page) → OwnsFrames p → HandsStand p → HasRoom p locked → IsThere p q
    → is_valid (state_of p q) ≡ false → rank (serve_step p locked q) locked q < rank p locked q
serve_falls p locked q o h r there nv = serving_cases (λ x. rank (after_serving p locked x) locked q < rank p locked q) p q
    (λ f s. absurd (let k : true ≡ false = sym (ap is_valid s) ∙ nv in cc)) invalid flies waits zeros full reads
  where
    invalid : (f : ℕ) → state_of p q ≡ Invalid f → rank (reclaim p q) locked q < rank p locked q
    invalid f e =
        let a : state_of (reclaim p q) q ≡ Valid f = ap (λ (s : PageState). state_of (reclaim_to p q s) q) e ∙ put_state p q (Valid f) (mark_of p q) there in
        let b = ap (rank_by (reclaim p q) locked (filling_of (reclaim p q) q)) a in
        let c = ap (rank_by p locked (filling_of p q)) e in
        omega arith

    flies : (f : ℕ) → (state_of p q ≡ Coming f) ⊎ (state_of p q ≡ Going f) → rank (done p) locked q < rank p locked q
    flies f s =
        let is : (k : Placement) (x : Filling) → rank_by k locked x (state_of p q) ≡ 2 + length k.transfers =
        λ k x. elim s [
          | inl e ↦ ap (rank_by k locked x) e
          | inr e ↦ ap (rank_by k locked x) e
        ] in
        let a = is p (filling_of p q) in
        let b = done_rank p locked q there (flying_in p q f o s) is in
        omega arith

    -- what is left as it was, and its rank by its state
    forced : frame_of (state_of p q) ≡ None → slot_of (force p locked) q ≡ slot_of p q
    forced e = let s : Stays p (force p locked) = force_stays p locked o in s.others q e

    waits : frame_of (state_of p q) ≡ None → p.free ≡ [] → rank (force p locked) locked q < rank p locked q
    waits n e =
        let a = still_rank p (force p locked) locked q (forced n) in
        let b = force_falls p locked o h r e in
        let c = force_length p locked in
        frameless_falls (state_of p q) (filling_of p q) n a b c
      where
        frameless_falls : (s : PageState) (x : Filling) → frame_of s ≡ None → rank (force p locked) locked q ≡ rank_by (force p locked) locked x s
            → far (force p locked) locked < far p locked → length (force p locked).transfers ≤ length p.transfers + 1
            → rank (force p locked) locked q < rank_by p locked x s
        frameless_falls Unfilled Zeros n a b c = omega arith
        frameless_falls Unfilled OfImage n a b c = omega arith
        frameless_falls OnSwap x n a b c = omega arith
        frameless_falls (Valid f) x n a b c = absurd cc
        frameless_falls (Invalid f) x n a b c = absurd cc
        frameless_falls (Coming f) x n a b c = absurd cc
        frameless_falls (Going f) x n a b c = absurd cc

    zeros : (f : ℕ) (fs : List ℕ) → p.free ≡ f ∷ fs → state_of p q ≡ Unfilled → filling_of p q ≡ Zeros → rank (filled p q) locked q < rank p locked q
    zeros f fs e s x =
        let a = fill_rank p locked q f fs there e in
        let b = ap (rank_by p locked (filling_of p q)) s ∙ ap (rank_unfilled p locked) x in
        omega arith

    -- the rank of a page that is read
    read_rank : IsRead p q → (k : Placement) → rank_by k locked (filling_of p q) (state_of p q) ≡ 4 + length k.transfers + 2 * far k locked
    read_rank (IsSwapped e) k = ap (rank_by k locked (filling_of p q)) e
    read_rank (IsInFile e x) k = ap (rank_by k locked (filling_of p q)) e ∙ ap (rank_unfilled k locked) x

    full : (f : ℕ) (fs : List ℕ) → p.free ≡ f ∷ fs → IsRead p q → is_full p ≡ true → rank (done p) locked q < rank p locked q
    full f fs fr i b =
        let st : Steady p (done p) = done_steady p o in
        let a = still_rank p (done p) locked q (st.others q (read_frameless p q i)) ∙ read_rank i (done p) in
        let c = read_rank i p in
        let d = done_near p locked f fs fr in
        let e = less p.transfers refl (full_some p b) in
        omega arith
      where
        less : (ts : List Transfer) → p.transfers ≡ ts → 0 < length p.transfers → length (done p).transfers < length p.transfers
        less [] t c = absurd (let z = ap length t in omega arith)
        less (t ∷ ts) k c = let a = ap length (done_rest p t ts k) in let b = ap length k in omega arith

    reads : (f : ℕ) (fs : List ℕ) → p.free ≡ f ∷ fs → IsRead p q → is_full p ≡ false → rank (read_step p q) locked q < rank p locked q
    reads f fs fr i b =
        let c : CanEnter p q = record { there = there; frameless = read_frameless p q i } in
        let k = coming_rank (read_step p q) locked (filling_of (read_step p q) q) (state_of (read_step p q) q) (read_comes p q o c (some_of p f fs fr)) in
        let l = read_length p q in
        let d = read_rank i p in
        omega arith
