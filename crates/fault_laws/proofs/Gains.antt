-- Which pages come to be valid by the moves of paging, and how many reads are in flight.
use Rattle.std.proofs.Common.{◌≡◌, ◌⊎◌, inl, inr, ℕ, zero, suc, ◌+◌, ◌<◌, ◌≤◌, Bool, true, false, List, [], ◌∷◌, ◌++◌, Option, Some, None, refl, sym, ap, ◌∙◌, subst, arith}
use Rattle.vm_facts.specs.declared.page.Page.{Page}
use Rattle.vm_facts.specs.declared.page.Page.TheVariants.{Data, Stack, Text}
use Rattle.vm_facts.specs.declared.page.PageState.{PageState}
use Rattle.vm_facts.specs.declared.page.PageState.TheVariants.{Unfilled, Valid, Invalid, Coming, Going, OnSwap}
use Rattle.vm_facts.specs.Lists.{without}
use Rattle.flat_state.specs.PageNames.{number_of, same_page, is_among}
use Rattle.page_model.specs.Pages.{is_valid, left_state, written_mark, frame_of}
use Rattle.page_model.specs.Frames.{set_frame}
use Rattle.page_model.specs.Placement.{Placement, Transfer, Part, Errand, Writes, Reads, Source, state_of, mark_of, is_dirty, page_of, put, IsThere}
use Rattle.page_model.specs.Moves.{evict, evict_at, turn, touch, touch_to, touch_all, fill, fill_at, get_run}
use Rattle.page_model.specs.Moves.{launch_run, arrived_mark, done, reclaim, reclaim_to, retire, retire_to, drop_page, drop_at, drop_all, leave_page, leave_by, leave_all, listed}
use Rattle.page_model.specs.Steps.{land_then, land_read_then, land_all_then, join_last, begin, get_one, get_at, get_all, launch, launch_to, launch_all}
use Rattle.page_model.specs.Runs.{run_out, pages_of_run}
use Rattle.page_model.specs.Hands.{expire, expire_of, expire_if, expire_to, sweep, hand_move, hand_moves}
use Rattle.page_model.specs.Place.{put_by, put_step}
use Rattle.flat_state.proofs.PageNames.{same_page_is}
use Rattle.page_laws.proofs.Moves.InSteps.{get_steps, launch_steps, land_steps, done_cases}
use Rattle.page_laws.proofs.Lists.Pages.{page_cases, put_state, put_length}
use Rattle.page_laws.proofs.Moves.Steps.{page_in, put_other_state}
use Rattle.page_laws.proofs.Moves.Transfers.{land_all_rest}
use Rattle.page_laws.proofs.Moves.Taken.{sweep_cases}

-- Reads in flight.

abbrev pub read_by : Errand → ℕ
read_by Writes = 0
read_by (Reads source demanded) = 1

abbrev pub reads_of : List Transfer → ℕ
reads_of [] = 0
reads_of (t ∷ ts) = read_by t.errand + reads_of ts

reads_begun : (ts : List Transfer) (e : Errand) → reads_of (ts ++ record { errand = e; parts = [] } ∷ []) ≡ reads_of ts + read_by e
reads_begun [] e = omega arith
reads_begun (t ∷ ts) e = let rest = reads_begun ts e in omega arith

-- a page joins the youngest transfer
write_joined : (ts : List Transfer) (x : Part) → reads_of (join_last ts Writes x) ≡ reads_of ts
write_joined [] x = refl
write_joined (t ∷ []) x = refl
write_joined (t ∷ u ∷ us) x = ap (λ (n : ℕ). read_by t.errand + n) (write_joined (u ∷ us) x)

read_joined : (ts : List Transfer) (e : Errand) (x : Part) → 0 < reads_of ts → reads_of (join_last ts e x) ≡ reads_of ts
read_joined [] e x l = absurd (omega arith)
read_joined (t ∷ []) e x l = refl
read_joined (t ∷ u ∷ us) e x l = ap (λ (n : ℕ). read_by t.errand + n) (more u us)
  where
    more : (u : Transfer) (us : List Transfer) → reads_of (join_last (u ∷ us) e x) ≡ reads_of (u ∷ us)
    more u [] = refl
    more u (v ∷ vs) = ap (λ (n : ℕ). read_by u.errand + n) (more v vs)

-- No page comes to be valid, and no read begins.

pub record Keeps (p q : Placement) : Type 0 where
  pub valid : (w : Page) → is_valid (state_of q w) ≡ true → is_valid (state_of p w) ≡ true
  pub reads : reads_of q.transfers ≤ reads_of p.transfers

pub keeps_self : (p : Placement) → Keeps p p
keeps_self p = record { valid = λ w h. h; reads = omega arith }

pub keeps_both : (p q r : Placement) → Keeps p q → Keeps q r → Keeps p r
keeps_both p q r k l = record { valid = λ w h. k.valid w (l.valid w h); reads = let a = k.reads in let b = l.reads in omega arith }

-- This page alone may come to be valid.
abbrev pub Gains : Page → Placement → Placement → Type 0
Gains v p q = (w : Page) → is_valid (state_of q w) ≡ true → (is_valid (state_of p w) ≡ true) ⊎ (w ≡ v)

pub valid_framed : (s : PageState) → is_valid s ≡ true → (f : ℕ) × (frame_of s ≡ Some f)
valid_framed (Valid f) h = (f, refl)
valid_framed _ h = absurd cc

-- a valid page is there
pub valid_there : (p : Placement) (w : Page) → is_valid (state_of p w) ≡ true → IsThere p w
valid_there p w h = let k = valid_framed (state_of p w) h in page_in p w k.0 k.1

-- The put of a page.

module _ (p : Placement) (v : Page) (s : PageState) (m : Bool) where
  put_gains : Gains v p (put p v s m)
  put_gains w h = elim (page_cases w v) [
    | inl e ↦ inr e
    | inr n ↦ inl (ap is_valid (sym (put_other_state p v s m w n)) ∙ h)
  ]

  put_valid : (is_valid s ≡ true → is_valid (state_of p v) ≡ true) → (w : Page) → is_valid (state_of (put p v s m) w) ≡ true → is_valid (state_of p w) ≡ true
  put_valid k w h = elim (put_gains w h) [
    | inl was ↦ was
    | inr e ↦ subst (λ (x : Page). is_valid (state_of p x) ≡ true) (sym e) (here (subst (λ (x : Page). is_valid (state_of (put p v s m) x) ≡ true) e h))
  ]
    where
      here : is_valid (state_of (put p v s m) v) ≡ true → is_valid (state_of p v) ≡ true
      here g =
          let there : IsThere p v = subst (λ (n : ℕ). number_of v < n) (put_length p v s m v) (valid_there (put p v s m) v g) in
          k (sym (ap is_valid (put_state p v s m there)) ∙ g)

  -- with other frames, another free list and other transfers
  put_keeps : (holds : List (Option Page)) (free : List ℕ) (ts : List Transfer) → (is_valid s ≡ true → is_valid (state_of p v) ≡ true)
      → reads_of ts ≤ reads_of p.transfers → Keeps p (record (put p v s m) { holds = holds; free = free; transfers = ts })
  put_keeps holds free ts k l = record { valid = put_valid k; reads = l }

  turn_keeps : (free : List ℕ) (ts : List Transfer) → is_valid s ≡ false → reads_of ts ≤ reads_of p.transfers → Keeps p (turn p v s m free ts)
  turn_keeps free ts n l = put_keeps p.holds free ts (λ h. absurd (let e : true ≡ false = sym h ∙ n in cc)) l

-- Fills and reads.

left_invalid : (v : Page) (m : Bool) → is_valid (left_state v m) ≡ false
left_invalid (Text image v) false = refl
left_invalid (Text image v) true = refl
left_invalid (Data sid v) m = refl
left_invalid (Stack sid v) m = refl

evict_keeps : (p : Placement) (f : ℕ) → Keeps p (evict p f)
evict_keeps p f = go (page_of p f)
  where
    go : (h : Option Page) → Keeps p (evict_at p f h)
    go None = keeps_self p
    go (Some v) = put_keeps p v (left_state v (mark_of p v)) (mark_of p v) (set_frame p.holds f None) p.free p.transfers
        (λ h. absurd (let e : true ≡ false = sym h ∙ left_invalid v (mark_of p v) in cc)) (omega arith)

pub fill_gains : (p : Placement) (v : Page) → Gains v p (fill p v)
fill_gains p v = go p.free
  where
    go : (fr : List ℕ) → Gains v p (fill_at p v fr)
    go [] w h = inl h
    go (f ∷ rest) w h = elim (put_gains (evict p f) v (Valid f) true w h) [
      | inl was ↦ (let k : Keeps p (evict p f) = evict_keeps p f in inl (k.valid w was))
      | inr e ↦ inr e
    ]

pub fill_reads : (p : Placement) (v : Page) → (fill p v).transfers ≡ p.transfers
fill_reads p v = go p.free
  where
    go : (fr : List ℕ) → (fill_at p v fr).transfers ≡ p.transfers
    go [] = refl
    go (f ∷ rest) = refl

get_keeps : (p : Placement) (e : Errand) (v : Page) → 0 < reads_of p.transfers → Keeps p (get_one p e v)
get_keeps p e v l = go p.free
  where
    go : (fr : List ℕ) → Keeps p (get_at p e v fr)
    go [] = keeps_self p
    go (f ∷ rest) =
        let k : Keeps p (evict p f) = evict_keeps p f in
        let j = read_joined p.transfers e (record { page = v; frame = f }) l in
        record {
          valid = λ w h. k.valid w (put_valid (evict p f) v (Coming f) (mark_of p v) (λ x. absurd cc) w h);
          reads = omega arith;
        }

get_reads : (p : Placement) (e : Errand) (v : Page) → 0 < reads_of p.transfers → 0 < reads_of (get_one p e v).transfers
get_reads p e v l = go p.free
  where
    go : (fr : List ℕ) → 0 < reads_of (get_at p e v fr).transfers
    go [] = l
    go (f ∷ rest) = let j = read_joined p.transfers e (record { page = v; frame = f }) l in omega arith

get_all_keeps : (qs : List Page) (p : Placement) (e : Errand) → 0 < reads_of p.transfers → Keeps p (get_all p e qs)
get_all_keeps [] p e l = keeps_self p
get_all_keeps (v ∷ qs) p e l =
    keeps_both p (get_one p e v) (get_all (get_one p e v) e qs) (get_keeps p e v l) (get_all_keeps qs (get_one p e v) e (get_reads p e v l))

-- a read makes no page valid, till it ends
pub get_run_valid : (p : Placement) (source : Source) (demanded : Page) (qs : List Page) (w : Page)
    → is_valid (state_of (get_run p (Reads source demanded) qs) w) ≡ true → is_valid (state_of p w) ≡ true
get_run_valid p source demanded qs w h =
    let b = reads_begun p.transfers (Reads source demanded) in
    let k : Keeps (begin p (Reads source demanded)) (get_run p (Reads source demanded) qs) =
    subst (Keeps (begin p (Reads source demanded))) (get_steps p (Reads source demanded) qs) (get_all_keeps qs (begin p (Reads source demanded)) (Reads source demanded) (omega arith)) in
    k.valid w h

pub get_run_reads : (p : Placement) (source : Source) (demanded : Page) (qs : List Page)
    → reads_of (get_run p (Reads source demanded) qs).transfers ≤ 1 + reads_of p.transfers
get_run_reads p source demanded qs =
    let b = reads_begun p.transfers (Reads source demanded) in
    let k : Keeps (begin p (Reads source demanded)) (get_run p (Reads source demanded) qs) =
    subst (Keeps (begin p (Reads source demanded))) (get_steps p (Reads source demanded) qs) (get_all_keeps qs (begin p (Reads source demanded)) (Reads source demanded) (omega arith)) in
    let l = k.reads in
    omega arith

pub reclaim_gains : (p : Placement) (v : Page) → Gains v p (reclaim p v)
reclaim_gains p v = go (state_of p v)
  where
    go : (s : PageState) → Gains v p (reclaim_to p v s)
    go (Invalid f) w h = put_gains p v (Valid f) (mark_of p v) w h
    go Unfilled w h = inl h
    go (Valid f) w h = inl h
    go (Coming f) w h = inl h
    go (Going f) w h = inl h
    go OnSwap w h = inl h

pub reclaim_reads : (p : Placement) (v : Page) → (reclaim p v).transfers ≡ p.transfers
reclaim_reads p v = go (state_of p v)
  where
    go : (s : PageState) → (reclaim_to p v s).transfers ≡ p.transfers
    go (Invalid f) = refl
    go Unfilled = refl
    go (Valid f) = refl
    go (Coming f) = refl
    go (Going f) = refl
    go OnSwap = refl

-- Writes.

launch_keeps : (p : Placement) (v : Page) → Keeps p (launch p v)
launch_keeps p v = go (state_of p v)
  where
    to : (f : ℕ) → Keeps p (turn p v (Going f) (mark_of p v) p.free (join_last p.transfers Writes (record { page = v; frame = f })))
    to f =
        let j = write_joined p.transfers (record { page = v; frame = f }) in
        turn_keeps p v (Going f) (mark_of p v) p.free (join_last p.transfers Writes (record { page = v; frame = f })) refl (omega arith)

    go : (s : PageState) → Keeps p (launch_to p v s)
    go (Valid f) = to f
    go (Invalid f) = to f
    go Unfilled = keeps_self p
    go (Coming f) = keeps_self p
    go (Going f) = keeps_self p
    go OnSwap = keeps_self p

launch_all_keeps : (qs : List Page) (p : Placement) → Keeps p (launch_all p qs)
launch_all_keeps [] p = keeps_self p
launch_all_keeps (v ∷ qs) p = keeps_both p (launch p v) (launch_all (launch p v) qs) (launch_keeps p v) (launch_all_keeps qs (launch p v))

launch_run_keeps : (p : Placement) (qs : List Page) → Keeps p (launch_run p qs)
launch_run_keeps p qs = subst (Keeps p) (launch_steps p qs) (keeps_both p (begin p Writes) (launch_all (begin p Writes) qs)
    (record { valid = λ w h. h; reads = let b = reads_begun p.transfers Writes in omega arith })
    (launch_all_keeps qs (begin p Writes)))

retire_keeps : (p : Placement) (v : Page) → Keeps p (retire p v)
retire_keeps p v = go (state_of p v)
  where
    go : (s : PageState) → Keeps p (retire_to p v s)
    go (Valid f) = turn_keeps p v (Invalid f) (mark_of p v) (p.free ++ f ∷ []) p.transfers refl (omega arith)
    go (Invalid f) = turn_keeps p v (Invalid f) (mark_of p v) (p.free ++ f ∷ []) p.transfers refl (omega arith)
    go Unfilled = keeps_self p
    go (Coming f) = keeps_self p
    go (Going f) = keeps_self p
    go OnSwap = keeps_self p

pub put_step_keeps : (p : Placement) (v : Page) (qs : List Page) → Keeps p (put_step p v qs)
put_step_keeps p v qs = go (is_dirty p v)
  where
    go : (d : Bool) → Keeps p (put_by p v qs d)
    go true = launch_run_keeps p qs
    go false = retire_keeps p v

-- The hands.

expire_keeps : (p : Placement) (locked : List Page) → Keeps p (expire p locked)
expire_keeps p locked = go (page_of p p.front)
  where
    to : (v : Page) (s : PageState) → Keeps p (expire_to p v s)
    to v (Valid f) = turn_keeps p v (Invalid f) (mark_of p v) p.free p.transfers refl (omega arith)
    to v Unfilled = keeps_self p
    to v (Invalid f) = keeps_self p
    to v (Coming f) = keeps_self p
    to v (Going f) = keeps_self p
    to v OnSwap = keeps_self p

    at : (v : Page) (b : Bool) → Keeps p (expire_if p v b)
    at v true = keeps_self p
    at v false = to v (state_of p v)

    go : (h : Option Page) → Keeps p (expire_of p locked h)
    go None = keeps_self p
    go (Some v) = at v (is_among v locked)

sweep_keeps : (p : Placement) (locked : List Page) → Keeps p (sweep p locked)
sweep_keeps p locked = sweep_cases (Keeps p) p locked (keeps_self p) (λ q t e. launch_run_keeps p (pages_of_run q (run_out p locked q))) (λ q t e. retire_keeps p q)

-- the hands go on by one frame
move_keeps : (p : Placement) (locked : List Page) → Keeps p (hand_move p locked)
move_keeps p locked =
    let k : Keeps p (sweep (expire p locked) locked) = keeps_both p (expire p locked) (sweep (expire p locked) locked) (expire_keeps p locked) (sweep_keeps (expire p locked) locked) in
    record { valid = k.valid; reads = k.reads }

pub moves_keep : (n : ℕ) (p : Placement) (locked : List Page) → Keeps p (hand_moves p locked n)
moves_keep zero p locked = keeps_self p
moves_keep (suc n) p locked = keeps_both p (hand_move p locked) (hand_moves (hand_move p locked) locked n) (move_keeps p locked) (moves_keep n (hand_move p locked) locked)

-- The end of a transfer.

land_write_valid : (xs : List Part) (p : Placement) (ts : List Transfer) (w : Page) → is_valid (state_of (land_all_then p Writes xs ts) w) ≡ true
    → is_valid (state_of p w) ≡ true
land_write_valid [] p ts w h = h
land_write_valid (x ∷ xs) p ts w h =
    let rest : List Transfer = record { errand = Writes; parts = xs } ∷ ts in
    put_valid p x.page (Invalid x.frame) (written_mark x.page) (λ e. absurd cc) w (land_write_valid xs (land_then p Writes x rest) ts w h)

land_read_gains : (p : Placement) (source : Source) (demanded : Page) (x : Part) (rest : List Transfer)
    → Gains demanded p (land_then p (Reads source demanded) x rest)
land_read_gains p source demanded x rest w = go (same_page x.page demanded) refl
  where
    go : (b : Bool) → same_page x.page demanded ≡ b → is_valid (state_of (land_read_then p source x rest b) w) ≡ true → (is_valid (state_of p w) ≡ true) ⊎ (w ≡ demanded)
    go true e h = elim (put_gains p x.page (Valid x.frame) (arrived_mark source x.page (mark_of p x.page)) w h) [
      | inl was ↦ inl was
      | inr s ↦ inr (s ∙ same_page_is x.page demanded e)
    ]
    go false e h = inl (put_valid p x.page (Invalid x.frame) (mark_of p x.page) (λ k. absurd cc) w h)

land_all_gains : (xs : List Part) (p : Placement) (source : Source) (demanded : Page) (ts : List Transfer)
    → Gains demanded p (land_all_then p (Reads source demanded) xs ts)
land_all_gains [] p source demanded ts w h = inl h
land_all_gains (x ∷ xs) p source demanded ts w h =
    let rest : List Transfer = record { errand = Reads source demanded; parts = xs } ∷ ts in
    elim (land_all_gains xs (land_then p (Reads source demanded) x rest) source demanded ts w h) [
      | inl now ↦ land_read_gains p source demanded x rest w now
      | inr e ↦ inr e
    ]

-- At most one page comes to be valid, and so many fetches, with the reads that end, are at least as many.
pub data Gain (p q : Placement) (n : ℕ) : Type 0 where
  GainsNone : ((w : Page) → is_valid (state_of q w) ≡ true → is_valid (state_of p w) ≡ true) → reads_of q.transfers ≤ n + reads_of p.transfers → Gain p q n
  GainsOne : (v : Page) → Gains v p q → 1 + reads_of q.transfers ≤ n + reads_of p.transfers → Gain p q n

pub keeps_gain : (p q : Placement) → Keeps p q → Gain p q 0
keeps_gain p q k = GainsNone k.valid (let l = k.reads in omega arith)

-- the end of a read makes its page valid
pub done_gain : (p : Placement) → Gain p (done p) 0
done_gain p = done_cases (λ (q : Placement). Gain p q 0) p (keeps_gain p p (keeps_self p)) (λ t ts h. by t ts t.errand refl h)
  where
    by : (t : Transfer) (ts : List Transfer) (e : Errand) → t.errand ≡ e → p.transfers ≡ t ∷ ts → Gain p (land_all_then p e t.parts ts) 0
    by t ts Writes e h =
        let r = ap (λ (q : Placement). reads_of q.transfers) (land_steps t.parts p Writes ts) ∙ ap reads_of (land_all_rest t.parts p Writes ts) in
        let b = ap reads_of h in
        GainsNone (land_write_valid t.parts p ts) (omega arith)
    by t ts (Reads source demanded) e h =
        let r = ap (λ (q : Placement). reads_of q.transfers) (land_steps t.parts p (Reads source demanded) ts) ∙ ap reads_of (land_all_rest t.parts p (Reads source demanded) ts) in
        let b = ap reads_of h in
        let i = ap read_by e in
        GainsOne demanded (land_all_gains t.parts p source demanded ts) (omega arith)

-- User writes, and pages that are given up.

touch_keeps : (p : Placement) (v : Page) → Keeps p (touch p v)
touch_keeps p v = go v (state_of p v) refl
  where
    stays : (v : Page) (f : ℕ) → state_of p v ≡ Valid f → Keeps p (turn p v (Valid f) true p.free p.transfers)
    stays v f e = put_keeps p v (Valid f) true p.holds p.free p.transfers (λ h. ap is_valid e) (omega arith)

    go : (v : Page) (s : PageState) → state_of p v ≡ s → Keeps p (touch_to p v s)
    go (Data sid n) (Valid f) e = stays (Data sid n) f e
    go (Stack sid n) (Valid f) e = stays (Stack sid n) f e
    go _ _ e = keeps_self p

pub touch_all_keeps : (qs : List Page) (p : Placement) → Keeps p (touch_all p qs)
touch_all_keeps [] p = keeps_self p
touch_all_keeps (v ∷ qs) p = keeps_both p (touch p v) (touch_all (touch p v) qs) (touch_keeps p v) (touch_all_keeps qs (touch p v))

drop_keeps : (p : Placement) (v : Page) → Keeps p (drop_page p v)
drop_keeps p v = go (frame_of (state_of p v))
  where
    go : (h : Option ℕ) → Keeps p (drop_at p v h)
    go None = put_keeps p v Unfilled false p.holds p.free p.transfers (λ h. absurd cc) (omega arith)
    go (Some f) = put_keeps p v Unfilled false (set_frame p.holds f None) (f ∷ without f p.free) p.transfers (λ h. absurd cc) (omega arith)

pub drop_all_keeps : (qs : List Page) (p : Placement) → Keeps p (drop_all p qs)
drop_all_keeps [] p = keeps_self p
drop_all_keeps (v ∷ qs) p = keeps_both p (drop_page p v) (drop_all (drop_page p v) qs) (drop_keeps p v) (drop_all_keeps qs (drop_page p v))

leave_keeps : (p : Placement) (v : Page) → Keeps p (leave_page p v)
leave_keeps p v = go (state_of p v) (listed p v)
  where
    blank : Keeps p (put p v Unfilled false)
    blank = put_keeps p v Unfilled false p.holds p.free p.transfers (λ h. absurd cc) (omega arith)

    go : (s : PageState) (m : ℕ) → Keeps p (leave_by p v s m)
    go (Valid f) m = turn_keeps p v (Invalid f) false (p.free ++ f ∷ []) p.transfers refl (omega arith)
    go (Invalid f) zero = turn_keeps p v (Invalid f) false (p.free ++ f ∷ []) p.transfers refl (omega arith)
    go (Invalid f) (suc m) = turn_keeps p v (Invalid f) false p.free p.transfers refl (omega arith)
    go OnSwap m = blank
    go Unfilled m = blank
    go (Coming f) m = keeps_self p
    go (Going f) m = keeps_self p

pub leave_all_keeps : (qs : List Page) (p : Placement) → Keeps p (leave_all p qs)
leave_all_keeps [] p = keeps_self p
leave_all_keeps (v ∷ qs) p = keeps_both p (leave_page p v) (leave_all (leave_page p v) qs) (leave_keeps p v) (leave_all_keeps qs (leave_page p v))
