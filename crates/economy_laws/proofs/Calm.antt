-- A page that was written and not touched since stays clean, and no write of it begins.
use Rattle.std.proofs.Common.{◌≡◌, ◌≢◌, ◌⊎◌, inl, inr, ℕ, zero, suc, ◌<◌, ◌≤◌, ◌&&◌, Bool, true, false, not, List, [], ◌∷◌, ◌++◌, length, map, Option, Some, None, refl, sym, ap, ◌∙◌, subst, arith}
use Rattle.std.proofs.lemmas.List.{get_or_past}
use Rattle.vm_facts.specs.declared.page.Page.{Page}
use Rattle.vm_facts.specs.declared.page.Page.TheVariants.{Data, Stack, Text}
use Rattle.vm_facts.specs.declared.page.PageState.{PageState}
use Rattle.vm_facts.specs.declared.page.PageState.TheVariants.{Unfilled, Valid, Invalid, Coming, Going, OnSwap}
use Rattle.vm_facts.specs.declared.entry.Entry.{Entry}
use Rattle.vm_facts.specs.declared.entry.Entry.TheVariants as entries
use Rattle.page_model.specs.Pages.{Slot, no_slot, is_dirty_by, written_mark, left_state, frame_of, filling_behind}
use Rattle.flat_state.specs.PageNames.{number_of, beside, pages_from, same_page, is_among}
use Rattle.page_model.specs.Placement.{Placement, Transfer, Part, Errand, Writes, Reads, Source, FromSwap, FromFile, slots_of, slot_of, state_of, mark_of, is_dirty, IsThere, page_of, put, Moving, moving, parts_of}
use Rattle.page_model.specs.Moves.{evict, evict_at, fill, fill_at, get_run, launch_run, done, done_of, arrived_mark, reclaim, reclaim_to, retire, retire_to}
use Rattle.page_model.specs.Steps.{land_then, land_read_then, land_all_then, begin, get_one, get_at, get_all}
use Rattle.page_model.specs.Runs.{pages_of_run, run_out, goes_along, is_idle, is_near, most_written}
use Rattle.page_model.specs.Hands.{expire, expire_of, expire_if, expire_to, sweep, taken, hand_move, hand_moves}
use Rattle.page_model.specs.Place.{put_step, put_by, place_entry}
use Rattle.page_model.specs.Reading.{read_errand}
use Rattle.page_model.specs.Conditions.{EachPage}
use Rattle.page_model.specs.Ownership.{OwnsFrames, Each, IsMoving}
use Rattle.page_laws.proofs.Moves.InSteps.{get_steps, launch_steps, land_steps}
use Rattle.page_laws.proofs.Lists.Pages.{page_cases, put_same, put_other, put_length}
use Rattle.flat_state.proofs.PageNames.{same_page_is, same_page_self}
use Rattle.page_laws.proofs.Moves.Steps.{page_in}
use Rattle.page_laws.proofs.Lists.Runs.{run_each, run_both_in}
use Rattle.std.proofs.lemmas.Bool.{and_parts, or_cases}
use Rattle.page_laws.proofs.Leaving.Held.{written_clean}
use Rattle.page_laws.proofs.Runs.Sweeping.{launch_all_other}
use Rattle.economy_laws.specs.Worth.{stored_by, stored_first, stored_pages, arrives_by, arrives_first}
use Rattle.page_laws.proofs.Moves.Taken.{sweep_cases}

abbrev pub is_going : PageState → Bool
is_going (Going f) = true
is_going _ = false

-- a data or stack page isn't dirty, or a text page is saved; and no write of it is under way
abbrev pub CalmSlot : Page → Slot → Type 0
CalmSlot w x = (is_dirty_by w x.mark ≡ false) × (is_going x.state ≡ false)

abbrev pub Calm : Placement → Page → Type 0
Calm p w = CalmSlot w (slot_of p w)

-- One page is put.

pub put_slot : (p : Placement) (v : Page) (s : PageState) (m : Bool)
    → (slot_of (put p v s m) v ≡ record { state = s; mark = m; filling = filling_behind s (slot_of p v).filling }) ⊎ (slot_of (put p v s m) v ≡ slot_of p v)
put_slot p v s m =
    let le_or : (a b : ℕ) → (a < b) ⊎ (b ≤ a) = λ a b. grind arith in
    elim (le_or (number_of v) (length (slots_of p v))) [
      | inl l ↦ inl (put_same p v s m l)
      | inr l ↦ inr (let k = put_length p v s m v in get_or_past (slots_of (put p v s m) v) (number_of v) no_slot (omega arith) ∙ sym (get_or_past (slots_of p v) (number_of v) no_slot l))
    ]

pub put_calm : (p : Placement) (v : Page) (s : PageState) (m : Bool) (w : Page) → (w ≡ v → (is_dirty_by v m ≡ false) × (is_going s ≡ false))
    → Calm p w → Calm (put p v s m) w
put_calm p v s m w h c = elim (page_cases w v) [
  | inl e ↦ subst (λ (x : Page). Calm (put p v s m) x) (sym e) (elim (put_slot p v s m) [
    | inl k ↦ subst (CalmSlot v) (sym k) (h e)
    | inr k ↦ subst (CalmSlot v) (sym k) (subst (λ (x : Page). Calm p x) e c)
  ])
  | inr n ↦ subst (CalmSlot w) (sym (put_other p v s m w n)) c
]

-- its mark stays, and no write of it begins
kept_calm : (p : Placement) (v : Page) (s : PageState) (w : Page) → is_going s ≡ false → Calm p w → Calm (put p v s (mark_of p v)) w
kept_calm p v s w n c = put_calm p v s (mark_of p v) w (λ e. ((subst (λ (x : Page). Calm p x) e c).0, n)) c

-- Frames that are taken.

left_still : (v : Page) (m : Bool) → is_going (left_state v m) ≡ false
left_still (Data sid v) m = refl
left_still (Stack sid v) m = refl
left_still (Text image v) true = refl
left_still (Text image v) false = refl

evict_calm : (p : Placement) (f : ℕ) (w : Page) → Calm p w → Calm (evict p f) w
evict_calm p f w c = go (page_of p f)
  where
    go : (h : Option Page) → Calm (evict_at p f h) w
    go None = c
    go (Some v) = kept_calm p v (left_state v (mark_of p v)) w (left_still v (mark_of p v)) c

pub fill_calm : (p : Placement) (q w : Page) → (w ≡ q → is_dirty_by q true ≡ false) → Calm p w → Calm (fill p q) w
fill_calm p q w h c = go p.free
  where
    go : (fr : List ℕ) → Calm (fill_at p q fr) w
    go [] = c
    go (f ∷ rest) = put_calm (evict p f) q (Valid f) true w (λ e. (h e, refl)) (evict_calm p f w c)

get_calm : (p : Placement) (e : Errand) (q w : Page) → Calm p w → Calm (get_one p e q) w
get_calm p e q w c = go p.free
  where
    go : (fr : List ℕ) → Calm (get_at p e q fr) w
    go [] = c
    go (f ∷ rest) = put_calm (evict p f) q (Coming f) (mark_of p q) w (λ i. ((subst (λ (x : Page). Calm p x) i c).0, refl)) (evict_calm p f w c)

get_all_calm : (qs : List Page) (p : Placement) (e : Errand) (w : Page) → Calm p w → Calm (get_all p e qs) w
get_all_calm [] p e w c = c
get_all_calm (v ∷ qs) p e w c = get_all_calm qs (get_one p e v) e w (get_calm p e v w c)

get_run_calm : (p : Placement) (e : Errand) (qs : List Page) (w : Page) → Calm p w → Calm (get_run p e qs) w
get_run_calm p e qs w c = subst (λ (r : Placement). Calm r w) (get_steps p e qs) (get_all_calm qs (begin p e) e w c)

-- Pages that move on with their frames.

reclaim_calm : (p : Placement) (q w : Page) → Calm p w → Calm (reclaim p q) w
reclaim_calm p q w c = go (state_of p q)
  where
    go : (s : PageState) → Calm (reclaim_to p q s) w
    go (Invalid f) = kept_calm p q (Valid f) w refl c
    go Unfilled = c
    go (Valid f) = c
    go (Coming f) = c
    go (Going f) = c
    go OnSwap = c

retire_calm : (p : Placement) (q w : Page) → Calm p w → Calm (retire p q) w
retire_calm p q w c = go (state_of p q)
  where
    go : (s : PageState) → Calm (retire_to p q s) w
    go (Invalid f) = kept_calm p q (Invalid f) w refl c
    go (Valid f) = kept_calm p q (Invalid f) w refl c
    go Unfilled = c
    go (Coming f) = c
    go (Going f) = c
    go OnSwap = c

expire_calm : (p : Placement) (locked : List Page) (w : Page) → Calm p w → Calm (expire p locked) w
expire_calm p locked w c = go (page_of p p.front)
  where
    to : (q : Page) (s : PageState) → Calm (expire_to p q s) w
    to q (Valid f) = kept_calm p q (Invalid f) w refl c
    to q Unfilled = c
    to q (Invalid f) = c
    to q (Coming f) = c
    to q (Going f) = c
    to q OnSwap = c

    at : (q : Page) (b : Bool) → Calm (expire_if p q b) w
    at q true = c
    at q false = to q (state_of p q)

    go : (h : Option Page) → Calm (expire_of p locked h) w
    go None = c
    go (Some q) = at q (is_among q locked)

-- Writes that begin: of dirty pages alone.

abbrev pub AllDirty : Placement → List Page → Type 0
AllDirty p qs = EachPage (λ r. is_dirty p r ≡ true) qs

none_dirty : (qs : List Page) (p : Placement) (w : Page) → AllDirty p qs → is_dirty p w ≡ false → EachPage (λ r. w ≢ r) qs
none_dirty [] p w d c = tt
none_dirty (v ∷ qs) p w d c = ((λ e. absurd (let k : true ≡ false = sym d.0 ∙ ap (λ (x : Page). is_dirty p x) (sym e) ∙ c in cc)), none_dirty qs p w d.1 c)

launch_run_calm : (p : Placement) (qs : List Page) (w : Page) → AllDirty p qs → Calm p w → Calm (launch_run p qs) w
launch_run_calm p qs w d c = subst (CalmSlot w)
    (sym (ap (λ (r : Placement). slot_of r w) (sym (launch_steps p qs)) ∙ launch_all_other qs (begin p Writes) w (none_dirty qs p w d c.0))) c

run_out_dirty : (p : Placement) (locked : List Page) (q : Page) → is_dirty p q ≡ true → AllDirty p (pages_of_run q (run_out p locked q))
run_out_dirty p locked q d = run_each (λ r. is_dirty p r ≡ true) (λ w. goes_along p locked (beside q w) && is_near q w) q (run_out p locked q)
    (run_both_in (λ w. goes_along p locked (beside q w) && is_near q w) (number_of q) most_written) d
    (λ w e. (and_parts (is_dirty p (beside q w)) (not (is_among (beside q w) locked))
    (and_parts (is_idle p (beside q w)) (is_dirty p (beside q w) && not (is_among (beside q w) locked)) (and_parts (goes_along p locked (beside q w)) (is_near q w) e).0).1).0)

sweep_calm : (p : Placement) (locked : List Page) (w : Page) → Calm p w → Calm (sweep p locked) w
sweep_calm p locked w c = sweep_cases (λ r. Calm r w) p locked c
    (λ q t e. launch_run_calm p (pages_of_run q (run_out p locked q)) w (run_out_dirty p locked q e) c) (λ q t e. retire_calm p q w c)

move_calm : (p : Placement) (locked : List Page) (w : Page) → Calm p w → Calm (hand_move p locked) w
move_calm p locked w c = sweep_calm (expire p locked) locked w (expire_calm p locked w c)

moves_calm : (n : ℕ) (p : Placement) (locked : List Page) (w : Page) → Calm p w → Calm (hand_moves p locked n) w
moves_calm zero p locked w c = c
moves_calm (suc n) p locked w c = moves_calm n (hand_move p locked) locked w (move_calm p locked w c)

put_step_calm : (p : Placement) (q : Page) (qs : List Page) (w : Page) → (is_dirty p q ≡ true → AllDirty p qs) → Calm p w → Calm (put_step p q qs) w
put_step_calm p q qs w h c = go (is_dirty p q) refl
  where
    go : (d : Bool) → is_dirty p q ≡ d → Calm (put_by p q qs d) w
    go true e = launch_run_calm p qs w (h e) c
    go false e = retire_calm p q w c

-- Transfers that end.

abbrev pub is_text : Page → Bool
is_text (Text image v) = true
is_text _ = false

-- a text page, or one that the oldest transfer doesn't bring from the image
abbrev pub Stands : Bool → Page → Type 0
Stands arrives w = (is_text w ≡ true) ⊎ (arrives ≡ false)

arrived_clean : (source : Source) (demanded v : Page) (m : Bool) → same_page v demanded ≡ true → Stands (arrives_by (Reads source demanded) v) v
    → is_dirty_by v m ≡ false → is_dirty_by v (arrived_mark source v m) ≡ false
arrived_clean FromSwap demanded v m e h c = c
arrived_clean FromFile demanded (Text image n) m e h c = c
arrived_clean FromFile demanded (Data sid n) m e (inl h) c = absurd cc
arrived_clean FromFile demanded (Stack sid n) m e (inl h) c = absurd cc
arrived_clean FromFile demanded (Data sid n) m e (inr h) c =
    absurd (let k : Data sid n ≡ demanded = same_page_is (Data sid n) demanded e in let z : true ≡ false = sym (same_page_self (Data sid n)) ∙ ap (λ (x : Page). same_page x (Data sid n)) k ∙ h in cc)
arrived_clean FromFile demanded (Stack sid n) m e (inr h) c = absurd
    (let k : Stack sid n ≡ demanded = same_page_is (Stack sid n) demanded e in let z : true ≡ false = sym (same_page_self (Stack sid n)) ∙ ap (λ (x : Page). same_page x (Stack sid n)) k ∙ h in cc)

land_calm : (p : Placement) (e : Errand) (x : Part) (rest : List Transfer) (w : Page) → Stands (arrives_by e w) w → Calm p w → Calm (land_then p e x rest) w
land_calm p Writes x rest w h c = put_calm p x.page (Invalid x.frame) (written_mark x.page) w (λ i. (written_clean x.page, refl)) c
land_calm p (Reads source demanded) x rest w h c = go (same_page x.page demanded) refl
  where
    go : (b : Bool) → same_page x.page demanded ≡ b → Calm (land_read_then p source x rest b) w
    go true e = put_calm p x.page (Valid x.frame) (arrived_mark source x.page (mark_of p x.page)) w
        (λ i. (arrived_clean source demanded x.page (mark_of p x.page) e (subst (λ (y : Page). Stands (arrives_by (Reads source demanded) y) y) i h) (subst (λ (y : Page). Calm p y) i c).0, refl)) c
    go false e = kept_calm p x.page (Invalid x.frame) w refl c

land_all_calm : (xs : List Part) (p : Placement) (e : Errand) (ts : List Transfer) (w : Page) → Stands (arrives_by e w) w → Calm p w
    → Calm (land_all_then p e xs ts) w
land_all_calm [] p e ts w h c = c
land_all_calm (x ∷ xs) p e ts w h c = land_all_calm xs (land_then p e x (record { errand = e; parts = xs } ∷ ts)) e ts w h (land_calm p e x (record { errand = e; parts = xs } ∷ ts) w h c)

done_calm : (p : Placement) (w : Page) → Stands (arrives_first p.transfers w) w → Calm p w → Calm (done p) w
done_calm p w h c = go p.transfers h
  where
    go : (ts : List Transfer) → Stands (arrives_first ts w) w → Calm (done_of p ts) w
    go [] h = c
    go (t ∷ ts) h = subst (λ (r : Placement). Calm r w) (land_steps t.parts p t.errand ts) (land_all_calm t.parts p t.errand ts w h c)

-- Paging entries.

-- what is asked of an entry, so that the page stays calm
abbrev pub Spares : Placement → Entry → Page → Type 0
Spares p (entries.Zero q) w = w ≡ q → is_dirty_by q true ≡ false
Spares p (entries.Copy q) w = w ≡ q → is_dirty_by q true ≡ false
Spares p (entries.Put q n) w = is_dirty p q ≡ true → AllDirty p (pages_from q (number_of q) n)
Spares p entries.Done w = Stands (arrives_first p.transfers w) w
Spares p _ w = Unit {0}

pub entry_calm : (locked : List Page) (at : ℕ) (p : Placement) (e : Entry) (w : Page) → Spares p e w → Calm p w → Calm (place_entry locked at p e) w
entry_calm locked at p (entries.Zero q) w h c = fill_calm p q w h c
entry_calm locked at p (entries.Get q lo n) w h c = get_run_calm p (read_errand p q) (pages_from q lo n) w c
entry_calm locked at p (entries.Copy q) w h c = fill_calm p q w h c
entry_calm locked at p (entries.Reclaim q) w h c = reclaim_calm p q w c
entry_calm locked at p (entries.Hands n) w h c = moves_calm n p locked w c
entry_calm locked at p (entries.Put q n) w h c = put_step_calm p q (pages_from q (number_of q) n) w h c
entry_calm locked at p entries.Done w h c = done_calm p w h c
entry_calm locked at p _ w h c = c

-- Writes that end.

parts_going : (p : Placement) (q : Page) (xs : List Part) (rest : List Moving) → Each (IsMoving p) (map (moving Writes) xs ++ rest)
    → is_among q (stored_by Writes xs) ≡ true → is_going (state_of p q) ≡ true
parts_going p q [] rest m h = absurd cc
parts_going p q (x ∷ xs) rest m h = elim (or_cases (same_page q x.page) (is_among q (stored_by Writes xs)) h) [
  | inl e ↦ ap (λ (y : Page). is_going (state_of p y)) (same_page_is q x.page e) ∙ ap is_going m.0
  | inr k ↦ parts_going p q xs rest m.1 k
]

first_going : (p : Placement) (q : Page) (ts : List Transfer) → Each (IsMoving p) (parts_of ts) → is_among q (stored_first ts) ≡ true
    → is_going (state_of p q) ≡ true
first_going p q [] m h = absurd cc
first_going p q (t ∷ ts) m h = by t.errand m h
  where
    by : (e : Errand) → Each (IsMoving p) (map (moving e) t.parts ++ parts_of ts) → is_among q (stored_by e t.parts) ≡ true → is_going (state_of p q) ≡ true
    by Writes m h = parts_going p q t.parts (parts_of ts) m h
    by (Reads source demanded) m h = absurd cc

-- a page that a unit writes to swap is going
pub stored_going : (p : Placement) (u : Entry) (q : Page) → OwnsFrames p → is_among q (stored_pages p u) ≡ true → is_going (state_of p q) ≡ true
stored_going p entries.Done q o h = first_going p q p.transfers o.moves h
stored_going p _ q o h = absurd cc

landed_calm : (p : Placement) (x : Part) (rest : List Transfer) (q : Page) → IsThere p q → q ≡ x.page → Calm (land_then p Writes x rest) q
landed_calm p x rest q there e = subst (λ (y : Page). Calm (land_then p Writes x rest) y) (sym e)
    (subst (CalmSlot x.page) (sym (put_same p x.page (Invalid x.frame) (written_mark x.page) (subst (IsThere p) e there))) (written_clean x.page, refl))

all_landed_calm : (xs : List Part) (p : Placement) (ts : List Transfer) (q : Page) → IsThere p q → is_among q (stored_by Writes xs) ≡ true
    → Calm (land_all_then p Writes xs ts) q
all_landed_calm [] p ts q there h = absurd cc
all_landed_calm (x ∷ xs) p ts q there h = elim (or_cases (same_page q x.page) (is_among q (stored_by Writes xs)) h) [
  | inl e ↦ land_all_calm xs (land_then p Writes x (record { errand = Writes; parts = xs } ∷ ts)) Writes ts q (inr refl)
      (landed_calm p x (record { errand = Writes; parts = xs } ∷ ts) q there (same_page_is q x.page e))
  | inr k ↦ all_landed_calm xs (land_then p Writes x (record { errand = Writes; parts = xs } ∷ ts)) ts q
      (let a = put_length p x.page (Invalid x.frame) (written_mark x.page) q in omega (arith, there)) k
]

first_calm : (p : Placement) (q : Page) (ts : List Transfer) → IsThere p q → is_among q (stored_first ts) ≡ true → Calm (done_of p ts) q
first_calm p q [] there h = absurd cc
first_calm p q (t ∷ ts) there h = subst (λ (r : Placement). Calm r q) (land_steps t.parts p t.errand ts) (by t.errand h)
  where
    by : (e : Errand) → is_among q (stored_by e t.parts) ≡ true → Calm (land_all_then p e t.parts ts) q
    by Writes h = all_landed_calm t.parts p ts q there h
    by (Reads source demanded) h = absurd cc

going_frame : (s : PageState) → is_going s ≡ true → (f : ℕ) × (frame_of s ≡ Some f)
going_frame (Going f) e = (f, refl)
going_frame _ e = absurd cc

-- and calm after it
pub stored_calm : (locked : List Page) (at : ℕ) (p : Placement) (u : Entry) (q : Page) → OwnsFrames p → is_among q (stored_pages p u) ≡ true
    → Calm (place_entry locked at p u) q
stored_calm locked at p entries.Done q o h = let k = going_frame (state_of p q) (stored_going p entries.Done q o h) in first_calm p q p.transfers (page_in p q k.0 k.1) h
stored_calm locked at p _ q o h = absurd cc
