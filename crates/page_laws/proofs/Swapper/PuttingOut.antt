-- Putting a process out ends: its rank falls with each unit.
use Rattle.std.proofs.Common.{◌≡◌, ◌≢◌, ◌⊎◌, inl, inr, ℕ, zero, suc, ◌+◌, ◌*◌, ◌<◌, ◌≤◌, ◌==◌, nat_le, Bool, true, false, not, ◌&&◌, cond, List, [], ◌∷◌, ◌++◌, length, Option, Some, None, refl, sym, ap, ap₂, ◌∙◌, subst, arith}
use Rattle.std.proofs.lemmas.Bool.Decides.{nat_tests}
use Rattle.std.proofs.lemmas.List.{get_or_past}
use Rattle.vm_facts.specs.declared.page.Page.{Page}
use Rattle.vm_facts.specs.declared.page.Page.TheVariants.{Data, Stack}
use Rattle.vm_facts.specs.declared.page.PageState.{PageState}
use Rattle.vm_facts.specs.declared.page.PageState.TheVariants.{Unfilled, Valid, Invalid, Coming, Going, OnSwap}
use Rattle.vm_facts.specs.declared.entry.Entry.{Entry}
use Rattle.vm_facts.specs.declared.entry.Entry.TheVariants as entries
use Rattle.page_model.specs.Pages.{Slot, no_slot, frame_of, numbered, changed, written_mark}
use Rattle.page_model.specs.PageNames.{number_of, beside, pages_from, same_page}
use Rattle.vm_facts.specs.Lists.{times}
use Rattle.page_model.specs.Placement.{Placement, Residence, Transfer, Part, Errand, Writes, Reads, slots_of, slot_of, state_of, mark_of, is_dirty, parts_of, image_of, sharers, put}
use Rattle.page_model.specs.Moves.{turn, done, done_of, retire, retire_to, arrived_mark}
use Rattle.page_model.specs.Steps.{land_then, land_read_then, land_all_then, begin, join_last, launch, launch_to, launch_all}
use Rattle.page_model.specs.Runs.{run_put, run_put_by, run_up, run_alone, is_seated, is_seated_by, is_near, most_written}
use Rattle.page_model.specs.Serve.{is_full}
use Rattle.page_model.specs.Place.{put_by, put_step, moved, place_entry, data_from, stack_from, pages_of_space}
use Rattle.page_model.specs.Conditions.{EachPage, HasSeat, CanPlace, CanBegin, HaveParts}
use Rattle.page_model.specs.Ownership.{OwnsFrames}
use Rattle.page_model.specs.Swapper.{residence_of, is_out, names_page, is_settled, first_seated, put_unit_by, put_out_by, put_out_if, put_out_unit}
use Rattle.vm_facts.specs.Pages.{is_of_space, is_of_text}
use Rattle.page_model.specs.Dues.{DueStand, LeavesDue}
use Rattle.page_model.specs.PuttingOut.{IsResident, is_active_by, is_active, active_count, put_rank, put_rank_by, EndsPuttingOut}
use Rattle.page_laws.proofs.Moves.Puts.{rest_by_puts, done_kept, put_step_kept}
use Rattle.page_laws.proofs.Lists.Frames.{times_one}
use Rattle.vm_facts.proofs.Lists.{times-append}
use Rattle.page_laws.proofs.Lists.Pages.{page_cases, put_state, put_length, beside_self}
use Rattle.page_laws.proofs.Lists.Local.{none_some}
use Rattle.std.proofs.lemmas.Option.{same_Some}
use Rattle.page_laws.proofs.Moves.InSteps.{launch_steps, done_cases}
use Rattle.page_laws.proofs.Moves.Steps.{page_in, put_other_state}
use Rattle.page_laws.proofs.Lists.Runs.{run_each, run_up_in, run_alone_in}
use Rattle.std.proofs.lemmas.Bool.{and_parts, cases_lt, leb-false}
use Rattle.page_laws.proofs.Moves.HandRuns.{retire_flies}
use Rattle.page_laws.proofs.Ownership.Runs.{Landing, landing_state, land_owner, land_transfers, seated_seat}
use Rattle.page_laws.proofs.Ownership.Entries.{place_entry_owner}
use Rattle.page_laws.proofs.Moves.Stays.{Steady, done_steady}
use Rattle.page_laws.proofs.Bytes.Others.{put_steady}
use Rattle.page_laws.proofs.Moves.Transfers.{entry_count, land_all_rest}
use Rattle.page_laws.proofs.Moves.Parts.{entry_parts}
use Rattle.page_laws.proofs.Due.Entries.{entry_due}

-- No page becomes active.

abbrev Calmer : Placement → Placement → Type 0
Calmer p q = (w : Page) → is_active q w ≡ true → is_active p w ≡ true

calmer_both : (p q r : Placement) → Calmer p q → Calmer q r → Calmer p r
calmer_both p q r s t w e = s w (t w e)

-- frames that were free are free
abbrev Frees : Placement → List ℕ → Type 0
Frees p free = (f : ℕ) → times f p.free ≤ times f free

still_zero : (a b : ℕ) → a ≤ b → (b == 0) ≡ true → (a == 0) ≡ true
still_zero a b l e = grind (arith, nat_tests)

active_less : (p q : Placement) → Frees p q.free → (s : PageState) → is_active_by q s ≡ true → is_active_by p s ≡ true
active_less p q l (Valid f) e = refl
active_less p q l (Invalid f) e = still_zero (times f p.free) (times f q.free) (l f) e
active_less p q l (Coming f) e = refl
active_less p q l _ e = e

-- where a page is active after it was put into a state, that is an active state
put_active : (p : Placement) (v : Page) (s : PageState) (m : Bool) (free : List ℕ) (ts : List Transfer) → is_active (turn p v s m free ts) v ≡ true
    → is_active_by (turn p v s m free ts) s ≡ true
put_active p v s m free ts e = elim (cases_lt (number_of v) (length (slots_of p v))) [
  | inl l ↦ sym (ap (is_active_by (turn p v s m free ts)) (put_state p v s m l)) ∙ e
  | inr l ↦ absurd (
      let k : slot_of (put p v s m) v ≡ no_slot = get_or_past (slots_of (put p v s m) v) (number_of v) no_slot (let h = put_length p v s m v in omega arith) in
      let n : is_active (turn p v s m free ts) v ≡ false = ap (λ (x : Slot). is_active_by (turn p v s m free ts) x.state) k in
      let z : true ≡ false = sym e ∙ n in cc)
]

turn_calm : (p : Placement) (v : Page) (s : PageState) (m : Bool) (free : List ℕ) (ts : List Transfer) → Frees p free
    → (is_active_by (turn p v s m free ts) s ≡ true → is_active p v ≡ true) → Calmer p (turn p v s m free ts)
turn_calm p v s m free ts l h w e = elim (page_cases w v) [
  | inl k ↦ subst (λ (x : Page). is_active p x ≡ true) (sym k) (h (put_active p v s m free ts (subst (λ (x : Page). is_active (turn p v s m free ts) x ≡ true) k e)))
  | inr n ↦ active_less p (turn p v s m free ts) l (state_of p w) (sym (ap (is_active_by (turn p v s m free ts)) (put_other_state p v s m w n)) ∙ e)
]

same_frees : (p : Placement) → Frees p p.free
same_frees p f = omega arith

more_frees : (p : Placement) (g : ℕ) → Frees p (p.free ++ g ∷ [])
more_frees p g f = let h = times-append f p.free (g ∷ []) in omega arith

some_not : (n : ℕ) → 0 < n → (n == 0) ≡ false
some_not n l = grind (arith, nat_tests)

-- a page whose frame goes to the tail isn't active
tail_idle : (p q : Placement) (f : ℕ) → q.free ≡ p.free ++ f ∷ [] → is_active_by q (Invalid f) ≡ false
tail_idle p q f e = some_not (times f q.free) (let a = ap (times f) e in let h = times-append f p.free (f ∷ []) in let k = times_one f in omega arith)

never : {C : Type 0} (b : Bool) → b ≡ false → b ≡ true → C
never b e h = absurd (let z : true ≡ false = sym h ∙ e in cc)

tail_calm : (p : Placement) (v : Page) (f : ℕ) (m : Bool) (ts : List Transfer) → Calmer p (turn p v (Invalid f) m (p.free ++ f ∷ []) ts)
tail_calm p v f m ts = turn_calm p v (Invalid f) m (p.free ++ f ∷ []) ts (more_frees p f)
    (never (is_active_by (turn p v (Invalid f) m (p.free ++ f ∷ []) ts) (Invalid f)) (tail_idle p (turn p v (Invalid f) m (p.free ++ f ∷ []) ts) f refl))

land_calm : (p : Placement) (e : Errand) (x : Part) (rest : List Transfer) → OwnsFrames p → Landing p e x rest → Calmer p (land_then p e x rest)
land_calm p Writes x rest o l = tail_calm p x.page x.frame (written_mark x.page) rest
land_calm p (Reads source demanded) x rest o l = go (same_page x.page demanded)
  where
    go : (b : Bool) → Calmer p (land_read_then p source x rest b)
    go true =
        turn_calm p x.page (Valid x.frame) (arrived_mark source x.page (mark_of p x.page)) p.free rest (same_frees p) (λ e. ap (is_active_by p) (landing_state p (Reads source demanded) x rest o l))
    go false = tail_calm p x.page x.frame (mark_of p x.page) rest

land_all_calm : (xs : List Part) (p : Placement) (e : Errand) (ts : List Transfer) → OwnsFrames p
    → p.transfers ≡ record { errand = e; parts = xs } ∷ ts → Calmer p (land_all_then p e xs ts)
land_all_calm [] p e ts o h = λ w k. active_less p (land_all_then p e [] ts) (same_frees p) (state_of p w) k
land_all_calm (x ∷ xs) p e ts o h =
    let rest = record { errand = e; parts = xs } ∷ ts in
    let l : Landing p e x (record { errand = e; parts = xs } ∷ ts) = record { parts = ap parts_of h } in
    calmer_both p (land_then p e x (record { errand = e; parts = xs } ∷ ts)) (land_all_then (land_then p e x (record { errand = e; parts = xs } ∷ ts)) e xs ts)
    (land_calm p e x (record { errand = e; parts = xs } ∷ ts) o l)
    (land_all_calm xs (land_then p e x (record { errand = e; parts = xs } ∷ ts)) e ts (land_owner p e x (record { errand = e; parts = xs } ∷ ts) o l)
    (land_transfers p e x (record { errand = e; parts = xs } ∷ ts)))

done_calm : (p : Placement) → OwnsFrames p → Calmer p (done p)
done_calm p o = done_cases (Calmer p) p (λ w k. k) (λ t ts e. land_all_calm t.parts p t.errand ts o e)

launch_calm : (p : Placement) (v : Page) → Calmer p (launch p v)
launch_calm p v = go (state_of p v)
  where
    go : (s : PageState) → Calmer p (launch_to p v s)
    go (Valid f) = turn_calm p v (Going f) (mark_of p v) p.free (join_last p.transfers Writes (record { page = v; frame = f })) (same_frees p) (λ e. absurd cc)
    go (Invalid f) = turn_calm p v (Going f) (mark_of p v) p.free (join_last p.transfers Writes (record { page = v; frame = f })) (same_frees p) (λ e. absurd cc)
    go Unfilled = λ w k. k
    go (Coming f) = λ w k. k
    go (Going f) = λ w k. k
    go OnSwap = λ w k. k

launch_all_calm : (qs : List Page) (p : Placement) → Calmer p (launch_all p qs)
launch_all_calm [] p = λ w k. k
launch_all_calm (v ∷ qs) p = calmer_both p (launch p v) (launch_all (launch p v) qs) (launch_calm p v) (launch_all_calm qs (launch p v))

begin_calm : (p : Placement) (e : Errand) → Calmer p (begin p e)
begin_calm p e w k = active_less p (begin p e) (same_frees p) (state_of p w) k

retire_calm : (p : Placement) (v : Page) → Calmer p (retire p v)
retire_calm p v = go (state_of p v)
  where
    go : (s : PageState) → Calmer p (retire_to p v s)
    go (Valid f) = tail_calm p v f (mark_of p v) p.transfers
    go (Invalid f) = tail_calm p v f (mark_of p v) p.transfers
    go Unfilled = λ w k. k
    go (Coming f) = λ w k. k
    go (Going f) = λ w k. k
    go OnSwap = λ w k. k

put_calm : (p : Placement) (v : Page) (qs : List Page) → Calmer p (put_step p v qs)
put_calm p v qs = go (is_dirty p v)
  where
    go : (b : Bool) → Calmer p (put_by p v qs b)
    go true = subst (Calmer p) (launch_steps p qs) (calmer_both p (begin p Writes) (launch_all (begin p Writes) qs) (begin_calm p Writes) (launch_all_calm qs (begin p Writes)))
    go false = retire_calm p v

-- The page that is put is active no more.

launched_idle : (p : Placement) (v : Page) → HasSeat p v → is_active (launch p v) v ≡ false
launched_idle p v c = elim c.seat.state [
  | inl e ↦ ap (λ (s : PageState). is_active (launch_to p v s) v) e ∙ turned (ap frame_of e)
  | inr e ↦ ap (λ (s : PageState). is_active (launch_to p v s) v) e.0 ∙ turned (ap frame_of e.0)
]
  where
    turned : frame_of (state_of p v) ≡ Some c.frame → is_active (turn p v (Going c.frame) (mark_of p v) p.free (join_last p.transfers Writes (record { page = v; frame = c.frame }))) v ≡ false
    turned h = ap (is_active_by (turn p v (Going c.frame) (mark_of p v) p.free (join_last p.transfers Writes (record { page = v; frame = c.frame }))))
        (put_state p v (Going c.frame) (mark_of p v) (page_in p v c.frame h))

retired_idle : (p : Placement) (v : Page) → HasSeat p v → is_active (retire p v) v ≡ false
retired_idle p v c =
    let q : Placement = turn p v (Invalid c.frame) (mark_of p v) (p.free ++ c.frame ∷ []) p.transfers in
    let turned : frame_of (state_of p v) ≡ Some c.frame → is_active q v ≡ false = λ h.
    ap (is_active_by q) (put_state p v (Invalid c.frame) (mark_of p v) (page_in p v c.frame h)) ∙ tail_idle p q c.frame refl in
    elim c.seat.state [
      | inl e ↦ ap (λ (s : PageState). is_active (retire_to p v s) v) e ∙ turned (ap frame_of e)
      | inr e ↦ ap (λ (s : PageState). is_active (retire_to p v s) v) e.0 ∙ turned (ap frame_of e.0)
    ]

idle_still : (p q : Placement) (v : Page) → Calmer p q → is_active p v ≡ false → is_active q v ≡ false
idle_still p q v c e = go (is_active q v) refl
  where
    go : (b : Bool) → is_active q v ≡ b → b ≡ false
    go true h = never (is_active p v) e (c v h)
    go false h = refl

begun_seat : (p : Placement) (v : Page) → HasSeat p v → HasSeat (begin p Writes) v
begun_seat p v c = record { frame = c.frame; seat = record { state = c.seat.state } }

put_idle : (p : Placement) (v : Page) (n : ℕ) → 0 < n → HasSeat p v → is_active (put_step p v (pages_from v (number_of v) n)) v ≡ false
put_idle p v zero l c = absurd (omega arith)
put_idle p v (suc n) l c = go (is_dirty p v)
  where
    rest : List Page
    rest = pages_from v (number_of v + 1) n

    b : Placement
    b = begin p Writes

    launched : is_active (launch_all (launch b v) rest) v ≡ false
    launched = idle_still (launch b v) (launch_all (launch b v) rest) v (launch_all_calm rest (launch b v)) (launched_idle b v (begun_seat p v c))

    go : (d : Bool) → is_active (put_by p v (pages_from v (number_of v) (suc n)) d) v ≡ false
    go true = subst (λ (r : Placement). is_active r v ≡ false) (launch_steps p (pages_from v (number_of v) (suc n)))
        (subst (λ (x : Page). is_active (launch_all (launch b x) rest) v ≡ false) (sym (beside_self v)) launched)
    go false = retired_idle p v c

-- Counting.

count_le : (p q : Placement) (qs : List Page) → Calmer p q → active_count q qs ≤ active_count p qs
count_le p q [] c = omega arith
count_le p q (v ∷ qs) c = go (is_active q v) (is_active p v) (c v) (count_le p q qs c)
  where
    go : (a b : Bool) → (a ≡ true → b ≡ true) → active_count q qs ≤ active_count p qs → cond a 1 0 + active_count q qs ≤ cond b 1 0 + active_count p qs
    go true true h l = omega arith
    go true false h l = absurd (let z : false ≡ true = h refl in cc)
    go false true h l = omega arith
    go false false h l = omega arith

seated_active : (p : Placement) (s : PageState) → is_seated_by p s ≡ true → is_active_by p s ≡ true
seated_active p (Coming f) e = refl
seated_active p _ e = e

pub seated_first : (p : Placement) (qs : List Page) (v : Page) → first_seated p qs ≡ Some v → is_seated p v ≡ true
seated_first p [] v e = none_some v e
seated_first p (q ∷ qs) v e = go (is_seated p q) refl e (seated_first p qs v)
  where
    go : (b : Bool) → is_seated p q ≡ b → cond b (Some q) (first_seated p qs) ≡ Some v → (first_seated p qs ≡ Some v → is_seated p v ≡ true) → is_seated p v ≡ true
    go true h k ih = ap (is_seated p) (sym (same_Some q v k)) ∙ h
    go false h k ih = ih k

count_less : (p q : Placement) (qs : List Page) (v : Page) → Calmer p q → first_seated p qs ≡ Some v → is_active q v ≡ false
    → active_count q qs < active_count p qs
count_less p q [] v c e i = none_some v e
count_less p q (w ∷ qs) v c e i = go (is_seated p w) refl e (λ k. count_less p q qs v c k i)
  where
    head : (a b : Bool) → a ≡ false → b ≡ true → cond a 1 0 + active_count q qs < cond b 1 0 + active_count p qs
    head true b x y = absurd cc
    head false true x y = let l = count_le p q qs c in omega arith
    head false false x y = absurd cc

    tail : (a b : Bool) → (a ≡ true → b ≡ true) → active_count q qs < active_count p qs → cond a 1 0 + active_count q qs < cond b 1 0 + active_count p qs
    tail true true h l = omega arith
    tail true false h l = absurd (let z : false ≡ true = h refl in cc)
    tail false true h l = omega arith
    tail false false h l = omega arith

    go : (b : Bool) → is_seated p w ≡ b → cond b (Some w) (first_seated p qs) ≡ Some v → (first_seated p qs ≡ Some v → active_count q qs < active_count p qs)
        → active_count q (w ∷ qs) < active_count p (w ∷ qs)
    go true h k ih = head (is_active q w) (is_active p w) (subst (λ (x : Page). is_active q x ≡ false) (sym (same_Some w v k)) i) (seated_active p (state_of p w) h)
    go false h k ih = tail (is_active q w) (is_active p w) (c w) (ih k)

-- Residents, and the pages of the space.

pub done_residents : (p : Placement) → (done p).residents ≡ p.residents
done_residents p = (done_kept rest_by_puts p).residents

pub put_residents : (p : Placement) (v : Page) (qs : List Page) → (put_step p v qs).residents ≡ p.residents
put_residents p v qs = (put_step_kept rest_by_puts p v qs).residents

same_pages : (p q : Placement) (sid : ℕ) → Steady p q → pages_of_space q sid ≡ pages_of_space p sid
same_pages p q sid s = ap₂ (λ (a b : ℕ). data_from sid 0 a ++ stack_from sid 0 b) (s.sizes (Data sid 0)) (s.sizes (Stack sid 0))

pub same_out : (p q : Placement) (pid : ℕ) → q.residents ≡ p.residents → is_out q pid ≡ is_out p pid
same_out p q pid e = ap (λ (rs : List Residence). (residence_of rs pid).out) e

-- The rank.

rank_is : (p : Placement) (pid sid : ℕ) → is_out p pid ≡ false → put_rank p pid sid ≡ 1 + length p.transfers + 2 * active_count p (pages_of_space p sid)
rank_is p pid sid e = ap (put_rank_by p sid) e

done_rank : (p : Placement) (pid sid : ℕ) (t : Transfer) (ts : List Transfer) → OwnsFrames p → is_out p pid ≡ false → p.transfers ≡ t ∷ ts
    → put_rank (done p) pid sid < put_rank p pid sid
done_rank p pid sid t ts o e h =
    let a = rank_is p pid sid e in
    let b = rank_is (done p) pid sid (same_out p (done p) pid (done_residents p) ∙ e) in
    let c : (done p).transfers ≡ ts = ap (λ (us : List Transfer). (done_of p us).transfers) h ∙ land_all_rest t.parts p t.errand ts in
    let d = ap length c in
    let g : length p.transfers ≡ suc (length ts) = ap length h in
    let k = ap (active_count (done p)) (same_pages p (done p) sid (done_steady p o)) in
    let l = count_le p (done p) (pages_of_space p sid) (done_calm p o) in
    omega arith

put_rank_falls : (locked : List Page) (at : ℕ) (p : Placement) (pid sid : ℕ) (v : Page) (n : ℕ) → is_out p pid ≡ false → 0 < n
    → first_seated p (pages_of_space p sid) ≡ Some v
    → put_rank (place_entry locked at p (entries.Put v n)) pid sid < put_rank p pid sid
put_rank_falls locked at p pid sid v n e m h =
    let qs = pages_from v (number_of v) n in
    let q = put_step p v qs in
    let a = rank_is p pid sid e in
    let b = rank_is q pid sid (same_out p q pid (put_residents p v qs) ∙ e) in
    let c = entry_count locked at p (entries.Put v n) in
    let k = ap (active_count q) (same_pages p q sid (put_steady p v qs)) in
    let l = count_less p q (pages_of_space p sid) v (put_calm p v qs) h (put_idle p v n m (seated_seat p v (seated_first p (pages_of_space p sid) v h))) in
    omega arith

out_now : (rs : List Residence) (pid at : ℕ) → numbered (λ (r : Residence). r.pid) pid rs ≢ None
    → (residence_of (changed (λ (r : Residence). r.pid) pid (λ (r : Residence). record r { out = true; since = at }) rs) pid).out ≡ true
out_now [] pid at n = absurd (n refl)
out_now (r ∷ rs) pid at n = go (r.pid == pid) refl n (out_now rs pid at)
  where
    go : (b : Bool) → (r.pid == pid) ≡ b → (cond b (Some r) (numbered (λ (r : Residence). r.pid) pid rs) ≢ None)
        → ((numbered (λ (r : Residence). r.pid) pid rs ≢ None) → (residence_of (changed (λ (r : Residence). r.pid) pid (λ (r : Residence). record r { out = true; since = at }) rs) pid).out ≡ true)
        → (residence_of (cond b (record r { out = true; since = at } ∷ rs) (r ∷ changed (λ (r : Residence). r.pid) pid (λ (r : Residence). record r { out = true; since = at }) rs)) pid).out ≡ true
    go true e k ih = ap (λ (b : Bool). (cond b (record r { out = true; since = at }) (residence_of rs pid)).out) e
    go false e k ih = ap (λ (b : Bool). (cond b r (residence_of (changed (λ (r : Residence). r.pid) pid (λ (r : Residence). record r { out = true; since = at }) rs) pid)).out) e ∙ ih k

out_rank : (p : Placement) (pid sid at : ℕ) → IsResident p pid → is_out p pid ≡ false → put_rank (moved p pid true at) pid sid < put_rank p pid sid
out_rank p pid sid at i e =
    let a = rank_is p pid sid e in
    let b : put_rank (moved p pid true at) pid sid ≡ 0 = ap (put_rank_by (moved p pid true at) sid) (out_now p.residents pid at i) in
    omega arith

-- What the unit is.

pub unsettled_flies : (p : Placement) (sid : ℕ) → is_settled p sid ≡ false → (t : Transfer) × (ts : List Transfer) × (p.transfers ≡ t ∷ ts)
unsettled_flies p sid e = go p.transfers refl
  where
    rests : (b : Bool) → (true && not (b && false)) ≡ true
    rests true = refl
    rests false = refl

    go : (us : List Transfer) → p.transfers ≡ us → (t : Transfer) × (ts : List Transfer) × (p.transfers ≡ t ∷ ts)
    go [] h = absurd (
        let k : is_settled p sid ≡ true =
        ap (λ (us : List Transfer). not (names_page (is_of_space sid) (parts_of us)) && not ((sharers p (image_of p sid) == 1) && names_page (is_of_text (image_of p sid)) (parts_of us))) h
        ∙ rests (sharers p (image_of p sid) == 1) in
        let z : true ≡ false = sym k ∙ e in cc)
    go (t ∷ ts) h = (t, ts, h)

pub full_is : (n : ℕ) → nat_le 16 n ≡ true → 16 ≤ n
full_is n e = grind (arith, nat_tests)

pub full_flies : (p : Placement) → is_full p ≡ true → (t : Transfer) × (ts : List Transfer) × (p.transfers ≡ t ∷ ts)
full_flies p e = go p.transfers refl
  where
    go : (us : List Transfer) → p.transfers ≡ us → (t : Transfer) × (ts : List Transfer) × (p.transfers ≡ t ∷ ts)
    go [] h = absurd (let l = full_is (length p.transfers) e in let k = ap length h in omega arith)
    go (t ∷ ts) h = (t, ts, h)

pub run_some : (p : Placement) (v : Page) → 0 < (run_put p v).n
run_some p v = go (is_dirty p v)
  where
    go : (b : Bool) → 0 < (run_put_by p v b).n
    go true = omega arith
    go false = omega arith

pub run_seats : (p : Placement) (v : Page) → HasSeat p v → EachPage (HasSeat p) (pages_from v (number_of v) (run_put p v).n)
run_seats p v c = go (is_dirty p v)
  where
    passes : ℕ → Bool
    passes w = is_seated p (beside v w) && (is_dirty p (beside v w) && is_near v w)

    go : (b : Bool) → EachPage (HasSeat p) (pages_from v (number_of v) (run_put_by p v b).n)
    go true = run_each (HasSeat p) passes v (run_up passes (number_of v) most_written) (run_up_in passes (number_of v) most_written) c
        (λ w e. seated_seat p (beside v w) (and_parts (is_seated p (beside v w)) (is_dirty p (beside v w) && is_near v w) e).0)
    go false =
        run_each (HasSeat p) passes v (run_alone v) (run_alone_in passes v) c (λ w e. seated_seat p (beside v w) (and_parts (is_seated p (beside v w)) (is_dirty p (beside v w) && is_near v w) e).0)

-- something is so of the unit, where it is so of each that it can be
pub unit_case : (P : Entry → Type 0) (p : Placement) (pid sid : ℕ)
    → ((t : Transfer) (ts : List Transfer) → p.transfers ≡ t ∷ ts → P entries.Done)
    → ((v : Page) → is_settled p sid ≡ true → first_seated p (pages_of_space p sid) ≡ Some v → (is_dirty p v && is_full p) ≡ false
    → P (entries.Put v (run_put p v).n))
    → (is_settled p sid ≡ true → first_seated p (pages_of_space p sid) ≡ None → P (entries.SwapOut pid))
    → P (put_out_unit p pid sid)
unit_case P p pid sid d u l = go (is_settled p sid) refl
  where
    unit : (v : Page) (b : Bool) → is_settled p sid ≡ true → first_seated p (pages_of_space p sid) ≡ Some v → (is_dirty p v && is_full p) ≡ b → P (put_unit_by p v b)
    unit v true e h k = let f = full_flies p (and_parts (is_dirty p v) (is_full p) k).1 in d f.0 f.1 f.2
    unit v false e h k = u v e h k

    by : (o : Option Page) → is_settled p sid ≡ true → first_seated p (pages_of_space p sid) ≡ o → P (put_out_by p pid o)
    by None e h = l e h
    by (Some v) e h = unit v (is_dirty p v && is_full p) e h refl

    go : (b : Bool) → is_settled p sid ≡ b → P (put_out_if p pid sid b)
    go false e = let f = unsettled_flies p sid e in d f.0 f.1 f.2
    go true e = by (first_seated p (pages_of_space p sid)) e refl

-- the unit is one that the placement allows
pub unit_can : (p : Placement) (pid sid : ℕ) → CanPlace p (put_out_unit p pid sid)
unit_can p pid sid = unit_case (CanPlace p) p pid sid (λ t ts h. tt) (λ v e h k. let c = seated_seat p v (seated_first p (pages_of_space p sid) v h) in (c, run_seats p v c)) (λ e h. tt)

pub unit_owner : (locked : List Page) (at : ℕ) (p : Placement) (pid sid : ℕ) → OwnsFrames p → OwnsFrames (place_entry locked at p (put_out_unit p pid sid))
unit_owner locked at p pid sid o = place_entry_owner locked at p (put_out_unit p pid sid) o (unit_can p pid sid)

pub unit_falls : (locked : List Page) (at : ℕ) (p : Placement) (pid sid : ℕ) → OwnsFrames p → IsResident p pid → is_out p pid ≡ false
    → put_rank (place_entry locked at p (put_out_unit p pid sid)) pid sid < put_rank p pid sid
unit_falls locked at p pid sid o i e = unit_case (λ (u : Entry). put_rank (place_entry locked at p u) pid sid < put_rank p pid sid) p pid sid
    (λ t ts h. done_rank p pid sid t ts o e h)
    (λ v s h k. put_rank_falls locked at p pid sid v (run_put p v).n e (run_some p v) h)
    (λ s h. out_rank p pid sid at i e)

pub unit_few : (locked : List Page) (at : ℕ) (p : Placement) (pid sid : ℕ) → length p.transfers ≤ 16
    → length (place_entry locked at p (put_out_unit p pid sid)).transfers ≤ 16
unit_few locked at p pid sid l = unit_case (λ (u : Entry). length (place_entry locked at p u).transfers ≤ 16) p pid sid
    (λ t ts h.
    let c : (done p).transfers ≡ ts = ap (λ (us : List Transfer). (done_of p us).transfers) h ∙ land_all_rest t.parts p t.errand ts in
    let d = ap length c in
    let g : length p.transfers ≡ suc (length ts) = ap length h in
    omega arith)
    (λ v s h k. put_few v (is_dirty p v) (is_full p) refl refl k)
    (λ s h. l)
  where
    put_few : (v : Page) (d f : Bool) → is_dirty p v ≡ d → is_full p ≡ f → (is_dirty p v && is_full p) ≡ false → length (put_step p v (pages_from v (number_of v) (run_put p v).n)).transfers ≤ 16
    put_few v false f e h k = subst (λ (b : Bool). length (put_by p v (pages_from v (number_of v) (run_put p v).n) b).transfers ≤ 16) (sym e) (let c = ap length (retire_flies p v) in omega arith)
    put_few v true false e h k = let c = entry_count locked at p (entries.Put v (run_put p v).n) in let m = leb-false 16 (length p.transfers) h in omega arith
    put_few v true true e h k = absurd (let z : true ≡ false = sym (ap₂ (λ (a b : Bool). a && b) e h) ∙ k in cc)

-- The whole.

seated_same : (p : Placement) (rs : List Residence) (s : PageState) → is_seated_by (record p { residents = rs }) s ≡ is_seated_by p s
seated_same p rs Unfilled = refl
seated_same p rs _ = refl

first_same : (p : Placement) (rs : List Residence) (qs : List Page) → first_seated (record p { residents = rs }) qs ≡ first_seated p qs
first_same p rs [] = refl
first_same p rs (q ∷ qs) = ap₂ (λ (b : Bool) (o : Option Page). cond b (Some q) o) (seated_same p rs (state_of p q)) (first_same p rs qs)

-- the last unit, or one that leaves the residents as they are
abbrev IsLast : Placement → ℕ → ℕ → Entry → Type 0
IsLast p pid sid u = (u ≡ entries.SwapOut pid) × (is_settled p sid ≡ true) × (first_seated p (pages_of_space p sid) ≡ None)

unit_ends : (locked : List Page) (at : ℕ) (p : Placement) (pid sid : ℕ)
    → IsLast p pid sid (put_out_unit p pid sid) ⊎ ((place_entry locked at p (put_out_unit p pid sid)).residents ≡ p.residents)
unit_ends locked at p pid sid = unit_case (λ (u : Entry). IsLast p pid sid u ⊎ ((place_entry locked at p u).residents ≡ p.residents)) p pid sid
    (λ t ts h. inr (done_residents p))
    (λ v s h k. inr (put_residents p v (pages_from v (number_of v) (run_put p v).n)))
    (λ s h. inl (refl, s, h))

put_out_within : (n at : ℕ) (p : Placement) (pid sid : ℕ) → OwnsFrames p → length p.transfers ≤ 16 → IsResident p pid → is_out p pid ≡ false
    → put_rank p pid sid < n → EndsPuttingOut at p pid sid
put_out_within zero at p pid sid o w i e l = absurd (omega arith)
put_out_within (suc n) at p pid sid o w i e l = go (unit_ends [] (at + 1) p pid sid) (λ r.
    put_out_within n (at + 1) (place_entry [] (at + 1) p (put_out_unit p pid sid)) pid sid (unit_owner [] (at + 1) p pid sid o) (unit_few [] (at + 1) p pid sid w)
    (subst (λ (rs : List Residence). numbered (λ (x : Residence). x.pid) pid rs ≢ None) (sym r) i)
    (same_out p (place_entry [] (at + 1) p (put_out_unit p pid sid)) pid r ∙ e)
    (let k = unit_falls [] (at + 1) p pid sid o i e in omega arith))
  where
    go : IsLast p pid sid (put_out_unit p pid sid) ⊎ ((place_entry [] (at + 1) p (put_out_unit p pid sid)).residents ≡ p.residents)
        → ((place_entry [] (at + 1) p (put_out_unit p pid sid)).residents ≡ p.residents → EndsPuttingOut (at + 1) (place_entry [] (at + 1) p (put_out_unit p pid sid)) pid sid)
        → EndsPuttingOut at p pid sid
    go (inl h) more = record {
      units = put_out_unit p pid sid ∷ [];
      last = moved p pid true (at + 1);
      leads = (e, refl, ap (place_entry [] (at + 1) p) h.0);
      out = out_now p.residents pid (at + 1) i;
      settled = h.1;
      empty = first_same p (moved p pid true (at + 1)).residents (pages_of_space p sid) ∙ h.2;
      few = let a = rank_is p pid sid e in omega arith;
      owner = place_entry_owner [] (at + 1) p (entries.SwapOut pid) o tt;
      few_transfers = w;
    }
    go (inr r) more =
        let k : EndsPuttingOut (at + 1) (place_entry [] (at + 1) p (put_out_unit p pid sid)) pid sid = more r in
        record {
          units = put_out_unit p pid sid ∷ k.units;
          last = k.last;
          leads = (e, refl, k.leads);
          out = k.out;
          settled = k.settled;
          empty = k.empty;
          few = let a = k.few in let b = unit_falls [] (at + 1) p pid sid o i e in omega arith;
          owner = k.owner;
          few_transfers = k.few_transfers;
        }

-- After no more units than its number says the process is out.
pub put_out : (at : ℕ) (p : Placement) (pid sid : ℕ) → OwnsFrames p → length p.transfers ≤ 16 → IsResident p pid → is_out p pid ≡ false
    → EndsPuttingOut at p pid sid
put_out at p pid sid o w i e = put_out_within (1 + put_rank p pid sid) at p pid sid o w i e (omega arith)

-- Each write that a unit begins has a page, and what is due stands.

unit_begins : (p : Placement) (pid sid : ℕ) → CanBegin p (put_out_unit p pid sid)
unit_begins p pid sid = unit_case (CanBegin p) p pid sid (λ t ts h. tt) (λ v e h k. run_some p v) (λ e h. tt)

pub unit_parts : (locked : List Page) (at : ℕ) (p : Placement) (pid sid : ℕ) → OwnsFrames p → HaveParts p.transfers
    → HaveParts (place_entry locked at p (put_out_unit p pid sid)).transfers
unit_parts locked at p pid sid o h = entry_parts locked at p (put_out_unit p pid sid) o (unit_can p pid sid) (unit_begins p pid sid) h

unit_leaves : (p : Placement) (pid sid : ℕ) → LeavesDue p (put_out_unit p pid sid)
unit_leaves p pid sid = unit_case (LeavesDue p) p pid sid (λ t ts h. tt) (λ v e h k. tt) (λ e h. tt)

pub unit_due : (locked : List Page) (at : ℕ) (p : Placement) (pid sid : ℕ) → OwnsFrames p → DueStand p
    → DueStand (place_entry locked at p (put_out_unit p pid sid))
unit_due locked at p pid sid o s = entry_due locked at p (put_out_unit p pid sid) o (unit_can p pid sid) (unit_leaves p pid sid) s
