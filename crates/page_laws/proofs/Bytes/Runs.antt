-- Reads and writes of several pages, their beginning and their end, and the hands, keep the flat memory.
use Rattle.std.proofs.Common.{◌≡◌, ◌≢◌, inl, ℕ, ◌<◌, Bool, true, false, min, List, [], ◌∷◌, length, None, refl, sym, ap, ◌∙◌, subst}
use Rattle.vm_facts.specs.declared.page.Page.{Page}
use Rattle.vm_facts.specs.declared.page.Page.TheVariants.{Data, Stack, Text}
use Rattle.vm_facts.specs.declared.page.PageState.{PageState}
use Rattle.vm_facts.specs.declared.page.PageState.TheVariants.{Unfilled, Valid, Invalid, Coming, Going, OnSwap}
use Rattle.page_model.specs.Pages.{Slot, frame_of, is_on_swap, is_unfilled}
use Rattle.page_model.specs.PageNames.{beside, number_of}
use Rattle.page_model.specs.Placement.{Placement, Transfer, Part, Moving, Errand, Writes, Reads, Source, FromSwap, FromFile, Due, filling_by, slots_of, slot_of, state_of, mark_of, is_dirty, errand_at, due_of_page, parts_of}
use Rattle.page_model.specs.Moves.{evict, get_run, launch_run, done, done_of}
use Rattle.page_model.specs.Steps.{land_then, land_read_then, land_all_then, get_one, get_at, get_all, begin, launch, launch_all}
use Rattle.page_model.specs.Runs.{run_out, run_in, run_in_by, pages_of_run, run_both, run_up, run_alone, comes_from_swap, comes_from_file, is_near, spare_frames}
use Rattle.page_model.specs.Hands.{expire, sweep, hand_move}
use Rattle.page_model.specs.Reading.{read_step, source_for}
use Rattle.page_model.specs.Place.{put_step, put_by}
use Rattle.page_model.specs.Conditions.{EachPage, AllApart, CanEnter, IsSeated, HasSeat}
use Rattle.page_model.specs.Ownership.{OwnsFrames}
use Rattle.page_model.specs.PageBytes.{Bytes, CouplesPages, with_frame, source_bytes, ReadsFrom, bytes_read, StoresAll, BytesBy, BytesAfter}
use Rattle.page_laws.proofs.Moves.InSteps.{get_steps, launch_steps, land_steps}
use Rattle.page_laws.proofs.Moves.Puts.{rest_by_puts, get_kept}
use Rattle.page_laws.proofs.Lists.Frames.{length_set_frame}
use Rattle.page_laws.proofs.Lists.Pages.{put_other}
use Rattle.page_laws.proofs.Lists.Parts.{IsOpen, begin_open, parts_begin}
use Rattle.page_laws.proofs.Moves.Steps.{evict_other}
use Rattle.page_laws.proofs.Ownership.Pages.{get_owner, launch_owner, expire_owner}
use Rattle.page_laws.proofs.Lists.Runs.{each_page_imp, each_page_both, run_each, run_both_in, run_up_in, run_alone_in, run_apart}
use Rattle.std.proofs.lemmas.Bool.{and_parts}
use Rattle.page_laws.proofs.Ownership.Runs.{begin_owner, get_enters_still, get_open_still, launch_still, launch_open_still, clean_unmarked, Landing, land_owner, land_transfers}
use Rattle.page_laws.proofs.Ownership.Hands.{run_out_seats}
use Rattle.page_laws.proofs.Ownership.Serve.{run_in_enters, on_swap_is, unfilled_is}
use Rattle.page_laws.proofs.Bytes.Couples.{unmoved_keeps}
use Rattle.page_laws.proofs.Bytes.Pages.{get_coupled, launch_coupled, retire_coupled, expire_coupled, land_write_coupled, land_read_coupled}
use Rattle.page_laws.proofs.Moves.Taken.{taken_seat, sweep_cases}

-- where nothing is moved, all pages keep
pub still_coupled : (p q : Placement) (b : Bytes) → ((w : Page) → slots_of q w ≡ slots_of p w) → q.due ≡ p.due
    → parts_of q.transfers ≡ parts_of p.transfers → CouplesPages p b → CouplesPages q b
still_coupled p q b s d t k = record {
  each = λ w there. unmoved_keeps p q b b w (record {
    slot = ap (λ (xs : List Slot). Rattle.std.specs.Prelude.get_or xs (number_of w) Rattle.page_model.specs.Pages.no_slot) (s w);
    due = ap (λ (ds : List Due). due_of_page ds w) d;
    frames = λ g e. (refl, ap (λ (ms : List Moving). errand_at ms g) t);
    swap = refl;
    file = refl;
    start = refl;
    memory = refl;
    copied = inl (λ x. refl);
  }) (k.each w (subst (λ (n : ℕ). number_of w < n) (ap length (s w)) there));
  text = k.text;
  text_due = λ i n. ap (λ (ds : List Due). due_of_page ds (Text i n)) d ∙ k.text_due i n;
}

pub begin_coupled : (p : Placement) (e : Errand) (b : Bytes) → CouplesPages p b → CouplesPages (begin p e) b
begin_coupled p e b k = still_coupled p (begin p e) b (λ w. refl) refl (parts_begin p.transfers e) k

-- Reads.

get_slot : (p : Placement) (e : Errand) (v w : Page) → OwnsFrames p → w ≢ v → frame_of (state_of p w) ≡ None → slot_of (get_one p e v) w ≡ slot_of p w
get_slot p e v w o n h = go p.free
  where
    go : (fr : List ℕ) → slot_of (get_at p e v fr) w ≡ slot_of p w
    go [] = refl
    go (f ∷ rest) = put_other (evict p f) v (Coming f) (mark_of p v) w n ∙ evict_other p f w o h

pub get_due : (p : Placement) (e : Errand) (v : Page) → (get_one p e v).due ≡ p.due
get_due p e v = (get_kept rest_by_puts p e v).due

reads_still : (p : Placement) (e : Errand) (source : Source) (demanded v w : Page) → OwnsFrames p → w ≢ v → CanEnter p w
    → ReadsFrom p source demanded w → ReadsFrom (get_one p e v) source demanded w
reads_still p e FromSwap demanded v w o n c h = ap (λ (x : Slot). x.state) (get_slot p e v w o n c.frameless) ∙ h
reads_still p e FromFile demanded v w o n c h = (
  ap (λ (x : Slot). x.state) (get_slot p e v w o n c.frameless) ∙ h.0,
  ap (λ (x : Slot). filling_by w x.filling) (get_slot p e v w o n c.frameless) ∙ h.1,
  ap (λ (ds : List Due). due_of_page ds w) (get_due p e v) ∙ h.2,
  h.3,
)

-- what each page of a run asks
pub record Reading (p : Placement) (source : Source) (demanded v : Page) : Type 0 where
  pub enters : CanEnter p v
  pub from : ReadsFrom p source demanded v

reading_still : (p : Placement) (source : Source) (demanded v w : Page) → OwnsFrames p → w ≢ v → Reading p source demanded w
    → Reading (get_one p (Reads source demanded) v) source demanded w
reading_still p source demanded v w o n r = record {
  enters = get_enters_still p (Reads source demanded) v w o n r.enters;
  from = reads_still p (Reads source demanded) source demanded v w o n r.enters r.from;
}

get_all_coupled : (qs : List Page) (p : Placement) (source : Source) (demanded : Page) (b : Bytes) → OwnsFrames p
    → EachPage (Reading p source demanded) qs → AllApart qs
    → IsOpen p.transfers (Reads source demanded) → CouplesPages p b → CouplesPages (get_all p (Reads source demanded) qs) b
get_all_coupled [] p source demanded b o c a latest k = k
get_all_coupled (v ∷ qs) p source demanded b o c a latest k =
    let r : Reading p source demanded v = c.0 in
    get_all_coupled qs (get_one p (Reads source demanded) v) source demanded b (get_owner p source demanded v o r.enters latest)
    (each_page_both (Reading p source demanded) (λ r. r ≢ v) (Reading (get_one p (Reads source demanded) v) source demanded) qs c.1 a.0 (λ w h n. reading_still p source demanded v w o n h))
    a.1 (get_open_still p (Reads source demanded) v latest) (get_coupled p source demanded v b o r.enters latest r.from k)

from_begin : (p : Placement) (e : Errand) (source : Source) (demanded v : Page) → ReadsFrom p source demanded v → ReadsFrom (begin p e) source demanded v
from_begin p e FromSwap demanded v h = h
from_begin p e FromFile demanded v h = h

-- The beginning of a read.
pub get_run_coupled : (p : Placement) (source : Source) (demanded : Page) (qs : List Page) (b : Bytes) → OwnsFrames p
    → EachPage (Reading p source demanded) qs → AllApart qs → CouplesPages p b
    → CouplesPages (get_run p (Reads source demanded) qs) b
get_run_coupled p source demanded qs b o c a k =
    subst (λ (r : Placement). CouplesPages r b) (get_steps p (Reads source demanded) qs)
    (get_all_coupled qs (begin p (Reads source demanded)) source demanded b (begin_owner p (Reads source demanded) o)
    (each_page_imp (Reading p source demanded) (Reading (begin p (Reads source demanded)) source demanded) qs c
    (λ q h. record { enters = let e : CanEnter p q = h.enters in record { there = e.there; frameless = e.frameless }; from = from_begin p (Reads source demanded) source demanded q h.from }))
    a (begin_open p.transfers (Reads source demanded)) (begin_coupled p (Reads source demanded) b k))

-- Writes.

launch_all_coupled : (qs : List Page) (p : Placement) (b : Bytes) → OwnsFrames p → EachPage (HasSeat p) qs → AllApart qs → IsOpen p.transfers Writes
    → CouplesPages p b → CouplesPages (launch_all p qs) b
launch_all_coupled [] p b o c a latest k = k
launch_all_coupled (v ∷ qs) p b o c a latest k =
    let h : HasSeat p v = c.0 in
    launch_all_coupled qs (launch p v) b (launch_owner p v h.frame o h.seat latest)
    (each_page_both (HasSeat p) (λ r. r ≢ v) (HasSeat (launch p v)) qs c.1 a.0 (λ w k n. launch_still p v w h n k)) a.1 (launch_open_still p v h latest)
    (launch_coupled p v h.frame b o h.seat latest k)

-- The beginning of a write.
pub launch_run_coupled : (p : Placement) (qs : List Page) (b : Bytes) → OwnsFrames p → EachPage (HasSeat p) qs → AllApart qs → CouplesPages p b
    → CouplesPages (launch_run p qs) b
launch_run_coupled p qs b o c a k =
    subst (λ (r : Placement). CouplesPages r b) (launch_steps p qs) (launch_all_coupled qs (begin p Writes) b (begin_owner p Writes o)
    (each_page_imp (HasSeat p) (HasSeat (begin p Writes)) qs c (λ q h. record { frame = h.frame; seat = record { state = let k : IsSeated p q h.frame = h.seat in k.state } })) a
    (begin_open p.transfers Writes) (begin_coupled p Writes b k))

pub put_step_coupled : (p : Placement) (v : Page) (qs : List Page) (b : Bytes) → OwnsFrames p → HasSeat p v → EachPage (HasSeat p) qs → AllApart qs
    → CouplesPages p b → CouplesPages (put_step p v qs) b
put_step_coupled p v qs b o c cs a k = go (is_dirty p v) refl
  where
    go : (d : Bool) → is_dirty p v ≡ d → CouplesPages (put_by p v qs d) b
    go true e = launch_run_coupled p qs b o cs a k
    go false e = retire_coupled p v c.frame b o c.seat (clean_unmarked v (mark_of p v) e) k

-- The hands.

pub sweep_coupled : (p : Placement) (locked : List Page) (b : Bytes) → OwnsFrames p → CouplesPages p b → CouplesPages (sweep p locked) b
sweep_coupled p locked b o k = sweep_cases (λ r. CouplesPages r b) p locked k
    (λ q t e. launch_run_coupled p (pages_of_run q (run_out p locked q)) b o (run_out_seats p locked q (taken_seat p locked q o t)) (run_apart q (run_out p locked q)) k)
    (λ q t e. let h : HasSeat p q = taken_seat p locked q o t in retire_coupled p q h.frame b o h.seat (clean_unmarked q (mark_of p q) e) k)

pub move_coupled : (p : Placement) (locked : List Page) (b : Bytes) → OwnsFrames p → CouplesPages p b → CouplesPages (hand_move p locked) b
move_coupled p locked b o k = still_coupled (sweep (expire p locked) locked) (hand_move p locked) b (λ w. refl) refl refl
    (sweep_coupled (expire p locked) locked b (expire_owner p locked o) (expire_coupled p locked b o k))

-- The end of a transfer.

landed_writes : (xs : List Part) (p : Placement) (ts : List Transfer) (b c : Bytes) → OwnsFrames p
    → p.transfers ≡ record { errand = Writes; parts = xs } ∷ ts → StoresAll b xs c → CouplesPages p b → CouplesPages (land_all_then p Writes xs ts) c
landed_writes [] p ts b c o h s k = subst (CouplesPages (record p { transfers = ts })) s (still_coupled p (record p { transfers = ts }) b (λ w. refl) refl (sym (ap parts_of h)) k)
landed_writes (x ∷ xs) p ts b c o h s k =
    let l : Landing p Writes x (record { errand = Writes; parts = xs } ∷ ts) = record { parts = ap parts_of h } in
    landed_writes xs (land_then p Writes x (record { errand = Writes; parts = xs } ∷ ts)) ts s.0 c (land_owner p Writes x (record { errand = Writes; parts = xs } ∷ ts) o l) refl s.2
    (land_write_coupled p x (record { errand = Writes; parts = xs } ∷ ts) b s.0 o l s.1 k)

land_holds : (p : Placement) (source : Source) (demanded : Page) (x : Part) (rest : List Transfer)
    → (land_then p (Reads source demanded) x rest).holds ≡ p.holds
land_holds p source demanded x rest = go (Rattle.page_model.specs.PageNames.same_page x.page demanded)
  where
    go : (d : Bool) → (land_read_then p source x rest d).holds ≡ p.holds
    go true = refl
    go false = refl

landed_reads : (xs : List Part) (p : Placement) (source : Source) (demanded : Page) (ts : List Transfer) (b : Bytes) → OwnsFrames p
    → p.transfers ≡ record { errand = Reads source demanded; parts = xs } ∷ ts → length b.frames ≡ length p.holds → CouplesPages p b
    → CouplesPages (land_all_then p (Reads source demanded) xs ts) (bytes_read b source xs)
landed_reads [] p source demanded ts b o h tokens k = still_coupled p (record p { transfers = ts }) b (λ w. refl) refl (sym (ap parts_of h)) k
landed_reads (x ∷ xs) p source demanded ts b o h tokens k =
    let l : Landing p (Reads source demanded) x (record { errand = Reads source demanded; parts = xs } ∷ ts) = record { parts = ap parts_of h } in
    landed_reads xs (land_then p (Reads source demanded) x (record { errand = Reads source demanded; parts = xs } ∷ ts)) source demanded ts (with_frame b x.frame (source_bytes b source x.page))
    (land_owner p (Reads source demanded) x (record { errand = Reads source demanded; parts = xs } ∷ ts) o l)
    (land_transfers p (Reads source demanded) x (record { errand = Reads source demanded; parts = xs } ∷ ts))
    (length_set_frame b.frames x.frame (source_bytes b source x.page) ∙ tokens ∙ ap length (sym (land_holds p source demanded x (record { errand = Reads source demanded; parts = xs } ∷ ts))))
    (land_read_coupled p source demanded x (record { errand = Reads source demanded; parts = xs } ∷ ts) b o l tokens k)

-- The end of the oldest transfer.
pub done_coupled : (p : Placement) (b c : Bytes) → OwnsFrames p → length b.frames ≡ length p.holds → BytesAfter b p.transfers c → CouplesPages p b
    → CouplesPages (done p) c
done_coupled p b c o tokens s k = go p.transfers refl s
  where
    by : (e : Errand) (xs : List Part) (ts : List Transfer) → p.transfers ≡ record { errand = e; parts = xs } ∷ ts → BytesBy b e xs c → CouplesPages (land_all_then p e xs ts) c
    by Writes xs ts h s = landed_writes xs p ts b c o h s k
    by (Reads source demanded) xs ts h s = subst (CouplesPages (land_all_then p (Reads source demanded) xs ts)) s (landed_reads xs p source demanded ts b o h tokens k)

    go : (ts : List Transfer) → p.transfers ≡ ts → BytesAfter b ts c → CouplesPages (done_of p ts) c
    go [] e s = subst (CouplesPages p) s k
    go (t ∷ ts) e s = subst (λ (r : Placement). CouplesPages r c) (land_steps t.parts p t.errand ts) (by t.errand t.parts ts e s)

-- The read that serving begins.

each_both : (P Q : Page → Type 0) (R : Page → Type 0) (qs : List Page) → EachPage P qs → EachPage Q qs → ((q : Page) → P q → Q q → R q) → EachPage R qs
each_both P Q R qs h g k = each_page_both P Q R qs h g k

-- each page of the run is read from where the demanded one is
pub run_in_reads : (p : Placement) (b : Bytes) (q : Page) → CouplesPages p b → ReadsFrom p (source_for (state_of p q)) q q
    → EachPage (ReadsFrom p (source_for (state_of p q)) q) (pages_of_run q (run_in p q))
run_in_reads p b q k h = go q (state_of p q) (spare_frames p) h
  where
    alone : (q : Page) (source : Source) → ReadsFrom p source q q → EachPage (ReadsFrom p source q) (pages_of_run q (run_alone q))
    alone q source h = run_each (ReadsFrom p source q) (λ w. false) q (run_alone q) (run_alone_in (λ w. false) q) h (λ w e. absurd cc)

    swap : (q : Page) (w : ℕ) → comes_from_swap p q w ≡ true → state_of p (beside q w) ≡ OnSwap
    swap q w e = on_swap_is (state_of p (beside q w)) (and_parts (is_on_swap (state_of p (beside q w))) (is_near q w) e).0

    file : (image v w : ℕ) → comes_from_file p (Text image v) w ≡ true → ReadsFrom p FromFile (Text image v) (Text image w)
    file image v w e = (
      unfilled_is (state_of p (Text image w)) (and_parts (Rattle.std.specs.Prelude.nat_lt w (length (slots_of p (Text image v))))
          (is_unfilled (state_of p (Text image w))) e).1,
      refl,
      k.text_due image w,
      λ x. absurd x,
    )

    go : (q : Page) (s : PageState) (spare : ℕ) → ReadsFrom p (source_for s) q q → EachPage (ReadsFrom p (source_for s) q) (pages_of_run q (run_in_by p q s spare))
    go (Text image v) OnSwap spare h = run_each (ReadsFrom p FromSwap (Text image v)) (comes_from_swap p (Text image v)) (Text image v) (run_up (comes_from_swap p (Text image v)) v (min 2 spare))
        (run_up_in (comes_from_swap p (Text image v)) v (min 2 spare)) h (swap (Text image v))
    go (Text image v) Unfilled spare h = run_each (ReadsFrom p FromFile (Text image v)) (comes_from_file p (Text image v)) (Text image v) (run_up (comes_from_file p (Text image v)) v (min 2 spare))
        (run_up_in (comes_from_file p (Text image v)) v (min 2 spare)) h (file image v)
    go (Text image v) (Valid f) spare h = alone (Text image v) FromFile h
    go (Text image v) (Invalid f) spare h = alone (Text image v) FromFile h
    go (Text image v) (Coming f) spare h = alone (Text image v) FromFile h
    go (Text image v) (Going f) spare h = alone (Text image v) FromFile h
    go (Data sid v) OnSwap spare h = run_each (ReadsFrom p FromSwap (Data sid v)) (comes_from_swap p (Data sid v)) (Data sid v) (run_both (comes_from_swap p (Data sid v)) v (min 4 spare))
        (run_both_in (comes_from_swap p (Data sid v)) v (min 4 spare)) h (swap (Data sid v))
    go (Data sid v) Unfilled spare h = alone (Data sid v) FromFile h
    go (Data sid v) (Valid f) spare h = alone (Data sid v) FromFile h
    go (Data sid v) (Invalid f) spare h = alone (Data sid v) FromFile h
    go (Data sid v) (Coming f) spare h = alone (Data sid v) FromFile h
    go (Data sid v) (Going f) spare h = alone (Data sid v) FromFile h
    go (Stack sid v) OnSwap spare h = run_each (ReadsFrom p FromSwap (Stack sid v)) (comes_from_swap p (Stack sid v)) (Stack sid v) (run_both (comes_from_swap p (Stack sid v)) v (min 4 spare))
        (run_both_in (comes_from_swap p (Stack sid v)) v (min 4 spare)) h (swap (Stack sid v))
    go (Stack sid v) Unfilled spare h = alone (Stack sid v) FromFile h
    go (Stack sid v) (Valid f) spare h = alone (Stack sid v) FromFile h
    go (Stack sid v) (Invalid f) spare h = alone (Stack sid v) FromFile h
    go (Stack sid v) (Coming f) spare h = alone (Stack sid v) FromFile h
    go (Stack sid v) (Going f) spare h = alone (Stack sid v) FromFile h

pub read_coupled : (p : Placement) (q : Page) (b : Bytes) → OwnsFrames p → CanEnter p q → ReadsFrom p (source_for (state_of p q)) q q
    → CouplesPages p b → CouplesPages (read_step p q) b
read_coupled p q b o c h k = get_run_coupled p (source_for (state_of p q)) q (pages_of_run q (run_in p q)) b o
    (each_both (CanEnter p) (ReadsFrom p (source_for (state_of p q)) q) (Reading p (source_for (state_of p q)) q) (pages_of_run q (run_in p q)) (run_in_enters p q c) (run_in_reads p b q k h)
    (λ r a d. record { enters = a; from = d }))
    (run_apart q (run_in p q)) k
