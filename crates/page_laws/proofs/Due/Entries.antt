-- Each paging entry leaves what is due unfilled, and its parents' pages filled.
use Rattle.std.proofs.Common.{◌≡◌, ◌≢◌, ◌⊎◌, inl, inr, ℕ, zero, suc, ◌+◌, ◌<◌, ◌≤◌, Bool, true, false, List, [], ◌∷◌, length, get_or, cond, min, Option, Some, None, refl, sym, ap, ◌∙◌, subst, arith}
use Rattle.vm_facts.specs.declared.page.Page.{Page}
use Rattle.vm_facts.specs.declared.page.Page.TheVariants.{Data, Stack, Text}
use Rattle.vm_facts.specs.declared.page.PageState.{PageState}
use Rattle.vm_facts.specs.declared.page.PageState.TheVariants.{Unfilled, Valid, Invalid, Coming, Going, OnSwap}
use Rattle.vm_facts.specs.declared.entry.Entry.{Entry}
use Rattle.vm_facts.specs.declared.entry.Entry.TheVariants as entries
use Rattle.aout_image.specs.declared.Image.{Image}
use Rattle.page_model.specs.Pages.{Slot, frame_of, left_state, Zeros, no_slot, stack_in, numbered, is_on_swap}
use Rattle.page_model.specs.PageNames.{pages_from, number_of, same_page, beside}
use Rattle.page_model.specs.Placement.{Placement, Errand, Reads, Source, Due, Start, CopyOf, filling_by, due_of_page, IsThere, Starting, space_number, spaces_from, due_from, unfilled, new_pages, start_placement, slots_of, slot_of, state_of, mark_of, page_of, put, due_page}
use Rattle.page_model.specs.Moves.{evict, evict_at, fill_at, get_run, reclaim, done}
use Rattle.page_model.specs.Steps.{begin, get_one, get_at, get_all}
use Rattle.page_model.specs.Hands.{hand_move, hand_moves}
use Rattle.page_model.specs.Place.{filled, due_after, put_step, place_entry}
use Rattle.page_model.specs.Reading.{source_for, read_errand}
use Rattle.page_model.specs.Serve.{force, serve_step, after_serving}
use Rattle.page_model.specs.Conditions.{EachPage, AllApart, CanEnter, CanPlace}
use Rattle.page_model.specs.Ownership.{OwnsFrames}
use Rattle.page_model.specs.PageBytes.{IsWritable}
use Rattle.page_model.specs.Dues.{HasSource, IsDue, DueStand, NotDue, LeavesDue}
use Rattle.page_model.specs.Runs.{pages_of_run, run_in, run_in_by, run_both, run_up, run_alone, comes_from_swap, comes_from_file, is_near, spare_frames}
use Rattle.page_laws.proofs.Moves.InSteps.{get_steps}
use Rattle.page_laws.proofs.Moves.Puts.{rest_by_puts, get_run_kept}
use Rattle.page_laws.proofs.Ownership.Changes.{numbered_hit, numbered_miss}
use Rattle.page_laws.proofs.Ownership.Serve.{run_in_enters}
use Rattle.page_laws.proofs.Lists.Pages.{page_cases, put_state, put_other, put_length}
use Rattle.page_model.proofs.PageNames.{same_page_is}
use Rattle.page_laws.proofs.Lists.Parts.{IsOpen, begin_open}
use Rattle.page_laws.proofs.Lists.Local.{none_some}
use Rattle.std.proofs.lemmas.Option.{same_Some}
use Rattle.page_laws.proofs.Moves.Steps.{page_in, put_other_state, evict_other, EvictRest, evict_rest}
use Rattle.page_laws.proofs.Ownership.Pages.{get_owner}
use Rattle.page_laws.proofs.Lists.Runs.{each_page_imp, each_page_both, pages_from_apart, run_each, run_both_in, run_up_in, run_alone_in, run_apart}
use Rattle.std.proofs.lemmas.Bool.{and_parts}
use Rattle.page_laws.proofs.Ownership.Runs.{begin_owner, get_enters_still, get_open_still}
use Rattle.page_laws.proofs.Moves.Stays.{Stays, steady_stays, move_stays, done_steady, force_stays, Steady}
use Rattle.page_laws.proofs.Bytes.Pages.{due_other}
use Rattle.page_laws.proofs.Bytes.Others.{put_steady, reclaim_steady}
use Rattle.page_laws.proofs.Moves.Cases.{serving_cases, read_frameless}

-- From one placement to the next: of the pages that D names each unfilled one is as it was, and no page of data or
-- stack is unfilled again.
record KeepsFills (D : Page → Type 0) (p q : Placement) : Type 0 where
  pub sizes : (w : Page) → length (slots_of q w) ≡ length (slots_of p w)
  pub slots : (w : Page) → D w → state_of p w ≡ Unfilled → slot_of q w ≡ slot_of p w
  pub fills : (w : Page) → IsWritable w → state_of p w ≢ Unfilled → state_of q w ≢ Unfilled

fills_self : (D : Page → Type 0) (p : Placement) → KeepsFills D p p
fills_self D p = record { sizes = λ w. refl; slots = λ w d e. refl; fills = λ w i n. n }

state_as : (p q : Placement) (w : Page) → slot_of q w ≡ slot_of p w → state_of q w ≡ state_of p w
state_as p q w e = ap (λ (x : Slot). x.state) e

fills_both : (D : Page → Type 0) (p q r : Placement) → KeepsFills D p q → KeepsFills D q r → KeepsFills D p r
fills_both D p q r s t = record {
  sizes = λ w. t.sizes w ∙ s.sizes w;
  slots = λ w d e. t.slots w d (state_as p q w (s.slots w d e) ∙ e) ∙ s.slots w d e;
  fills = λ w i n. t.fills w i (s.fills w i n);
}

-- a page that isn't unfilled has a frame, or is on swap
framed_or : (s : PageState) → s ≢ Unfilled → (s ≡ OnSwap) ⊎ ((f : ℕ) × (frame_of s ≡ Some f))
framed_or Unfilled n = absurd (n refl)
framed_or (Valid f) n = inr (f, refl)
framed_or (Invalid f) n = inr (f, refl)
framed_or (Coming f) n = inr (f, refl)
framed_or (Going f) n = inr (f, refl)
framed_or OnSwap n = inl refl

stays_fills : (D : Page → Type 0) (p q : Placement) → Stays p q → KeepsFills D p q
stays_fills D p q s = record {
  sizes = s.sizes;
  slots = λ w d e. s.others w (ap frame_of e);
  fills = λ w i n h. elim (framed_or (state_of p w) n) [
    | inl e ↦ absurd (n (state_as q p w (sym (s.others w (ap frame_of e))) ∙ h))
    | inr e ↦ none_some e.0 (sym (ap frame_of h) ∙ s.frames w ∙ e.1)
  ];
}

left_filled : (v : Page) (m : Bool) → IsWritable v → left_state v m ≡ Unfilled → ⊥
left_filled (Text image n) m i e = absurd i
left_filled _ m i e = absurd cc

evict_fills : (D : Page → Type 0) (p : Placement) (f : ℕ) → OwnsFrames p → KeepsFills D p (evict p f)
evict_fills D p f o = record {
  sizes = (let r : EvictRest p (evict p f) = evict_rest p f in r.sizes);
  slots = λ w d e. evict_other p f w o (ap frame_of e);
  fills = go (page_of p f) refl;
}
  where
    go : (h : Option Page) → page_of p f ≡ h → (w : Page) → IsWritable w → state_of p w ≢ Unfilled → state_of (evict_at p f h) w ≢ Unfilled
    go None e w i n k = n k
    go (Some v) e w i n k = elim (page_cases w v) [
      | inl s ↦ left_filled v (mark_of p v) (subst IsWritable s i)
          (sym (put_state p v (left_state v (mark_of p v)) (mark_of p v) (page_in p v f (o.named f v e))) ∙ subst (λ (x : Page). state_of (evict_at p f (Some v)) x ≡ Unfilled) s k)
      | inr d ↦ n (sym (put_other_state p v (left_state v (mark_of p v)) (mark_of p v) w d) ∙ k)
    ]

-- a page that D doesn't name takes a frame
enter_fills : (D : Page → Type 0) (p : Placement) (v : Page) (s : PageState) (m : Bool) → CanEnter p v → (D v → ⊥) → s ≢ Unfilled → KeepsFills D p (put p v s m)
enter_fills D p v s m c n u = record {
  sizes = put_length p v s m;
  slots = λ w d e. put_other p v s m w (λ h. n (subst D h d));
  fills = λ w i k h. elim (page_cases w v) [
    | inl z ↦ u (sym (put_state p v s m c.there) ∙ subst (λ (x : Page). state_of (put p v s m) x ≡ Unfilled) z h)
    | inr z ↦ k (sym (put_other_state p v s m w z) ∙ h)
  ];
}

evict_enters : (p : Placement) (f : ℕ) (v : Page) → OwnsFrames p → CanEnter p v → CanEnter (evict p f) v
evict_enters p f v o c =
    let r : EvictRest p (evict p f) = evict_rest p f in
    record { there = subst (λ (n : ℕ). number_of v < n) (sym (r.sizes v)) c.there; frameless = ap (λ (x : Slot). frame_of x.state) (evict_other p f v o c.frameless) ∙ c.frameless }

filled_fills : (D : Page → Type 0) (p : Placement) (v : Page) → OwnsFrames p → CanEnter p v → (D v → ⊥) → KeepsFills D p (filled p v)
filled_fills D p v o c n = let k = go p.free in record { sizes = k.sizes; slots = k.slots; fills = k.fills }
  where
    go : (fr : List ℕ) → KeepsFills D p (fill_at p v fr)
    go [] = fills_self D p
    go (f ∷ rest) =
        let t = fills_both D p (evict p f) (put (evict p f) v (Valid f) true) (evict_fills D p f o) (enter_fills D (evict p f) v (Valid f) true (evict_enters p f v o c) n (λ e. absurd cc)) in
        record { sizes = t.sizes; slots = t.slots; fills = t.fills }

get_fills : (D : Page → Type 0) (p : Placement) (e : Errand) (v : Page) → OwnsFrames p → CanEnter p v → (D v → ⊥) → KeepsFills D p (get_one p e v)
get_fills D p e v o c n = go p.free
  where
    go : (fr : List ℕ) → KeepsFills D p (get_at p e v fr)
    go [] = fills_self D p
    go (f ∷ rest) =
        let t = fills_both D p (evict p f) (put (evict p f) v (Coming f) (mark_of p v)) (evict_fills D p f o)
        (enter_fills D (evict p f) v (Coming f) (mark_of p v) (evict_enters p f v o c) n (λ h. absurd cc)) in
        record { sizes = t.sizes; slots = t.slots; fills = t.fills }

get_all_fills : (D : Page → Type 0) (qs : List Page) (p : Placement) (source : Source) (demanded : Page) → OwnsFrames p → EachPage (CanEnter p) qs
    → AllApart qs → IsOpen p.transfers (Reads source demanded)
    → EachPage (λ r. D r → ⊥) qs → KeepsFills D p (get_all p (Reads source demanded) qs)
get_all_fills D [] p source demanded o c a latest n = fills_self D p
get_all_fills D (v ∷ qs) p source demanded o c a latest n = fills_both D p (get_one p (Reads source demanded) v) (get_all (get_one p (Reads source demanded) v) (Reads source demanded) qs)
    (get_fills D p (Reads source demanded) v o c.0 n.0)
    (get_all_fills D qs (get_one p (Reads source demanded) v) source demanded (get_owner p source demanded v o c.0 latest)
    (each_page_both (CanEnter p) (λ r. r ≢ v) (CanEnter (get_one p (Reads source demanded) v)) qs c.1 a.0 (λ x h k. get_enters_still p (Reads source demanded) v x o k h))
    a.1 (get_open_still p (Reads source demanded) v latest) n.1)

get_run_fills : (D : Page → Type 0) (p : Placement) (source : Source) (demanded : Page) (qs : List Page) → OwnsFrames p → EachPage (CanEnter p) qs
    → AllApart qs → EachPage (λ r. D r → ⊥) qs
    → KeepsFills D p (get_run p (Reads source demanded) qs)
get_run_fills D p source demanded qs o c a n =
    subst (KeepsFills D p) (get_steps p (Reads source demanded) qs) (let t = get_all_fills D qs (begin p (Reads source demanded)) source demanded (begin_owner p (Reads source demanded) o)
    (each_page_imp (CanEnter p) (CanEnter (begin p (Reads source demanded))) qs c (λ q h. record { there = h.there; frameless = h.frameless })) a (begin_open p.transfers (Reads source demanded)) n in
    record { sizes = t.sizes; slots = t.slots; fills = t.fills })

-- What is due stands, where nothing is due that wasn't.
abbrev Waits : List Due → Page → Type 0
Waits ds w = (d : Due) × (due_of_page ds w ≡ Some d)

not_waiting : (ds : List Due) (w : Page) → NotDue ds w → Waits ds w → ⊥
not_waiting ds w n h = none_some h.0 (sym n ∙ h.1)

source_still : (p q : Placement) (d : Due) → KeepsFills (Waits q.due) p q → HasSource p d → HasSource q d
source_still p q (Start r) k h = tt
source_still p q (CopyOf r parent) k h = (h.0, k.fills parent h.0 h.1)

due_still : (p q : Placement) → KeepsFills (Waits q.due) p q → ((w : Page) (d : Due) → due_of_page q.due w ≡ Some d → due_of_page p.due w ≡ Some d) → DueStand p
    → DueStand q
due_still p q k less s w d e =
    let was : IsDue p w d = s w d (less w d e) in
    let same : slot_of q w ≡ slot_of p w = k.slots w (d, e) was.unfilled in
    record {
      writable = was.writable;
      there = subst (λ (n : ℕ). number_of w < n) (sym (k.sizes w)) was.there;
      unfilled = state_as p q w same ∙ was.unfilled;
      zeros = ap (λ (x : Slot). filling_by w x.filling) same ∙ was.zeros;
      source = source_still p q d k was.source;
    }

pub stays_due : (p q : Placement) → Stays p q → DueStand p → DueStand q
stays_due p q s = due_still p q (stays_fills (Waits q.due) p q s) (λ w d e. ap (λ (ds : List Due). due_of_page ds w) (sym s.due) ∙ e)

filled_less : (ds : List Due) (v w : Page) (d : Due) → NotDue (due_after ds v) v → due_of_page (due_after ds v) w ≡ Some d → due_of_page ds w ≡ Some d
filled_less ds v w d n e = elim (page_cases w v) [
  | inl s ↦ absurd (not_waiting (due_after ds v) w (subst (NotDue (due_after ds v)) (sym s) n) (d, e))
  | inr m ↦ sym (due_other ds v w m) ∙ e
]

filled_due : (p : Placement) (v : Page) → OwnsFrames p → CanEnter p v → NotDue (due_after p.due v) v → DueStand p → DueStand (filled p v)
filled_due p v o c n = due_still p (filled p v) (filled_fills (Waits (due_after p.due v)) p v o c (not_waiting (due_after p.due v) v n)) (λ w d e. filled_less p.due v w d n e)

pub get_due_list : (p : Placement) (e : Errand) (qs : List Page) → (get_run p e qs).due ≡ p.due
get_due_list p e qs = (get_run_kept rest_by_puts p e qs).due

get_run_due : (p : Placement) (source : Source) (demanded : Page) (qs : List Page) → OwnsFrames p → EachPage (CanEnter p) qs → AllApart qs
    → EachPage (NotDue p.due) qs → DueStand p → DueStand (get_run p (Reads source demanded) qs)
get_run_due p source demanded qs o c a n =
    let same : (get_run p (Reads source demanded) qs).due ≡ p.due = get_due_list p (Reads source demanded) qs in
    due_still p (get_run p (Reads source demanded) qs)
    (get_run_fills (Waits (get_run p (Reads source demanded) qs).due) p source demanded qs o c a
    (each_page_imp (NotDue p.due) (λ r. Waits (get_run p (Reads source demanded) qs).due r → ⊥) qs n
    (λ r h. not_waiting (get_run p (Reads source demanded) qs).due r (ap (λ (ds : List Due). due_of_page ds r) same ∙ h))))
    (λ w d e. ap (λ (ds : List Due). due_of_page ds w) (sym same) ∙ e)

moves_due : (n : ℕ) (p : Placement) (locked : List Page) → DueStand p → DueStand (hand_moves p locked n)
moves_due zero p locked s = s
moves_due (suc n) p locked s = moves_due n (hand_move p locked) locked (stays_due p (hand_move p locked) (move_stays p locked) s)

-- the parts of what is due don't ask who is resident
pub resident_due : (p : Placement) (rs : List Rattle.page_model.specs.Placement.Residence) → DueStand p → DueStand (record p { residents = rs })
resident_due p rs s w d e = let was : IsDue p w d = s w d e in record { writable = was.writable; there = was.there; unfilled = was.unfilled; zeros = was.zeros; source = go d was.source }
  where
    go : (d : Due) → HasSource p d → HasSource (record p { residents = rs }) d
    go (Start r) h = h
    go (CopyOf r parent) h = h

pub entry_due : (locked : List Page) (at : ℕ) (p : Placement) (e : Entry) → OwnsFrames p → CanPlace p e → LeavesDue p e → DueStand p
    → DueStand (place_entry locked at p e)
entry_due locked at p (entries.Zero q) o c n s = filled_due p q o c n s
entry_due locked at p (entries.Get q lo n) o c l s = get_run_due p (source_for (state_of p q)) q (pages_from q lo n) o c (pages_from_apart q lo n) l s
entry_due locked at p (entries.Copy q) o c n s = filled_due p q o c n s
entry_due locked at p (entries.Reclaim q) o c n s = stays_due p (reclaim p q) (steady_stays p (reclaim p q) (reclaim_steady p q)) s
entry_due locked at p (entries.Hands n) o c l s = moves_due n p locked s
entry_due locked at p (entries.Put q n) o c l s =
    stays_due p (put_step p q (pages_from q (number_of q) n)) (steady_stays p (put_step p q (pages_from q (number_of q) n)) (put_steady p q (pages_from q (number_of q) n))) s
entry_due locked at p entries.Done o c n s = stays_due p (done p) (steady_stays p (done p) (done_steady p o)) s
entry_due locked at p (entries.SwapOut pid) o c n s = resident_due p (place_entry locked at p (entries.SwapOut pid)).residents s
entry_due locked at p (entries.SwapIn pid) o c n s = resident_due p (place_entry locked at p (entries.SwapIn pid)).residents s
entry_due locked at p (entries.Ran pid n) o c l s = s
entry_due locked at p _ o c n s = s

pub force_due : (p : Placement) (locked : List Page) → OwnsFrames p → DueStand p → DueStand (force p locked)
force_due p locked o s = stays_due p (force p locked) (force_stays p locked o) s

-- Serving a page that isn't due.

not_due_by : (p : Placement) (r : Page) → DueStand p → (IsWritable r → state_of p r ≡ Unfilled → ⊥) → NotDue p.due r
not_due_by p r s n = go (due_of_page p.due r) refl
  where
    go : (o : Option Due) → due_of_page p.due r ≡ o → o ≡ None
    go None e = refl
    go (Some d) e = absurd (let was : IsDue p r d = s r d e in n was.writable was.unfilled)

swap_apart : (p : Placement) (r : Page) → is_on_swap (state_of p r) ≡ true → state_of p r ≡ Unfilled → ⊥
swap_apart p r h e = let k : is_on_swap Unfilled ≡ true = sym (ap is_on_swap e) ∙ h in absurd cc

pub run_in_due : (p : Placement) (q : Page) → DueStand p → NotDue p.due q → EachPage (NotDue p.due) (pages_of_run q (run_in p q))
run_in_due p q s n = go q n (state_of p q) (spare_frames p)
  where
    alone : (q : Page) → NotDue p.due q → EachPage (NotDue p.due) (pages_of_run q (run_alone q))
    alone q n = run_each (NotDue p.due) (λ w. false) q (run_alone q) (run_alone_in (λ w. false) q) n (λ w e. absurd cc)

    swap : (q : Page) (w : ℕ) → comes_from_swap p q w ≡ true → NotDue p.due (beside q w)
    swap q w e = not_due_by p (beside q w) s (λ i. swap_apart p (beside q w) (and_parts (is_on_swap (state_of p (beside q w))) (is_near q w) e).0)

    text : (image w : ℕ) → NotDue p.due (Text image w)
    text image w = not_due_by p (Text image w) s (λ i e. absurd i)

    go : (q : Page) → NotDue p.due q → (t : PageState) (spare : ℕ) → EachPage (NotDue p.due) (pages_of_run q (run_in_by p q t spare))
    go (Text image v) n OnSwap spare = run_each (NotDue p.due) (comes_from_swap p (Text image v)) (Text image v) (run_up (comes_from_swap p (Text image v)) v (min 2 spare))
        (run_up_in (comes_from_swap p (Text image v)) v (min 2 spare)) n (λ w e. text image w)
    go (Text image v) n Unfilled spare = run_each (NotDue p.due) (comes_from_file p (Text image v)) (Text image v) (run_up (comes_from_file p (Text image v)) v (min 2 spare))
        (run_up_in (comes_from_file p (Text image v)) v (min 2 spare)) n (λ w e. text image w)
    go (Text image v) n (Valid f) spare = alone (Text image v) n
    go (Text image v) n (Invalid f) spare = alone (Text image v) n
    go (Text image v) n (Coming f) spare = alone (Text image v) n
    go (Text image v) n (Going f) spare = alone (Text image v) n
    go (Data sid v) n OnSwap spare = run_each (NotDue p.due) (comes_from_swap p (Data sid v)) (Data sid v) (run_both (comes_from_swap p (Data sid v)) v (min 4 spare))
        (run_both_in (comes_from_swap p (Data sid v)) v (min 4 spare)) n (swap (Data sid v))
    go (Data sid v) n Unfilled spare = alone (Data sid v) n
    go (Data sid v) n (Valid f) spare = alone (Data sid v) n
    go (Data sid v) n (Invalid f) spare = alone (Data sid v) n
    go (Data sid v) n (Coming f) spare = alone (Data sid v) n
    go (Data sid v) n (Going f) spare = alone (Data sid v) n
    go (Stack sid v) n OnSwap spare = run_each (NotDue p.due) (comes_from_swap p (Stack sid v)) (Stack sid v) (run_both (comes_from_swap p (Stack sid v)) v (min 4 spare))
        (run_both_in (comes_from_swap p (Stack sid v)) v (min 4 spare)) n (swap (Stack sid v))
    go (Stack sid v) n Unfilled spare = alone (Stack sid v) n
    go (Stack sid v) n (Valid f) spare = alone (Stack sid v) n
    go (Stack sid v) n (Invalid f) spare = alone (Stack sid v) n
    go (Stack sid v) n (Coming f) spare = alone (Stack sid v) n
    go (Stack sid v) n (Going f) spare = alone (Stack sid v) n

-- what isn't due isn't taken off
pub not_due_after : (ds : List Due) (q : Page) → NotDue ds q → due_after ds q ≡ ds
not_due_after [] q n = refl
not_due_after (d ∷ ds) q n = go (same_page (due_page d) q) n
  where
    go : (b : Bool) → cond b (Some d) (due_of_page ds q) ≡ None → cond b ds (d ∷ ds) ≡ d ∷ ds
    go true k = absurd cc
    go false k = refl

pub not_again : (ds : List Due) (q : Page) → NotDue ds q → NotDue (due_after ds q) q
not_again ds q n = subst (λ (es : List Due). NotDue es q) (sym (not_due_after ds q n)) n

pub serve_due : (p : Placement) (locked : List Page) (q : Page) → OwnsFrames p → IsThere p q → NotDue p.due q → DueStand p → DueStand (serve_step p locked q)
serve_due p locked q o there n s = serving_cases (λ x. DueStand (after_serving p locked x)) p q (λ f e. s)
    (λ f e. stays_due p (reclaim p q) (steady_stays p (reclaim p q) (reclaim_steady p q)) s) (λ f e. ends) (λ m e. force_due p locked o s)
    (λ f fs e u x. filled_due p q o (record { there = there; frameless = ap frame_of u }) (not_again p.due q n) s)
    (λ f fs e r b. ends)
    (λ f fs e r b. get_run_due p (source_for (state_of p q)) q (pages_of_run q (run_in p q)) o
    (run_in_enters p q (record { there = there; frameless = read_frameless p q r })) (run_apart q (run_in p q)) (run_in_due p q s n) s)
  where
    ends : DueStand (done p)
    ends = stays_due p (done p) (steady_stays p (done p) (done_steady p o)) s

-- serving a page that isn't due leaves what is due
pub serve_dues : (p : Placement) (locked : List Page) (q : Page) → OwnsFrames p → NotDue p.due q → (serve_step p locked q).due ≡ p.due
serve_dues p locked q o n = serving_cases (λ x. (after_serving p locked x).due ≡ p.due) p q (λ f s. refl)
    (λ f s. let k : Steady p (reclaim p q) = reclaim_steady p q in k.due) (λ f s. ends)
    (λ m e. let k : Stays p (force p locked) = force_stays p locked o in k.due) (λ f fs e s x. not_due_after p.due q n) (λ f fs e r b. ends)
    (λ f fs e r b. get_due_list p (read_errand p q) (pages_of_run q (run_in p q)))
  where
    ends : (done p).due ≡ p.due
    ends = let k : Steady p (done p) = done_steady p o in k.due

-- The start.

-- each page that is due is page 0 of the stack of a space that starts
record StartsAt (first : List Starting) (n : ℕ) (w : Page) (d : Due) : Type 0 where
  pub sid : ℕ
  pub page : w ≡ Stack sid 0
  pub due : d ≡ Start (Stack sid 0)
  pub later : n ≤ sid
  pub slots : stack_in (numbered space_number sid (spaces_from n first)) ≡ unfilled Zeros ∷ []

starts_at : (first : List Starting) (n : ℕ) (w : Page) (d : Due) → due_of_page (due_from n first) w ≡ Some d → StartsAt first n w d
starts_at [] n w d e = none_some d e
starts_at (a ∷ more) n w d e = go (same_page (Stack n 0) w) refl e (starts_at more (n + 1) w d)
  where
    go : (b : Bool) → same_page (Stack n 0) w ≡ b → cond b (Some (Start (Stack n 0))) (due_of_page (due_from (n + 1) more) w) ≡ Some d
        → (due_of_page (due_from (n + 1) more) w ≡ Some d → StartsAt more (n + 1) w d) → StartsAt (a ∷ more) n w d
    go true h k ih = record {
      sid = n;
      page = sym (same_page_is (Stack n 0) w h);
      due = same_Some d (Start (Stack n 0)) (sym k);
      later = omega arith;
      slots = ap stack_in (numbered_hit n (new_pages n a.image a.facts) (spaces_from (n + 1) more) refl);
    }
    go false h k ih =
        let r : StartsAt more (n + 1) w d = ih k in
        record {
          sid = r.sid;
          page = r.page;
          due = r.due;
          later = let l = r.later in omega arith;
          slots = ap stack_in (numbered_miss r.sid (new_pages n a.image a.facts) (spaces_from (n + 1) more) (λ (z : n ≡ r.sid). let l = r.later in absurd (omega arith))) ∙ r.slots;
        }

pub start_due : (images : List Image) (first : List Starting) (frames : ℕ) → DueStand (start_placement images first frames)
start_due images first frames w d e =
    let r : StartsAt first 1 w d = starts_at first 1 w d e in
    let p : Placement = start_placement images first frames in
    subst (λ (x : Page). IsDue p x d) (sym r.page) (record {
      writable = tt;
      there = subst (λ (xs : List Slot). 0 < length xs) (sym r.slots) (omega arith);
      unfilled = ap (λ (xs : List Slot). (get_or xs 0 no_slot).state) r.slots;
      zeros = ap (λ (xs : List Slot). (get_or xs 0 no_slot).filling) r.slots;
      source = subst (HasSource p) (sym r.due) tt;
    })
