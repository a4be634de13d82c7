-- What each move keeps if the put of a page keeps it. A move puts pages, and beside that leaves who is resident, what is
-- due, where the hands are and how many frames there are. So such a relation is shown of a put, and by this walk of each
-- move.
use Rattle.std.proofs.Common.{◌++◌, ◌≡◌, ℕ, zero, suc, Bool, true, false, List, [], ◌∷◌, Option, Some, None, length, refl, ◌∙◌, subst}
use Rattle.vm_facts.specs.Lists.{without}
use Rattle.vm_facts.specs.declared.page.Page.{Page}
use Rattle.vm_facts.specs.declared.page.Page.TheVariants.{Data, Stack}
use Rattle.vm_facts.specs.declared.page.PageState.{PageState}
use Rattle.vm_facts.specs.declared.page.PageState.TheVariants.{Unfilled, Valid, Invalid, Coming, Going, OnSwap}
use Rattle.vm_facts.specs.declared.entry.Entry.{Entry}
use Rattle.vm_facts.specs.declared.entry.Entry.TheVariants as entries
use Rattle.page_model.specs.PageNames.{number_of, same_page, is_among, pages_from}
use Rattle.page_model.specs.Pages.{left_state, written_mark, frame_of}
use Rattle.page_model.specs.Frames.{set_frame}
use Rattle.page_model.specs.Placement.{Placement, Due, Transfer, Part, Errand, Writes, Reads, state_of, mark_of, is_dirty, page_of, put}
use Rattle.page_model.specs.Moves.{evict, evict_at, enter, turn, touch_all, fill, fill_at, get_run, launch_run, arrived_mark, done, reclaim, reclaim_to, retire, retire_to, touch, touch_to, drop_page, drop_at, drop_all, leave_page, leave_by, leave_all, listed}
use Rattle.page_model.specs.Steps.{land_then, land_read_then, land_all_then, join_last, begin, get_one, get_at, get_all, launch, launch_to, launch_all}
use Rattle.page_model.specs.Runs.{run_out, pages_of_run}
use Rattle.page_model.specs.Hands.{expire, expire_of, expire_if, expire_to, sweep, advance, hand_move, hand_moves}
use Rattle.page_model.specs.Reading.{read_errand}
use Rattle.page_laws.proofs.Lists.Frames.{length_set_frame}
use Rattle.page_model.specs.Place.{due_after, filled, put_by, put_step, moved, place_entry}
use Rattle.page_laws.proofs.Moves.InSteps.{get_steps, launch_steps, done_cases}
use Rattle.page_laws.proofs.Moves.Taken.{sweep_cases}

-- what a move leaves, beside pages and frames
pub record SameRest (p q : Placement) : Type 0 where
  pub residents : q.residents ≡ p.residents
  pub due : q.due ≡ p.due
  pub front : q.front ≡ p.front
  pub back : q.back ≡ p.back
  pub count : length q.holds ≡ length p.holds

-- A relation of placements that holds where spaces, texts and the rest are the same, of two steps one after the other, and
-- of the put of a page.
pub record KeptByPuts (R : Placement → Placement → Type 0) : Type 0 where
  pub still : (p q : Placement) → q.spaces ≡ p.spaces → q.texts ≡ p.texts → SameRest p q → R p q
  pub both : (p q r : Placement) → R p q → R q r → R p r
  pub puts : (p : Placement) (v : Page) (s : PageState) (m : Bool) → R p (put p v s m)

rest_self : (p : Placement) → SameRest p p
rest_self p = record { residents = refl; due = refl; front = refl; back = refl; count = refl }

-- the rest itself
pub rest_by_puts : KeptByPuts SameRest
rest_by_puts = record {
  still = λ p q a b r. r;
  both = λ p q r s t. record { residents = t.residents ∙ s.residents; due = t.due ∙ s.due; front = t.front ∙ s.front; back = t.back ∙ s.back; count = t.count ∙ s.count };
  puts = λ p v s m. record { residents = refl; due = refl; front = refl; back = refl; count = refl };
}

self_kept : {R : Placement → Placement → Type 0} → KeptByPuts R → (p : Placement) → R p p
self_kept k p = k.still p p refl refl (rest_self p)

-- the frames, the free list and the transfers are others
aside_kept : {R : Placement → Placement → Type 0} → KeptByPuts R → (p : Placement) (holds : List (Option Page)) (free : List ℕ) (ts : List Transfer)
    → length holds ≡ length p.holds
    → R p (record p { holds = holds; free = free; transfers = ts })
aside_kept k p holds free ts e =
    k.still p (record p { holds = holds; free = free; transfers = ts }) refl refl (record { residents = refl; due = refl; front = refl; back = refl; count = e })

-- and a page was put
put_kept : {R : Placement → Placement → Type 0} → KeptByPuts R
    → (p : Placement) (v : Page) (s : PageState) (m : Bool) (holds : List (Option Page)) (free : List ℕ) (ts : List Transfer)
    → length holds ≡ length p.holds → R p (record (put p v s m) { holds = holds; free = free; transfers = ts })
put_kept k p v s m holds free ts e =
    k.both p (put p v s m) (record (put p v s m) { holds = holds; free = free; transfers = ts }) (k.puts p v s m) (aside_kept k (put p v s m) holds free ts e)

begin_kept : {R : Placement → Placement → Type 0} → KeptByPuts R → (p : Placement) (e : Errand) → R p (begin p e)
begin_kept k p e = aside_kept k p p.holds p.free (p.transfers ++ record { errand = e; parts = [] } ∷ []) refl

-- Fills and reads.

pub evict_kept : {R : Placement → Placement → Type 0} → KeptByPuts R → (p : Placement) (f : ℕ) → R p (evict p f)
evict_kept {R} k p f = go (page_of p f)
  where
    go : (h : Option Page) → R p (evict_at p f h)
    go None = self_kept k p
    go (Some v) = put_kept k p v (left_state v (mark_of p v)) (mark_of p v) (set_frame p.holds f None) p.free p.transfers (length_set_frame p.holds f None)

enter_kept : {R : Placement → Placement → Type 0} → KeptByPuts R → (p : Placement) (v : Page) (f : ℕ) (s : PageState) (m : Bool) (ts : List Transfer)
    → R p (enter p v f s m ts)
enter_kept k p v f s m ts = put_kept k p v s m (set_frame p.holds f (Some v)) (without f p.free) ts (length_set_frame p.holds f (Some v))

turn_kept : {R : Placement → Placement → Type 0} → KeptByPuts R
    → (p : Placement) (v : Page) (s : PageState) (m : Bool) (free : List ℕ) (ts : List Transfer) → R p (turn p v s m free ts)
turn_kept k p v s m free ts = put_kept k p v s m p.holds free ts refl

pub fill_kept : {R : Placement → Placement → Type 0} → KeptByPuts R → (p : Placement) (v : Page) → R p (fill p v)
fill_kept {R} k p v = go p.free
  where
    go : (fr : List ℕ) → R p (fill_at p v fr)
    go [] = self_kept k p
    go (f ∷ rest) = k.both p (evict p f) (fill_at p v (f ∷ rest)) (evict_kept k p f)
        (enter_kept k (evict p f) v f (Valid f) true p.transfers)

-- what is due is another list
pub filled_kept : {R : Placement → Placement → Type 0} → KeptByPuts R → ((p : Placement) (ds : List Due) → R p (record p { due = ds }))
    → (p : Placement) (v : Page) → R p (filled p v)
filled_kept k d p v = k.both p (fill p v) (filled p v) (fill_kept k p v) (d (fill p v) (due_after p.due v))

pub get_kept : {R : Placement → Placement → Type 0} → KeptByPuts R → (p : Placement) (e : Errand) (v : Page) → R p (get_one p e v)
get_kept {R} k p e v = go p.free
  where
    go : (fr : List ℕ) → R p (get_at p e v fr)
    go [] = self_kept k p
    go (f ∷ rest) = k.both p (evict p f) (get_at p e v (f ∷ rest)) (evict_kept k p f)
        (enter_kept k (evict p f) v f (Coming f) (mark_of p v) (join_last p.transfers e (record { page = v; frame = f })))

pub get_all_kept : {R : Placement → Placement → Type 0} → KeptByPuts R → (qs : List Page) (p : Placement) (e : Errand) → R p (get_all p e qs)
get_all_kept k [] p e = self_kept k p
get_all_kept k (v ∷ qs) p e = k.both p (get_one p e v) (get_all p e (v ∷ qs)) (get_kept k p e v) (get_all_kept k qs (get_one p e v) e)

pub get_run_kept : {R : Placement → Placement → Type 0} → KeptByPuts R → (p : Placement) (e : Errand) (qs : List Page) → R p (get_run p e qs)
get_run_kept {R} k p e qs = subst (R p) (get_steps p e qs) (k.both p (begin p e) (get_all (begin p e) e qs) (begin_kept k p e) (get_all_kept k qs (begin p e) e))

pub reclaim_kept : {R : Placement → Placement → Type 0} → KeptByPuts R → (p : Placement) (v : Page) → R p (reclaim p v)
reclaim_kept {R} k p v = go (state_of p v)
  where
    go : (s : PageState) → R p (reclaim_to p v s)
    go (Invalid f) = turn_kept k p v (Valid f) (mark_of p v) (without f p.free) p.transfers
    go Unfilled = self_kept k p
    go (Valid f) = self_kept k p
    go (Coming f) = self_kept k p
    go (Going f) = self_kept k p
    go OnSwap = self_kept k p

-- Writes.

launch_kept : {R : Placement → Placement → Type 0} → KeptByPuts R → (p : Placement) (v : Page) → R p (launch p v)
launch_kept {R} k p v = go (state_of p v)
  where
    go : (s : PageState) → R p (launch_to p v s)
    go (Valid f) = turn_kept k p v (Going f) (mark_of p v) p.free (join_last p.transfers Writes (record { page = v; frame = f }))
    go (Invalid f) = turn_kept k p v (Going f) (mark_of p v) p.free (join_last p.transfers Writes (record { page = v; frame = f }))
    go Unfilled = self_kept k p
    go (Coming f) = self_kept k p
    go (Going f) = self_kept k p
    go OnSwap = self_kept k p

launch_all_kept : {R : Placement → Placement → Type 0} → KeptByPuts R → (qs : List Page) (p : Placement) → R p (launch_all p qs)
launch_all_kept k [] p = self_kept k p
launch_all_kept k (v ∷ qs) p = k.both p (launch p v) (launch_all p (v ∷ qs)) (launch_kept k p v) (launch_all_kept k qs (launch p v))

pub launch_run_kept : {R : Placement → Placement → Type 0} → KeptByPuts R → (p : Placement) (qs : List Page) → R p (launch_run p qs)
launch_run_kept {R} k p qs = subst (R p) (launch_steps p qs) (k.both p (begin p Writes) (launch_all (begin p Writes) qs) (begin_kept k p Writes) (launch_all_kept k qs (begin p Writes)))

pub retire_kept : {R : Placement → Placement → Type 0} → KeptByPuts R → (p : Placement) (v : Page) → R p (retire p v)
retire_kept {R} k p v = go (state_of p v)
  where
    go : (s : PageState) → R p (retire_to p v s)
    go (Valid f) = turn_kept k p v (Invalid f) (mark_of p v) (p.free ++ f ∷ []) p.transfers
    go (Invalid f) = turn_kept k p v (Invalid f) (mark_of p v) (p.free ++ f ∷ []) p.transfers
    go Unfilled = self_kept k p
    go (Coming f) = self_kept k p
    go (Going f) = self_kept k p
    go OnSwap = self_kept k p

pub put_step_kept : {R : Placement → Placement → Type 0} → KeptByPuts R → (p : Placement) (v : Page) (qs : List Page) → R p (put_step p v qs)
put_step_kept {R} k p v qs = go (is_dirty p v)
  where
    go : (d : Bool) → R p (put_by p v qs d)
    go true = launch_run_kept k p qs
    go false = retire_kept k p v

-- The hands.

pub expire_kept : {R : Placement → Placement → Type 0} → KeptByPuts R → (p : Placement) (locked : List Page) → R p (expire p locked)
expire_kept {R} k p locked = go (page_of p p.front)
  where
    to : (v : Page) (s : PageState) → R p (expire_to p v s)
    to v (Valid f) = turn_kept k p v (Invalid f) (mark_of p v) p.free p.transfers
    to v Unfilled = self_kept k p
    to v (Invalid f) = self_kept k p
    to v (Coming f) = self_kept k p
    to v (Going f) = self_kept k p
    to v OnSwap = self_kept k p

    at : (v : Page) (b : Bool) → R p (expire_if p v b)
    at v true = self_kept k p
    at v false = to v (state_of p v)

    go : (h : Option Page) → R p (expire_of p locked h)
    go None = self_kept k p
    go (Some v) = at v (is_among v locked)

pub sweep_kept : {R : Placement → Placement → Type 0} → KeptByPuts R → (p : Placement) (locked : List Page) → R p (sweep p locked)
sweep_kept {R} k p locked = sweep_cases (R p) p locked (self_kept k p) (λ q t e. launch_run_kept k p (pages_of_run q (run_out p locked q))) (λ q t e. retire_kept k p q)

-- the hands go on by one frame
pub move_kept : {R : Placement → Placement → Type 0} → KeptByPuts R → ((p : Placement) → R p (advance p)) → (p : Placement) (locked : List Page)
    → R p (hand_move p locked)
move_kept k g p locked =
    k.both p (sweep (expire p locked) locked) (hand_move p locked)
    (k.both p (expire p locked) (sweep (expire p locked) locked) (expire_kept k p locked) (sweep_kept k (expire p locked) locked))
    (g (sweep (expire p locked) locked))

pub moves_kept : {R : Placement → Placement → Type 0} → KeptByPuts R → ((p : Placement) → R p (advance p))
    → (n : ℕ) (p : Placement) (locked : List Page) → R p (hand_moves p locked n)
moves_kept k g zero p locked = self_kept k p
moves_kept k g (suc n) p locked = k.both p (hand_move p locked) (hand_moves p locked (suc n)) (move_kept k g p locked) (moves_kept k g n (hand_move p locked) locked)

-- The end of a transfer.

land_kept : {R : Placement → Placement → Type 0} → KeptByPuts R → (p : Placement) (e : Errand) (x : Part) (rest : List Transfer) → R p (land_then p e x rest)
land_kept k p Writes x rest = turn_kept k p x.page (Invalid x.frame) (written_mark x.page) (p.free ++ x.frame ∷ []) rest
land_kept {R} k p (Reads source demanded) x rest = go (same_page x.page demanded)
  where
    go : (b : Bool) → R p (land_read_then p source x rest b)
    go true = turn_kept k p x.page (Valid x.frame) (arrived_mark source x.page (mark_of p x.page)) p.free rest
    go false = turn_kept k p x.page (Invalid x.frame) (mark_of p x.page) (p.free ++ x.frame ∷ []) rest

land_all_kept : {R : Placement → Placement → Type 0} → KeptByPuts R → (xs : List Part) (p : Placement) (e : Errand) (ts : List Transfer)
    → R p (land_all_then p e xs ts)
land_all_kept k [] p e ts = aside_kept k p p.holds p.free ts refl
land_all_kept k (x ∷ xs) p e ts =
    let l : Placement = land_then p e x (record { errand = e; parts = xs } ∷ ts) in
    k.both p l (land_all_then p e (x ∷ xs) ts) (land_kept k p e x (record { errand = e; parts = xs } ∷ ts)) (land_all_kept k xs l e ts)

pub done_kept : {R : Placement → Placement → Type 0} → KeptByPuts R → (p : Placement) → R p (done p)
done_kept {R} k p = done_cases (R p) p (self_kept k p) (λ t ts e. land_all_kept k t.parts p t.errand ts)

-- User writes, and pages that are given up.

pub touch_kept : {R : Placement → Placement → Type 0} → KeptByPuts R → (p : Placement) (v : Page) → R p (touch p v)
touch_kept {R} k p v = go v (state_of p v)
  where
    go : (v : Page) (s : PageState) → R p (touch_to p v s)
    go (Data sid n) (Valid f) = turn_kept k p (Data sid n) (Valid f) true p.free p.transfers
    go (Stack sid n) (Valid f) = turn_kept k p (Stack sid n) (Valid f) true p.free p.transfers
    go _ _ = self_kept k p

drop_kept : {R : Placement → Placement → Type 0} → KeptByPuts R → (p : Placement) (v : Page) → R p (drop_page p v)
drop_kept {R} k p v = go (frame_of (state_of p v))
  where
    go : (h : Option ℕ) → R p (drop_at p v h)
    go None = k.puts p v Unfilled false
    go (Some f) = put_kept k p v Unfilled false (set_frame p.holds f None) (f ∷ without f p.free) p.transfers (length_set_frame p.holds f None)

pub drop_all_kept : {R : Placement → Placement → Type 0} → KeptByPuts R → (qs : List Page) (p : Placement) → R p (drop_all p qs)
drop_all_kept k [] p = self_kept k p
drop_all_kept k (v ∷ qs) p = k.both p (drop_page p v) (drop_all p (v ∷ qs)) (drop_kept k p v) (drop_all_kept k qs (drop_page p v))

pub leave_kept : {R : Placement → Placement → Type 0} → KeptByPuts R → (p : Placement) (v : Page) → R p (leave_page p v)
leave_kept {R} k p v = go (state_of p v) (listed p v)
  where
    go : (s : PageState) (m : ℕ) → R p (leave_by p v s m)
    go (Valid f) m = turn_kept k p v (Invalid f) false (p.free ++ f ∷ []) p.transfers
    go (Invalid f) zero = turn_kept k p v (Invalid f) false (p.free ++ f ∷ []) p.transfers
    go (Invalid f) (suc m) = turn_kept k p v (Invalid f) false p.free p.transfers
    go OnSwap m = k.puts p v Unfilled false
    go Unfilled m = k.puts p v Unfilled false
    go (Coming f) m = self_kept k p
    go (Going f) m = self_kept k p

pub leave_all_kept : {R : Placement → Placement → Type 0} → KeptByPuts R → (qs : List Page) (p : Placement) → R p (leave_all p qs)
leave_all_kept k [] p = self_kept k p
leave_all_kept k (v ∷ qs) p = k.both p (leave_page p v) (leave_all p (v ∷ qs)) (leave_kept k p v) (leave_all_kept k qs (leave_page p v))

pub touch_all_kept : {R : Placement → Placement → Type 0} → KeptByPuts R → (qs : List Page) (p : Placement) → R p (touch_all p qs)
touch_all_kept k [] p = self_kept k p
touch_all_kept k (v ∷ qs) p = k.both p (touch p v) (touch_all p (v ∷ qs)) (touch_kept k p v) (touch_all_kept k qs (touch p v))

-- Entries: beside the moves, a process goes out or comes in.
pub entry_kept : {R : Placement → Placement → Type 0} → KeptByPuts R → ((p : Placement) (ds : List Due) → R p (record p { due = ds }))
    → ((p : Placement) → R p (advance p))
    → ((p : Placement) (pid : ℕ) (out : Bool) (at : ℕ) → R p (moved p pid out at)) → (locked : List Page) (at : ℕ) (p : Placement) (e : Entry)
    → R p (place_entry locked at p e)
entry_kept k d g m locked at p (entries.Zero q) = filled_kept k d p q
entry_kept k d g m locked at p (entries.Get q lo n) = get_run_kept k p (read_errand p q) (pages_from q lo n)
entry_kept k d g m locked at p (entries.Copy q) = filled_kept k d p q
entry_kept k d g m locked at p (entries.Reclaim q) = reclaim_kept k p q
entry_kept k d g m locked at p (entries.Hands n) = moves_kept k g n p locked
entry_kept k d g m locked at p (entries.Put q n) = put_step_kept k p q (pages_from q (number_of q) n)
entry_kept k d g m locked at p entries.Done = done_kept k p
entry_kept k d g m locked at p (entries.SwapOut pid) = m p pid true at
entry_kept k d g m locked at p (entries.SwapIn pid) = m p pid false at
entry_kept k d g m locked at p _ = self_kept k p
