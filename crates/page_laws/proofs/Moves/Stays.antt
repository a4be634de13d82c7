-- Moves of pages with their frames: each page has the frame that it had, and a page with no frame stays as it is.
use Rattle.std.proofs.Common.{◌≡◌, inl, inr, ℕ, Bool, true, false, List, [], ◌∷◌, ◌++◌, length, Option, Some, None, refl, sym, ap, ◌∙◌, subst}
use Rattle.vm_facts.specs.declared.page.Page.{Page}
use Rattle.vm_facts.specs.declared.page.PageState.{PageState}
use Rattle.vm_facts.specs.declared.page.PageState.TheVariants.{Unfilled, Valid, Invalid, Coming, Going, OnSwap}
use Rattle.page_model.specs.Pages.{frame_of, written_mark}
use Rattle.page_model.specs.PageNames.{is_among, same_page}
use Rattle.page_model.specs.Placement.{Placement, Transfer, Part, Errand, Writes, Reads, parts_of, slots_of, slot_of, state_of, mark_of, page_of, put, sharers}
use Rattle.page_model.specs.Moves.{turn, launch_run, done, retire, retire_to, arrived_mark}
use Rattle.page_model.specs.Steps.{land_then, land_read_then, land_all_then, begin, join_last, launch, launch_to, launch_all}
use Rattle.page_model.specs.Runs.{run_out, pages_of_run}
use Rattle.page_model.specs.Hands.{expire, expire_of, expire_if, expire_to, sweep, hand_move}
use Rattle.page_model.specs.Serve.{force}
use Rattle.page_model.specs.Ownership.{OwnsFrames}
use Rattle.page_laws.proofs.Lists.Pages.{page_cases, put_state, put_other, put_length, put_sharers}
use Rattle.page_laws.proofs.Lists.Local.{none_some}
use Rattle.page_laws.proofs.Moves.InSteps.{launch_steps, done_cases}
use Rattle.page_laws.proofs.Moves.Steps.{page_in, put_other_state}
use Rattle.page_laws.proofs.Ownership.Runs.{Landing, landing_frame, land_owner, land_transfers}
use Rattle.page_laws.proofs.Moves.Taken.{sweep_cases}
use Rattle.page_laws.proofs.Moves.Cases.{force_cases}

pub record Steady (p q : Placement) : Type 0 where
  pub sizes : (w : Page) → length (slots_of q w) ≡ length (slots_of p w)
  pub holds : q.holds ≡ p.holds
  pub frames : (w : Page) → frame_of (state_of q w) ≡ frame_of (state_of p w)
  pub others : (w : Page) → frame_of (state_of p w) ≡ None → slot_of q w ≡ slot_of p w
  pub due : q.due ≡ p.due
  pub sharing : (image : ℕ) → sharers q image ≡ sharers p image
  pub front : q.front ≡ p.front
  pub back : q.back ≡ p.back

pub steady_self : (p : Placement) → Steady p p
steady_self p = record { sizes = λ w. refl; holds = refl; frames = λ w. refl; others = λ w e. refl; due = refl; sharing = λ i. refl; front = refl; back = refl }

pub steady_both : (p q r : Placement) → Steady p q → Steady q r → Steady p r
steady_both p q r s t = record {
  sizes = λ w. t.sizes w ∙ s.sizes w;
  holds = t.holds ∙ s.holds;
  frames = λ w. t.frames w ∙ s.frames w;
  others = λ w e. t.others w (s.frames w ∙ e) ∙ s.others w e;
  due = t.due ∙ s.due;
  sharing = λ i. t.sharing i ∙ s.sharing i;
  front = t.front ∙ s.front;
  back = t.back ∙ s.back;
}

pub turn_steady : (p : Placement) (v : Page) (f : ℕ) (s : PageState) (m : Bool) (free : List ℕ) (ts : List Transfer)
    → frame_of (state_of p v) ≡ Some f → frame_of s ≡ Some f → Steady p (turn p v s m free ts)
turn_steady p v f s m free ts e t = record {
  sizes = put_length p v s m;
  holds = refl;
  frames = λ w. elim (page_cases w v) [
    | inl h ↦ subst (λ (x : Page). frame_of (state_of (put p v s m) x) ≡ frame_of (state_of p x)) (sym h) (ap frame_of (put_state p v s m (page_in p v f e)) ∙ t ∙ sym e)
    | inr n ↦ ap frame_of (put_other_state p v s m w n)
  ];
  others = λ w n. put_other p v s m w (λ h. none_some f (sym n ∙ subst (λ (x : Page). frame_of (state_of p x) ≡ Some f) (sym h) e));
  due = refl;
  sharing = put_sharers p v s m;
  front = refl;
  back = refl;
}

pub expire_steady : (p : Placement) (locked : List Page) → Steady p (expire p locked)
expire_steady p locked = go (page_of p p.front)
  where
    to : (v : Page) (s : PageState) → state_of p v ≡ s → Steady p (expire_to p v s)
    to v (Valid f) e = turn_steady p v f (Invalid f) (mark_of p v) p.free p.transfers (ap frame_of e) refl
    to v Unfilled e = steady_self p
    to v (Invalid f) e = steady_self p
    to v (Coming f) e = steady_self p
    to v (Going f) e = steady_self p
    to v OnSwap e = steady_self p

    at : (v : Page) (b : Bool) → Steady p (expire_if p v b)
    at v true = steady_self p
    at v false = to v (state_of p v) refl

    go : (h : Option Page) → Steady p (expire_of p locked h)
    go None = steady_self p
    go (Some v) = at v (is_among v locked)

pub expire_free : (p : Placement) (locked : List Page) → (expire p locked).free ≡ p.free
expire_free p locked = go (page_of p p.front)
  where
    to : (v : Page) (s : PageState) → (expire_to p v s).free ≡ p.free
    to v (Valid f) = refl
    to v Unfilled = refl
    to v (Invalid f) = refl
    to v (Coming f) = refl
    to v (Going f) = refl
    to v OnSwap = refl

    at : (v : Page) (b : Bool) → (expire_if p v b).free ≡ p.free
    at v true = refl
    at v false = to v (state_of p v)

    go : (h : Option Page) → (expire_of p locked h).free ≡ p.free
    go None = refl
    go (Some v) = at v (is_among v locked)

pub expire_transfers : (p : Placement) (locked : List Page) → (expire p locked).transfers ≡ p.transfers
expire_transfers p locked = go (page_of p p.front)
  where
    to : (v : Page) (s : PageState) → (expire_to p v s).transfers ≡ p.transfers
    to v (Valid f) = refl
    to v Unfilled = refl
    to v (Invalid f) = refl
    to v (Coming f) = refl
    to v (Going f) = refl
    to v OnSwap = refl

    at : (v : Page) (b : Bool) → (expire_if p v b).transfers ≡ p.transfers
    at v true = refl
    at v false = to v (state_of p v)

    go : (h : Option Page) → (expire_of p locked h).transfers ≡ p.transfers
    go None = refl
    go (Some v) = at v (is_among v locked)

begin_steady : (p : Placement) (e : Errand) → Steady p (begin p e)
begin_steady p e = record { sizes = λ w. refl; holds = refl; frames = λ w. refl; others = λ w e. refl; due = refl; sharing = λ i. refl; front = refl; back = refl }

launch_steady : (p : Placement) (v : Page) → Steady p (launch p v)
launch_steady p v = go (state_of p v) refl
  where
    go : (s : PageState) → state_of p v ≡ s → Steady p (launch_to p v s)
    go (Valid f) e = turn_steady p v f (Going f) (mark_of p v) p.free (join_last p.transfers Writes (record { page = v; frame = f })) (ap frame_of e) refl
    go (Invalid f) e = turn_steady p v f (Going f) (mark_of p v) p.free (join_last p.transfers Writes (record { page = v; frame = f })) (ap frame_of e) refl
    go Unfilled e = steady_self p
    go (Coming f) e = steady_self p
    go (Going f) e = steady_self p
    go OnSwap e = steady_self p

pub launch_all_steady : (qs : List Page) (p : Placement) → Steady p (launch_all p qs)
launch_all_steady [] p = steady_self p
launch_all_steady (v ∷ qs) p = steady_both p (launch p v) (launch_all (launch p v) qs) (launch_steady p v) (launch_all_steady qs (launch p v))

pub launch_run_steady : (p : Placement) (qs : List Page) → Steady p (launch_run p qs)
launch_run_steady p qs = subst (Steady p) (launch_steps p qs) (steady_both p (begin p Writes) (launch_all (begin p Writes) qs) (begin_steady p Writes) (launch_all_steady qs (begin p Writes)))

pub retire_steady : (p : Placement) (v : Page) → Steady p (retire p v)
retire_steady p v = go (state_of p v) refl
  where
    go : (s : PageState) → state_of p v ≡ s → Steady p (retire_to p v s)
    go (Valid f) e = turn_steady p v f (Invalid f) (mark_of p v) (p.free ++ f ∷ []) p.transfers (ap frame_of e) refl
    go (Invalid f) e = turn_steady p v f (Invalid f) (mark_of p v) (p.free ++ f ∷ []) p.transfers (ap frame_of e) refl
    go Unfilled e = steady_self p
    go (Coming f) e = steady_self p
    go (Going f) e = steady_self p
    go OnSwap e = steady_self p

sweep_steady : (p : Placement) (locked : List Page) → Steady p (sweep p locked)
sweep_steady p locked = sweep_cases (Steady p) p locked (steady_self p) (λ q t e. launch_run_steady p (pages_of_run q (run_out p locked q))) (λ q t e. retire_steady p q)

-- the same, wherever the hands go
pub record Stays (p q : Placement) : Type 0 where
  pub sizes : (w : Page) → length (slots_of q w) ≡ length (slots_of p w)
  pub holds : q.holds ≡ p.holds
  pub frames : (w : Page) → frame_of (state_of q w) ≡ frame_of (state_of p w)
  pub others : (w : Page) → frame_of (state_of p w) ≡ None → slot_of q w ≡ slot_of p w
  pub due : q.due ≡ p.due
  pub sharing : (image : ℕ) → sharers q image ≡ sharers p image

pub steady_stays : (p q : Placement) → Steady p q → Stays p q
steady_stays p q s = record { sizes = s.sizes; holds = s.holds; frames = s.frames; others = s.others; due = s.due; sharing = s.sharing }

pub swept_steady : (p : Placement) (locked : List Page) → Steady p (sweep (expire p locked) locked)
swept_steady p locked = steady_both p (expire p locked) (sweep (expire p locked) locked) (expire_steady p locked) (sweep_steady (expire p locked) locked)

pub move_stays : (p : Placement) (locked : List Page) → Stays p (hand_move p locked)
move_stays p locked =
    let s : Steady p (sweep (expire p locked) locked) = swept_steady p locked in record { sizes = s.sizes; holds = s.holds; frames = s.frames; others = s.others; due = s.due; sharing = s.sharing }

land_steady : (p : Placement) (e : Errand) (x : Part) (rest : List Transfer) → frame_of (state_of p x.page) ≡ Some x.frame → Steady p (land_then p e x rest)
land_steady p Writes x rest h = turn_steady p x.page x.frame (Invalid x.frame) (written_mark x.page) (p.free ++ x.frame ∷ []) rest h refl
land_steady p (Reads source demanded) x rest h = go (same_page x.page demanded)
  where
    go : (b : Bool) → Steady p (land_read_then p source x rest b)
    go true = turn_steady p x.page x.frame (Valid x.frame) (arrived_mark source x.page (mark_of p x.page)) p.free rest h refl
    go false = turn_steady p x.page x.frame (Invalid x.frame) (mark_of p x.page) (p.free ++ x.frame ∷ []) rest h refl

land_all_steady : (xs : List Part) (p : Placement) (e : Errand) (ts : List Transfer) → OwnsFrames p
    → p.transfers ≡ record { errand = e; parts = xs } ∷ ts → Steady p (land_all_then p e xs ts)
land_all_steady [] p e ts o h = record { sizes = λ w. refl; holds = refl; frames = λ w. refl; others = λ w e. refl; due = refl; sharing = λ i. refl; front = refl; back = refl }
land_all_steady (x ∷ xs) p e ts o h =
    let l : Landing p e x (record { errand = e; parts = xs } ∷ ts) = record { parts = ap parts_of h } in
    steady_both p (land_then p e x (record { errand = e; parts = xs } ∷ ts)) (land_all_then (land_then p e x (record { errand = e; parts = xs } ∷ ts)) e xs ts)
    (land_steady p e x (record { errand = e; parts = xs } ∷ ts) (landing_frame p e x (record { errand = e; parts = xs } ∷ ts) o l))
    (land_all_steady xs (land_then p e x (record { errand = e; parts = xs } ∷ ts)) e ts (land_owner p e x (record { errand = e; parts = xs } ∷ ts) o l)
    (land_transfers p e x (record { errand = e; parts = xs } ∷ ts)))

pub done_steady : (p : Placement) → OwnsFrames p → Steady p (done p)
done_steady p o = done_cases (Steady p) p (steady_self p) (λ t ts e. land_all_steady t.parts p t.errand ts o e)

pub force_stays : (p : Placement) (locked : List Page) → OwnsFrames p → Stays p (force p locked)
force_stays p locked o = force_cases (Stays p) p locked (λ e. move_stays p locked) (λ t ts e. steady_stays p (done p) (done_steady p o))
