-- The moves of transfers as wholes are the same as their steps.
use Rattle.std.proofs.Common.{◌≡◌, ℕ, ◌==◌, Bool, true, false, List, [], ◌∷◌, ◌++◌, Option, Some, None, refl, sym, ap, ◌∙◌, subst, append_assoc}
use Rattle.std.proofs.lemmas.List.{append-nil}
use Rattle.vm_facts.specs.declared.page.Page.{Page}
use Rattle.vm_facts.specs.declared.page.PageState.{PageState}
use Rattle.vm_facts.specs.declared.page.PageState.TheVariants.{Unfilled, Valid, Invalid, Coming, Going, OnSwap}
use Rattle.vm_facts.specs.Lists.{without}
use Rattle.page_model.specs.PageNames.{same_page}
use Rattle.page_model.specs.Placement.{Placement, Transfer, Part, Errand, Writes, Reads, state_of, mark_of, page_of}
use Rattle.page_model.specs.Moves.{evict, evict_at, enter, turn, take_frame_at, take_frames, taken_parts, get_run, send, send_to, send_all, sent_part, sent_parts, launch_run, land, land_read, land_all, done, done_of}
use Rattle.page_model.specs.Steps.{begin, join_last, get_at, get_all, launch_to, launch_all, land_then, land_all_then}
use Rattle.page_laws.proofs.Moves.Steps.{EvictRest, evict_rest}
use Rattle.page_laws.proofs.Lists.Frames.{without_hit}

-- these transfers, and one with these pages as the youngest
abbrev pub and_last : List Transfer → Errand → List Part → List Transfer
and_last ts e xs = ts ++ record { errand = e; parts = xs } ∷ []

join_end : (ts : List Transfer) (e d : Errand) (xs : List Part) (x : Part) → join_last (and_last ts e xs) d x ≡ and_last ts e (xs ++ x ∷ [])
join_end [] e d xs x = refl
join_end (t ∷ []) e d xs x = refl
join_end (t ∷ u ∷ us) e d xs x = ap (λ (l : List Transfer). t ∷ l) (join_end (u ∷ us) e d xs x)

-- Reads.

evict_with : (p : Placement) (ts : List Transfer) (f : ℕ) → evict (record p { transfers = ts }) f ≡ record (evict p f) { transfers = ts }
evict_with p ts f = go (page_of p f)
  where
    go : (h : Option Page) → evict_at (record p { transfers = ts }) f h ≡ record (evict_at p f h) { transfers = ts }
    go None = refl
    go (Some q) = refl

get_with : (p : Placement) (ts : List Transfer) (e : Errand) (xs : List Part) (q : Page) (f : ℕ) (rest : List ℕ)
    → get_at (record p { transfers = and_last ts e xs }) e q (f ∷ rest)
    ≡ record (take_frame_at p q (f ∷ rest)) { transfers = and_last ts e (xs ++ record { page = q; frame = f } ∷ []) }
get_with p ts e xs q f rest =
    ap (λ (r : Placement). enter r q f (Coming f) (mark_of p q) (join_last (and_last ts e xs) e (record { page = q; frame = f }))) (evict_with p (and_last ts e xs) f)
    ∙ ap (λ (l : List Transfer). enter (evict p f) q f (Coming f) (mark_of p q) l) (join_end ts e e xs (record { page = q; frame = f }))

none_taken : (qs : List Page) → taken_parts qs [] ≡ []
none_taken [] = refl
none_taken (q ∷ qs) = refl

get_all_steps : (qs : List Page) (p : Placement) (ts : List Transfer) (e : Errand) (xs : List Part)
    → get_all (record p { transfers = and_last ts e xs }) e qs ≡ record (take_frames p qs) { transfers = and_last ts e (xs ++ taken_parts qs p.free) }
get_all_steps [] p ts e xs = ap (λ (ys : List Part). record p { transfers = and_last ts e ys }) (sym (append-nil xs))
get_all_steps (q ∷ qs) p ts e xs = go p.free refl (λ r ys. get_all_steps qs r ts e ys)
  where
    go : (fr : List ℕ) → p.free ≡ fr
        → ((r : Placement) (ys : List Part) → get_all (record r { transfers = and_last ts e ys }) e qs ≡ record (take_frames r qs) { transfers = and_last ts e (ys ++ taken_parts qs r.free) })
        → get_all (get_at (record p { transfers = and_last ts e xs }) e q fr) e qs
        ≡ record (take_frames (take_frame_at p q fr) qs) { transfers = and_last ts e (xs ++ taken_parts (q ∷ qs) fr) }
    go [] k ih = ih p xs ∙ ap (λ (ys : List Part). record (take_frames p qs) { transfers = and_last ts e (xs ++ ys) }) (ap (taken_parts qs) k ∙ none_taken qs)
    go (f ∷ rest) k ih =
        let x : Part = record { page = q; frame = f } in
        let r : EvictRest p (evict p f) = evict_rest p f in
        ap (λ (r : Placement). get_all r e qs) (get_with p ts e xs q f rest) ∙ ih (take_frame_at p q (f ∷ rest)) (xs ++ x ∷ [])
        ∙ ap (λ (ys : List Part). record (take_frames (take_frame_at p q (f ∷ rest)) qs) { transfers = and_last ts e ys })
        (append_assoc xs (x ∷ []) (taken_parts qs (without f (evict p f).free))
        ∙ ap (λ (fs : List ℕ). xs ++ x ∷ taken_parts qs fs) (ap (without f) (r.free ∙ k) ∙ without_hit f rest))

-- Pages that join a read one after another are those that take the free frames in turn.
pub get_steps : (p : Placement) (e : Errand) (qs : List Page) → get_all (begin p e) e qs ≡ get_run p e qs
get_steps p e qs = get_all_steps qs p p.transfers e []

-- Writes.

launch_with : (p : Placement) (ts : List Transfer) (xs : List Part) (q : Page) (s : PageState)
    → launch_to (record p { transfers = and_last ts Writes xs }) q s ≡ record (send_to p q s) { transfers = and_last ts Writes (xs ++ sent_part q s) }
launch_with p ts xs q s = go s
  where
    joined : (f : ℕ) → turn p q (Going f) (mark_of p q) p.free (join_last (and_last ts Writes xs) Writes (record { page = q; frame = f }))
        ≡ turn p q (Going f) (mark_of p q) p.free (and_last ts Writes (xs ++ record { page = q; frame = f } ∷ []))
    joined f = ap (turn p q (Going f) (mark_of p q) p.free) (join_end ts Writes Writes xs (record { page = q; frame = f }))

    same : record p { transfers = and_last ts Writes xs } ≡ record p { transfers = and_last ts Writes (xs ++ []) }
    same = ap (λ (ys : List Part). record p { transfers = and_last ts Writes ys }) (sym (append-nil xs))

    go : (s : PageState) → launch_to (record p { transfers = and_last ts Writes xs }) q s ≡ record (send_to p q s) { transfers = and_last ts Writes (xs ++ sent_part q s) }
    go (Valid f) = joined f
    go (Invalid f) = joined f
    go Unfilled = same
    go (Coming f) = same
    go (Going f) = same
    go OnSwap = same

launch_all_steps : (qs : List Page) (p : Placement) (ts : List Transfer) (xs : List Part)
    → launch_all (record p { transfers = and_last ts Writes xs }) qs ≡ record (send_all p qs) { transfers = and_last ts Writes (xs ++ sent_parts p qs) }
launch_all_steps [] p ts xs = ap (λ (ys : List Part). record p { transfers = and_last ts Writes ys }) (sym (append-nil xs))
launch_all_steps (q ∷ qs) p ts xs = ap (λ (r : Placement). launch_all r qs) (launch_with p ts xs q (state_of p q))
    ∙ launch_all_steps qs (send p q) ts (xs ++ sent_part q (state_of p q))
    ∙ ap (λ (ys : List Part). record (send_all (send p q) qs) { transfers = and_last ts Writes ys }) (append_assoc xs (sent_part q (state_of p q)) (sent_parts (send p q) qs))

-- Pages that join a write one after another are those that are going, each from its frame.
pub launch_steps : (p : Placement) (qs : List Page) → launch_all (begin p Writes) qs ≡ launch_run p qs
launch_steps p qs = launch_all_steps qs p p.transfers []

-- Landing.

-- a page lands in the same way whatever is in flight
pub land_with : (p : Placement) (ts : List Transfer) (e : Errand) (x : Part) → record (land p e x) { transfers = ts } ≡ land (record p { transfers = ts }) e x
land_with p ts Writes x = refl
land_with p ts (Reads source demanded) x = go (same_page x.page demanded)
  where
    go : (b : Bool) → record (land_read p source x b) { transfers = ts } ≡ land_read (record p { transfers = ts }) source x b
    go true = refl
    go false = refl

-- Pages that land one after another, out of their transfer, are those that land once the transfer is gone.
pub land_steps : (xs : List Part) (p : Placement) (e : Errand) (ts : List Transfer) → land_all_then p e xs ts ≡ land_all (record p { transfers = ts }) e xs
land_steps [] p e ts = refl
land_steps (x ∷ xs) p e ts = land_steps xs (land_then p e x (record { errand = e; parts = xs } ∷ ts)) e ts
    ∙ ap (λ (q : Placement). land_all q e xs) (land_with p ts e x)

-- What holds of a placement with no transfer, and of one whose oldest transfer lands its pages one after another, holds when the oldest transfer is complete.
pub done_cases : (P : Placement → Type 0) (p : Placement) → P p
    → ((t : Transfer) (ts : List Transfer) → p.transfers ≡ t ∷ ts → P (land_all_then p t.errand t.parts ts)) → P (done p)
done_cases P p none some = go p.transfers refl
  where
    go : (ts : List Transfer) → p.transfers ≡ ts → P (done_of p ts)
    go [] e = none
    go (t ∷ ts) e = subst P (land_steps t.parts p t.errand ts) (some t ts e)
