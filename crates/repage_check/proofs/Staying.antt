-- The pages that the hands pass over are the same once they moved.
use Rattle.std.proofs.Common.{◌≡◌, inl, inr, ℕ, ◌||◌, Bool, true, false, List, [], ◌∷◌, Option, Some, None, refl, sym, ap, ◌∙◌, subst}
use Rattle.vm_facts.specs.declared.page.Page.{Page}
use Rattle.vm_facts.specs.declared.page.PageState.{PageState}
use Rattle.vm_facts.specs.declared.page.PageState.TheVariants.{Unfilled, Valid, Invalid, Coming, Going, OnSwap}
use Rattle.vm_facts.specs.declared.entry.Entry.TheVariants as entries
use Rattle.flat_state.specs.Flat.{Inputs}
use Rattle.flat_state.specs.PageNames.{is_among, same_page}
use Rattle.page_model.specs.Pages.{frame_of, is_valid}
use Rattle.page_model.specs.Placement.{Placement, Due, Start, CopyOf, Writes, state_of, mark_of, page_of, put}
use Rattle.page_model.specs.Moves.{retire_to, retire}
use Rattle.page_model.specs.Steps.{begin, launch, launch_to, launch_all}
use Rattle.page_model.specs.Runs.{run_out, pages_of_run}
use Rattle.page_model.specs.Hands.{expire, expire_of, expire_if, expire_to, sweep, hand_move}
use Rattle.page_model.specs.Conditions.{Spares}
use Rattle.page_laws.proofs.Lists.Pages.{page_cases, put_state}
use Rattle.page_laws.proofs.Moves.Steps.{page_in, put_other_state}
use Rattle.page_laws.proofs.Moves.InSteps.{launch_steps}
use Rattle.page_laws.proofs.Moves.Taken.{sweep_cases}
use Rattle.page_laws.proofs.Moves.Locks.{move_spares}
use Rattle.page_laws.proofs.Moves.Stays.{move_stays}
use Rattle.run_model.specs.Snapshot.{present_by, before_absent, passed_over}
use Rattle.run_model.specs.State.{State}
use Rattle.run_model.specs.Wanted.{touched_next, locked}
use Rattle.run_model.specs.After.{after}
use Rattle.paged_model.specs.Runs.{paged_after}

-- A page that isn't valid isn't valid afterwards either.
abbrev Loses : Placement → Placement → Type 0
Loses p q = (w : Page) → is_valid (state_of p w) ≡ false → is_valid (state_of q w) ≡ false

loses_both : (p q r : Placement) → Loses p q → Loses q r → Loses p r
loses_both p q r a b w h = b w (a w h)

put_loses : (p : Placement) (v : Page) (f : ℕ) (s : PageState) (m : Bool) → frame_of (state_of p v) ≡ Some f → is_valid s ≡ false → Loses p (put p v s m)
put_loses p v f s m e n w h = elim (page_cases w v) [
  | inl k ↦ ap is_valid (ap (state_of (put p v s m)) k ∙ put_state p v s m (page_in p v f e)) ∙ n
  | inr d ↦ ap is_valid (put_other_state p v s m w d) ∙ h
]

-- The hands.

expire_loses : (p : Placement) (locked : List Page) → Loses p (expire p locked)
expire_loses p locked = go (page_of p p.front)
  where
    to : (v : Page) (s : PageState) → state_of p v ≡ s → Loses p (expire_to p v s)
    to v (Valid f) e = λ w h. put_loses p v f (Invalid f) (mark_of p v) (ap frame_of e) refl w h
    to v Unfilled e = λ w h. h
    to v (Invalid f) e = λ w h. h
    to v (Coming f) e = λ w h. h
    to v (Going f) e = λ w h. h
    to v OnSwap e = λ w h. h

    at : (v : Page) (b : Bool) → Loses p (expire_if p v b)
    at v true = λ w h. h
    at v false = to v (state_of p v) refl

    go : (h : Option Page) → Loses p (expire_of p locked h)
    go None = λ w h. h
    go (Some v) = at v (is_among v locked)

launch_loses : (p : Placement) (v : Page) → Loses p (launch p v)
launch_loses p v = go (state_of p v) refl
  where
    go : (s : PageState) → state_of p v ≡ s → Loses p (launch_to p v s)
    go (Valid f) e = λ w h. put_loses p v f (Going f) (mark_of p v) (ap frame_of e) refl w h
    go (Invalid f) e = λ w h. put_loses p v f (Going f) (mark_of p v) (ap frame_of e) refl w h
    go Unfilled e = λ w h. h
    go (Coming f) e = λ w h. h
    go (Going f) e = λ w h. h
    go OnSwap e = λ w h. h

launch_all_loses : (qs : List Page) (p : Placement) → Loses p (launch_all p qs)
launch_all_loses [] p = λ w h. h
launch_all_loses (v ∷ qs) p = loses_both p (launch p v) (launch_all (launch p v) qs) (launch_loses p v) (launch_all_loses qs (launch p v))

retire_loses : (p : Placement) (q : Page) → Loses p (retire p q)
retire_loses p q = go (state_of p q) refl
  where
    go : (s : PageState) → state_of p q ≡ s → Loses p (retire_to p q s)
    go (Valid f) e = λ w h. put_loses p q f (Invalid f) (mark_of p q) (ap frame_of e) refl w h
    go (Invalid f) e = λ w h. put_loses p q f (Invalid f) (mark_of p q) (ap frame_of e) refl w h
    go Unfilled e = λ w h. h
    go (Coming f) e = λ w h. h
    go (Going f) e = λ w h. h
    go OnSwap e = λ w h. h

sweep_loses : (p : Placement) (locked : List Page) → Loses p (sweep p locked)
sweep_loses p locked = sweep_cases (λ r. Loses p r) p locked (λ w h. h)
    (λ q t e. subst (λ (r : Placement). Loses p r) (launch_steps p (pages_of_run q (run_out p locked q)))
    (λ w h. launch_all_loses (pages_of_run q (run_out p locked q)) (begin p Writes) w h))
    (λ q t e. retire_loses p q)

move_loses : (p : Placement) (locked : List Page) → Loses p (hand_move p locked)
move_loses p locked w h = sweep_loses (expire p locked) locked w (expire_loses p locked w h)

-- Pages before the first that isn't valid.

present_kept : (b c : Bool) (x : Page) (more rest : List Page) → b ≡ c → (b ≡ true → more ≡ rest) → present_by c x more ≡ present_by b x rest
present_kept true true x more rest e k = ap (λ (l : List Page). x ∷ l) (k refl)
present_kept false false x more rest e k = refl
present_kept true false x more rest e k = absurd cc
present_kept false true x more rest e k = absurd cc

before_kept : (p q : Placement) (pages : List Page) → Spares p q (before_absent p pages) → Loses p q → before_absent q pages ≡ before_absent p pages
before_kept p q [] s l = refl
before_kept p q (x ∷ xs) s l = go (is_valid (state_of p x)) refl (λ spares. before_kept p q xs spares l)
  where
    later : (w : Page) (a b : Bool) → b ≡ true → a || b ≡ true
    later w true b e = refl
    later w false b e = e

    go : (b : Bool) → is_valid (state_of p x) ≡ b → (Spares p q (before_absent p xs) → before_absent q xs ≡ before_absent p xs)
        → present_by (is_valid (state_of q x)) x (before_absent q xs) ≡ present_by (is_valid (state_of p x)) x (before_absent p xs)
    go false e rest =
        ap (λ (b : Bool). present_by b x (before_absent q xs)) (l x e) ∙ sym (ap (λ (b : Bool). present_by b x (before_absent p xs)) e)
    go true e rest =
        let whole : before_absent p (x ∷ xs) ≡ x ∷ before_absent p xs = ap (λ (b : Bool). present_by b x (before_absent p xs)) e in
        let among : (w : Page) → is_among w (x ∷ before_absent p xs) ≡ true → is_valid (state_of p w) ≡ true → is_valid (state_of q w) ≡ true =
        λ w i. s w (subst (λ (qs : List Page). is_among w qs ≡ true) (sym whole) i)
        in
        let here : is_valid (state_of q x) ≡ true = among x (ap (λ (b : Bool). b || is_among x (before_absent p xs)) (Rattle.flat_state.proofs.PageNames.same_page_self x)) e in
        ap (λ (b : Bool). present_by b x (before_absent q xs)) here
        ∙ ap (λ (l : List Page). x ∷ l) (rest (λ w i. among w (later w (same_page w x) (is_among w (before_absent p xs)) i))) ∙ sym whole

over_kept : (p q : Placement) (pages : List Page) (due : List Due) → Spares p q (passed_over p pages due) → Loses p q
    → passed_over q pages due ≡ passed_over p pages due
over_kept p q pages [] s l = before_kept p q pages s l
over_kept p q pages (Start v ∷ due) s l = refl
over_kept p q pages (CopyOf child parent ∷ due) s l = refl

-- a move of the hands leaves them
pub hands_locked : (A : Inputs) (s : State) → locked A (paged_after A s (entries.Hands 1)) ≡ locked A s
unfolding after
hands_locked A s =
    ap (passed_over (hand_move s.place (locked A s)) (touched_next A s)) (move_stays s.place (locked A s)).due
    ∙ over_kept s.place (hand_move s.place (locked A s)) (touched_next A s) s.place.due (move_spares s.place (locked A s)) (move_loses s.place (locked A s))
