-- A move of the hands is its parts, and then both hands go on.
use Rattle.std.proofs.Common.{◌≡◌, ℕ, zero, suc, ◌+◌, ◌<◌, ◌&&◌, not, Bool, true, false, List, [], ◌∷◌, ◌++◌, length, Option, Some, None, refl, sym, ap, ◌∙◌, subst, arith}
use Rattle.std.proofs.lemmas.Bool.{and_parts, eqb-true, eq-eqb}
use Rattle.vm_facts.specs.declared.page.Page.{Page}
use Rattle.vm_facts.specs.declared.page.Page.TheVariants.{Data, Stack, Text}
use Rattle.vm_facts.specs.declared.page.PageState.{PageState}
use Rattle.vm_facts.specs.declared.page.PageState.TheVariants.{Unfilled, Valid, Invalid, Coming, Going, OnSwap}
use Rattle.flat_state.specs.PageNames.{number_of, beside, pages_from, is_among}
use Rattle.page_model.specs.Placement.{Placement, state_of, is_dirty, page_of}
use Rattle.page_model.specs.Moves.{launch_run}
use Rattle.page_model.specs.Conditions.{EachPage}
use Rattle.page_model.specs.Runs.{Run, chunk_of, is_near, is_idle, goes_along, run_out, pages_of_run, most_written}
use Rattle.page_model.specs.Hands.{expire, expire_of, expire_if, expire_to, taken, sweep, sweep_taken, sweep_by, write_taken, write_by, back_run, hand_run, advance, hand_move}
use Rattle.page_model.specs.Ownership.{OwnsFrames}
use Rattle.page_laws.proofs.Lists.Pages.{beside_self}
use Rattle.page_laws.proofs.Lists.Runs.{each_page_imp, run_each, run_both_in, number_beside}
use Rattle.page_laws.proofs.Runs.Neighbours.{widest_out}
use Rattle.page_laws.proofs.Moves.Stays.{expire_transfers}
use Rattle.page_laws.proofs.Moves.Taken.{IsTaken, is_taken, taken_state}
use Rattle.page_laws.proofs.Ownership.Pages.{expire_owner}
use Rattle.kernel_model.proofs.Idle.{idle_is}
use Rattle.kernel_model.specs.declared.part.HandPart.{HandPart}
use Rattle.kernel_model.specs.HandParts.{IsIdle, WriteComes, PartsCome, part_place, parts_place}
use Rattle.kernel_model.specs.HandMoves.{front_by, front_if, front_of, front_parts, back_by, back_of, back_parts, move_parts}

-- One after another.

pub place_append : (p : Placement) (xs ys : List HandPart) → parts_place p (xs ++ ys) ≡ parts_place (parts_place p xs) ys
place_append p [] ys = refl
place_append p (x ∷ xs) ys = place_append (part_place p x) xs ys

pub come_append : (p : Placement) (xs ys : List HandPart) → PartsCome p xs → PartsCome (parts_place p xs) ys → PartsCome p (xs ++ ys)
come_append p [] ys h g = g
come_append p (x ∷ xs) ys h g = (h.0, come_append (part_place p x) xs ys h.1 g)

-- The front hand.

front_place : (p : Placement) (locked : List Page) → parts_place p (front_parts p locked) ≡ expire p locked
front_place p locked = go (page_of p p.front)
  where
    by : (q : Page) (s : PageState) → state_of p q ≡ s → parts_place p (front_by q s) ≡ expire_to p q s
    by q (Valid f) e = ap (expire_to p q) e
    by q Unfilled e = refl
    by q (Invalid f) e = refl
    by q (Coming f) e = refl
    by q (Going f) e = refl
    by q OnSwap e = refl

    at : (q : Page) (b : Bool) → parts_place p (front_if q (state_of p q) b) ≡ expire_if p q b
    at q true = refl
    at q false = by q (state_of p q) refl

    go : (o : Option Page) → parts_place p (front_of p locked o) ≡ expire_of p locked o
    go None = refl
    go (Some q) = at q (is_among q locked)

front_come : (p : Placement) (locked : List Page) → PartsCome p (front_parts p locked)
front_come p locked = go (page_of p p.front)
  where
    by : (q : Page) (s : PageState) → state_of p q ≡ s → PartsCome p (front_by q s)
    by q (Valid f) e = (record { frame = f; valid = e }, tt)
    by q Unfilled e = tt
    by q (Invalid f) e = tt
    by q (Coming f) e = tt
    by q (Going f) e = tt
    by q OnSwap e = tt

    at : (q : Page) (b : Bool) → PartsCome p (front_if q (state_of p q) b)
    at q true = tt
    at q false = by q (state_of p q) refl

    go : (o : Option Page) → PartsCome p (front_of p locked o)
    go None = tt
    go (Some q) = at q (is_among q locked)

-- The back hand.

beside_again : (q : Page) (v w : ℕ) → beside (beside q v) w ≡ beside q w
beside_again (Data sid a) v w = refl
beside_again (Stack sid a) v w = refl
beside_again (Text image a) v w = refl

-- the pages of a run, named from its lowest
run_pages : (q : Page) (v lo n : ℕ) → pages_from (beside q v) lo n ≡ pages_from q lo n
run_pages q v lo zero = refl
run_pages q v lo (suc n) =
    ap (λ (w : Page). w ∷ pages_from (beside q v) (lo + 1) n) (beside_again q v lo) ∙ ap (λ (ws : List Page). beside q lo ∷ ws) (run_pages q v (lo + 1) n)

low_pages : (q : Page) (r : Run) → pages_from (beside q r.lo) (number_of (beside q r.lo)) r.n ≡ pages_of_run q r
low_pages q r = ap (λ (v : ℕ). pages_from (beside q r.lo) v r.n) (number_beside q r.lo) ∙ run_pages q r.lo r.lo r.n

back_place : (p : Placement) (locked : List Page) → parts_place p (back_parts p locked) ≡ sweep p locked
back_place p locked = go (taken p locked)
  where
    by : (q : Page) (d : Bool) → parts_place p (back_by p locked q d) ≡ sweep_by p locked q d
    by q true = ap (launch_run p) (low_pages q (run_out p locked q))
    by q false = refl

    go : (o : Option Page) → parts_place p (back_of p locked o) ≡ sweep_taken p locked o
    go None = refl
    go (Some q) = by q (is_dirty p q)

-- what is so of each page of a run that is written
record Along (p : Placement) (q w : Page) : Type 0 where
  idle : IsIdle p w
  dirty : is_dirty p w ≡ true
  chunk : chunk_of q ≡ chunk_of w
  named : beside q (number_of w) ≡ w

beside_same : (q : Page) (w : ℕ) → beside q (number_of (beside q w)) ≡ beside q w
beside_same q w = ap (beside q) (number_beside q w)

run_along : (p : Placement) (locked : List Page) (q : Page) → IsIdle p q → is_dirty p q ≡ true → EachPage (Along p q) (pages_of_run q (run_out p locked q))
run_along p locked q i d = run_each (Along p q) passes q (run_out p locked q) (run_both_in passes (number_of q) most_written)
    (record { idle = i; dirty = d; chunk = refl; named = beside_self q }) along
  where
    passes : ℕ → Bool
    passes w = goes_along p locked (beside q w) && is_near q w

    along : (w : ℕ) → passes w ≡ true → Along p q (beside q w)
    along w e =
        let a = and_parts (goes_along p locked (beside q w)) (is_near q w) e in
        let b = and_parts (is_idle p (beside q w)) (is_dirty p (beside q w) && not (is_among (beside q w) locked)) a.0 in
        let c = and_parts (is_dirty p (beside q w)) (not (is_among (beside q w) locked)) b.1 in
        record {
          idle = idle_is p (beside q w) b.0;
          dirty = c.0;
          chunk = eqb-true (chunk_of q) (chunk_of (beside q w)) a.1;
          named = beside_same q w;
        }

-- each is near the lowest
near_low : (p : Placement) (q w : Page) (lo : ℕ) → chunk_of q ≡ chunk_of (beside q lo) → Along p q w → is_near (beside q lo) (number_of w) ≡ true
near_low p q w lo low a =
    eq-eqb (chunk_of (beside q lo)) (chunk_of (beside (beside q lo) (number_of w)))
    (sym low ∙ a.chunk ∙ ap chunk_of (sym a.named) ∙ ap chunk_of (sym (beside_again q lo (number_of w))))

lowest : (P : Page → Type 0) (q : Page) (r : Run) → 0 < r.n → EachPage P (pages_of_run q r) → P (beside q r.lo)
lowest P q r l e = go r.n l e
  where
    go : (n : ℕ) → 0 < n → EachPage P (pages_from q r.lo n) → P (beside q r.lo)
    go zero l e = absurd (omega arith)
    go (suc n) l e = e.0

run_comes : (p : Placement) (locked : List Page) (q : Page) → IsIdle p q → is_dirty p q ≡ true → length p.transfers < 16
    → WriteComes p (beside q (run_out p locked q).lo) (run_out p locked q).n
run_comes p locked q i d room =
    let r : Run = run_out p locked q in
    let low : Page = beside q r.lo in
    let w = widest_out p locked q in
    let a = w.has.0 in
    let b = w.has.1 in
    let some : 0 < r.n = omega arith in
    let each : EachPage (Along p q) (pages_of_run q r) = run_along p locked q i d in
    let first : Along p q low = lowest (Along p q) q r some each in
    let move : (P : Page → Type 0) → EachPage P (pages_of_run q r) → EachPage P (pages_from low (number_of low) r.n) =
    λ P. subst (EachPage P) (sym (low_pages q r)) in
    record {
      some = some;
      most = w.may_be;
      idle = move (IsIdle p) (each_page_imp (Along p q) (IsIdle p) (pages_of_run q r) each (λ v x. x.idle));
      dirty = move (λ v. is_dirty p v ≡ true) (each_page_imp (Along p q) (λ v. is_dirty p v ≡ true) (pages_of_run q r) each (λ v x. x.dirty));
      near = move (λ v. is_near low (number_of v) ≡ true)
          (each_page_imp (Along p q) (λ v. is_near low (number_of v) ≡ true) (pages_of_run q r) each (λ v x. near_low p q v r.lo first.chunk x));
      room = room;
    }

back_come : (p : Placement) (locked : List Page) → OwnsFrames p → ((w : Page × Run) → back_run p locked ≡ Some w → length p.transfers < 16)
    → PartsCome p (back_parts p locked)
back_come p locked o room = go (taken p locked) refl
  where
    by : (q : Page) (d : Bool) → IsTaken p locked q → taken p locked ≡ Some q → is_dirty p q ≡ d → PartsCome p (back_by p locked q d)
    by q true t k e =
        let i : IsIdle p q = record { frame = p.back; invalid = taken_state p locked q o t; off = t.off } in
        (run_comes p locked q i e (room (q, run_out p locked q) (ap (write_taken p locked) k ∙ ap (write_by p locked q) e)), tt)
    by q false t k e = (record { idle = record { frame = p.back; invalid = taken_state p locked q o t; off = t.off }; clean = e }, tt)

    go : (x : Option Page) → taken p locked ≡ x → PartsCome p (back_of p locked x)
    go None e = tt
    go (Some q) e = by q (is_dirty p q) (is_taken p locked q e) e refl

-- Both.

pub moved_parts : (p : Placement) (locked : List Page) → parts_place p (move_parts p locked) ≡ sweep (expire p locked) locked
moved_parts p locked =
    place_append p (front_parts p locked) (back_parts (expire p locked) locked)
    ∙ ap (λ (r : Placement). parts_place r (back_parts (expire p locked) locked)) (front_place p locked)
    ∙ back_place (expire p locked) locked

pub move_place : (p : Placement) (locked : List Page) → advance (parts_place p (move_parts p locked)) ≡ hand_move p locked
move_place p locked = ap advance (moved_parts p locked)

pub move_come : (p : Placement) (locked : List Page) → OwnsFrames p → ((w : Page × Run) → hand_run p locked ≡ Some w → length p.transfers < 16)
    → PartsCome p (move_parts p locked)
move_come p locked o room =
    come_append p (front_parts p locked) (back_parts (expire p locked) locked) (front_come p locked)
    (subst (λ (r : Placement). PartsCome r (back_parts (expire p locked) locked)) (sym (front_place p locked))
    (back_come (expire p locked) locked (expire_owner p locked o)
    (λ w e. subst (λ (n : ℕ). n < 16) (sym (ap length (expire_transfers p locked))) (room w e))))
