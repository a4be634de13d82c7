-- One reference, served by the code's two sets, is one step of Belady's rule.
use Rattle.std.proofs.Common.{◌≡◌, ℕ, ◌+◌, ◌<◌, ◌≤◌, Bool, true, false, not, cond, nat_lt, List, [], ◌∷◌, ◌++◌, length, drop, get_or, Option, Some, None, refl, sym, ap, ◌∙◌, subst, arith, inl, inr, append_assoc}
use Rattle.std.specs.Prelude.{◌==◌, ◌||◌, ◌&&◌, Result, Ok, Err, OnOk}
use Rattle.std.proofs.lemmas.Bool.{cases_lt, eq-eqb, false≢true, true≢false, or_left, le-ltb}
use Rattle.std.proofs.lemmas.List.{append-nil, drop_all, drop_more, get_or-drop, length-drop}
use Rattle.page_opt.specs.declared.Victim.{Victim}
use Rattle.page_opt.specs.declared.resident.Resident.{Resident}
use Rattle.page_opt.specs.Plans.{Run, has, then, runs, all_left, faults_of, plan_faults}
use Rattle.vm_facts.specs.Lists.{without_first}
use Rattle.page_opt.specs.Furthest.{next_use, furthest, choice, cached, listed, victims_from, furthest_victims}
use Rattle.page_opt.specs.Cache.{next_at, Changed, Held}
use Rattle.page_opt.specs.PlaceSet.{Bits, capacity, has_place}
use Rattle.page_opt.specs.Held.{in_set, IsWithin, HasPages, Arrives, Leaves, HasRoom, PutAwaited, PutSpent, Puts, Stands}
use Rattle.page_opt.proofs.Counts.{length-without}
use Rattle.page_opt.proofs.Members.{none_less, same_again, has_first, has-without}
use Rattle.std.proofs.Math.Bool.{and-false}
use Rattle.page_opt.proofs.Uses.{next_le, next_is, IsFurthest, furthest_is}
use Rattle.page_opt.proofs.Chosen.{IsHit, IsRoom, Chosen, chosen, after, after_hit, after_room, after_is_cache, run_from, next_run, chosen_serves, counted}
use Rattle.page_opt.proofs.Places.{next_at_some, next_at_none}
use Rattle.page_opt.proofs.Holding.{others, plus, held_same, held_here, held_arrive, held_spent, held_awaited, held_put_awaited, held_put_spent, spent_furthest, awaited_furthest}

-- the two sets hold a cache
abbrev pub Holds : List ℕ → ℕ → (ℕ → Bool) → Resident → Type 0
Holds future at inside r = Held future at inside (has_place r.awaited) (in_set r.spent)

-- a page is put in
puts_held : (p at : ℕ) (future : List ℕ) (inside : ℕ → Bool) (r s : Resident) → Holds future at inside r → Puts p (next_at at p future) r s
    → Holds future at (plus p inside) s
puts_held p at future inside r s h put = elim (cases_lt (next_use p future) (length future)) [
  | inl again ↦
      let a : PutAwaited r s (at + next_use p future) = subst (λ (o : Option ℕ). Puts p o r s) (next_at_some at p future again) put in
      subst (λ t. Held future at (plus p inside) (has_place s.awaited) (in_set t)) (sym a.spent)
      (held_put_awaited p at future inside (has_place r.awaited) (has_place s.awaited) (in_set r.spent) h again a.awaited.places)
  | inr never ↦
      let top = next_le p future in
      let last : next_use p future ≡ length future = omega arith in
      let a : PutSpent r s p = subst (λ (o : Option ℕ). Puts p o r s) (next_at_none at p future last) put in
      subst (λ t. Held future at (plus p inside) (has_place t) (in_set s.spent)) (sym a.awaited)
      (held_put_spent p at future inside (has_place r.awaited) (in_set r.spent) (in_set s.spent) h last a.spent)
]

-- and nothing else changes
puts_same : (p : ℕ) (o : Option ℕ) (r s : Resident) → Puts p o r s → (s.used ≡ r.used) × (capacity s.awaited ≡ capacity r.awaited)
puts_same p None r s put = (put.used, ap (λ (b : Bits). capacity b) put.awaited)
puts_same p (Some k) r s put = (put.used, put.awaited.room)

-- the page that is used at a place arrives
arrives_held : (p at : ℕ) (future : List ℕ) (cache : List ℕ) (r s : Resident) (hit : Bool) → Holds (p ∷ future) at (λ q. has q cache) r
    → Arrives r s at hit → Holds future (at + 1) (others p (λ q. has q cache)) s × (hit ≡ has p cache)
arrives_held p at future cache r s hit h a = (
  subst (λ t. Held future (at + 1) (others p (λ q. has q cache)) (has_place s.awaited) (in_set t)) (sym a.spent)
      (held_arrive p at future (λ q. has q cache) (has_place r.awaited) (has_place s.awaited) (in_set r.spent) h a.awaited.places),
  a.test ∙ held_here p at future (λ q. has q cache) (has_place r.awaited) (in_set r.spent) h,
)

-- ---- a whole step

-- what is left to show of the next reference
pub stands_next : (refs : List ℕ) (n i : ℕ) (r s : Resident) (victims later : List Victim) (faults more : ℕ) → 1 ≤ n → i < length refs
    → (st : Stands refs n i r victims faults)
    → Holds (drop (i + 1) refs) (i + 1) (λ q. has q (after n (get_or refs i 0) (drop (i + 1) refs) st.cache)) s
    → length refs ≤ capacity s.awaited
    → s.used ≡ length (after n (get_or refs i 0) (drop (i + 1) refs) st.cache)
    → later ≡ victims ++ listed (i + 1) (choice n (get_or refs i 0) (drop (i + 1) refs) st.cache)
    → more ≡ counted (has (get_or refs i 0) st.cache) faults
    → Stands refs n (i + 1) s later more
unfolding runs then run_from next_run victims_from
stands_next refs n i r s victims later faults more some l st held room used new_victims new_faults =
    let p = get_or refs i 0 in
    let future = drop (i + 1) refs in
    let start : Run = record { cache = []; victims = furthest_victims refs n; faults = 0 } in
    let split = drop_more refs i 0 l in
    let whole : runs n (i + 1) (p ∷ future) (Some (run_from n (i + 1) (p ∷ future) st.cache faults)) ≡ runs n 1 refs (Some start) =
    subst (λ (ps : List ℕ). runs n (i + 1) ps (Some (run_from n (i + 1) ps st.cache faults)) ≡ runs n 1 refs (Some start)) split st.run
    in
    let made : victims ++ (listed (i + 1) (choice n p future st.cache) ++ victims_from n (i + 1 + 1) future (after n p future st.cache)) ≡ furthest_victims refs n =
    subst (λ (ps : List ℕ). victims ++ victims_from n (i + 1) ps st.cache ≡ furthest_victims refs n) split st.made
    in
    record {
      cache = after n p future st.cache;
      is_cache = after_is_cache n p future st.cache some st.is_cache;
      held = held;
      room = room;
      used = used;
      run =
          ap (λ (m : ℕ). runs n (i + 1 + 1) future (Some (record { cache = after n p future st.cache; victims = victims_from n (i + 1 + 1) future (after n p future st.cache); faults = m })))
          new_faults ∙
          sym (ap (λ (o : Option Run). runs n (i + 1 + 1) future o) (chosen_serves n (i + 1) p future st.cache faults some st.is_cache)) ∙
          whole;
      made =
          ap (λ (vs : List Victim). vs ++ victims_from n (i + 1 + 1) future (after n p future st.cache)) new_victims ∙
          append_assoc victims (listed (i + 1) (choice n p future st.cache)) (victims_from n (i + 1 + 1) future (after n p future st.cache)) ∙
          made;
      few = let f = st.few in let m = counted_le (has p st.cache) in omega arith;
    }
  where
    counted_le : (b : Bool) → counted b faults ≤ faults + 1
    counted_le true = omega arith
    counted_le false = omega arith

nil_listed : (at : ℕ) (victims : List Victim) → victims ++ listed at None ≡ victims
unfolding listed
nil_listed at victims = append-nil victims

one_listed : (at v : ℕ) (victims : List Victim) → victims ++ listed at (Some v) ≡ victims ++ record { at = at; page = v } ∷ []
unfolding listed
one_listed at v victims = refl

gone : (p : ℕ) (inside : ℕ → Bool) → others p inside p ≡ false
gone p inside = ap (λ (b : Bool). inside p && not b) (eq-eqb p p refl) ∙ and-false (inside p)

-- where there is no room, the furthest page leaves
full_case : (n p : ℕ) (future cache : List ℕ) (v : ℕ) → has p cache ≡ false → n ≤ length cache → IsFurthest future cache v
    → (choice n p future cache ≡ Some v) × (after n p future cache ≡ p ∷ without_first v cache)
unfolding choice cached
full_case n p future cache v away full f =
    let some =
    ap (λ (b : Bool). cond (b || nat_lt (length cache) n) None (furthest future cache)) away ∙
    ap (λ (b : Bool). cond b None (furthest future cache)) (le-ltb (length cache) n full) ∙
    furthest_is future cache v f
    in
    (some, ap (λ (b : Bool). cached p b (choice n p future cache) cache) away ∙ ap (λ (o : Option ℕ). cached p false o cache) some)

-- the sets before the next reference, with its page named
split_held : (refs : List ℕ) (i : ℕ) (inside : ℕ → Bool) (r : Resident) → i < length refs → Holds (drop i refs) i inside r
    → Holds (get_or refs i 0 ∷ drop (i + 1) refs) i inside r
split_held refs i inside r l h = subst (λ (future : List ℕ). Holds future i inside r) (drop_more refs i 0 l) h

pub stands_within : (refs : List ℕ) (n i : ℕ) (r s : Resident) (victims : List Victim) (faults : ℕ) (hit : Bool) → i < length refs
    → Stands refs n i r victims faults
    → Arrives r s i hit → IsWithin refs s
stands_within refs n i r s victims faults hit l st a = λ k there.
    let h = arrives_held (get_or refs i 0) i (drop (i + 1) refs) st.cache r s hit (split_held refs i (λ q. has q st.cache) r l st.held) a in
    let d = h.0.due k there in
    let w = d.2 in let e = d.3 in
    let len = length-drop (i + 1) refs in
    omega arith

-- at a fault where no frame is free some page is in the cache
pub stands_full : (refs : List ℕ) (n i : ℕ) (r s : Resident) (victims : List Victim) (faults : ℕ) → 1 ≤ n → i < length refs
    → Stands refs n i r victims faults → Arrives r s i false → n ≤ s.used → HasPages s
stands_full refs n i r s victims faults some l st a full = λ none none'.
    let p = get_or refs i 0 in
    let future = drop (i + 1) refs in
    let arrived = arrives_held p i future st.cache r s false (split_held refs i (λ q. has q st.cache) r l st.held) a in
    let same = held_same future (i + 1) (others p (λ q. has q st.cache)) (λ q. has q st.cache) (has_place s.awaited) (in_set s.spent) (none_less p st.cache (sym arrived.1)) arrived.0 in
    let used = st.used in let stays = a.used in
    first st.cache (omega arith) (λ q there. neither q future (i + 1) (λ r. has r st.cache) (has_place s.awaited) (in_set s.spent) same none none' there)
  where
    neither : (q : ℕ) (future : List ℕ) (at : ℕ) (inside awaited spent : ℕ → Bool) → Held future at inside awaited spent
        → ((k : ℕ) → awaited k ≡ false) → ((k : ℕ) → spent k ≡ false) → inside q ≡ true → ⊥
    neither q future at inside awaited spent h none none' there = elim (cases_lt (next_use q future) (length future)) [
      | inl again ↦ false≢true (sym (none (at + next_use q future)) ∙ h.waits q there again)
      | inr never ↦
          let top = next_le q future in
          let last : next_use q future ≡ length future = omega arith in
          false≢true (sym (none' q) ∙ h.never q there last)
    ]

    first : (cache : List ℕ) → 0 < length cache → ((q : ℕ) → has q cache ≡ true → ⊥) → ⊥
    first [] more absent = omega arith
    first (q ∷ cache) more absent = absent q (has_first q q cache ∙ or_left (q == q) (has q cache) (eq-eqb q q refl))

-- the place of a next use is one of the references
pub next_inside : (refs : List ℕ) (i k : ℕ) → i < length refs → next_at (i + 1) (get_or refs i 0) (drop (i + 1) refs) ≡ Some k → k < length refs
next_inside refs i k l e = elim (cases_lt (next_use (get_or refs i 0) (drop (i + 1) refs)) (length (drop (i + 1) refs))) [
  | inl again ↦
      let len = length-drop (i + 1) refs in
      let at : i + 1 + next_use (get_or refs i 0) (drop (i + 1) refs) ≡ k = some_is (sym (next_at_some (i + 1) (get_or refs i 0) (drop (i + 1) refs) again) ∙ e) in
      omega arith
  | inr never ↦
      let top = next_le (get_or refs i 0) (drop (i + 1) refs) in
      absurd (none_some (sym (next_at_none (i + 1) (get_or refs i 0) (drop (i + 1) refs) (omega arith)) ∙ e))
]
  where
    some_is : {m n : ℕ} → Some m ≡ Some n → m ≡ n
    some_is e = cc

    none_some : {n : ℕ} → None ≡ Some n → ⊥
    none_some e = cc

pub stands_hit : (refs : List ℕ) (n i : ℕ) (r s t : Resident) (victims : List Victim) (faults : ℕ) → 1 ≤ n → i < length refs
    → Stands refs n i r victims faults → Arrives r s i true
    → Puts (get_or refs i 0) (next_at (i + 1) (get_or refs i 0) (drop (i + 1) refs)) s t → Stands refs n (i + 1) t victims faults
stands_hit refs n i r s t victims faults some l st a put =
    let p = get_or refs i 0 in
    let future = drop (i + 1) refs in
    let arrived = arrives_held p i future st.cache r s true (split_held refs i (λ q. has q st.cache) r l st.held) a in
    let there : has p st.cache ≡ true = sym arrived.1 in
    let is_hit = hit_case there (chosen n p future st.cache some) in
    let stays = after_hit n p future st.cache is_hit in
    let entered = puts_held p (i + 1) future (others p (λ q. has q st.cache)) s t arrived.0 put in
    let same = puts_same p (next_at (i + 1) p future) s t put in
    let stay = same.0 in let fit = same.1 in let room = st.room in let kept = a.awaited.room in
    stands_next refs n i r t victims victims faults faults some l st
    (subst (λ (qs : List ℕ). Holds future (i + 1) (λ q. has q qs) t) (sym stays)
    (held_same future (i + 1) (plus p (others p (λ q. has q st.cache))) (λ q. has q st.cache) (has_place t.awaited) (in_set t.spent) (same_again p st.cache there) entered))
    (omega arith)
    (let e = ap (λ (qs : List ℕ). length qs) stays in let z = st.used in let w = a.used in omega arith)
    (sym (ap (λ (o : Option ℕ). victims ++ listed (i + 1) o) is_hit.none ∙ no_victim))
    (sym (ap (λ (b : Bool). counted b faults) there))
  where
    hit_case : has (get_or refs i 0) st.cache ≡ true → Chosen n (get_or refs i 0) (drop (i + 1) refs) st.cache → IsHit n (get_or refs i 0) (drop (i + 1) refs) st.cache
    hit_case there (inl h) = h
    hit_case there (inr (inl x)) = absurd (true≢false (sym there ∙ x.away))
    hit_case there (inr (inr x)) = absurd (true≢false (sym there ∙ x.away))

    no_victim : victims ++ listed (i + 1) None ≡ victims
    no_victim = nil_listed (i + 1) victims

-- the page that left, of a cache that doesn't have the next reference's
leaves_furthest : (refs : List ℕ) (at : ℕ) (cache : List ℕ) (r s : Resident) (v : ℕ) → Holds (drop at refs) at (λ q. has q cache) r → Leaves refs r s v
    → IsFurthest (drop at refs) cache v × Holds (drop at refs) at (others v (λ q. has q cache)) s × (s.used ≡ r.used)
leaves_furthest refs at cache r s v h (inl a) = (
  spent_furthest v at (drop at refs) cache (has_place r.awaited) (in_set r.spent) h a.there a.lowest,
  subst (λ t. Held (drop at refs) at (others v (λ q. has q cache)) (has_place t) (in_set s.spent)) (sym a.awaited)
      (held_spent v at (drop at refs) (λ q. has q cache) (has_place r.awaited) (in_set r.spent) (in_set s.spent) h a.there a.spent),
  a.used,
)
leaves_furthest refs at cache r s v h (inr a) =
    let future = drop at refs in
    let d = h.due a.place a.there in
    let page : d.0 ≡ v =
    sym (next_is d.0 future d.2) ∙ get_or-drop at refs (next_use d.0 future) 0 ∙
    ap (λ (k : ℕ). get_or refs k 0) (sym d.3) ∙ sym a.page_is
    in
    let there : has v cache ≡ true = ap (λ (q : ℕ). has q cache) (sym page) ∙ d.1 in
    let uses = ap (λ (q : ℕ). next_use q future) page in
    let n = d.2 in
    let e = d.3 in
    let place : a.place ≡ at + next_use v future = omega arith in (
      awaited_furthest v at future cache (has_place r.awaited) (in_set r.spent) h there (omega arith) a.none
          (subst (λ (k : ℕ). (j : ℕ) → has_place r.awaited j ≡ true → j ≤ k) place a.last),
      subst (λ t. Held future at (others v (λ q. has q cache)) (has_place s.awaited) (in_set t)) (sym a.spent)
          (held_awaited v at future (λ q. has q cache) (has_place r.awaited) (has_place s.awaited) (in_set r.spent) h (omega arith)
          (subst (λ (k : ℕ). Changed (has_place r.awaited) (has_place s.awaited) k false) place a.awaited.places)),
      a.used,
    )

leaves_room : (refs : List ℕ) (r s : Resident) (v : ℕ) → Leaves refs r s v → capacity s.awaited ≡ capacity r.awaited
leaves_room refs r s v (inl a) = ap (λ (b : Bits). capacity b) a.awaited
leaves_room refs r s v (inr a) = a.awaited.room

pub room_kept : (refs : List ℕ) (n i : ℕ) (r s : Resident) (before later : List Victim) → HasRoom refs n i r s before later
    → capacity s.awaited ≡ capacity r.awaited
room_kept refs n i r s before later (inl room) = ap (λ (b : Bits). capacity b) room.awaited
room_kept refs n i r s before later (inr made) = leaves_room refs r s made.victim made.leaves

pub stands_miss : (refs : List ℕ) (n i : ℕ) (r s t u : Resident) (victims later : List Victim) (faults : ℕ) → 1 ≤ n → i < length refs
    → Stands refs n i r victims faults → Arrives r s i false → HasRoom refs n i s t victims later
    → Puts (get_or refs i 0) (next_at (i + 1) (get_or refs i 0) (drop (i + 1) refs)) t u → Stands refs n (i + 1) u later (faults + 1)
stands_miss refs n i r s t u victims later faults some l st a (inl room) put =
    let p = get_or refs i 0 in
    let future = drop (i + 1) refs in
    let arrived = arrives_held p i future st.cache r s false (split_held refs i (λ q. has q st.cache) r l st.held) a in
    let away : has p st.cache ≡ false = sym arrived.1 in
    let same = held_same future (i + 1) (others p (λ q. has q st.cache)) (λ q. has q st.cache) (has_place s.awaited) (in_set s.spent) (none_less p st.cache away) arrived.0 in
    let few = room.room in let z = st.used in let w = a.used in
    let is_room = room_case away (omega arith) (chosen n p future st.cache some) in
    let now = after_room n p future st.cache is_room in
    let still : Holds future (i + 1) (λ q. has q st.cache) t =
    subst (λ (b : Bits). Held future (i + 1) (λ q. has q st.cache) (has_place b) (in_set t.spent)) (sym room.awaited)
    (subst (λ x. Held future (i + 1) (λ q. has q st.cache) (has_place s.awaited) (in_set x)) (sym room.spent) same)
    in
    let entered = puts_held p (i + 1) future (λ q. has q st.cache) t u still put in
    let put_same = puts_same p (next_at (i + 1) p future) t u put in
    let stay = put_same.0 in let fit = put_same.1 in let all = st.room in let kept = a.awaited.room in
    let taken = ap (λ (b : Bits). capacity b) room.awaited in
    stands_next refs n i r u victims later faults (faults + 1) some l st
    (subst (λ (qs : List ℕ). Holds future (i + 1) (λ q. has q qs) u) (sym now)
    (held_same future (i + 1) (plus p (λ q. has q st.cache)) (λ q. has q (p ∷ st.cache)) (has_place u.awaited) (in_set u.spent) (λ q. sym (has_first p q st.cache)) entered))
    (omega arith)
    (let e = ap (λ (qs : List ℕ). length qs) now in let g = room.used in omega arith)
    (room.victims ∙ sym (ap (λ (o : Option ℕ). victims ++ listed (i + 1) o) is_room.none ∙ nil_listed (i + 1) victims))
    (sym (ap (λ (b : Bool). counted b faults) away))
  where
    room_case : has (get_or refs i 0) st.cache ≡ false → length st.cache < n → Chosen n (get_or refs i 0) (drop (i + 1) refs) st.cache → IsRoom n (get_or refs i 0) (drop (i + 1) refs) st.cache
    room_case away less (inl h) = absurd (true≢false (sym h.there ∙ away))
    room_case away less (inr (inl x)) = x
    room_case away less (inr (inr x)) = absurd (let f = x.full in omega arith)
stands_miss refs n i r s t u victims later faults some l st a (inr made) put =
    let p = get_or refs i 0 in
    let v = made.victim in
    let future = drop (i + 1) refs in
    let arrived = arrives_held p i future st.cache r s false (split_held refs i (λ q. has q st.cache) r l st.held) a in
    let away : has p st.cache ≡ false = sym arrived.1 in
    let same = held_same future (i + 1) (others p (λ q. has q st.cache)) (λ q. has q st.cache) (has_place s.awaited) (in_set s.spent) (none_less p st.cache away) arrived.0 in
    let full = made.full in let z = st.used in let w = a.used in
    let left = leaves_furthest refs (i + 1) st.cache s t v same made.leaves in
    let is_full = full_case n p future st.cache v away (omega arith) left.0 in
    let now = is_full.1 in
    let entered = puts_held p (i + 1) future (others v (λ q. has q st.cache)) t u left.1 put in
    let put_same = puts_same p (next_at (i + 1) p future) t u put in
    let stay = put_same.0 in let fit = put_same.1 in let all = st.room in let kept = a.awaited.room in let taken = leaves_room refs s t v made.leaves in
    stands_next refs n i r u victims later faults (faults + 1) some l st
    (subst (λ (qs : List ℕ). Holds future (i + 1) (λ q. has q qs) u) (sym now)
    (held_same future (i + 1) (plus p (others v (λ q. has q st.cache))) (λ q. has q (p ∷ without_first v st.cache)) (has_place u.awaited) (in_set u.spent)
    (λ q. sym (has_first p q (without_first v st.cache) ∙ ap (λ (b : Bool). (q == p) || b) (has-without v q st.cache st.is_cache.once left.0.there))) entered))
    (omega arith)
    (let e = ap (λ (qs : List ℕ). length qs) now in let g = left.2 in let y = length-without v st.cache left.0.there in omega arith)
    (made.victims ∙ sym (ap (λ (o : Option ℕ). victims ++ listed (i + 1) o) is_full.0 ∙ one_listed (i + 1) v victims))
    (sym (ap (λ (b : Bool). counted b faults) away))

-- ---- before the first reference and after the last

pub stands_start : (refs : List ℕ) (n : ℕ) (r : Resident) → length refs ≤ capacity r.awaited → ((k : ℕ) → has_place r.awaited k ≡ false)
    → ((q : ℕ) → in_set r.spent q ≡ false) → r.used ≡ 0 → Stands refs n 0 r [] 0
unfolding furthest_victims has
stands_start refs n r room none none' empty = record {
  cache = [];
  is_cache = record { once = λ q. omega arith; small = omega arith };
  held = record {
    due = λ k a. absurd (false≢true (sym (none k) ∙ a));
    waits = λ q i l. absurd (false≢true i);
    over = λ q s. absurd (false≢true (sym (none' q) ∙ s));
    never = λ q i l. absurd (false≢true i);
  };
  room = room;
  used = empty;
  run = refl;
  made = refl;
  few = omega arith;
}

pub stands_end : (refs : List ℕ) (n i : ℕ) (r : Resident) (victims : List Victim) (faults : ℕ) → length refs ≤ i → Stands refs n i r victims faults
    → (victims ≡ furthest_victims refs n) × (plan_faults refs n (furthest_victims refs n) ≡ Some faults)
unfolding runs victims_from plan_faults faults_of all_left
stands_end refs n i r victims faults last st =
    let start : Run = record { cache = []; victims = furthest_victims refs n; faults = 0 } in
    let none = drop_all i refs last in
    let run : Some (record { cache = st.cache; victims = []; faults = faults }) ≡ runs n 1 refs (Some start) =
    subst (λ (ps : List ℕ). runs n (i + 1) ps (Some (record { cache = st.cache; victims = victims_from n (i + 1) ps st.cache; faults = faults })) ≡ runs n 1 refs (Some start)) none st.run
    in
    let made : victims ++ [] ≡ furthest_victims refs n =
    subst (λ (ps : List ℕ). victims ++ victims_from n (i + 1) ps st.cache ≡ furthest_victims refs n) none st.made
    in
    (sym (append-nil victims) ∙ made, ap (λ (o : Option Run). faults_of o) (sym run))

pub on_ok : {X : Type 0} {E : Type 0} (r : Result X E) (P Q : Type 0) → (P → Q) → OnOk r P → OnOk r Q
on_ok (Ok x) P Q f p = f p
on_ok (Err e) P Q f p = p
