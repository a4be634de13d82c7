-- Forcing a frame ends: a number falls with each unit, whatever is locked.
use Rattle.std.proofs.Common.{◌≡◌, ◌≢◌, ◌⊎◌, inl, inr, ℕ, zero, suc, ◌+◌, ◌-◌, ◌/◌, ◌<◌, ◌≤◌, ◌&&◌, Bool, true, false, cond, not, List, [], ◌∷◌, ◌++◌, length, Option, Some, None, refl, sym, ap, ◌∙◌, subst, arith}
use Rattle.std.proofs.lemmas.Bool.{cases_eq, not-true, and_from, and_parts}
use Rattle.vm_facts.specs.declared.page.Page.{Page}
use Rattle.vm_facts.specs.declared.page.Page.TheVariants.{Data}
use Rattle.vm_facts.specs.declared.page.PageState.{PageState}
use Rattle.vm_facts.specs.declared.page.PageState.TheVariants.{Unfilled, Valid, Invalid, Coming, Going, OnSwap}
use Rattle.page_model.specs.Pages.{frame_of}
use Rattle.page_model.specs.PageNames.{is_among, pages_from}
use Rattle.page_model.specs.Frames.{next_frame, at_frame}
use Rattle.vm_facts.specs.Lists.{times}
use Rattle.page_model.specs.Placement.{Placement, Transfer, Part, Errand, Writes, state_of, mark_of, is_dirty, page_of, IsFrame, parts_of, flying}
use Rattle.page_model.specs.Moves.{launch_run, retire_to}
use Rattle.page_model.specs.Steps.{begin, join_last, launch, launch_to, launch_all}
use Rattle.page_model.specs.Runs.{run_out, pages_of_run}
use Rattle.page_model.specs.Hands.{expire, expire_of, expire_if, expire_to, sweep, sweep_taken, sweep_by, advance, hand_move}
use Rattle.page_model.specs.Conditions.{EachPage, HasSeat, IsSeated}
use Rattle.page_model.specs.Rank.{is_invalid, is_open, is_open_page, is_usable, is_usable_page, reach, walk, HandsStand, far, far_by, far_transfers, far_parts, HasRoom}
use Rattle.page_model.specs.Ownership.{OwnsFrames, seats, seated, seated_of}
use Rattle.page_laws.proofs.Moves.InSteps.{launch_steps}
use Rattle.page_laws.proofs.Lists.Pages.{page_cases, put_state}
use Rattle.std.proofs.lemmas.Option.{same_Some}
use Rattle.page_laws.proofs.Moves.Steps.{page_in, put_other_state}
use Rattle.page_laws.proofs.Ownership.Hands.{run_out_seats}
use Rattle.page_laws.proofs.Moves.Stays.{Steady, expire_steady, swept_steady}
use Rattle.page_laws.proofs.Moves.Hands.{walk_in, walk_apart, walk_next, next_in, pigeons, reach_le, reach_none, Passed, reach_shift}
use Rattle.page_laws.proofs.Moves.Taken.{IsTaken, taken_is, taken_none, taken_seat}

-- Where no frame is free or in flight, each has a page.
pub record Full (p : Placement) (f : ℕ) : Type 0 where
  pub page : Page
  pub held : page_of p f ≡ Some page
  pub state : (state_of p page ≡ Valid f) ⊎ (state_of p page ≡ Invalid f)

seats_one : (s : PageState) (f : ℕ) → seats 0 s ≡ 1 → frame_of s ≡ Some f → (s ≡ Valid f) ⊎ (s ≡ Invalid f)
seats_one (Valid g) f e h = inl (ap (λ (x : ℕ). Valid x) (same_Some g f h))
seats_one (Invalid g) f e h = inr (ap (λ (x : ℕ). Invalid x) (same_Some g f h))
seats_one _ f e h = absurd (omega arith)

pub full_at : (p : Placement) (f : ℕ) → OwnsFrames p → p.free ≡ [] → p.transfers ≡ [] → IsFrame p f → Full p f
full_at p f o e t l = go (page_of p f) refl
  where
    z : times f p.free ≡ 0
    z = ap (times f) e

    one : seated p f ≡ 1
    one = let a = o.once f l in let b : times f (flying (parts_of p.transfers)) ≡ 0 = ap (λ (x : List Transfer). times f (flying (parts_of x))) t in omega (arith, z)

    go : (h : Option Page) → page_of p f ≡ h → Full p f
    go None h = absurd (let k : 0 ≡ 1 = ap (seated_of p f) (sym h) ∙ one in omega arith)
    go (Some v) h = record {
      page = v;
      held = h;
      state = seats_one (state_of p v) f (ap (λ (n : ℕ). seats n (state_of p v)) (sym z) ∙ ap (seated_of p f) (sym h) ∙ one) (o.named f v h);
    }

-- There is an open frame on the way: fewer pages are locked than frames lie ahead of the front hand.

page_or : Option Page → Page
page_or None = Data 0 0
page_or (Some q) = q

locked_by : (b : Bool) → not b ≡ false → b ≡ true
locked_by true e = refl
locked_by false e = absurd cc

closed_locked : (p : Placement) (locked : List Page) (f : ℕ) → Full p f → is_open p locked f ≡ false → is_among (page_or (page_of p f)) locked ≡ true
unfolding page_or
closed_locked p locked f u e = subst (λ (o : Option Page). is_among (page_or o) locked ≡ true) (sym u.held) (locked_by (is_among u.page locked) (ap (is_open_page locked) (sym u.held) ∙ e))

pages_differ : (p : Placement) (f g : ℕ) → OwnsFrames p → Full p f → Full p g → f ≢ g → page_or (page_of p f) ≢ page_or (page_of p g)
unfolding page_or
pages_differ p f g o u w n e =
    let same : u.page ≡ w.page = sym (ap page_or u.held) ∙ e ∙ ap page_or w.held in
    n (same_Some f g (sym (o.named f u.page u.held) ∙ subst (λ (x : Page). frame_of (state_of p x) ≡ Some g) (sym same) (o.named g w.page w.held)))

pub reach_found : (p : Placement) (locked : List Page) (d : ℕ) → OwnsFrames p → p.free ≡ [] → p.transfers ≡ [] → 0 < p.back → p.back ≤ length p.holds
    → length locked + d < length p.holds
    → reach p locked (length p.holds) d p.back < length p.holds
reach_found p locked d o e t low high enough =
    let lt_or : (a b : ℕ) → a ≤ b → (a < b) ⊎ (a ≡ b) = λ a b l. elim (cases_eq a b) [
      | inl e ↦ inr e
      | inr n ↦ inl (omega arith)
    ] in
    let frame : ℕ → ℕ = λ k. walk (length p.holds) (d + k) p.back in
    let at : ℕ → Page = λ k. page_or (page_of p (frame k)) in
    let whole : (k : ℕ) → k < length p.holds - d → Full p (frame k) = λ k b. full_at p (frame k) o e t (walk_in (length p.holds) (d + k) p.back low high (omega arith)) in
    elim (lt_or (reach p locked (length p.holds) d p.back) (length p.holds) (reach_le p locked (length p.holds) d p.back)) [
      | inl l ↦ l
      | inr h ↦ absurd
          (let k = pigeons (length p.holds - d) at locked (λ k b. closed_locked p locked (frame k) (whole k b) (reach_none p locked (length p.holds) d p.back (d + k) h (omega arith) (omega arith)))
          (λ i j b c. pages_differ p (frame i) (frame j) o (whole i (omega arith)) (whole j c) (walk_apart (length p.holds) (d + i) (d + j) p.back low high (omega arith) (omega arith))) in
          omega arith)
    ]

-- The front hand.

invalid_kept : (p : Placement) (locked : List Page) (q : Page) → is_invalid (state_of p q) ≡ true → is_invalid (state_of (expire p locked) q) ≡ true
invalid_kept p locked q i = go (page_of p p.front)
  where
    to : (v : Page) (s : PageState) → state_of p v ≡ s → is_invalid (state_of (expire_to p v s) q) ≡ true
    to v (Valid f) e = elim (page_cases q v) [
      | inl h ↦ absurd (let k : is_invalid (state_of p q) ≡ false = ap (λ (x : Page). is_invalid (state_of p x)) h ∙ ap is_invalid e in let j : true ≡ false = sym i ∙ k in cc)
      | inr n ↦ ap is_invalid (put_other_state p v (Invalid f) (mark_of p v) q n) ∙ i
    ]
    to v Unfilled e = i
    to v (Invalid f) e = i
    to v (Coming f) e = i
    to v (Going f) e = i
    to v OnSwap e = i

    at : (v : Page) (b : Bool) → is_invalid (state_of (expire_if p v b) q) ≡ true
    at v true = i
    at v false = to v (state_of p v) refl

    go : (h : Option Page) → is_invalid (state_of (expire_of p locked h) q) ≡ true
    go None = i
    go (Some v) = at v (is_among v locked)

front_invalid : (p : Placement) (locked : List Page) (u : Full p p.front) → is_among u.page locked ≡ false
    → is_invalid (state_of (expire p locked) u.page) ≡ true
front_invalid p locked u n = subst (λ (r : Placement). is_invalid (state_of r u.page) ≡ true) (sym (ap (expire_of p locked) u.held ∙ ap (expire_if p u.page) n)) (elim u.state [
  | inl e ↦ subst (λ (s : PageState). is_invalid (state_of (expire_to p u.page s) u.page) ≡ true) (sym e)
      (ap is_invalid (put_state p u.page (Invalid p.front) (mark_of p u.page) (page_in p u.page p.front (ap frame_of e))))
  | inr e ↦ subst (λ (s : PageState). is_invalid (state_of (expire_to p u.page s) u.page) ≡ true) (sym e) (ap is_invalid e)
])

same_page_of : (p q : Placement) → q.holds ≡ p.holds → (g : ℕ) → page_of q g ≡ page_of p g
same_page_of p q h g = ap (λ (l : List (Option Page)). at_frame l g None) h

pub passed : (p : Placement) (locked : List Page) → OwnsFrames p → Full p p.front → Passed p (advance (expire p locked)) locked p.front
passed p locked o u = record {
  frames = ap length s.holds;
  opens = λ g e. ap (is_open_page locked) (page g) ∙ e;
  usables = λ g e. usable g (page_of p g) refl e;
  here = λ e. ap (is_usable_page (expire p locked) locked) (page p.front ∙ u.held)
      ∙ and_from (is_invalid (state_of (expire p locked) u.page)) (not (is_among u.page locked))
      (front_invalid p locked u (not-true (is_among u.page locked) (ap (is_open_page locked) (sym u.held) ∙ e))) (ap (is_open_page locked) (sym u.held) ∙ e);
}
  where
    s : Steady p (expire p locked)
    s = expire_steady p locked

    page : (g : ℕ) → page_of (expire p locked) g ≡ page_of p g
    page g = same_page_of p (expire p locked) s.holds g

    usable : (g : ℕ) (h : Option Page) → page_of p g ≡ h → is_usable p locked g ≡ true → is_usable (expire p locked) locked g ≡ true
    usable g None h e = absurd (let k : true ≡ false = sym e ∙ ap (is_usable_page p locked) h in cc)
    usable g (Some q) h e =
        let k = and_parts (is_invalid (state_of p q)) (not (is_among q locked)) (ap (is_usable_page p locked) (sym h) ∙ e) in
        ap (is_usable_page (expire p locked) locked) (page g ∙ h) ∙ and_from (is_invalid (state_of (expire p locked) q)) (not (is_among q locked)) (invalid_kept p locked q k.0) k.1

-- The back hand: at a frame that it can use a frame is free, or a write is in flight; else nothing changes.

abbrev pub HasWrite : List Transfer → Type 0
HasWrite [] = ⊥
HasWrite (t ∷ ts) = (t.errand ≡ Writes) × (t.parts ≡ [] → ⊥) × (ts ≡ [])

joined_write : (ts : List Transfer) (x : Part) → HasWrite ts → HasWrite (join_last ts Writes x)
joined_write [] x h = absurd h
joined_write (t ∷ []) x h = (h.0, not_empty t.parts x, refl)
  where
    not_empty : (xs : List Part) (x : Part) → xs ++ x ∷ [] ≡ [] → ⊥
    not_empty [] x e = absurd cc
    not_empty (y ∷ ys) x e = absurd cc
joined_write (t ∷ u ∷ us) x h = absurd (let e : u ∷ us ≡ [] = h.2 in cc)

launched_write : (qs : List Page) (p : Placement) → HasWrite p.transfers → HasWrite (launch_all p qs).transfers
launched_write [] p h = h
launched_write (v ∷ qs) p h = launched_write qs (launch p v) (one (state_of p v))
  where
    one : (s : PageState) → HasWrite (launch_to p v s).transfers
    one (Valid f) = joined_write p.transfers (record { page = v; frame = f }) h
    one (Invalid f) = joined_write p.transfers (record { page = v; frame = f }) h
    one Unfilled = h
    one (Coming f) = h
    one (Going f) = h
    one OnSwap = h

begun_write : (p : Placement) (v : Page) → p.transfers ≡ [] → HasSeat p v → HasWrite (launch (begin p Writes) v).transfers
begun_write p v t c = let k : IsSeated p v c.frame = c.seat in elim k.state [
  | inl e ↦ subst (λ (s : PageState). HasWrite (launch_to (begin p Writes) v s).transfers) (sym e) (written c.frame)
  | inr e ↦ subst (λ (s : PageState). HasWrite (launch_to (begin p Writes) v s).transfers) (sym e.0) (written c.frame)
]
  where
    written : (f : ℕ) → HasWrite (join_last (p.transfers ++ record { errand = Writes; parts = [] } ∷ []) Writes (record { page = v; frame = f }))
    written f = subst (λ (ts : List Transfer). HasWrite (join_last (ts ++ record { errand = Writes; parts = [] } ∷ []) Writes (record { page = v; frame = f }))) (sym t) (refl, (λ e. absurd cc), refl)

run_first : (p : Placement) (qs : List Page) → p.transfers ≡ [] → EachPage (HasSeat p) qs → (qs ≡ [] → ⊥) → HasWrite (launch_run p qs).transfers
run_first p [] t c n = absurd (n refl)
run_first p (v ∷ qs) t c n = subst (λ (r : Placement). HasWrite r.transfers) (launch_steps p (v ∷ qs)) (launched_write qs (launch (begin p Writes) v) (begun_write p v t c.0))

some_pages : (q : Page) (lo n : ℕ) → 0 < n → pages_from q lo n ≡ [] → ⊥
some_pages q lo zero l e = absurd (omega arith)
some_pages q lo (suc n) l e = absurd cc

-- what the back hand did
abbrev pub Freed : Placement → Type 0
Freed p = (p.free ≡ [] → ⊥) ⊎ HasWrite p.transfers

-- at a frame that it can use it takes the page
usable_taken : (p : Placement) (locked : List Page) → p.free ≡ [] → is_usable p locked p.back ≡ true → (q : Page) × IsTaken p locked q
usable_taken p locked fr e = go (page_of p p.back) refl e
  where
    to : (q : Page) (s : PageState) (b : Bool) → page_of p p.back ≡ Some q → state_of p q ≡ s → is_among q locked ≡ b → (is_invalid s && not b) ≡ true
        → (q : Page) × IsTaken p locked q
    to q (Invalid f) false h s b k = (q, record { held = h; frame = f; state = s; off = ap (times p.back) fr; unlocked = b })
    to q _ _ h s b k = absurd cc

    go : (h : Option Page) → page_of p p.back ≡ h → is_usable_page p locked h ≡ true → (q : Page) × IsTaken p locked q
    go None h k = absurd cc
    go (Some q) h k = to q (state_of p q) (is_among q locked) h refl refl k

pub sweep_frees : (p : Placement) (locked : List Page) → OwnsFrames p → p.free ≡ [] → p.transfers ≡ [] → is_usable p locked p.back ≡ true
    → Freed (sweep p locked)
sweep_frees p locked o fr t e =
    let u = usable_taken p locked fr e in
    subst (λ (h : Option Page). Freed (sweep_taken p locked h)) (sym (taken_is p locked u.0 u.1)) (by u.0 u.1 (is_dirty p u.0))
  where
    by : (q : Page) → IsTaken p locked q → (d : Bool) → Freed (sweep_by p locked q d)
    by q u true = inr (run_first p (pages_of_run q (run_out p locked q)) t (run_out_seats p locked q (taken_seat p locked q o u))
        (some_pages q (run_out p locked q).lo (run_out p locked q).n (omega arith)))
    by q u false = subst (λ (s : PageState). Freed (retire_to p q s)) (sym u.state) (inl (not_empty p.free u.frame))
      where
        not_empty : (xs : List ℕ) (x : ℕ) → xs ++ x ∷ [] ≡ [] → ⊥
        not_empty [] x e = absurd cc
        not_empty (y ∷ ys) x e = absurd cc

pub sweep_idles : (p : Placement) (locked : List Page) → is_usable p locked p.back ≡ false → sweep p locked ≡ p
sweep_idles p locked e = ap (sweep_taken p locked) (taken_none p locked never)
  where
    never : (q : Page) → IsTaken p locked q → ⊥
    never q t =
        let k : is_usable p locked p.back ≡ true = ap (is_usable_page p locked) t.held ∙ ap (λ (s : PageState). is_invalid s && not (is_among q locked)) t.state ∙ ap not t.unlocked in
        let j : true ≡ false = sym k ∙ e in
        absurd cc

-- Falling.

freed_near : (p : Placement) (locked : List Page) → Freed p → far p locked ≤ 1
freed_near p locked h = go p.free refl h
  where
    parts : (t : Transfer) (xs : List Part) (e : Errand) (more : ℕ) → e ≡ Writes → (xs ≡ [] → ⊥) → far_parts p e xs more ≤ 1
    parts t [] e more w n = absurd (n refl)
    parts t (x ∷ xs) e more w n = subst (λ (d : Errand). far_parts p d (x ∷ xs) more ≤ 1) (sym w) (omega arith)

    write : (ts : List Transfer) → HasWrite ts → far_transfers p locked ts ≤ 1
    write [] k = absurd k
    write (t ∷ ts) k = parts t t.parts t.errand (length ts) k.0 k.1

    go : (fr : List ℕ) → p.free ≡ fr → Freed p → far_by p locked fr ≤ 1
    go [] e (inl n) = absurd (n e)
    go [] e (inr w) = write p.transfers w
    go (f ∷ fs) e k = omega arith

far_hands : (p : Placement) (locked : List Page) → p.free ≡ [] → p.transfers ≡ []
    → far p locked ≡ 2 + reach p locked (length p.holds) (length p.holds / 4) p.back
far_hands p locked e t = ap (far_by p locked) e ∙ ap (far_transfers p locked) t

step_by : (p : Placement) (locked : List Page) (n d : ℕ) (b : Bool) → 0 < n → 0 < d → is_usable p locked p.back ≡ b → (b ≡ true → ⊥)
    → reach p locked n d p.back ≡ 1 + reach p locked (n - 1) (d - 1) (next_frame (length p.holds) p.back)
step_by p locked zero d b ln ld e nb = absurd (omega arith)
step_by p locked (suc n) zero b ln ld e nb = absurd (omega arith)
step_by p locked (suc n) (suc d) true ln ld e nb = absurd (nb refl)
step_by p locked (suc n) (suc d) false ln ld e nb =
    ap (λ (b : Bool). cond b 0 (1 + reach p locked n d (next_frame (length p.holds) p.back))) e
    ∙ ap (λ (k : ℕ). 1 + reach p locked k d (next_frame (length p.holds) p.back)) (let h : n ≡ suc n - 1 = omega arith in h)
    ∙ ap (λ (k : ℕ). 1 + reach p locked (suc n - 1) k (next_frame (length p.holds) p.back)) (let h : d ≡ suc d - 1 = omega arith in h)

walk_back : (n d f : ℕ) → 0 < d → walk n (d - 1) (next_frame n f) ≡ walk n d f
walk_back n zero f l = absurd (omega arith)
walk_back n (suc d) f l = ap (λ (k : ℕ). walk n k (next_frame n f)) (let h : suc d - 1 ≡ d = omega arith in h)

shifted : (p q : Placement) (locked : List Page) (m d f : ℕ) → Passed p q locked p.front → 0 < m → 0 < d → walk (length p.holds) (d - 1) f ≡ p.front
    → reach p locked (m - 1) (d - 1) f < m - 1
    → reach q locked m d f ≤ reach p locked (m - 1) (d - 1) f
shifted p q locked zero d f s lm ld e l = absurd (omega arith)
shifted p q locked (suc m) zero f s lm ld e l = absurd (omega arith)
shifted p q locked (suc m) (suc d) f s lm ld e l =
    let a : suc m - 1 ≡ m = omega arith in
    let b : suc d - 1 ≡ d = omega arith in
    subst (λ (x : ℕ). reach q locked (suc m) (suc d) f ≤ reach p locked x (suc d - 1) f) (sym a)
    (subst (λ (y : ℕ). reach q locked (suc m) (suc d) f ≤ reach p locked m y f) (sym b)
    (reach_shift p q locked p.front m d f s (subst (λ (y : ℕ). walk (length p.holds) y f ≡ p.front) b e)
    (subst (λ (x : ℕ). reach p locked x d f < x) a (subst (λ (y : ℕ). reach p locked (suc m - 1) y f < suc m - 1) b l))))

pub move_falls : (p : Placement) (locked : List Page) → OwnsFrames p → HandsStand p → HasRoom p locked → p.free ≡ [] → p.transfers ≡ []
    → far (hand_move p locked) locked < far p locked
move_falls p locked o h r e t =
    let n : ℕ = length p.holds in
    go (is_usable (expire p locked) locked (expire p locked).back) refl
  where
    s : Steady p (expire p locked)
    s = expire_steady p locked

    u : Full p p.front
    u = full_at p p.front o e t (subst (λ (f : ℕ). (0 < f) × (f ≤ length p.holds)) (sym h.ahead) (walk_in (length p.holds) (length p.holds / 4) p.back h.low h.high (let k = r.rest in omega arith)))

    k : Passed p (advance (expire p locked)) locked p.front
    k = passed p locked o u

    found : reach p locked (length p.holds) (length p.holds / 4) p.back < length p.holds
    found = reach_found p locked (length p.holds / 4) o e t h.low h.high r.rest

    was : far p locked ≡ 2 + reach p locked (length p.holds) (length p.holds / 4) p.back
    was = far_hands p locked e t

    free_still : (expire p locked).free ≡ []
    free_still = Rattle.page_laws.proofs.Moves.Stays.expire_free p locked ∙ e

    transfers_still : (expire p locked).transfers ≡ []
    transfers_still = Rattle.page_laws.proofs.Moves.Stays.expire_transfers p locked ∙ t

    unused : is_usable (expire p locked) locked (expire p locked).back ≡ false → is_usable p locked p.back ≡ true → ⊥
    unused i j = absurd (let a : is_usable (expire p locked) locked p.back ≡ true = k.usables p.back j in
        let b : is_usable (expire p locked) locked p.back ≡ false = ap (is_usable (expire p locked) locked) (sym s.back) ∙ i in let c : true ≡ false = sym a ∙ b in cc)

    go : (b : Bool) → is_usable (expire p locked) locked (expire p locked).back ≡ b → far (hand_move p locked) locked < far p locked
    go true i =
        let a : Freed (sweep (expire p locked) locked) = sweep_frees (expire p locked) locked (Rattle.page_laws.proofs.Ownership.Pages.expire_owner p locked o) free_still transfers_still i in
        let c : far (hand_move p locked) locked ≤ 1 = freed_near (hand_move p locked) locked a in
        omega (arith, was)
    go false i =
        let same : hand_move p locked ≡ advance (expire p locked) = ap advance (sweep_idles (expire p locked) locked i) in
        let now : far (advance (expire p locked)) locked ≡ 2 + reach (advance (expire p locked)) locked (length p.holds) (length p.holds / 4) (next_frame (length p.holds) p.back) =
        far_hands (advance (expire p locked)) locked free_still transfers_still
        ∙ ap (λ (l : List (Option Page)). 2 + reach (advance (expire p locked)) locked (length l) (length l / 4) (next_frame (length l) (expire p locked).back)) s.holds
        ∙ ap (λ (f : ℕ). 2 + reach (advance (expire p locked)) locked (length p.holds) (length p.holds / 4) (next_frame (length p.holds) f)) s.back in
        let step = step_by p locked (length p.holds) (length p.holds / 4) (is_usable p locked p.back) (omega (arith, r.rest)) r.quarter refl (unused i) in
        let less : reach (advance (expire p locked)) locked (length p.holds) (length p.holds / 4) (next_frame (length p.holds) p.back)
        ≤ reach p locked (length p.holds - 1) (length p.holds / 4 - 1) (next_frame (length p.holds) p.back) =
        shifted p (advance (expire p locked)) locked (length p.holds) (length p.holds / 4) (next_frame (length p.holds) p.back) k (omega (arith, r.rest)) r.quarter
        (walk_back (length p.holds) (length p.holds / 4) p.back r.quarter ∙ sym h.ahead) (omega (arith, found, step)) in
        let all : far (hand_move p locked) locked ≡ far (advance (expire p locked)) locked = ap (λ (q : Placement). far q locked) same in
        omega (arith, was, now, step, less)

-- no more moves than there are frames
pub far_bound : (p : Placement) (locked : List Page) → OwnsFrames p → HandsStand p → HasRoom p locked → p.transfers ≡ [] → far p locked ≤ length p.holds + 1
far_bound p locked o h r t = go p.free refl
  where
    go : (fr : List ℕ) → p.free ≡ fr → far_by p locked fr ≤ length p.holds + 1
    go [] e = let found = reach_found p locked (length p.holds / 4) o e t h.low h.high r.rest in subst (λ (ts : List Transfer). far_transfers p locked ts ≤ length p.holds + 1) (sym t) (omega arith)
    go (f ∷ fs) e = omega arith

-- the hands go on as far apart
pub move_stands : (p : Placement) (locked : List Page) → HandsStand p → HandsStand (hand_move p locked)
move_stands p locked h =
    let q : Placement = sweep (expire p locked) locked in
    let s : Steady p q = swept_steady p locked in
    let back_high : q.back ≤ length q.holds =
    let a = h.high in let b = s.back in let c = ap length s.holds in omega arith in
    record {
      low = let k = next_in (length q.holds) q.back (subst (λ (f : ℕ). 0 < f) (sym s.back) h.low) back_high in k.0;
      high = let k = next_in (length q.holds) q.back (subst (λ (f : ℕ). 0 < f) (sym s.back) h.low) back_high in k.1;
      ahead = ap (next_frame (length q.holds))
          (s.front ∙ h.ahead ∙ ap (λ (l : List (Option Page)). walk (length l) (length l / 4) p.back) (sym s.holds) ∙ ap (walk (length q.holds) (length q.holds / 4)) (sym s.back))
          ∙ sym (walk_next (length q.holds) (length q.holds / 4) q.back);
    }
