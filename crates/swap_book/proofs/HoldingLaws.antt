-- Holdings as lists: which blocks are held, by which piece, and whose the pieces are.
use Rattle.std.proofs.Common.{◌≡◌, ℕ, zero, suc, ◌+◌, ◌<◌, ◌≤◌, Bool, true, false, cond, ◌||◌, nat_le, nat_lt, List, [], ◌∷◌, ◌++◌, length, get_or, Some, refl, sym, ap, ◌∙◌, subst, arith, inl, inr, ◌⊎◌}
use Rattle.std.specs.Prelude.{filter, remove, slice_get, AllPairs}
use Rattle.std.proofs.lemmas.Bool.{cases_Bool, cases_lt, le-leb, leb-true, lt-ltb, ltb-true, and_from, and_parts, or_cases, or_left, or_right, cond-true, cond-false, false≢true, false_from_ne_true}
use Rattle.std.proofs.lemmas.List.Edits.{length-remove, get_or-remove_below, get_or-remove_above}
use Rattle.std.proofs.lemmas.Option.{same_Some}
use Rattle.swap_book.specs.declared.Owner.{Owner}
use Rattle.swap_book.specs.declared.Owner.TheVariants.{Data}
use Rattle.swap_book.specs.declared.Held.{Held}
use Rattle.swap_book.specs.Owners.{same_owner}
use Rattle.swap_book.specs.Holdings.{is_in, is_held, of_owner, kept, IsLastOf}
use Rattle.swap_book.specs.Book.{IsApart}

-- ---- the blocks of one piece

pub in_from : (h : Held) (b : ℕ) → h.start ≤ b → b < h.start + h.length → is_in h b ≡ true
unfolding is_in
in_from h b low high = and_from (nat_le h.start b) (nat_lt b (h.start + h.length)) (le-leb h.start b low) (lt-ltb b (h.start + h.length) high)

pub in_low : (h : Held) (b : ℕ) → is_in h b ≡ true → h.start ≤ b
unfolding is_in
in_low h b i = leb-true h.start b (and_parts (nat_le h.start b) (nat_lt b (h.start + h.length)) i).0

pub in_high : (h : Held) (b : ℕ) → is_in h b ≡ true → b < h.start + h.length
unfolding is_in
in_high h b i = ltb-true b (h.start + h.length) (and_parts (nat_le h.start b) (nat_lt b (h.start + h.length)) i).1

pub in_outside : (h : Held) (b : ℕ) → (b < h.start) ⊎ (h.start + h.length ≤ b) → is_in h b ≡ false
in_outside h b (inl below) = false_from_ne_true (is_in h b) (λ i. let l = in_low h b i in omega arith)
in_outside h b (inr above) = false_from_ne_true (is_in h b) (λ i. let l = in_high h b i in omega arith)

-- ---- held blocks

-- stands for a piece past the end of a list
abbrev pub no_piece : Held
no_piece = record { owner = Data 0; start = 0; length = 0 }

-- the piece in which a block lies
pub record Holder (hs : List Held) (b : ℕ) : Type 0 where
  pub at : ℕ
  pub within : at < length hs
  pub holds : (d : Held) → is_in (get_or hs at d) b ≡ true

pub holder_of : (hs : List Held) (b : ℕ) → is_held hs b ≡ true → Holder hs b
unfolding is_held
holder_of [] b e = absurd (false≢true e)
holder_of (h ∷ hs) b e = elim (or_cases (is_in h b) (is_held hs b) e) [
  | inl here ↦ record { at = 0; within = omega arith; holds = λ d. here }
  | inr later ↦
      let r = holder_of hs b later in
      let w = r.within in
      record { at = suc r.at; within = omega arith; holds = r.holds }
]

pub held_from : (hs : List Held) (at b : ℕ) (d : Held) → at < length hs → is_in (get_or hs at d) b ≡ true → is_held hs b ≡ true
unfolding is_held
held_from [] at b d lt i = absurd (omega arith)
held_from (h ∷ hs) zero b d lt i = or_left (is_in h b) (is_held hs b) i
held_from (h ∷ hs) (suc at) b d lt i = or_right (is_in h b) (is_held hs b) (held_from hs at b d (omega arith) i)

pub is_held-push : (hs : List Held) (h : Held) (b : ℕ) → is_held (hs ++ h ∷ []) b ≡ (is_held hs b || is_in h b)
unfolding is_held
is_held-push [] h b = or_end (is_in h b)
  where
    or_end : (x : Bool) → (x || false) ≡ x
    or_end true = refl
    or_end false = refl
is_held-push (g ∷ hs) h b =
    ap (λ (t : Bool). is_in g b || t) (is_held-push hs h b) ∙ group (is_in g b) (is_held hs b) (is_in h b)
  where
    group : (x y z : Bool) → (x || (y || z)) ≡ ((x || y) || z)
    group true y z = refl
    group false y z = refl

pub is_held-remove_out : (hs : List Held) (at b : ℕ) (d : Held) → at < length hs → is_in (get_or hs at d) b ≡ false → is_held (remove hs at) b ≡ is_held hs b
unfolding is_held
is_held-remove_out [] at b d lt o = absurd (omega arith)
is_held-remove_out (h ∷ hs) zero b d lt o = ap (λ (t : Bool). t || is_held hs b) (sym o)
is_held-remove_out (h ∷ hs) (suc at) b d lt o = ap (λ (t : Bool). is_in h b || t) (is_held-remove_out hs at b d (omega arith) o)

-- a block lies in no two pieces that are apart
pub apart_gives : (g h : Held) (b : ℕ) → IsApart g h → is_in g b ≡ true → is_in h b ≡ true → ⊥
apart_gives g h b (inl before) i j = let x = in_high g b i in let y = in_low h b j in omega arith
apart_gives g h b (inr after) i j = let x = in_low g b i in let y = in_high h b j in omega arith

pub is_held-remove_in : (hs : List Held) (at b : ℕ) (d : Held) → AllPairs IsApart hs → at < length hs → is_in (get_or hs at d) b ≡ true
    → is_held (remove hs at) b ≡ false
is_held-remove_in hs at b d apart lt i =
    false_from_ne_true (is_held (remove hs at) b)
    (λ e. let r = holder_of (remove hs at) b e in
    other r.at (let w = r.within in let l = length-remove hs at lt in omega arith) (r.holds d))
  where
    other : (k : ℕ) → k + 1 < length hs → is_in (get_or (remove hs at) k d) b ≡ true → ⊥
    other k within holds = elim (cases_lt k at) [
      | inl before ↦
          apart_gives (get_or hs k d) (get_or hs at d) b (apart k at d before lt)
          (subst (λ (h : Held). is_in h b ≡ true) (get_or-remove_below hs at d k before lt) holds) i
      | inr after ↦
          apart_gives (get_or hs at d) (get_or hs (k + 1) d) b (apart at (k + 1) d (omega arith) within) i
          (subst (λ (h : Held). is_in h b ≡ true) (get_or-remove_above hs at d k after lt) holds)
    ]

-- ---- an owner's pieces

-- where a kept element stood
pub record From {X : Type 0} (p : X → Bool) (xs : List X) (x : X) : Type 0 where
  pub at : ℕ
  pub is : slice_get xs at ≡ Some x
  pub passes : p x ≡ true

-- the kept elements with a first one kept, or left out
pub filter_kept : {X : Type 0} (p : X → Bool) (y : X) (ys : List X) → p y ≡ true → filter p (y ∷ ys) ≡ y ∷ filter p ys
filter_kept p y ys e = cond-true (p y) (y ∷ filter p ys) (filter p ys) e

pub filter_left : {X : Type 0} (p : X → Bool) (y : X) (ys : List X) → p y ≡ false → filter p (y ∷ ys) ≡ filter p ys
filter_left p y ys e = cond-false (p y) (y ∷ filter p ys) (filter p ys) e

pub filter_from : {X : Type 0} (p : X → Bool) (xs : List X) (i : ℕ) (x : X) → slice_get (filter p xs) i ≡ Some x → From p xs x
filter_from p [] i x e = cc
filter_from {X} p (y ∷ ys) zero x e = elim (cases_Bool (p y)) [
  | inl kept ↦
      let f = subst (λ (zs : List X). slice_get zs 0 ≡ Some x) (filter_kept p y ys kept) e in
      record { at = 0; is = f; passes = ap p (sym (same_Some y x f)) ∙ kept }
  | inr left ↦
      let r = filter_from p ys 0 x (subst (λ (zs : List X). slice_get zs 0 ≡ Some x) (filter_left p y ys left) e) in
      record { at = suc r.at; is = r.is; passes = r.passes }
]
filter_from {X} p (y ∷ ys) (suc i) x e = elim (cases_Bool (p y)) [
  | inl kept ↦
      let r = filter_from p ys i x (subst (λ (zs : List X). slice_get zs (suc i) ≡ Some x) (filter_kept p y ys kept) e) in
      record { at = suc r.at; is = r.is; passes = r.passes }
  | inr left ↦
      let r = filter_from p ys (suc i) x (subst (λ (zs : List X). slice_get zs (suc i) ≡ Some x) (filter_left p y ys left) e) in
      record { at = suc r.at; is = r.is; passes = r.passes }
]

-- two kept elements stood in their order
pub record FromBoth {X : Type 0} (xs : List X) (x y : X) : Type 0 where
  pub first : ℕ
  pub second : ℕ
  pub order : first < second
  pub is_first : slice_get xs first ≡ Some x
  pub is_second : slice_get xs second ≡ Some y

pub filter_both : {X : Type 0} (p : X → Bool) (xs : List X) (i j : ℕ) (x y : X) → i < j
    → slice_get (filter p xs) i ≡ Some x → slice_get (filter p xs) j ≡ Some y → FromBoth xs x y
filter_both p [] i j x y lt e f = cc
filter_both p (z ∷ zs) i zero x y lt e f = absurd (omega arith)
filter_both {X} p (z ∷ zs) zero (suc j) x y lt e f = elim (cases_Bool (p z)) [
  | inl kept ↦
      let a = subst (λ (ws : List X). slice_get ws 0 ≡ Some x) (filter_kept p z zs kept) e in
      let r = filter_from p zs j y (subst (λ (ws : List X). slice_get ws (suc j) ≡ Some y) (filter_kept p z zs kept) f) in
      record { first = 0; second = suc r.at; order = omega arith; is_first = a; is_second = r.is }
  | inr left ↦
      let r = filter_both p zs 0 (suc j) x y lt
      (subst (λ (ws : List X). slice_get ws 0 ≡ Some x) (filter_left p z zs left) e)
      (subst (λ (ws : List X). slice_get ws (suc j) ≡ Some y) (filter_left p z zs left) f) in
      let o = r.order in
      record { first = suc r.first; second = suc r.second; order = omega arith; is_first = r.is_first; is_second = r.is_second }
]
filter_both {X} p (z ∷ zs) (suc i) (suc j) x y lt e f = elim (cases_Bool (p z)) [
  | inl kept ↦
      let r = filter_both p zs i j x y (omega arith)
      (subst (λ (ws : List X). slice_get ws (suc i) ≡ Some x) (filter_kept p z zs kept) e)
      (subst (λ (ws : List X). slice_get ws (suc j) ≡ Some y) (filter_kept p z zs kept) f) in
      let o = r.order in
      record { first = suc r.first; second = suc r.second; order = omega arith; is_first = r.is_first; is_second = r.is_second }
  | inr left ↦
      let r = filter_both p zs (suc i) (suc j) x y lt
      (subst (λ (ws : List X). slice_get ws (suc i) ≡ Some x) (filter_left p z zs left) e)
      (subst (λ (ws : List X). slice_get ws (suc j) ≡ Some y) (filter_left p z zs left) f) in
      let o = r.order in
      record { first = suc r.first; second = suc r.second; order = omega arith; is_first = r.is_first; is_second = r.is_second }
]

-- without an element that isn't kept, and without the last one that is
pub filter-remove_other : {X : Type 0} (p : X → Bool) (xs : List X) (at : ℕ) (d : X) → at < length xs → p (get_or xs at d) ≡ false
    → filter p (remove xs at) ≡ filter p xs
filter-remove_other p [] at d lt o = absurd (omega arith)
filter-remove_other p (y ∷ ys) zero d lt o = sym (filter_left p y ys o)
filter-remove_other {X} p (y ∷ ys) (suc at) d lt o =
    ap (λ (zs : List X). cond (p y) (y ∷ zs) zs) (filter-remove_other p ys at d (omega arith) o)

pub filter_none : {X : Type 0} (p : X → Bool) (xs : List X) → ((k : ℕ) (d : X) → k < length xs → p (get_or xs k d) ≡ false) → filter p xs ≡ []
filter_none p [] none = refl
filter_none p (y ∷ ys) none =
    filter_left p y ys (none 0 y (omega arith)) ∙ filter_none p ys (λ k d lt. none (suc k) d (omega arith))

pub filter-remove_last : {X : Type 0} (p : X → Bool) (xs : List X) (at : ℕ) (d : X) → at < length xs → p (get_or xs at d) ≡ true
    → ((k : ℕ) (e : X) → at < k → k < length xs → p (get_or xs k e) ≡ false) → filter p xs ≡ filter p (remove xs at) ++ get_or xs at d ∷ []
filter-remove_last p [] at d lt here last = absurd (omega arith)
filter-remove_last {X} p (y ∷ ys) zero d lt here last =
    let none = filter_none p ys (λ k e k_lt. last (suc k) e (omega arith) (omega arith)) in
    filter_kept p y ys here ∙ ap (λ (zs : List X). y ∷ zs) none ∙ ap (λ (zs : List X). zs ++ y ∷ []) (sym none)
filter-remove_last {X} p (y ∷ ys) (suc at) d lt here last =
    let rest = filter-remove_last p ys at d (omega arith) here (λ k e above k_lt. last (suc k) e (omega arith) (omega arith)) in
    elim (cases_Bool (p y)) [
      | inl kept ↦
          filter_kept p y ys kept ∙ ap (λ (zs : List X). y ∷ zs) rest ∙
          ap (λ (zs : List X). zs ++ get_or ys at d ∷ []) (sym (filter_kept p y (remove ys at) kept))
      | inr left ↦
          filter_left p y ys left ∙ rest ∙
          ap (λ (zs : List X). zs ++ get_or ys at d ∷ []) (sym (filter_left p y (remove ys at) left))
    ]

-- ---- an owner's first pieces

own_some : (owner : Owner) (hs : List Held) (at : ℕ) → at < length hs → ((d : Held) → same_owner (get_or hs at d).owner owner ≡ true)
    → 0 < length (of_owner owner hs)
own_some owner [] at lt own = absurd (omega arith)
own_some owner (h ∷ hs) zero lt own =
    let l = ap (λ (gs : List Held). length gs) (filter_kept (λ (g : Held). same_owner g.owner owner) h hs (own h)) in omega arith
own_some owner (h ∷ hs) (suc at) lt own =
    let rest = own_some owner hs at (omega arith) own in
    elim (cases_Bool (same_owner h.owner owner)) [
      | inl kept ↦ let l = ap (λ (gs : List Held). length gs) (filter_kept (λ (g : Held). same_owner g.owner owner) h hs kept) in omega arith
      | inr left ↦ let l = ap (λ (gs : List Held). length gs) (filter_left (λ (g : Held). same_owner g.owner owner) h hs left) in omega arith
    ]

pub kept_all : (owner : Owner) (keep : ℕ) (hs : List Held) → length (of_owner owner hs) ≤ keep → kept owner keep hs ≡ hs
unfolding kept
kept_all owner keep [] le = kept_nil keep
  where
    kept_nil : (keep : ℕ) → kept owner keep [] ≡ []
    kept_nil zero = refl
    kept_nil (suc n) = refl
kept_all owner zero (h ∷ hs) le = elim (cases_Bool (same_owner h.owner owner)) [
  | inl own ↦
      let l = ap (λ (gs : List Held). length gs) (filter_kept (λ (g : Held). same_owner g.owner owner) h hs own) in absurd (omega arith)
  | inr other ↦
      let l = ap (λ (gs : List Held). length gs) (filter_left (λ (g : Held). same_owner g.owner owner) h hs other) in
      cond-false (same_owner h.owner owner) (kept owner zero hs) (h ∷ kept owner zero hs) other ∙
      ap (λ (gs : List Held). h ∷ gs) (kept_all owner zero hs (omega arith))
]
kept_all owner (suc n) (h ∷ hs) le = elim (cases_Bool (same_owner h.owner owner)) [
  | inl own ↦
      let l = ap (λ (gs : List Held). length gs) (filter_kept (λ (g : Held). same_owner g.owner owner) h hs own) in
      ap (λ (k : ℕ). h ∷ kept owner k hs) (cond-true (same_owner h.owner owner) n (suc n) own) ∙
      ap (λ (gs : List Held). h ∷ gs) (kept_all owner n hs (omega arith))
  | inr other ↦
      let l = ap (λ (gs : List Held). length gs) (filter_left (λ (g : Held). same_owner g.owner owner) h hs other) in
      ap (λ (k : ℕ). h ∷ kept owner k hs) (cond-false (same_owner h.owner owner) n (suc n) other) ∙
      ap (λ (gs : List Held). h ∷ gs) (kept_all owner (suc n) hs (omega arith))
]

-- without its last piece, of which there are more than are kept, an owner keeps the same
pub kept-remove_last : (owner : Owner) (keep : ℕ) (hs : List Held) (at : ℕ) → IsLastOf hs owner (length hs) at → keep < length (of_owner owner hs)
    → kept owner keep (remove hs at) ≡ kept owner keep hs
unfolding kept
kept-remove_last owner keep [] at last more = absurd (let w = last.within in omega arith)
kept-remove_last owner zero (h ∷ hs) zero last more =
    sym (cond-true (same_owner h.owner owner) (kept owner zero hs) (h ∷ kept owner zero hs) (last.own h))
kept-remove_last owner (suc n) (h ∷ hs) zero last more =
    let none = filter_none (λ (g : Held). same_owner g.owner owner) hs (λ k d lt. last.last (suc k) d (omega arith) (omega arith)) in
    let l = ap (λ (gs : List Held). length gs) (filter_kept (λ (g : Held). same_owner g.owner owner) h hs (last.own h)) in
    let m = ap (λ (gs : List Held). length gs) none in
    absurd (omega arith)
kept-remove_last owner zero (h ∷ hs) (suc at) last more =
    let w = last.within in
    let rest = kept-remove_last owner zero hs at
    (record { within = omega arith; own = last.own; last = λ k d above lt. last.last (suc k) d (omega arith) (omega arith) })
    (own_some owner hs at (omega arith) last.own) in
    ap (λ (gs : List Held). cond (same_owner h.owner owner) gs (h ∷ gs)) rest
kept-remove_last owner (suc n) (h ∷ hs) (suc at) last more =
    let w = last.within in
    let later : IsLastOf hs owner (length hs) at = record { within = omega arith; own = last.own; last = λ k d above lt. last.last (suc k) d (omega arith) (omega arith) } in
    elim (cases_Bool (same_owner h.owner owner)) [
      | inl own ↦
          let l = ap (λ (gs : List Held). length gs) (filter_kept (λ (g : Held). same_owner g.owner owner) h hs own) in
          ap (λ (k : ℕ). h ∷ kept owner k (remove hs at)) (cond-true (same_owner h.owner owner) n (suc n) own) ∙
          ap (λ (gs : List Held). h ∷ gs) (kept-remove_last owner n hs at later (omega arith)) ∙
          sym (ap (λ (k : ℕ). h ∷ kept owner k hs) (cond-true (same_owner h.owner owner) n (suc n) own))
      | inr other ↦
          let l = ap (λ (gs : List Held). length gs) (filter_left (λ (g : Held). same_owner g.owner owner) h hs other) in
          ap (λ (k : ℕ). h ∷ kept owner k (remove hs at)) (cond-false (same_owner h.owner owner) n (suc n) other) ∙
          ap (λ (gs : List Held). h ∷ gs) (kept-remove_last owner (suc n) hs at later (omega arith)) ∙
          sym (ap (λ (k : ℕ). h ∷ kept owner k hs) (cond-false (same_owner h.owner owner) n (suc n) other))
    ]
