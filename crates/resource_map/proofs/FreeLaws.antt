-- Putting an extent back, merged with the neighbours that it touches within its unit.
use Rattle.std.proofs.Common.{◌≡◌, ℕ, zero, suc, ◌+◌, ◌-◌, ◌/◌, ◌%◌, ◌<◌, ◌≤◌, Bool, true, false, not, ◌||◌, nat_lt, List, [], ◌∷◌, length, get_or, set, take, drop, refl, sym, ap, ◌∙◌, subst, arith, inl, inr, ◌⊎◌}
use Rattle.std.specs.Prelude.{remove, insert, ◌==◌}
use Rattle.std.proofs.lemmas.Bool.{cases_lt, cases_eq, ltb-true, lt-ltb, eqb-true, eqb-false, eq-eqb, and_parts, and_from, not-true, not_from_false, ne_eqb, or_parts, or_left, or_right, or_cases, false≢true, false_from_ne_true}
use Rattle.resource_map.specs.declared.Extent.{Extent}
use Rattle.resource_map.specs.Blocks.{marked}
use Rattle.resource_map.specs.Extents.{is_in, covers, free_blocks, Follows, InOrder, joins, merged, put_in, joins_left, joins_right}
use Rattle.resource_map.proofs.BlockLaws.{free_blocks_marked}
use Rattle.resource_map.proofs.ExtentLaws.{in_from, in_low, in_high, in_below, in_above, covers_at, lies_at, order_at, set_order, same_tests, end_of}

-- ---- what is covered

pub or_swap : (x y z : Bool) → (x || (y || z)) ≡ (y || (x || z))
or_swap true true z = refl
or_swap true false z = refl
or_swap false true z = refl
or_swap false false z = refl

pub or_group : (x y z : Bool) → ((x || y) || z) ≡ (x || (y || z))
or_group true y z = refl
or_group false y z = refl

or_comm : (x y : Bool) → (x || y) ≡ (y || x)
or_comm true true = refl
or_comm true false = refl
or_comm false true = refl
or_comm false false = refl

pub insert_covers : (es : List Extent) (at b : ℕ) (e : Extent) → covers (insert es at e) b ≡ (is_in e b || covers es b)
unfolding covers
insert_covers es zero b e = refl
insert_covers [] (suc at) b e = refl
insert_covers (x ∷ es) (suc at) b e =
    ap (λ (t : Bool). is_in x b || t) (insert_covers es at b e) ∙ or_swap (is_in x b) (is_in e b) (covers es b)

-- an extent that covers what another and the one at a place cover, in that place
pub grown_covers : (es : List Extent) (k b : ℕ) (d e m : Extent) → k < length es → is_in m b ≡ (is_in e b || is_in (get_or es k d) b)
    → covers (set es k m) b ≡ (is_in e b || covers es b)
unfolding covers
grown_covers [] k b d e m lt same = absurd (omega arith)
grown_covers (x ∷ es) zero b d e m lt same =
    ap (λ (t : Bool). t || covers es b) same ∙ or_group (is_in e b) (is_in x b) (covers es b)
grown_covers (x ∷ es) (suc k) b d e m lt same =
    ap (λ (t : Bool). is_in x b || t) (grown_covers es k b d e m (omega arith) same) ∙
    or_swap (is_in x b) (is_in e b) (covers es b)

-- the same where it stands for two neighbours
pub joined_covers : (es : List Extent) (k b : ℕ) (d e m : Extent) → suc k < length es
    → is_in m b ≡ (is_in e b || (is_in (get_or es k d) b || is_in (get_or es (suc k) d) b))
    → covers (remove (set es k m) (suc k)) b ≡ (is_in e b || covers es b)
unfolding covers
joined_covers [] k b d e m lt same = absurd (omega arith)
joined_covers (x ∷ []) k b d e m lt same = absurd (omega arith)
joined_covers (x ∷ (y ∷ es)) zero b d e m lt same =
    ap (λ (t : Bool). t || covers es b) same ∙
    or_group (is_in e b) (is_in x b || is_in y b) (covers es b) ∙
    ap (λ (t : Bool). is_in e b || t) (or_group (is_in x b) (is_in y b) (covers es b))
joined_covers (x ∷ (y ∷ es)) (suc k) b d e m lt same =
    ap (λ (t : Bool). is_in x b || t) (joined_covers (y ∷ es) k b d e m (omega arith) same) ∙
    or_swap (is_in x b) (is_in e b) (is_in y b || covers es b)

pub merged_in : (l r : Extent) (b : ℕ) → l.start + l.length ≡ r.start → is_in (merged l r) b ≡ (is_in l b || is_in r b)
merged_in l r b touch =
    same_tests (is_in (merged l r) b) (is_in l b || is_in r b)
    (λ i.
    let low = in_low (merged l r) b i in
    let high = in_high (merged l r) b i in
    elim (cases_lt b r.start) [
      | inl below ↦ or_left (is_in l b) (is_in r b) (in_from l b low (omega arith))
      | inr above ↦ or_right (is_in l b) (is_in r b) (in_from r b above (omega arith))
    ])
    (λ either. elim (or_cases (is_in l b) (is_in r b) either) [
      | inl i ↦ let low = in_low l b i in let high = in_high l b i in in_from (merged l r) b low (omega arith)
      | inr i ↦ let low = in_low r b i in let high = in_high r b i in in_from (merged l r) b (omega arith) (omega arith)
    ])

-- ---- what may stand at a place

-- the extents from here on may follow block m
abbrev pub Begins : ℕ → List Extent → ℕ → Type 0
Begins m [] size = m ≤ size
Begins m (e ∷ es) size = (m ≤ e.start) × (m ≡ e.start → m % 1024 ≡ 0)

pub order_from : (from m : ℕ) (es : List Extent) (size : ℕ) → InOrder from es size → Begins m es size → InOrder m es size
order_from from m [] size h b = b
order_from from m (e ∷ es) size h b = (record { after = b.0; apart = b.1; not_empty = h.0.not_empty; one_unit = h.0.one_unit }, h.1)

pub order_drop : (from : ℕ) (es : List Extent) (size at : ℕ) → InOrder from es size → at ≤ length es → InOrder (end_of from (take at es)) (drop at es) size
unfolding end_of
order_drop from es size zero h le = h
order_drop from [] size (suc at) h le = absurd (omega arith)
order_drop from (e ∷ es) size (suc at) h le = order_drop (e.start + e.length) es size at h.1 (omega arith)

pub begins_at : (m : ℕ) (es : List Extent) (size at : ℕ) (d : Extent) → m ≤ size
    → (at < length es → (m ≤ (get_or es at d).start) × (m ≡ (get_or es at d).start → m % 1024 ≡ 0)) → Begins m (drop at es) size
begins_at m [] size zero d le b = le
begins_at m [] size (suc at) d le b = le
begins_at m (e ∷ es) size zero d le b = b (omega arith)
begins_at m (e ∷ es) size (suc at) d le b = begins_at m es size at d le (λ lt. b (omega arith))

pub end_of-take : (from : ℕ) (es : List Extent) (k : ℕ) (d : Extent) → k < length es
    → end_of from (take (suc k) es) ≡ (get_or es k d).start + (get_or es k d).length
unfolding end_of
end_of-take from [] k d lt = absurd (omega arith)
end_of-take from (e ∷ es) zero d lt = refl
end_of-take from (e ∷ es) (suc k) d lt = end_of-take (e.start + e.length) es k d (omega arith)

pub insert_order : (from : ℕ) (es : List Extent) (size at : ℕ) (e : Extent) → InOrder from es size → at ≤ length es
    → Follows (end_of from (take at es)) e → InOrder (e.start + e.length) (drop at es) size → InOrder from (insert es at e) size
unfolding end_of
insert_order from es size zero e h le f r = (f, r)
insert_order from [] size (suc at) e h le f r = absurd (omega arith)
insert_order from (x ∷ es) size (suc at) e h le f r = (h.0, insert_order (x.start + x.length) es size at e h.1 (omega arith) f r)

pub joined_order : (from : ℕ) (es : List Extent) (size k : ℕ) (m : Extent) → InOrder from es size → suc k < length es
    → Follows (end_of from (take k es)) m → InOrder (m.start + m.length) (drop (suc (suc k)) es) size → InOrder from (remove (set es k m) (suc k)) size
unfolding end_of
joined_order from [] size k m h lt f r = absurd (omega arith)
joined_order from (x ∷ []) size k m h lt f r = absurd (omega arith)
joined_order from (x ∷ (y ∷ es)) size zero m h lt f r = (f, r)
joined_order from (x ∷ (y ∷ es)) size (suc k) m h lt f r = (h.0, joined_order (x.start + x.length) (y ∷ es) size k m h.1 (omega arith) f r)

-- the extents that begin at or below a free-standing block end at or below it
pub ends_before : (from : ℕ) (es : List Extent) (size at s : ℕ) → InOrder from es size → at ≤ length es → from ≤ s
    → ((k : ℕ) (d : Extent) → k < at → (get_or es k d).start ≤ s) → covers es s ≡ false → end_of from (take at es) ≤ s
unfolding end_of covers
ends_before from es size zero s h le low below out = low
ends_before from [] size (suc at) s h le low below out = absurd (omega arith)
ends_before from (e ∷ es) size (suc at) s h le low below out =
    let parts = or_parts (is_in e s) (covers es s) out in
    let begun = below 0 e (omega arith) in
    ends_before (e.start + e.length) es size at s h.1 (omega arith) (past begun parts.0) (λ k d lt. below (suc k) d (omega arith)) parts.1
  where
    past : e.start ≤ s → is_in e s ≡ false → e.start + e.length ≤ s
    past begun o = elim (cases_lt s (e.start + e.length)) [
      | inl within ↦ absurd (false≢true (sym o ∙ in_from e s begun within))
      | inr above ↦ above
    ]

-- ---- an extent put back into a gap

pub record Gap (es : List Extent) (size at start n : ℕ) : Type 0 where
  pub order : InOrder 0 es size
  pub place : at ≤ length es
  pub below : (k : ℕ) (d : Extent) → k < at → (get_or es k d).start ≤ start
  pub above : (d : Extent) → at < length es → start < (get_or es at d).start
  pub some : 0 < n
  pub within : start + n ≤ size
  pub one_unit : start / 1024 ≡ (start + n - 1) / 1024
  pub out : (b : ℕ) → start ≤ b → b < start + n → covers es b ≡ false

abbrev extent : ℕ → ℕ → Extent
extent start n = record { start = start; length = n }

joins_gives : (l r : Extent) → joins l r ≡ true → (l.start + l.length ≡ r.start) × (r.start % 1024 ≡ 0 → ⊥)
joins_gives l r h =
    let parts = and_parts (l.start + l.length == r.start) (not (r.start % 1024 == 0)) h in
    (eqb-true (l.start + l.length) r.start parts.0, eqb-false (r.start % 1024) 0 (not-true (r.start % 1024 == 0) parts.1))

joins_not : (l r : Extent) → joins l r ≡ false → l.start + l.length ≡ r.start → r.start % 1024 ≡ 0
joins_not l r h touch = elim (cases_eq (r.start % 1024) 0) [
  | inl begins ↦ begins
  | inr inside ↦
      absurd (false≢true (sym h ∙
      and_from (l.start + l.length == r.start) (not (r.start % 1024 == 0))
      (eq-eqb (l.start + l.length) r.start touch)
      (not_from_false (r.start % 1024 == 0) (ne_eqb (r.start % 1024) 0 inside))))
]

-- the extent before the place ends where this one begins, or does not
joins_left_gives : (es : List Extent) (k : ℕ) (e : Extent) → joins_left es (suc k) e ≡ true
    → ((get_or es k e).start + (get_or es k e).length ≡ e.start) × (e.start % 1024 ≡ 0 → ⊥)
joins_left_gives es k e h =
    let same : suc k - 1 ≡ k = omega arith in
    let j = (and_parts (nat_lt 0 (suc k)) (joins (get_or es (suc k - 1) e) e) h).1 in
    joins_gives (get_or es k e) e (subst (λ (i : ℕ). joins (get_or es i e) e ≡ true) same j)

joins_left_not : (es : List Extent) (k : ℕ) (e : Extent) → joins_left es (suc k) e ≡ false
    → (get_or es k e).start + (get_or es k e).length ≡ e.start → e.start % 1024 ≡ 0
joins_left_not es k e h touch =
    let same : suc k - 1 ≡ k = omega arith in
    joins_not (get_or es k e) e
    (subst (λ (i : ℕ). joins (get_or es i e) e ≡ false) same
    (false_from_ne_true (joins (get_or es (suc k - 1) e) e)
    (λ j. false≢true (sym h ∙ and_from (nat_lt 0 (suc k)) (joins (get_or es (suc k - 1) e) e) (lt-ltb 0 (suc k) (omega arith)) j))))
    touch

joins_right_gives : (es : List Extent) (at : ℕ) (e : Extent) → joins_right es at e ≡ true
    → (at < length es) × (e.start + e.length ≡ (get_or es at e).start) × ((get_or es at e).start % 1024 ≡ 0 → ⊥)
joins_right_gives es at e h =
    let parts = and_parts (nat_lt at (length es)) (joins e (get_or es at e)) h in
    let j = joins_gives e (get_or es at e) parts.1 in
    (ltb-true at (length es) parts.0, j.0, j.1)

joins_right_not : (es : List Extent) (at : ℕ) (e : Extent) → joins_right es at e ≡ false → at < length es
    → e.start + e.length ≡ (get_or es at e).start → (get_or es at e).start % 1024 ≡ 0
joins_right_not es at e h lt touch =
    joins_not e (get_or es at e)
    (false_from_ne_true (joins e (get_or es at e))
    (λ j. false≢true (sym h ∙ and_from (nat_lt at (length es)) (joins e (get_or es at e)) (lt-ltb at (length es) lt) j)))
    touch

gap_before : (es : List Extent) (size at start n : ℕ) → Gap es size at start n → end_of 0 (take at es) ≤ start
gap_before es size at start n g =
    let s = g.some in
    ends_before 0 es size at start g.order g.place (omega arith) g.below (g.out start (omega arith) (omega arith))

gap_after : (es : List Extent) (size at start n : ℕ) (d : Extent) → Gap es size at start n → at < length es → start + n ≤ (get_or es at d).start
gap_after es size at start n d g lt = elim (cases_lt (get_or es at d).start (start + n)) [
  | inl within ↦
      let a = g.above d lt in
      let l = (lies_at 0 es size at d g.order lt).not_empty in
      absurd (false≢true (sym (g.out (get_or es at d).start (omega arith) within) ∙
      covers_at es at (get_or es at d).start d lt (in_from (get_or es at d) (get_or es at d).start (omega arith) (omega arith))))
  | inr past ↦ past
]

ends_apart : (es : List Extent) (at start : ℕ) (e : Extent) → at ≤ length es
    → ((k : ℕ) → at ≡ suc k → (get_or es k e).start + (get_or es k e).length ≡ start → start % 1024 ≡ 0)
    → end_of 0 (take at es) ≡ start → end_of 0 (take at es) % 1024 ≡ 0
unfolding end_of
ends_apart es zero start e le free same = refl
ends_apart es (suc k) start e le free same =
    let t = end_of-take 0 es k e (omega arith) in
    let z = free k refl (omega arith) in
    omega arith

-- an extent that begins here and is not to join the one before
stands : (es : List Extent) (size at start n length' : ℕ) (e : Extent) → Gap es size at start n
    → ((k : ℕ) → at ≡ suc k → (get_or es k e).start + (get_or es k e).length ≡ start → start % 1024 ≡ 0)
    → 0 < length' → start / 1024 ≡ (start + length' - 1) / 1024 → Follows (end_of 0 (take at es)) (extent start length')
stands es size at start n length' e g free some unit = record {
  after = gap_before es size at start n g;
  apart = ends_apart es at start e g.place free;
  not_empty = some;
  one_unit = unit;
}

-- the extents from the place on follow an extent that is not to join them
pub rest_stands : (es : List Extent) (size at start n : ℕ) (e : Extent) → Gap es size at start n
    → (at < length es → start + n ≡ (get_or es at e).start → (get_or es at e).start % 1024 ≡ 0) → InOrder (start + n) (drop at es) size
rest_stands es size at start n e g free =
    order_from (end_of 0 (take at es)) (start + n) (drop at es) size (order_drop 0 es size at g.order g.place)
    (begins_at (start + n) es size at e g.within
    (λ lt. (gap_after es size at start n e g lt, λ same. let z = free lt same in omega arith)))

-- the extent before the place, grown over one that it joins
grown_left : (es : List Extent) (size k start n more : ℕ) → Gap es size (suc k) start n
    → joins_left es (suc k) (extent start n) ≡ true → 0 < more → start / 1024 ≡ (start + more - 1) / 1024
    → Follows (end_of 0 (take k es)) (merged (get_or es k (extent start n)) (extent start more))
grown_left es size k start n more g l some unit =
    let e = extent start n in
    let lt : k < length es = let p = g.place in omega arith in
    let j = joins_left_gives es k e l in
    let here = (order_at 0 es size k e g.order lt).0 in
    record {
      after = here.after;
      apart = here.apart;
      not_empty = let h = here.not_empty in omega arith;
      one_unit = spans (get_or es k e) here.not_empty here.one_unit j.0 j.1;
    }
  where
    spans : (a : Extent) → 0 < a.length → a.start / 1024 ≡ (a.start + a.length - 1) / 1024 → a.start + a.length ≡ start → (start % 1024 ≡ 0 → ⊥)
        → a.start / 1024 ≡ (a.start + (a.length + more) - 1) / 1024
    spans a h u touch inside = omega arith

-- an extent that joins the one at the place, in one unit with it
spans_right : (es : List Extent) (size at start n : ℕ) → Gap es size at start n → joins_right es at (extent start n) ≡ true
    → start / 1024 ≡ (start + (n + (get_or es at (extent start n)).length) - 1) / 1024
spans_right es size at start n g r =
    let e = extent start n in
    let j = joins_right_gives es at e r in
    let a = get_or es at e in
    let l = lies_at 0 es size at e g.order j.0 in
    spans a l.not_empty l.one_unit j.1 j.2 g.some g.one_unit
  where
    spans : (a : Extent) → 0 < a.length → a.start / 1024 ≡ (a.start + a.length - 1) / 1024 → start + n ≡ a.start → (a.start % 1024 ≡ 0 → ⊥)
        → 0 < n → start / 1024 ≡ (start + n - 1) / 1024 → start / 1024 ≡ (start + (n + a.length) - 1) / 1024
    spans a h u touch inside some unit = omega arith

put_order : (before after : Bool) (es : List Extent) (size at start n : ℕ) → Gap es size at start n
    → joins_left es at (extent start n) ≡ before → joins_right es at (extent start n) ≡ after
    → InOrder 0 (put_in before after es at (extent start n)) size
put_order false false es size at start n g l r =
    let e = extent start n in
    insert_order 0 es size at e g.order g.place
    (stands es size at start n n e g (λ k is touch. joins_left_not es k e (subst (λ (i : ℕ). joins_left es i e ≡ false) is l) touch) g.some g.one_unit)
    (rest_stands es size at start n e g (λ lt same. joins_right_not es at e r lt same))
put_order false true es size at start n g l r =
    let e = extent start n in
    let j = joins_right_gives es at e r in
    let a = get_or es at e in
    let some = g.some in
    set_order 0 es size at (merged e a) g.order j.0
    (stands es size at start n (n + a.length) e g (λ k is touch. joins_left_not es k e (subst (λ (i : ℕ). joins_left es i e ≡ false) is l) touch) (omega arith)
    (spans_right es size at start n g r))
    (subst (λ (m : ℕ). InOrder m (drop (suc at) es) size) (let t = j.1 in omega arith) (order_at 0 es size at e g.order j.0).1)
put_order true false es size zero start n g l r = absurd (false≢true l)
put_order true false es size (suc k) start n g l r =
    let e = extent start n in
    let j = joins_left_gives es k e l in
    let same : k ≡ suc k - 1 = omega arith in
    subst (λ (i : ℕ). InOrder 0 (set es i (merged (get_or es i e) e)) size) same
    (set_order 0 es size k (merged (get_or es k e) e) g.order (let p = g.place in omega arith)
    (grown_left es size k start n n g l g.some g.one_unit)
    (subst (λ (m : ℕ). InOrder m (drop (suc k) es) size) (let t = j.0 in omega arith)
    (rest_stands es size (suc k) start n e g (λ lt same'. joins_right_not es (suc k) e r lt same'))))
put_order true true es size zero start n g l r = absurd (false≢true l)
put_order true true es size (suc k) start n g l r =
    let e = extent start n in
    let i = joins_left_gives es k e l in
    let j = joins_right_gives es (suc k) e r in
    let a = get_or es (suc k) e in
    let some = g.some in
    let same : k ≡ suc k - 1 = omega arith in
    subst (λ (i' : ℕ). InOrder 0 (remove (set es i' (merged (get_or es i' e) (merged e a))) (suc k)) size) same
    (joined_order 0 es size k (merged (get_or es k e) (merged e a)) g.order j.0
    (grown_left es size k start n (n + a.length) g l (omega arith) (spans_right es size (suc k) start n g r))
    (subst (λ (m : ℕ). InOrder m (drop (suc (suc k)) es) size) (let t = i.0 in let u = j.1 in omega arith)
    (order_at 0 es size (suc k) e g.order j.0).1))

put_covers : (before after : Bool) (es : List Extent) (size at start n b : ℕ) → Gap es size at start n
    → joins_left es at (extent start n) ≡ before → joins_right es at (extent start n) ≡ after
    → covers (put_in before after es at (extent start n)) b ≡ (is_in (extent start n) b || covers es b)
put_covers false false es size at start n b g l r = insert_covers es at b (extent start n)
put_covers false true es size at start n b g l r =
    let e = extent start n in
    let j = joins_right_gives es at e r in
    grown_covers es at b e e (merged e (get_or es at e)) j.0 (merged_in e (get_or es at e) b j.1)
put_covers true false es size zero start n b g l r = absurd (false≢true l)
put_covers true false es size (suc k) start n b g l r =
    let e = extent start n in
    let j = joins_left_gives es k e l in
    let same : k ≡ suc k - 1 = omega arith in
    subst (λ (i : ℕ). covers (set es i (merged (get_or es i e) e)) b ≡ (is_in e b || covers es b)) same
    (grown_covers es k b e e (merged (get_or es k e) e) (let p = g.place in omega arith)
    (merged_in (get_or es k e) e b j.0 ∙ or_comm (is_in (get_or es k e) b) (is_in e b)))
put_covers true true es size zero start n b g l r = absurd (false≢true l)
put_covers true true es size (suc k) start n b g l r =
    let e = extent start n in
    let i = joins_left_gives es k e l in
    let j = joins_right_gives es (suc k) e r in
    let a = get_or es (suc k) e in
    let same : k ≡ suc k - 1 = omega arith in
    subst (λ (i' : ℕ). covers (remove (set es i' (merged (get_or es i' e) (merged e a))) (suc k)) b ≡ (is_in e b || covers es b)) same
    (joined_covers es k b e e (merged (get_or es k e) (merged e a)) j.0
    (merged_in (get_or es k e) (merged e a) b i.0 ∙
    ap (λ (t : Bool). is_in (get_or es k e) b || t) (merged_in e a b j.1) ∙
    or_swap (is_in (get_or es k e) b) (is_in e b) (is_in a b)))

pub put_in_order : (es : List Extent) (size at start n : ℕ) → Gap es size at start n
    → InOrder 0 (put_in (joins_left es at (record { start = start; length = n })) (joins_right es at (record { start = start; length = n })) es at
    (record { start = start; length = n })) size
put_in_order es size at start n g =
    put_order (joins_left es at (extent start n)) (joins_right es at (extent start n)) es size at start n g refl refl

pub put_in_is_marked : (es : List Extent) (size at start n : ℕ) → Gap es size at start n
    → free_blocks size (put_in (joins_left es at (record { start = start; length = n })) (joins_right es at (record { start = start; length = n })) es at
    (record { start = start; length = n }))
    ≡ marked (free_blocks size es) start n true
put_in_is_marked es size at start n g =
    let e = extent start n in
    let fs = put_in (joins_left es at e) (joins_right es at e) es at e in
    free_blocks_marked size es fs start n true g.within
    (λ b low high.
    put_covers (joins_left es at e) (joins_right es at e) es size at start n b g refl refl ∙
    or_left (is_in e b) (covers es b) (in_from e b low high))
    (λ b side.
    put_covers (joins_left es at e) (joins_right es at e) es size at start n b g refl refl ∙
    ap (λ (t : Bool). t || covers es b) (away b side))
  where
    away : (b : ℕ) → (b < start) ⊎ (start + n ≤ b) → is_in (extent start n) b ≡ false
    away b (inl below) = in_below (extent start n) b below
    away b (inr above) = in_above (extent start n) b above
