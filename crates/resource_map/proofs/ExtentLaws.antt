-- Extents in order, and the blocks that they cover.
use Rattle.std.proofs.Common.{◌≡◌, ℕ, zero, suc, ◌+◌, ◌-◌, ◌/◌, ◌%◌, ◌<◌, ◌≤◌, Bool, true, false, ◌||◌, nat_le, nat_lt, List, [], ◌∷◌, ◌++◌, length, get_or, set, take, drop, refl, sym, ap, ◌∙◌, subst, arith, inl, inr, ◌⊎◌}
use Rattle.std.specs.Prelude.{remove}
use Rattle.std.proofs.lemmas.Bool.{cases_lt, le-leb, leb-true, lt-ltb, ltb-true, and_from, and_parts, or_cases, or_left, or_right, or_from, false≢true, false_from_ne_true}
use Rattle.resource_map.specs.declared.Extent.{Extent}
use Rattle.resource_map.specs.Extents.{is_in, covers, Follows, InOrder}

-- ---- one extent

pub in_from : (e : Extent) (b : ℕ) → e.start ≤ b → b < e.start + e.length → is_in e b ≡ true
unfolding is_in
in_from e b low high = and_from (nat_le e.start b) (nat_lt b (e.start + e.length)) (le-leb e.start b low) (lt-ltb b (e.start + e.length) high)

pub in_low : (e : Extent) (b : ℕ) → is_in e b ≡ true → e.start ≤ b
unfolding is_in
in_low e b h = leb-true e.start b (and_parts (nat_le e.start b) (nat_lt b (e.start + e.length)) h).0

pub in_high : (e : Extent) (b : ℕ) → is_in e b ≡ true → b < e.start + e.length
unfolding is_in
in_high e b h = ltb-true b (e.start + e.length) (and_parts (nat_le e.start b) (nat_lt b (e.start + e.length)) h).1

pub in_below : (e : Extent) (b : ℕ) → b < e.start → is_in e b ≡ false
in_below e b h = false_from_ne_true (is_in e b) (λ i. let l = in_low e b i in omega arith)

pub in_above : (e : Extent) (b : ℕ) → e.start + e.length ≤ b → is_in e b ≡ false
in_above e b h = false_from_ne_true (is_in e b) (λ i. let l = in_high e b i in omega arith)

-- ---- extents in order

pub order_within : (from : ℕ) (es : List Extent) (size : ℕ) → InOrder from es size → from ≤ size
order_within from [] size h = h
order_within from (e ∷ es) size h =
    let r = order_within (e.start + e.length) es size h.1 in let f = h.0.after in omega arith

pub covers_low : (from : ℕ) (es : List Extent) (size b : ℕ) → InOrder from es size → covers es b ≡ true → from ≤ b
unfolding covers
covers_low from [] size b h c = absurd (false≢true c)
covers_low from (e ∷ es) size b h c = elim (or_cases (is_in e b) (covers es b) c) [
  | inl here ↦ let l = in_low e b here in let f = h.0.after in omega arith
  | inr later ↦ let l = covers_low (e.start + e.length) es size b h.1 later in let f = h.0.after in omega arith
]

pub covers_before : (from : ℕ) (es : List Extent) (size b : ℕ) → InOrder from es size → b < from → covers es b ≡ false
covers_before from es size b h lt = false_from_ne_true (covers es b) (λ c. let l = covers_low from es size b h c in omega arith)

-- extents cover the block where they may begin only at a unit's start
pub covers_first : (from : ℕ) (es : List Extent) (size : ℕ) → InOrder from es size → covers es from ≡ true → from % 1024 ≡ 0
unfolding covers
covers_first from [] size h c = absurd (false≢true c)
covers_first from (e ∷ es) size h c = elim (or_cases (is_in e from) (covers es from) c) [
  | inl here ↦ let l = in_low e from here in let f = h.0.after in h.0.apart (omega arith)
  | inr later ↦
      let l = covers_low (e.start + e.length) es size from h.1 later in
      let f = h.0.after in let n = h.0.not_empty in absurd (omega arith)
]

-- ---- a run of covered blocks in one unit lies in one extent

abbrev pub InOne : List Extent → ℕ → ℕ → Type 0
InOne [] s n = ⊥
InOne (e ∷ es) s n = ((e.start ≤ s) × (s + n ≤ e.start + e.length)) ⊎ InOne es s n

pub in_one_low : (from : ℕ) (es : List Extent) (size s n : ℕ) → InOrder from es size → InOne es s n → from ≤ s
in_one_low from [] size s n h i = absurd i
in_one_low from (e ∷ es) size s n h (inl here) = let f = h.0.after in let l = here.0 in omega arith
in_one_low from (e ∷ es) size s n h (inr later) =
    let l = in_one_low (e.start + e.length) es size s n h.1 later in let f = h.0.after in omega arith

pub run_in_one : (from : ℕ) (es : List Extent) (size s n : ℕ) → InOrder from es size → 0 < n → s / 1024 ≡ (s + n - 1) / 1024
    → ((b : ℕ) → s ≤ b → b < s + n → covers es b ≡ true) → InOne es s n
unfolding covers
run_in_one from [] size s n h some unit all = absurd (false≢true (all s (omega arith) (omega arith)))
run_in_one from (e ∷ es) size s n h some unit all = elim (or_cases (is_in e s) (covers es s) (all s (omega arith) (omega arith))) [
  | inl here ↦
      let low = in_low e s here in
      let high = in_high e s here in
      elim (cases_lt (e.start + e.length) (s + n)) [
        | inl past ↦
            let end = e.start + e.length in
            let c : covers es end ≡ true = elim (or_cases (is_in e end) (covers es end) (all end (omega arith) (omega arith))) [
              | inl inside ↦ let l = in_high e end inside in absurd (omega arith)
              | inr later ↦ later
            ] in
            let u = covers_first end es size h.1 c in
            absurd (omega arith)
        | inr within ↦ inl (low, within)
      ]
  | inr later ↦
      let low = covers_low (e.start + e.length) es size s h.1 later in
      inr (run_in_one (e.start + e.length) es size s n h.1 some unit
      (λ b from' below. elim (or_cases (is_in e b) (covers es b) (all b from' below)) [
        | inl inside ↦ let l = in_high e b inside in absurd (omega arith)
        | inr there ↦ there
      ]))
]

-- ---- the extent at a place

pub record Lies (from size : ℕ) (e : Extent) : Type 0 where
  pub after : from ≤ e.start
  pub not_empty : 0 < e.length
  pub one_unit : e.start / 1024 ≡ (e.start + e.length - 1) / 1024
  pub within : e.start + e.length ≤ size

pub lies_at : (from : ℕ) (es : List Extent) (size k : ℕ) (d : Extent) → InOrder from es size → k < length es → Lies from size (get_or es k d)
lies_at from [] size k d h lt = absurd (omega arith)
lies_at from (e ∷ es) size zero d h lt = record {
  after = h.0.after;
  not_empty = h.0.not_empty;
  one_unit = h.0.one_unit;
  within = order_within (e.start + e.length) es size h.1;
}
lies_at from (e ∷ es) size (suc k) d h lt =
    let l = lies_at (e.start + e.length) es size k d h.1 (omega arith) in
    let a = l.after in let f = h.0.after in
    record { after = omega arith; not_empty = l.not_empty; one_unit = l.one_unit; within = l.within }

pub covers_at : (es : List Extent) (k b : ℕ) (d : Extent) → k < length es → is_in (get_or es k d) b ≡ true → covers es b ≡ true
unfolding covers
covers_at [] k b d lt i = absurd (omega arith)
covers_at (e ∷ es) zero b d lt i = or_left (is_in e b) (covers es b) i
covers_at (e ∷ es) (suc k) b d lt i = or_right (is_in e b) (covers es b) (covers_at es k b d (omega arith) i)

-- no extent before a place has n blocks: then no n blocks lie in one extent lower than that place
pub lowest_at : (from : ℕ) (es : List Extent) (size at n s : ℕ) (d : Extent) → InOrder from es size → at < length es
    → ((k : ℕ) → k < at → nat_le n (get_or es k d).length ≡ false) → InOne es s n → (get_or es at d).start ≤ s
lowest_at from [] size at n s d h lt short i = absurd i
lowest_at from (e ∷ es) size zero n s d h lt short (inl here) = here.0
lowest_at from (e ∷ es) size zero n s d h lt short (inr later) =
    let l = in_one_low (e.start + e.length) es size s n h.1 later in omega arith
lowest_at from (e ∷ es) size (suc at) n s d h lt short (inl here) =
    let b = here.1 in let a = here.0 in
    absurd (false≢true (sym (short 0 (omega arith)) ∙ le-leb n e.length (omega arith)))
lowest_at from (e ∷ es) size (suc at) n s d h lt short (inr later) =
    lowest_at (e.start + e.length) es size at n s d h.1 (omega arith) (λ k b. short (suc k) (omega arith)) later

pub all_short : (es : List Extent) (n s : ℕ) (d : Extent) → ((k : ℕ) → k < length es → nat_le n (get_or es k d).length ≡ false) → InOne es s n → ⊥
all_short [] n s d short i = i
all_short (e ∷ es) n s d short (inl here) =
    let b = here.1 in let a = here.0 in
    false≢true (sym (short 0 (omega arith)) ∙ le-leb n e.length (omega arith))
all_short (e ∷ es) n s d short (inr later) = all_short es n s d (λ k b. short (suc k) (omega arith)) later

-- ---- changes of one place

-- where the last of some extents ends, or `from` where there is none
unfoldable pub end_of : ℕ → List Extent → ℕ
end_of from [] = from
end_of from (e ∷ es) = end_of (e.start + e.length) es

pub order_at : (from : ℕ) (es : List Extent) (size k : ℕ) (d : Extent) → InOrder from es size → k < length es
    → Follows (end_of from (take k es)) (get_or es k d) × InOrder ((get_or es k d).start + (get_or es k d).length) (drop (suc k) es) size
unfolding end_of
order_at from [] size k d h lt = absurd (omega arith)
order_at from (e ∷ es) size zero d h lt = h
order_at from (e ∷ es) size (suc k) d h lt = order_at (e.start + e.length) es size k d h.1 (omega arith)

pub set_order : (from : ℕ) (es : List Extent) (size k : ℕ) (m : Extent) → InOrder from es size → k < length es
    → Follows (end_of from (take k es)) m → InOrder (m.start + m.length) (drop (suc k) es) size → InOrder from (set es k m) size
unfolding end_of
set_order from [] size k m h lt f r = absurd (omega arith)
set_order from (e ∷ es) size zero m h lt f r = (f, r)
set_order from (e ∷ es) size (suc k) m h lt f r = (h.0, set_order (e.start + e.length) es size k m h.1 (omega arith) f r)

pub order_earlier : (m from : ℕ) (es : List Extent) (size : ℕ) → InOrder m es size → from < m → InOrder from es size
order_earlier m from [] size h lt = omega arith
order_earlier m from (e ∷ es) size h lt =
    let f = h.0.after in
    (record { after = omega arith; apart = λ same. absurd (omega arith); not_empty = h.0.not_empty; one_unit = h.0.one_unit }, h.1)

pub remove_order : (from : ℕ) (es : List Extent) (size k : ℕ) → InOrder from es size → k < length es → InOrder from (remove es k) size
remove_order from [] size k h lt = absurd (omega arith)
remove_order from (e ∷ es) size zero h lt =
    let f = h.0.after in let n = h.0.not_empty in order_earlier (e.start + e.length) from es size h.1 (omega arith)
remove_order from (e ∷ es) size (suc k) h lt = (h.0, remove_order (e.start + e.length) es size k h.1 (omega arith))

pub remove_covers_in : (from : ℕ) (es : List Extent) (size k b : ℕ) (d : Extent) → InOrder from es size → k < length es
    → is_in (get_or es k d) b ≡ true → covers (remove es k) b ≡ false
unfolding covers
remove_covers_in from [] size k b d h lt i = absurd (omega arith)
remove_covers_in from (e ∷ es) size zero b d h lt i = covers_before (e.start + e.length) es size b h.1 (in_high e b i)
remove_covers_in from (e ∷ es) size (suc k) b d h lt i =
    let l = lies_at (e.start + e.length) es size k d h.1 (omega arith) in
    let a = l.after in
    let low = in_low (get_or es k d) b i in
    or_from (is_in e b) (covers (remove es k) b) (in_above e b (omega arith)) (remove_covers_in (e.start + e.length) es size k b d h.1 (omega arith) i)

pub remove_covers_out : (es : List Extent) (k b : ℕ) (d : Extent) → k < length es → is_in (get_or es k d) b ≡ false → covers (remove es k) b ≡ covers es b
unfolding covers
remove_covers_out [] k b d lt i = absurd (omega arith)
remove_covers_out (e ∷ es) zero b d lt i = ap (λ (t : Bool). t || covers es b) (sym i)
remove_covers_out (e ∷ es) (suc k) b d lt i = ap (λ (t : Bool). is_in e b || t) (remove_covers_out es k b d (omega arith) i)

pub set_covers_in : (from : ℕ) (es : List Extent) (size k b : ℕ) (d m : Extent) → InOrder from es size → k < length es
    → is_in (get_or es k d) b ≡ true → is_in m b ≡ false → covers (set es k m) b ≡ false
unfolding covers
set_covers_in from [] size k b d m h lt i o = absurd (omega arith)
set_covers_in from (e ∷ es) size zero b d m h lt i o =
    or_from (is_in m b) (covers es b) o (covers_before (e.start + e.length) es size b h.1 (in_high e b i))
set_covers_in from (e ∷ es) size (suc k) b d m h lt i o =
    let l = lies_at (e.start + e.length) es size k d h.1 (omega arith) in
    let a = l.after in
    let low = in_low (get_or es k d) b i in
    or_from (is_in e b) (covers (set es k m) b) (in_above e b (omega arith)) (set_covers_in (e.start + e.length) es size k b d m h.1 (omega arith) i o)

pub set_covers_out : (es : List Extent) (k b : ℕ) (d m : Extent) → k < length es → is_in m b ≡ is_in (get_or es k d) b → covers (set es k m) b ≡ covers es b
unfolding covers
set_covers_out [] k b d m lt same = absurd (omega arith)
set_covers_out (e ∷ es) zero b d m lt same = ap (λ (t : Bool). t || covers es b) same
set_covers_out (e ∷ es) (suc k) b d m lt same = ap (λ (t : Bool). is_in e b || t) (set_covers_out es k b d m (omega arith) same)

pub same_tests : (x y : Bool) → (x ≡ true → y ≡ true) → (y ≡ true → x ≡ true) → x ≡ y
same_tests true y there back = sym (there refl)
same_tests false y there back = sym (false_from_ne_true y (λ e. false≢true (back e)))

-- ---- one more at the end

pub order_push : (from : ℕ) (es : List Extent) (m length' : ℕ) → InOrder from es m → m % 1024 ≡ 0 → 0 < length' → length' ≤ 1024
    → InOrder from (es ++ record { start = m; length = length' } ∷ []) (m + length')
order_push from [] m length' h whole some most =
    (record { after = h; apart = λ same. subst (λ (k : ℕ). k % 1024 ≡ 0) (sym same) whole; not_empty = some; one_unit = omega arith }, omega arith)
order_push from (e ∷ es) m length' h whole some most = (h.0, order_push (e.start + e.length) es m length' h.1 whole some most)

pub covers_push_old : (es : List Extent) (e : Extent) (b : ℕ) → covers es b ≡ true → covers (es ++ e ∷ []) b ≡ true
unfolding covers
covers_push_old [] e b c = absurd (false≢true c)
covers_push_old (x ∷ es) e b c = elim (or_cases (is_in x b) (covers es b) c) [
  | inl here ↦ or_left (is_in x b) (covers (es ++ e ∷ []) b) here
  | inr later ↦ or_right (is_in x b) (covers (es ++ e ∷ []) b) (covers_push_old es e b later)
]

pub covers_push_new : (es : List Extent) (e : Extent) (b : ℕ) → is_in e b ≡ true → covers (es ++ e ∷ []) b ≡ true
unfolding covers
covers_push_new [] e b i = or_left (is_in e b) false i
covers_push_new (x ∷ es) e b i = or_right (is_in x b) (covers (es ++ e ∷ []) b) (covers_push_new es e b i)

pub covers_push : (es : List Extent) (m length' : ℕ) → ((b : ℕ) → b < m → covers es b ≡ true)
    → (b : ℕ) → b < m + length' → covers (es ++ record { start = m; length = length' } ∷ []) b ≡ true
covers_push es m length' all b lt = elim (cases_lt b m) [
  | inl below ↦ covers_push_old es (record { start = m; length = length' }) b (all b below)
  | inr from ↦ covers_push_new es (record { start = m; length = length' }) b (in_from (record { start = m; length = length' }) b from lt)
]
