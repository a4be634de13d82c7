-- Taking the front of the first extent that is large enough.
use Rattle.std.proofs.Common.{◌≡◌, ℕ, suc, ◌+◌, ◌-◌, ◌<◌, ◌≤◌, Bool, false, nat_le, nat_lt, List, length, get_or, set, drop, Some, None, sym, ap, ◌∙◌, subst, arith, inl, inr, ◌⊎◌}
use Rattle.std.specs.Prelude.{remove, position, ◌==◌}
use Rattle.std.specs.List.{position_or_len}
use Rattle.std.proofs.lemmas.Bool.{cases_Bool, leb-true, ltb-false, eqb-true, eqb-false, cond-true}
use Rattle.std.proofs.lemmas.List.Quantifiers.{position-Some}
use Rattle.std.proofs.lemmas.List.Sums.{fails_before_first}
use Rattle.resource_map.specs.declared.Extent.{Extent}
use Rattle.resource_map.specs.Blocks.{is_free_block, marked}
use Rattle.resource_map.specs.Room.{lowest_room}
use Rattle.resource_map.specs.Extents.{is_in, covers, free_blocks, InOrder, cut_front}
use Rattle.resource_map.proofs.RoomLaws.{HasRoom, lowest_room_is, lowest_room_none}
use Rattle.resource_map.proofs.BlockLaws.{length-free_blocks, is_free-free_blocks, free_blocks_marked}
use Rattle.resource_map.proofs.ExtentLaws.{in_from, in_low, in_high, in_below, in_above, covers_at, InOne, run_in_one, lies_at, lowest_at, all_short, order_at, set_order, remove_order, remove_covers_in, remove_covers_out, set_covers_in, set_covers_out, same_tests}

pub position-None : {X : Type 0} (p : X → Bool) (xs : List X) (k : ℕ) (d : X) → position p xs ≡ None → k < length xs → p (get_or xs k d) ≡ false
position-None p xs k d none lt = elim (cases_Bool (nat_lt (position_or_len p xs) (length xs))) [
  | inl found ↦ let e = sym none ∙ cond-true (nat_lt (position_or_len p xs) (length xs)) (Some (position_or_len p xs)) None found in cc
  | inr past ↦ fails_before_first p xs k d (omega (arith, ltb-false (position_or_len p xs) (length xs) past))
]

-- where n blocks have room, they lie in one extent
pub room_in_one : (size : ℕ) (es : List Extent) (n t : ℕ) → InOrder 0 es size → 0 < n → HasRoom (is_free_block (free_blocks size es)) size n t → InOne es t n
room_in_one size es n t h some room =
    run_in_one 0 es size t n h some room.one_unit
    (λ b low high. sym (is_free-free_blocks size es b (let w = room.within in omega arith)) ∙ room.free b low high)

-- the extent at a place has room at its start
pub room_at : (size : ℕ) (es : List Extent) (n at : ℕ) (d : Extent) → InOrder 0 es size → 0 < n → at < length es → n ≤ (get_or es at d).length
    → HasRoom (is_free_block (free_blocks size es)) size n (get_or es at d).start
room_at size es n at d h some lt fits =
    let l = lies_at 0 es size at d h lt in
    let w = l.within in let u = l.one_unit in
    record {
      within = omega arith;
      one_unit = omega arith;
      free = λ b low high.
          is_free-free_blocks size es b (omega arith) ∙
          covers_at es at b d lt (in_from (get_or es at d) b low (omega arith));
    }

pub first_fit_is : (size : ℕ) (es : List Extent) (n at : ℕ) (d : Extent) → InOrder 0 es size → 0 < n → position (λ e. nat_le n e.length) es ≡ Some at
    → lowest_room (is_free_block (free_blocks size es)) (length (free_blocks size es)) n ≡ Some (get_or es at d).start
first_fit_is size es n at d h some found =
    let p = position-Some (λ e. nat_le n e.length) es at d found in
    let fits = leb-true n (get_or es at d).length p.1 in
    ap (λ (m : ℕ). lowest_room (is_free_block (free_blocks size es)) m n) (length-free_blocks size es) ∙
    lowest_room_is (is_free_block (free_blocks size es)) size n (get_or es at d).start some (room_at size es n at d h some p.0 fits)
    (λ t room. lowest_at 0 es size at n t d h p.0 p.2 (room_in_one size es n t h some room))

pub no_fit : (size : ℕ) (es : List Extent) (n : ℕ) (d : Extent) → InOrder 0 es size → 0 < n → position (λ e. nat_le n e.length) es ≡ None
    → lowest_room (is_free_block (free_blocks size es)) (length (free_blocks size es)) n ≡ None
no_fit size es n d h some none =
    ap (λ (m : ℕ). lowest_room (is_free_block (free_blocks size es)) m n) (length-free_blocks size es) ∙
    lowest_room_none (is_free_block (free_blocks size es)) size n
    (λ t room. all_short es n t d (λ k lt. position-None (λ e. nat_le n e.length) es k d none lt) (room_in_one size es n t h some room))

-- what holds of the extents without one, and of those with a shorter one, holds of the extents with a front cut off
cut_cases : (P : List Extent → Type 0) (es : List Extent) (at n : ℕ) (e : Extent) → n ≤ e.length
    → (e.length ≡ n → P (remove es at))
    → (n < e.length → P (set es at (record { start = e.start + n; length = e.length - n })))
    → P (cut_front es at n e (e.length == n))
cut_cases P es at n e fits whole part = elim (cases_Bool (e.length == n)) [
  | inl same ↦ subst (λ (b : Bool). P (cut_front es at n e b)) (sym same) (whole (eqb-true e.length n same))
  | inr other ↦ subst (λ (b : Bool). P (cut_front es at n e b)) (sym other) (part (more (eqb-false e.length n other)))
]
  where
    more : (e.length ≡ n → ⊥) → n < e.length
    more ne = omega arith

pub cut_order : (from : ℕ) (es : List Extent) (size at n : ℕ) (d : Extent) → InOrder from es size → at < length es → 0 < n → n ≤ (get_or es at d).length
    → InOrder from (cut_front es at n (get_or es at d) ((get_or es at d).length == n)) size
cut_order from es size at n d h lt some fits =
    let e = get_or es at d in
    let here = order_at from es size at d h lt in
    cut_cases (λ fs. InOrder from fs size) es at n e fits
    (λ whole. remove_order from es size at h lt)
    (λ part.
    set_order from es size at (record { start = e.start + n; length = e.length - n }) h lt
    (let a = here.0.after in let u = here.0.one_unit in
    record { after = omega arith; apart = λ same. absurd (omega arith); not_empty = omega arith; one_unit = omega arith })
    (subst (λ (m : ℕ). InOrder m (drop (suc at) es) size) (omega arith) here.1))

pub cut_covers_in : (from : ℕ) (es : List Extent) (size at n b : ℕ) (d : Extent) → InOrder from es size → at < length es → n ≤ (get_or es at d).length
    → (get_or es at d).start ≤ b → b < (get_or es at d).start + n
    → covers (cut_front es at n (get_or es at d) ((get_or es at d).length == n)) b ≡ false
cut_covers_in from es size at n b d h lt fits low high =
    let e = get_or es at d in
    let i = in_from e b low (omega arith) in
    cut_cases (λ fs. covers fs b ≡ false) es at n e fits
    (λ whole. remove_covers_in from es size at b d h lt i)
    (λ part. set_covers_in from es size at b d (record { start = e.start + n; length = e.length - n }) h lt i
    (in_below (record { start = e.start + n; length = e.length - n }) b high))

pub cut_covers_out : (es : List Extent) (at n b : ℕ) (d : Extent) → at < length es → n ≤ (get_or es at d).length
    → (b < (get_or es at d).start) ⊎ ((get_or es at d).start + n ≤ b)
    → covers (cut_front es at n (get_or es at d) ((get_or es at d).length == n)) b ≡ covers es b
cut_covers_out es at n b d lt fits side =
    let e = get_or es at d in
    cut_cases (λ fs. covers fs b ≡ covers es b) es at n e fits
    (λ whole. remove_covers_out es at b d lt (away e whole side))
    (λ part. set_covers_out es at b d (record { start = e.start + n; length = e.length - n }) lt
    (same_tests (is_in (record { start = e.start + n; length = e.length - n }) b) (is_in e b)
    (λ i.
    let low = in_low (record { start = e.start + n; length = e.length - n }) b i in
    let high = in_high (record { start = e.start + n; length = e.length - n }) b i in
    in_from e b (omega arith) (omega arith))
    (λ i. in_from (record { start = e.start + n; length = e.length - n }) b (above e (in_low e b i) side) (let high = in_high e b i in omega arith))))
  where
    away : (e : Extent) → e.length ≡ n → (b < e.start) ⊎ (e.start + n ≤ b) → is_in e b ≡ false
    away e whole (inl below) = in_below e b below
    away e whole (inr above) = in_above e b (omega arith)

    above : (e : Extent) → e.start ≤ b → (b < e.start) ⊎ (e.start + n ≤ b) → e.start + n ≤ b
    above e low (inl below) = absurd (omega arith)
    above e low (inr high) = high

pub cut_is_marked : (size : ℕ) (es : List Extent) (at n : ℕ) (d : Extent) → InOrder 0 es size → at < length es → n ≤ (get_or es at d).length
    → free_blocks size (cut_front es at n (get_or es at d) ((get_or es at d).length == n)) ≡ marked (free_blocks size es) (get_or es at d).start n false
cut_is_marked size es at n d h lt fits =
    let l = lies_at 0 es size at d h lt in
    let w = l.within in
    free_blocks_marked size es (cut_front es at n (get_or es at d) ((get_or es at d).length == n)) (get_or es at d).start n false (omega arith)
    (λ b low high. cut_covers_in 0 es size at n b d h lt fits low high)
    (λ b side. cut_covers_out es at n b d lt fits side)
