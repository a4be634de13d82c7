-- A run of pages that pass is the widest one, and one upwards the longest.
use Rattle.std.proofs.Common.{◌≡◌, ◌≢◌, ◌⊎◌, inl, inr, ℕ, zero, suc, ◌+◌, ◌-◌, ◌<◌, ◌≤◌, Bool, true, false, cond, refl, sym, ap, ◌∙◌, subst, arith}
use Rattle.page_model.specs.Runs.{passing_above, passing_below, run_both, run_up}
use Rattle.page_laws.specs.Neighbours.{IsWidestRun, IsLongestRun}
use Rattle.page_laws.proofs.Lists.Runs.{below_le, run_both_in, run_up_in, less_by}

-- Where passing stops.

pub above_le : (passes : ℕ → Bool) (v room : ℕ) → passing_above passes v room ≤ room
above_le passes v zero = omega arith
above_le passes v (suc room) = less_by (passes (v + 1)) (passing_above passes (v + 1) room) room (above_le passes (v + 1) room)

pub below_room : (passes : ℕ → Bool) (v room : ℕ) → passing_below passes v room ≤ room
below_room passes zero room = omega arith
below_room passes (suc v) zero = omega arith
below_room passes (suc v) (suc room) = less_by (passes v) (passing_below passes v room) room (below_room passes v room)

above_stops : (passes : ℕ → Bool) (v room : ℕ) → passing_above passes v room < room → passes (v + passing_above passes v room + 1) ≡ false
above_stops passes v zero l = absurd (omega arith)
above_stops passes v (suc room) l = by (passes (v + 1)) refl (above_stops passes (v + 1) room) l
  where
    by : (b : Bool) → passes (v + 1) ≡ b → (passing_above passes (v + 1) room < room → passes (v + 1 + passing_above passes (v + 1) room + 1) ≡ false)
        → cond b (1 + passing_above passes (v + 1) room) 0 < suc room → passes (v + cond b (1 + passing_above passes (v + 1) room) 0 + 1) ≡ false
    by true e ih l =
        let same : v + (1 + passing_above passes (v + 1) room) + 1 ≡ v + 1 + passing_above passes (v + 1) room + 1 = omega arith in
        ap passes same ∙ ih (omega arith)
    by false e ih l = let same : v + 0 + 1 ≡ v + 1 = omega arith in ap passes same ∙ e

below_stops : (passes : ℕ → Bool) (v room : ℕ) → passing_below passes v room < room → passing_below passes v room < v
    → passes (v - passing_below passes v room - 1) ≡ false
below_stops passes zero room l m = absurd (omega arith)
below_stops passes (suc v) zero l m = absurd (omega arith)
below_stops passes (suc v) (suc room) l m = by (passes v) refl (below_stops passes v room) l m
  where
    by : (b : Bool) → passes v ≡ b → (passing_below passes v room < room → passing_below passes v room < v → passes (v - passing_below passes v room - 1) ≡ false)
        → cond b (1 + passing_below passes v room) 0 < suc room → cond b (1 + passing_below passes v room) 0 < suc v → passes (suc v - cond b (1 + passing_below passes v room) 0 - 1) ≡ false
    by true e ih l m =
        let same : suc v - (1 + passing_below passes v room) - 1 ≡ v - passing_below passes v room - 1 = omega arith in
        ap passes same ∙ ih (omega arith) (omega arith)
    by false e ih l m = let same : suc v - 0 - 1 ≡ v = omega arith in ap passes same ∙ e

never : (passes : ℕ → Bool) (Joins : ℕ → Type 0) (w : ℕ) → ((x : ℕ) → Joins x → passes x ≡ true) → passes w ≡ false → Joins w → ⊥
never passes Joins w back e j = let k : true ≡ false = sym (back w j) ∙ e in cc

least_or : (a b : ℕ) → a ≤ b → (a ≡ b) ⊎ (a < b)
least_or a b l = grind arith

passed : (passes : ℕ → Bool) (v w : ℕ) → w ≢ v → (w ≡ v) ⊎ (passes w ≡ true) → passes w ≡ true
passed passes v w n (inl e) = absurd (n e)
passed passes v w n (inr e) = e

pub widest : (passes : ℕ → Bool) (Joins MayBe : ℕ → Type 0) (v most : ℕ) → 0 < most → ((w : ℕ) → passes w ≡ true → Joins w)
    → ((w : ℕ) → Joins w → passes w ≡ true)
    → ((n : ℕ) → 0 < n → n ≤ most → MayBe n) → (MayBe (most + 1) → ⊥) → IsWidestRun Joins MayBe v (run_both passes v most)
widest passes Joins MayBe v most some to back may full =
    let above : ℕ = passing_above passes v (most - 1) in
    let below : ℕ = passing_below passes v (most - 1 - above) in
    let above_few : above ≤ most - 1 = above_le passes v (most - 1) in
    let below_few : below ≤ most - 1 - above = below_room passes v (most - 1 - above) in
    let below_in : below ≤ v = below_le passes v (most - 1 - above) in
    let next : above < most - 1 → Joins (v - below + (below + 1 + above)) → ⊥ = λ l j.
    let c = below_in in
    let same : v - below + (below + 1 + above) ≡ v + above + 1 = omega arith in
    never passes Joins (v + above + 1) back (above_stops passes v (most - 1) l) (subst Joins same j) in
    let a = above_few in let b = below_few in let c = below_in in record {
      has = (omega arith, omega arith);
      joins = λ w l m n. to w (passed passes v w n (run_both_in passes v most w l m));
      may_be = may (below + 1 + above) (omega arith) (omega arith);
      above_first = λ l j. next (omega arith) j;
      whole = elim (least_or (below + 1 + above) most (omega arith)) [
        | inl e ↦ inl (λ m. full (subst (λ (n : ℕ). MayBe (n + 1)) e m))
        | inr l ↦ inr (
          λ j. next (omega arith) j,
          λ m j. absurd (
              let stop : passes (v - below - 1) ≡ false = below_stops passes v (most - 1 - above) (omega arith) (omega arith) in
              never passes Joins (v - below - 1) back stop j),
        )
      ];
    }

pub longest : (passes : ℕ → Bool) (Joins MayBe : ℕ → Type 0) (v most : ℕ) → 0 < most → ((w : ℕ) → passes w ≡ true → Joins w)
    → ((w : ℕ) → Joins w → passes w ≡ true)
    → ((n : ℕ) → 0 < n → n ≤ most → MayBe n) → (MayBe (most + 1) → ⊥) → IsLongestRun Joins MayBe v (run_up passes v most)
longest passes Joins MayBe v most some to back may full =
    let above : ℕ = passing_above passes v (most - 1) in
    let above_few : above ≤ most - 1 = above_le passes v (most - 1) in
    let a = above_few in record {
      from = refl;
      some = omega arith;
      joins = λ w l m. to w (passed passes v w (λ e. absurd (omega arith)) (run_up_in passes v most w (omega arith) m));
      may_be = may (1 + above) (omega arith) (omega arith);
      whole = elim (least_or (1 + above) most (omega arith)) [
        | inl e ↦ inl (λ m. full (subst (λ (n : ℕ). MayBe (n + 1)) e m))
        | inr l ↦ inr (λ j.
            let same : v + (1 + above) ≡ v + above + 1 = omega arith in
            never passes Joins (v + above + 1) back (above_stops passes v (most - 1) (omega arith)) (subst Joins same j))
      ];
    }
