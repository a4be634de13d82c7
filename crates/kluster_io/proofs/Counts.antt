-- One more neighbour that passes.
use Rattle.std.proofs.Common.{◌≡◌, ℕ, zero, suc, ◌+◌, ◌-◌, Bool, true, cond, refl, sym, ap, ◌∙◌, arith}
use Rattle.page_model.specs.Runs.{Run, passing_above, passing_below, run_both, run_up}

pub above_more : (passes : ℕ → Bool) (v room n : ℕ) → (room ≡ 0 → ⊥) → passes (v + 1) ≡ true → n ≡ passing_above passes (v + 1) (room - 1)
    → 1 + n ≡ passing_above passes v room
above_more passes v zero n some e h = absurd (some refl)
above_more passes v (suc room) n some e h =
    ap (λ (k : ℕ). 1 + k) (h ∙ ap (passing_above passes (v + 1)) (less room)) ∙ ap (λ (b : Bool). cond b (1 + passing_above passes (v + 1) room) 0) (sym e)
  where
    less : (k : ℕ) → suc k - 1 ≡ k
    less k = omega arith

pub below_more : (passes : ℕ → Bool) (v room n : ℕ) → (v ≡ 0 → ⊥) → (room ≡ 0 → ⊥) → passes (v - 1) ≡ true
    → n ≡ passing_below passes (v - 1) (room - 1) → 1 + n ≡ passing_below passes v room
below_more passes zero room n above some e h = absurd (above refl)
below_more passes (suc v) zero n above some e h = absurd (some refl)
below_more passes (suc v) (suc room) n above some e h =
    ap (λ (k : ℕ). 1 + k) (h ∙ ap (λ (k : ℕ). passing_below passes k (suc room - 1)) (less v) ∙ ap (passing_below passes v) (less room))
    ∙ ap (λ (b : Bool). cond b (1 + passing_below passes v room) 0) (sym (sym (ap passes (less v)) ∙ e))
  where
    less : (k : ℕ) → suc k - 1 ≡ k
    less k = omega arith

-- The run, by the counts.

pub both_is : (passes : ℕ → Bool) (v w most a b : ℕ) → w ≡ v → a ≡ passing_above passes w (most - 1) → b ≡ passing_below passes w (most - 1 - a)
    → run_both passes v most ≡ record { lo = w - b; n = b + 1 + a }
both_is passes v w most a b i e h = ap (λ (x : ℕ). run_both passes x most) (sym i) ∙ ap above (sym e) ∙ ap below (sym h)
  where
    above : ℕ → Run
    above x = record { lo = w - passing_below passes w (most - 1 - x); n = passing_below passes w (most - 1 - x) + 1 + x }

    below : ℕ → Run
    below y = record { lo = w - y; n = y + 1 + a }

pub up_is : (passes : ℕ → Bool) (v w most a : ℕ) → w ≡ v → a ≡ passing_above passes w (most - 1) → run_up passes v most ≡ record { lo = v; n = 1 + a }
up_is passes v w most a i e = ap counted (ap (λ (x : ℕ). passing_above passes x (most - 1)) (sym i) ∙ sym e)
  where
    counted : ℕ → Run
    counted x = record { lo = v; n = 1 + x }
