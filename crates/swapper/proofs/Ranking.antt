-- The largest, one after another.
use Rattle.std.proofs.Common.{◌≡◌, ℕ, zero, suc, ◌+◌, ◌<◌, Bool, true, false, cond, List, [], ◌∷◌, length, take, Option, Some, None, refl, sym, ap, ◌∙◌}
use Rattle.page_model.specs.Placement.{Placement}
use Rattle.page_model.specs.Swapper.{Runner, is_larger, ranked_in, ranked}
use Rattle.swapper.specs.declared.largest.Measured.{Measured}
use Rattle.swapper.specs.Runners.{runner_seen, runner_measured, listed_in, moved_on, placed_in, placed_with}
use Rattle.machine_state.proofs.ByNumber.{over, over_none, over_some}

take_less : (n : ℕ) (xs : List Runner) → take n (take (suc n) xs) ≡ take n xs
take_less zero xs = refl
take_less (suc n) [] = refl
take_less (suc n) (x ∷ xs) = ap (λ (ys : List Runner). x ∷ ys) (take_less n xs)

take_more : (n : ℕ) (x : Runner) (xs : List Runner) → take n (x ∷ xs) ≡ take n (x ∷ take n xs)
take_more zero x xs = refl
take_more (suc n) x xs = ap (λ (ys : List Runner). x ∷ ys) (sym (take_less n xs))

-- of more, only the first count
pub take_ranked : (p : Placement) (r : Runner) (n : ℕ) (xs : List Runner) → take n (ranked_in p r xs) ≡ take n (ranked_in p r (take n xs))
take_ranked p r zero xs = refl
take_ranked p r (suc n) [] = refl
take_ranked p r (suc n) (x ∷ xs) = go (is_larger p x r) (take_ranked p r n xs)
  where
    go : (b : Bool) → take n (ranked_in p r xs) ≡ take n (ranked_in p r (take n xs))
        → take (suc n) (cond b (x ∷ ranked_in p r xs) (r ∷ x ∷ xs)) ≡ take (suc n) (cond b (x ∷ ranked_in p r (take n xs)) (r ∷ x ∷ take n xs))
    go true more = ap (λ (ys : List Runner). x ∷ ys) more
    go false more = ap (λ (ys : List Runner). r ∷ ys) (take_more n x xs)

moved_list : (o : Option Measured) (os : List (Option Measured)) → listed_in (moved_on o os) ≡ take (length os) (listed_in (o ∷ os))
moved_list None [] = refl
moved_list (Some x) [] = refl
moved_list None (w ∷ os) = refl
moved_list (Some x) (w ∷ os) = ap (λ (ys : List Runner). runner_seen x.seen ∷ ys) (moved_list w os)

pub placed_list : (p : Placement) (x : Measured) (os : List (Option Measured))
    → listed_in (placed_in p x os) ≡ take (length os) (ranked_in p (runner_seen x.seen) (listed_in os))
placed_list p x [] = refl
placed_list p x (None ∷ os) = ap (λ (ys : List Runner). runner_seen x.seen ∷ ys) (moved_list None os)
placed_list p x (Some y ∷ os) = go (is_larger p (runner_seen y.seen) (runner_seen x.seen)) (placed_list p x os)
  where
    go : (b : Bool) → listed_in (placed_in p x os) ≡ take (length os) (ranked_in p (runner_seen x.seen) (listed_in os))
        → listed_in (cond b (Some y ∷ placed_in p x os) (Some x ∷ moved_on (Some y) os))
        ≡ take (suc (length os)) (cond b (runner_seen y.seen ∷ ranked_in p (runner_seen x.seen) (listed_in os)) (runner_seen x.seen ∷ runner_seen y.seen ∷ listed_in os))
    go true more = ap (λ (ys : List Runner). runner_seen y.seen ∷ ys) more
    go false more = ap (λ (ys : List Runner). runner_seen x.seen ∷ ys) (moved_list (Some y) os)

pub ranked_step : (p : Placement) (o : Option Measured) (os : List (Option Measured)) (g : ℕ → Option Runner) (v w next : ℕ) → length os ≡ 4 → v < next
    → w ≡ v + 1 → runner_measured o ≡ g v
    → listed_in os ≡ take 4 (ranked p (over g w next)) → listed_in (placed_with p o os) ≡ take 4 (ranked p (over g v next))
ranked_step p None os g v w next n l i e h =
    h ∙ ap (λ (k : ℕ). take 4 (ranked p (over g k next))) i ∙ sym (ap (λ (rs : List Runner). take 4 (ranked p rs)) (over_none g v next l (sym e)))
ranked_step p (Some x) os g v w next n l i e h =
    let r = runner_seen x.seen in
    placed_list p x os
    ∙ ap (λ (k : ℕ). take k (ranked_in p r (listed_in os))) n
    ∙ ap (λ (rs : List Runner). take 4 (ranked_in p r rs)) (h ∙ ap (λ (k : ℕ). take 4 (ranked p (over g k next))) i)
    ∙ sym (take_ranked p r 4 (ranked p (over g (v + 1) next)))
    ∙ sym (ap (λ (rs : List Runner). take 4 (ranked p rs)) (over_some g v next r l (sym e)))
