-- A loop that changes each item in turn.
use Rattle.std.proofs.Common.{◌≡◌, ℕ, zero, suc, ◌<◌, List, [], ◌∷◌, ◌++◌, length, map, take, drop, set, get_or, refl, ap, arith}

pub changed_at : {A : Type 0} (f : A → A) (xs : List A) (i : ℕ) (d : A) → i < length xs
    → set (map f (take i xs) ++ drop i xs) i (f (get_or xs i d)) ≡ map f (take (suc i) xs) ++ drop (suc i) xs
changed_at f [] i d l = absurd (omega arith)
changed_at f (x ∷ xs) zero d l = refl
changed_at f (x ∷ xs) (suc i) d l = ap (λ zs. f x ∷ zs) (changed_at f xs i d (omega arith))

pub still_at : {A : Type 0} (f : A → A) (xs : List A) (i : ℕ) (d : A) → get_or (map f (take i xs) ++ drop i xs) i d ≡ get_or xs i d
still_at f [] zero d = refl
still_at f [] (suc i) d = refl
still_at f (x ∷ xs) zero d = refl
still_at f (x ∷ xs) (suc i) d = still_at f xs i d
