-- Maps of spaces, of which one has other sizes.
use Rattle.std.proofs.Common.{◌≡◌, ℕ, zero, suc, ◌<◌, List, [], ◌∷◌, length, set, get_or, refl, ap, arith}
use Rattle.space_map.specs.Space.{Places}
use Rattle.kernel_tables.specs.Rising.{sids_of}
use Rattle.kernel_tables.specs.Sizes.{with_sizes, with_sizes_at}

-- All spaces.

pub sizes_set : (ss : List Places) (i d s : ℕ) (x : Places) → i < length ss → set ss i (with_sizes d s (get_or ss i x)) ≡ with_sizes_at ss i d s
sizes_set [] i d s x l = absurd (omega arith)
sizes_set (y ∷ ys) zero d s x l = refl
sizes_set (y ∷ ys) (suc i) d s x l = ap (λ (zs : List Places). y ∷ zs) (sizes_set ys i d s x (omega arith))

-- a space that keeps its number
pub number_kept : (ss : List Places) (i : ℕ) (d x : Places) → i < length ss → x.sid ≡ (get_or ss i d).sid → sids_of (set ss i x) ≡ sids_of ss
number_kept [] i d x l e = refl
number_kept (y ∷ ys) zero d x l e = ap (λ (n : ℕ). n ∷ sids_of ys) e
number_kept (y ∷ ys) (suc i) d x l e = ap (λ (ns : List ℕ). y.sid ∷ ns) (number_kept ys i d x (omega arith) e)

pub sizes_sids : (ss : List Places) (i d s : ℕ) → sids_of (with_sizes_at ss i d s) ≡ sids_of ss
sizes_sids [] i d s = refl
sizes_sids (x ∷ xs) zero d s = refl
sizes_sids (x ∷ xs) (suc i) d s = ap (λ (ns : List ℕ). x.sid ∷ ns) (sizes_sids xs i d s)
