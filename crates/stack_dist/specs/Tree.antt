-- A tree of counts: each node has the sum of the two nodes below it.
use Rattle.std.specs.Prelude.{◌≡◌, ℕ, ◌+◌, ◌*◌, ◌%◌, ◌^◌, ◌<◌, ◌≤◌, ◌==◌, if◌then◌else◌, List, [], ◌∷◌, length, drop, replicate, slice_set, slice_index_or}
use Rattle.stack_dist.specs.declared.tree.CountTree.TheInside.{Inside}

-- the sum of a list
unfoldable pub total : List ℕ → ℕ
total [] = 0
total (x ∷ xs) = x + total xs

-- the counts, which are the nodes from `size` on
abbrev pub counts_of : Inside → List ℕ
counts_of a = drop a.size a.sums.items

-- below node k are the nodes 2k and 2k + 1
abbrev pub AreSums : ℕ → List ℕ → Type 0
AreSums size sums = (k : ℕ) → 0 < k → k < size → slice_index_or sums k 0 ≡ slice_index_or sums (2 * k) 0 + slice_index_or sums (2 * k + 1) 0

-- a power of 2
abbrev pub IsPower : ℕ → Type 0
IsPower n = (d : ℕ) × (n ≡ 2 ^ d)

-- the counts are a power of 2 in number, and each node above them has the sum of the two below it
pub record IsTree (a : Inside) : Type 0 where
  pub power : IsPower a.size
  pub some : 1 < a.size
  pub room : length a.sums.items ≡ a.size + a.size
  pub sums : AreSums a.size a.sums.items
  pub fits : total (counts_of a) < 2 ^ 32

-- at least so many counts and at most so many, all 0
pub record AreZeros (least most : ℕ) (counts : List ℕ) : Type 0 where
  pub size : ℕ
  pub enough : least ≤ size
  pub small : size ≤ most
  pub zeros : counts ≡ replicate size 0

-- one count is greater by one
abbrev pub raised : List ℕ → ℕ → List ℕ
raised counts at = slice_set counts at (slice_index_or counts at 0 + 1)

-- the count, or 0 where the number is even
abbrev pub if_odd : ℕ → ℕ → ℕ
if_odd n count = if n % 2 == 1 then count else 0
