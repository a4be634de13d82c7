-- Lists that end in zeros which aren't kept.
use Rattle.std.specs.Prelude.{◌≡◌, ◌≤◌, ◌-◌, ℕ, List, ◌++◌, length, replicate}
use Rattle.std.proofs.Common.{arith, length-append}
use Rattle.std.proofs.lemmas.List.{length-replicate}

-- these bytes and then zeros, so many together
unfoldable pub with_zeros : ℕ → List ℕ → List ℕ
with_zeros size bytes = bytes ++ replicate (size - length bytes) 0

-- with the zeros after them, bytes that are no more than that are as many as is asked
pub length-with_zeros : (size : ℕ) (bytes : List ℕ) → length bytes ≤ size → length (with_zeros size bytes) ≡ size
unfolding with_zeros
length-with_zeros size bytes within =
    let zeros : List ℕ = replicate (size - length bytes) 0 in
    let many : length zeros ≡ size - length bytes = length-replicate (size - length bytes) 0 in
    omega (arith, within, length-append bytes zeros, many)
