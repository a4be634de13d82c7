-- Reads and writes of lists that end in zeros which aren't kept.
use Rattle.std.proofs.Common.{◌≡◌, ◌≤◌, ◌+◌, ◌-◌, ◌*◌, ℕ, List, [], ◌++◌, length, take, drop, replicate, ap, sym, ◌∙◌, arith, length-append, append_assoc}
use Rattle.std.proofs.lemmas.List.{length-replicate, replicate-append-replicate, take-replicate, drop-replicate}
use Rattle.std.proofs.Math.Seq.{drop-append-add}
use Rattle.vm_facts.specs.Swap.{blocks_at, put_blocks}
use Rattle.vm_facts.proofs.Swap.{length-put_blocks}
use Rattle.io_edge.specs.Zeros.{with_zeros}
use Rattle.io_edge.proofs.Pages.{part-append, put_blocks-append}

-- nothing but zeros
pub none_kept : (size : ℕ) → with_zeros size [] ≡ replicate size 0
unfolding with_zeros
none_kept size = ap (λ (n : ℕ). replicate n 0) (omega arith)

-- more of the zeros are kept
pub more_kept : (size count : ℕ) (bytes : List ℕ) → length bytes + count ≤ size → with_zeros size (bytes ++ replicate count 0) ≡ with_zeros size bytes
unfolding with_zeros
more_kept size count bytes within =
    let kept : length (bytes ++ replicate count 0) ≡ length bytes + count = length-append bytes (replicate count 0) ∙ ap (λ (n : ℕ). length bytes + n) (length-replicate count 0) in
    ap (λ (n : ℕ). (bytes ++ replicate count 0) ++ replicate (size - n) 0) kept
    ∙ append_assoc bytes (replicate count 0) (replicate (size - (length bytes + count)) 0)
    ∙ ap (λ (zeros : List ℕ). bytes ++ zeros) (replicate-append-replicate count (size - (length bytes + count)) 0 ∙ ap (λ (n : ℕ). replicate n 0) (omega (arith, within)))

-- a page that is kept
pub blocks_at-kept : (size block : ℕ) (bytes : List ℕ) → 512 * block + 1024 ≤ length bytes → blocks_at (with_zeros size bytes) block ≡ blocks_at bytes block
unfolding with_zeros blocks_at
blocks_at-kept size block bytes within = part-append (512 * block) 1024 bytes (replicate (size - length bytes) 0) within

-- a page of the zeros
pub blocks_at-zeros : (size block : ℕ) (bytes : List ℕ) → length bytes ≤ 512 * block → 512 * block + 1024 ≤ size
    → blocks_at (with_zeros size bytes) block ≡ replicate 1024 0
unfolding with_zeros blocks_at
blocks_at-zeros size block bytes past within =
    let zeros : List ℕ = replicate (size - length bytes) 0 in
    let behind : 512 * block ≡ length bytes + (512 * block - length bytes) = omega (arith, past) in
    ap (λ (n : ℕ). take 1024 (drop n (bytes ++ zeros))) behind
    ∙ ap (λ (rest : List ℕ). take 1024 rest) (drop-append-add bytes zeros (512 * block - length bytes) ∙ drop-replicate (512 * block - length bytes) (size - length bytes) 0)
    ∙ take-replicate 1024 (size - length bytes - (512 * block - length bytes)) 0 (omega (arith, past, within))

-- a page that is written among what is kept
pub put_blocks-kept : (size block : ℕ) (page bytes : List ℕ) → length page ≡ 1024 → 512 * block + 1024 ≤ length bytes
    → with_zeros size (put_blocks bytes block page) ≡ put_blocks (with_zeros size bytes) block page
unfolding with_zeros
put_blocks-kept size block page bytes whole within =
    ap (λ (n : ℕ). put_blocks bytes block page ++ replicate (size - n) 0) (length-put_blocks bytes page block within whole)
    ∙ sym (put_blocks-append block page bytes (replicate (size - length bytes) 0) within)
