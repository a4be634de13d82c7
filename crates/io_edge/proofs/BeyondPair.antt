-- A page that is written through a pair leaves what its device has beyond the pair's blocks.
use Rattle.std.proofs.Common.{◌≡◌, ◌≤◌, ◌+◌, ◌-◌, ◌*◌, ◌/◌, ◌%◌, ℕ, zero, suc, List, ◌++◌, take, drop, length, Option, Some, None, refl, ap, ◌∙◌, arith, length-append}
use Rattle.std.proofs.lemmas.List.{length-take-le}
use Rattle.std.proofs.lemmas.Slice.{drop-append-drop}
use Rattle.io_edge.specs.declared.Moved.{Moved}
use Rattle.io_edge.specs.declared.Moved.TheVariants.{Done, Failed}
use Rattle.io_edge.specs.SwapImage.{ReadsPage, WritesPage, LeavesPage}
use Rattle.io_edge.specs.Striping.{device_of, place_of, of_device, zero_needs, one_needs, bytes_beyond, KeepsBeyond}
use Rattle.vm_facts.specs.Swap.{put_blocks}
use Rattle.vm_facts.specs.SwapImages.{SwapImage}

-- The pages of a pair lie within the blocks that it needs of their device.

zero_within : (device block blocks : ℕ) → device_of blocks ≡ device → block % 2 ≡ 0 → block + 2 ≤ blocks → device_of block ≡ 0
    → place_of block + 2 ≤ (blocks / 1024 - blocks / 1024 / 2) * 1024 + of_device device (blocks % 1024) 0
unfolding device_of place_of
zero_within zero block blocks on even within first = omega arith
zero_within (suc _) block blocks on even within first = omega arith

pub within_zero : (block blocks : ℕ) → block % 2 ≡ 0 → block + 2 ≤ blocks → device_of block ≡ 0 → place_of block + 2 ≤ zero_needs blocks
unfolding zero_needs
within_zero block blocks even within first = zero_within (device_of blocks) block blocks refl even within first

one_within : (device block blocks : ℕ) → device_of blocks ≡ device → block % 2 ≡ 0 → block + 2 ≤ blocks → device_of block ≡ 1
    → place_of block + 2 ≤ blocks / 1024 / 2 * 1024 + of_device device 0 (blocks % 1024)
unfolding device_of place_of
one_within zero block blocks on even within second = omega arith
one_within (suc _) block blocks on even within second = omega arith

pub within_one : (block blocks : ℕ) → block % 2 ≡ 0 → block + 2 ≤ blocks → device_of block ≡ 1 → place_of block + 2 ≤ one_needs blocks
unfolding one_needs
within_one block blocks even within second = one_within (device_of blocks) block blocks refl even within second

-- What lies beyond a page that is written stays.

dropped : (place blocks : ℕ) (bytes image : List ℕ) → place + 2 ≤ blocks → 512 * place + 1024 ≤ length image → length bytes ≡ 1024
    → drop (512 * blocks) (put_blocks image place bytes) ≡ drop (512 * blocks) image
unfolding put_blocks
dropped place blocks bytes image within inside whole =
    drop-append-drop (512 * place + 1024) image (take (512 * place) image ++ bytes) (512 * blocks) (omega arith)
    (length-append (take (512 * place) image) bytes ∙ omega (arith, length-take-le (512 * place) image, whole))

writes_beyond : (place blocks size : ℕ) (old new : Option SwapImage) (bytes : List ℕ)
    → ((image : SwapImage) → old ≡ Some image → length image.bytes ≡ 512 * size)
    → place + 2 ≤ size → place + 2 ≤ blocks → length bytes ≡ 1024 → WritesPage old place bytes new → KeepsBeyond blocks old new
writes_beyond place blocks size None new bytes long inside within whole written = ap (bytes_beyond blocks) written
writes_beyond place blocks size (Some image) new bytes long inside within whole written =
    ap (bytes_beyond blocks) written ∙ ap (λ (rest : List ℕ). Some rest) (dropped place blocks bytes image.bytes within (omega (arith, long image refl, inside)) whole)

pub leaves_beyond : (moved : Moved) (place blocks size : ℕ) (old new : Option SwapImage) (bytes : List ℕ)
    → ((image : SwapImage) → old ≡ Some image → length image.bytes ≡ 512 * size)
    → place + 2 ≤ size → place + 2 ≤ blocks → length bytes ≡ 1024 → LeavesPage moved old place bytes new → KeepsBeyond blocks old new
leaves_beyond Done place blocks size old new bytes long inside within whole left = writes_beyond place blocks size old new bytes long inside within whole left.0
leaves_beyond Failed place blocks size old new bytes long inside within whole left =
    let spoiled = left.1 in writes_beyond place blocks size old new spoiled.0 long inside within spoiled.1 spoiled.2

-- a page that is read leaves all bytes
pub reads_beyond : (place blocks : ℕ) (old new : Option SwapImage) → ReadsPage old place new → KeepsBeyond blocks old new
reads_beyond place blocks None new asked = ap (bytes_beyond blocks) asked
reads_beyond place blocks (Some image) new asked = ap (bytes_beyond blocks) asked
