-- The image of a pair of devices, block by block.
use Rattle.std.proofs.Common.{◌≡◌, ◌≤◌, ◌<◌, ◌+◌, ◌-◌, ◌*◌, ◌/◌, ◌%◌, inl, inr, ℕ, zero, suc, List, ◌++◌, length, ap, subst, sym, refl, ◌∙◌, arith, length-append, append_assoc, add-one}
use Rattle.std.proofs.Math.Nat.{le_refl, eq-or-lt_of_le}
use Rattle.vm_facts.specs.Swap.{blocks_at}
use Rattle.io_edge.specs.Striping.{device_of, place_of, of_device, zero_needs, one_needs, pair_blocks, IsLargestSwap, block_at, first_blocks}
use Rattle.io_edge.specs.StripeSizes.{HasBlocks, pair_block, length-pair_block, length-first_blocks}
use Rattle.io_edge.proofs.Pages.{part-append, page_blocks, blocks_at_last}

-- the two blocks of a page lie side by side on one device
pub device_of-next : (block : ℕ) → block % 2 ≡ 0 → device_of (suc block) ≡ device_of block
unfolding device_of
device_of-next block even = omega arith

pub place_of-next : (block : ℕ) → block % 2 ≡ 0 → place_of (suc block) ≡ place_of block + 1
unfolding place_of
place_of-next block even = omega arith

-- on one device the places are in the order of the blocks
pub place_of-rises : (a b : ℕ) → a < b → device_of a ≡ device_of b → place_of a < place_of b
unfolding place_of device_of
place_of-rises a b before same = omega arith

-- a page begins at an even place
pub place_of-even : (block : ℕ) → block % 2 ≡ 0 → place_of block % 2 ≡ 0
unfolding place_of
place_of-even block even = omega arith

-- the number of blocks is the largest whose needs are met
zero_met : (device blocks even_size odd_size : ℕ) → device_of blocks ≡ device → blocks ≤ pair_blocks even_size odd_size
    → (blocks / 1024 - blocks / 1024 / 2) * 1024 + of_device device (blocks % 1024) 0 ≤ even_size
unfolding pair_blocks device_of
zero_met zero blocks even_size odd_size on within = omega arith
zero_met (suc _) blocks even_size odd_size on within = omega arith

one_met : (device blocks even_size odd_size : ℕ) → device_of blocks ≡ device → blocks ≤ pair_blocks even_size odd_size
    → blocks / 1024 / 2 * 1024 + of_device device 0 (blocks % 1024) ≤ odd_size
unfolding pair_blocks device_of
one_met zero blocks even_size odd_size on within = omega arith
one_met (suc _) blocks even_size odd_size on within = omega arith

within_pair : (device more even_size odd_size : ℕ) → device_of more ≡ device → more ≤ 131072
    → (more / 1024 - more / 1024 / 2) * 1024 + of_device device (more % 1024) 0 ≤ even_size
    → more / 1024 / 2 * 1024 + of_device device 0 (more % 1024) ≤ odd_size → more ≤ pair_blocks even_size odd_size
unfolding pair_blocks device_of
within_pair zero more even_size odd_size on most zero_fits one_fits = omega arith
within_pair (suc _) more even_size odd_size on most zero_fits one_fits = omega arith

most : (even_size odd_size : ℕ) → pair_blocks even_size odd_size ≤ 131072
unfolding pair_blocks
most even_size odd_size = omega arith

pub largest_swap : (even_size odd_size : ℕ) → IsLargestSwap even_size odd_size (pair_blocks even_size odd_size)
unfolding zero_needs one_needs
largest_swap even_size odd_size =
    let blocks = pair_blocks even_size odd_size in (
      most even_size odd_size,
      (zero_met (device_of blocks) blocks even_size odd_size refl (le_refl blocks), one_met (device_of blocks) blocks even_size odd_size refl (le_refl blocks)),
      λ more bounded needs. within_pair (device_of more) more even_size odd_size refl bounded needs.0 needs.1,
    )

-- the two blocks of a page are a page of its device
pair_page : (block : ℕ) (evens odds : List ℕ) → block % 2 ≡ 0
    → pair_block block evens odds ++ pair_block (suc block) evens odds ≡ blocks_at (of_device (device_of block) evens odds) (place_of block)
pair_page block evens odds even =
    let image = of_device (device_of block) evens odds in
    let next : place_of (suc block) ≡ suc (place_of block) = place_of-next block even ∙ add-one (place_of block) in
    ap (λ (device : ℕ). pair_block block evens odds ++ block_at (of_device device evens odds) (place_of (suc block))) (device_of-next block even)
    ∙ ap (λ (place : ℕ). pair_block block evens odds ++ block_at image place) next
    ∙ sym (page_blocks image (place_of block))

-- the last page of a pair
pub last_page : (block : ℕ) (evens odds : List ℕ) → block % 2 ≡ 0
    → first_blocks (suc (suc block)) evens odds ≡ first_blocks block evens odds ++ blocks_at (of_device (device_of block) evens odds) (place_of block)
unfolding first_blocks
last_page block evens odds even =
    append_assoc (first_blocks block evens odds) (pair_block block evens odds) (pair_block (suc block) evens odds)
    ∙ ap (λ (page : List ℕ). first_blocks block evens odds ++ page) (pair_page block evens odds even)

pub length-last_page : (block : ℕ) (evens odds : List ℕ) → block % 2 ≡ 0 → HasBlocks (suc (suc block)) evens odds
    → length (blocks_at (of_device (device_of block) evens odds) (place_of block)) ≡ 1024
length-last_page block evens odds even has =
    omega (
      arith,
      ap length (pair_page block evens odds even),
      length-append (pair_block block evens odds) (pair_block (suc block) evens
          odds),
      length-pair_block (suc (suc block)) block evens odds has,
      length-pair_block (suc (suc block)) (suc block) evens odds has,
    )

pub fewer : (blocks last : ℕ) (evens odds : List ℕ) → last ≤ blocks → HasBlocks blocks evens odds → HasBlocks last evens odds
fewer blocks last evens odds below has device block on within = has device block on (omega arith)

-- the page of a pair is the page of its device
page_of_last : (block : ℕ) (evens odds : List ℕ) → block % 2 ≡ 0 → HasBlocks (suc (suc block)) evens odds
    → blocks_at (first_blocks (suc (suc block)) evens odds) block ≡ blocks_at (of_device (device_of block) evens odds) (place_of block)
page_of_last block evens odds even has =
    let page = blocks_at (of_device (device_of block) evens odds) (place_of block) in
    ap (λ (image : List ℕ). blocks_at image block) (last_page block evens odds even)
    ∙ blocks_at_last block (first_blocks block evens odds) page (length-first_blocks block evens odds (fewer (suc (suc block)) block evens odds (omega arith) has))
    (length-last_page block evens odds even has)

pub page_of_pair : (blocks block : ℕ) (evens odds : List ℕ) → block % 2 ≡ 0 → suc (suc block) ≤ blocks → HasBlocks blocks evens odds
    → blocks_at (first_blocks blocks evens odds) block ≡ blocks_at (of_device (device_of block) evens odds) (place_of block)
unfolding first_blocks blocks_at
page_of_pair zero block evens odds even within has = absurd (omega arith)
page_of_pair (suc last) block evens odds even within has =
    elim (eq-or-lt_of_le within) [
      | inl ends ↦ subst (λ (blocks : ℕ). blocks_at (first_blocks blocks evens odds) block ≡ blocks_at (of_device (device_of block) evens odds) (place_of block)) ends
          (page_of_last block evens odds even (fewer (suc last) (suc (suc block)) evens odds within has))
      | inr below ↦
          let has_front = fewer (suc last) last evens odds (omega arith) has in
          part-append (512 * block) 1024 (first_blocks last evens odds) (pair_block last evens odds) (omega (arith, length-first_blocks last evens odds has_front))
          ∙ page_of_pair last block evens odds even (omega arith) has_front
    ]
