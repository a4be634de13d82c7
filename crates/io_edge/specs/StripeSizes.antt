-- Why the image of a pair has 512 bytes for each block.
use Rattle.std.specs.Prelude.{◌≡◌, ◌<◌, ◌≤◌, ◌+◌, ◌*◌, ℕ, zero, suc, List, length, drop, Option, Some, None}
use Rattle.std.proofs.Common.{arith, refl, sym, ap, ◌∙◌, length-append}
use Rattle.std.proofs.lemmas.List.{length-take-le, length-drop}
use Rattle.std.proofs.lemmas.Option.{same_Some}
use Rattle.vm_facts.specs.SwapImages.{SwapImage}
use Rattle.io_edge.specs.Striping.{device_of, place_of, of_device, pair_blocks, block_at, first_blocks, images_paired, pair_image}

-- each block of the pair is within its device
pub zero_has : (block even_size odd_size : ℕ) → block < pair_blocks even_size odd_size → device_of block ≡ 0 → place_of block < even_size
unfolding pair_blocks device_of place_of
zero_has block even_size odd_size within even = omega arith

-- each block of the pair that is on device 1 is within that
pub one_has : (block even_size odd_size other : ℕ) → block < pair_blocks even_size odd_size → device_of block ≡ suc other → place_of block < odd_size
unfolding pair_blocks device_of place_of
one_has block even_size odd_size other within odd = omega arith

-- each block of the pair is within its device's image
abbrev pub HasBlocks : ℕ → List ℕ → List ℕ → Type 0
HasBlocks blocks evens odds = (device block : ℕ) → device_of block ≡ device → block < blocks → 512 * place_of block + 512 ≤ length (of_device device evens odds)

-- whole images of two devices of these sizes have each block of the pair
pub has_blocks : (even_size odd_size : ℕ) (evens odds : List ℕ) → length evens ≡ 512 * even_size → length odds ≡ 512 * odd_size
    → HasBlocks (pair_blocks even_size odd_size) evens odds
has_blocks even_size odd_size evens odds even_long odd_long zero block on within = omega (arith, zero_has block even_size odd_size within on)
has_blocks even_size odd_size evens odds even_long odd_long (suc other) block on within = omega (arith, one_has block even_size odd_size other within on)

-- a block as the pair has it
abbrev pub pair_block : ℕ → List ℕ → List ℕ → List ℕ
pair_block block evens odds = block_at (of_device (device_of block) evens odds) (place_of block)

length-block_at : (image : List ℕ) (block : ℕ) → 512 * block + 512 ≤ length image → length (block_at image block) ≡ 512
unfolding block_at
length-block_at image block within = length-take-le 512 (drop (512 * block) image) (omega (arith, length-drop (512 * block) image))

-- a block of the pair has 512 bytes
pub length-pair_block : (blocks block : ℕ) (evens odds : List ℕ) → HasBlocks blocks evens odds → block < blocks → length (pair_block block evens odds) ≡ 512
length-pair_block blocks block evens odds has within =
    length-block_at (of_device (device_of block) evens odds) (place_of block) (has (device_of block) block refl within)

-- the length of a pair's image
pub length-first_blocks : (blocks : ℕ) (evens odds : List ℕ) → HasBlocks blocks evens odds → length (first_blocks blocks evens odds) ≡ 512 * blocks
unfolding first_blocks
length-first_blocks zero evens odds has = refl
length-first_blocks (suc block) evens odds has =
    let before = length-first_blocks block evens odds (λ device lower on below. has device lower on (omega arith)) in
    let last = length-pair_block (suc block) block evens odds has (omega arith) in
    omega (arith, length-append (first_blocks block evens odds) (pair_block block evens odds), before, last)

-- told images have each block of the pair
abbrev pub TellBlocks : ℕ → Option SwapImage → Option SwapImage → Type 0
TellBlocks blocks evens odds = (even odd : SwapImage) → evens ≡ Some even → odds ≡ Some odd → HasBlocks blocks even.bytes odd.bytes

-- devices that tell whole images tell each block of the pair
pub tell_blocks : (even_size odd_size : ℕ) (evens odds : Option SwapImage)
    → ((image : SwapImage) → evens ≡ Some image → length image.bytes ≡ 512 * even_size)
    → ((image : SwapImage) → odds ≡ Some image → length image.bytes ≡ 512 * odd_size) → TellBlocks (pair_blocks even_size odd_size) evens odds
tell_blocks even_size odd_size evens odds even_whole odd_whole even odd even_told odd_told =
    has_blocks even_size odd_size even.bytes odd.bytes (even_whole even even_told) (odd_whole odd odd_told)

-- a told image of the pair has 512 bytes for each block
pub pair_whole : (blocks : ℕ) (evens odds : Option SwapImage) (image : SwapImage) → TellBlocks blocks evens odds
    → pair_image blocks evens odds ≡ Some image → length image.bytes ≡ 512 * blocks
pair_whole blocks None odds image tell told = cc
pair_whole blocks (Some evens) None image tell told = cc
pair_whole blocks (Some evens) (Some odds) image tell told =
    ap (λ (paired : SwapImage). length paired.bytes) (sym (same_Some (images_paired blocks evens odds) image told))
    ∙ length-first_blocks blocks evens.bytes odds.bytes (tell evens odds refl refl)
