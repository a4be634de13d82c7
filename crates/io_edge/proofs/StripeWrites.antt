-- A page that is written to a pair of devices.
use Rattle.std.proofs.Common.{◌≡◌, ◌≤◌, ◌<◌, ◌+◌, ◌*◌, ◌%◌, ◌⊎◌, inl, inr, ℕ, zero, suc, List, ◌∷◌, ◌++◌, length, Option, Some, None, ap, subst, sym, refl, ◌∙◌, arith}
use Rattle.std.proofs.Math.Nat.{eq-or-lt_of_le}
use Rattle.io_edge.specs.SwapImage.{bytes_told, HoldsPage, ReadsPage, WritesPage}
use Rattle.vm_facts.specs.Swap.{blocks_at, put_blocks}
use Rattle.vm_facts.specs.SwapImages.{StoreRequest, SwapRead, SwapWrite, Noted, Both, SwapImage, with_request}
use Rattle.io_edge.specs.Striping.{device_of, place_of, of_device, block_at, first_blocks, pair_blocks, block_asked, placed, asked_of_zero, asked_of_one, images_paired, pair_image}
use Rattle.vm_facts.proofs.Swap.{blocks_at-put_blocks_same}
use Rattle.io_edge.proofs.Pages.{put_blocks-append, put_blocks_last, block_at-put_blocks_other}
use Rattle.io_edge.specs.StripeSizes.{zero_has, one_has, HasBlocks, TellBlocks, length-first_blocks}
use Rattle.io_edge.proofs.Stripes.{fewer, last_page, length-last_page, page_of_pair, place_of-rises, place_of-next, device_of-next}

-- the blocks other than those of a page are the same on each device
abbrev OthersSame : ℕ → ℕ → List ℕ → List ℕ → List ℕ → List ℕ → Type 0
OthersSame blocks block evens odds evens' odds' = (device other : ℕ) → device_of other ≡ device → other < blocks → (other < block) ⊎ (suc block < other)
    → block_at (of_device device evens' odds') (place_of other) ≡ block_at (of_device device evens odds) (place_of other)

-- the blocks before a page
front_same : (blocks count block : ℕ) (evens odds evens' odds' : List ℕ) → count ≤ block → count ≤ blocks
    → OthersSame blocks block evens odds evens' odds' → first_blocks count evens' odds' ≡ first_blocks count evens odds
unfolding first_blocks
front_same blocks zero block evens odds evens' odds' before within others = refl
front_same blocks (suc last) block evens odds evens' odds' before within others =
    ap (λ (front : List ℕ). front ++ block_at (of_device (device_of last) evens' odds') (place_of last)) (front_same blocks last block evens odds evens' odds' (omega arith) (omega arith) others)
    ∙ ap (λ (back : List ℕ). first_blocks last evens odds ++ back) (others (device_of last) last refl (omega arith) (inl (omega arith)))

put_last : (block : ℕ) (bytes evens odds evens' odds' : List ℕ) → block % 2 ≡ 0 → HasBlocks (suc (suc block)) evens odds
    → OthersSame (suc (suc block)) block evens odds evens' odds' → blocks_at (of_device (device_of block) evens' odds') (place_of block) ≡ bytes
    → put_blocks (first_blocks (suc (suc block)) evens odds) block bytes ≡ first_blocks (suc (suc block)) evens' odds'
put_last block bytes evens odds evens' odds' even has others written =
    let page = blocks_at (of_device (device_of block) evens odds) (place_of block) in
    ap (λ (image : List ℕ). put_blocks image block bytes) (last_page block evens odds even)
    ∙ put_blocks_last block bytes (first_blocks block evens odds) page (length-first_blocks block evens odds (fewer (suc (suc block)) block evens odds (omega arith) has))
    (length-last_page block evens odds even has)
    ∙ sym (last_page block evens' odds' even
    ∙ ap (λ (front : List ℕ). front ++ blocks_at (of_device (device_of block) evens' odds') (place_of block))
    (front_same (suc (suc block)) block block evens odds evens' odds' (omega arith) (omega arith) others)
    ∙ ap (λ (back : List ℕ). first_blocks block evens odds ++ back) written)

put_of_pair : (blocks block : ℕ) (bytes evens odds evens' odds' : List ℕ) → block % 2 ≡ 0 → suc (suc block) ≤ blocks → HasBlocks blocks evens odds
    → OthersSame blocks block evens odds evens' odds' → blocks_at (of_device (device_of block) evens' odds') (place_of block) ≡ bytes
    → put_blocks (first_blocks blocks evens odds) block bytes ≡ first_blocks blocks evens' odds'
unfolding first_blocks
put_of_pair zero block bytes evens odds evens' odds' even within has others written = absurd (omega arith)
put_of_pair (suc last) block bytes evens odds evens' odds' even within has others written =
    elim (eq-or-lt_of_le within) [
      | inl ends ↦ subst (λ (blocks : ℕ). put_blocks (first_blocks blocks evens odds) block bytes ≡ first_blocks blocks evens' odds') ends
          (put_last block bytes evens odds evens' odds' even (fewer (suc last) (suc (suc block)) evens odds within has)
          (λ device other on below apart. others device other on (omega arith) apart) written)
      | inr below ↦
          let has_front = fewer (suc last) last evens odds (omega arith) has in
          put_blocks-append block bytes (first_blocks last evens odds) (block_at (of_device (device_of last) evens odds) (place_of last)) (omega (arith, length-first_blocks last evens odds has_front))
          ∙ ap (λ (front : List ℕ). front ++ block_at (of_device (device_of last) evens odds) (place_of last))
          (put_of_pair last block bytes evens odds evens' odds' even (omega arith) has_front (λ device other on lower apart. others device other on (omega arith) apart) written)
          ∙ ap (λ (back : List ℕ). first_blocks last evens' odds' ++ back) (sym (others (device_of last) last refl (omega arith) (inr (omega arith))))
    ]

-- on one device, the places of other blocks are apart from those of a page
apart_places : (block other : ℕ) → block % 2 ≡ 0 → device_of other ≡ device_of block → (other < block) ⊎ (suc block < other)
    → (place_of other < place_of block) ⊎ (suc (place_of block) < place_of other)
apart_places block other even same (inl before) = inl (place_of-rises other block before same)
apart_places block other even same (inr behind) =
    inr (omega (arith, place_of-rises (suc block) other behind (device_of-next block even ∙ sym same), place_of-next block even))

-- the page is within its device's image
page_within : (blocks block device : ℕ) (evens odds : List ℕ) → block % 2 ≡ 0 → suc (suc block) ≤ blocks → HasBlocks blocks evens odds
    → device_of block ≡ device → 512 * place_of block + 1024 ≤ length (of_device device evens odds)
page_within blocks block device evens odds even within has on =
    omega (arith, has device (suc block) (device_of-next block even ∙ on) (omega arith), place_of-next block even)

-- a page of an even unit is written on device 0 alone
others_even : (blocks block : ℕ) (bytes evens odds : List ℕ) → block % 2 ≡ 0 → device_of block ≡ 0 → 512 * place_of block + 1024 ≤ length evens
    → length bytes ≡ 1024 → OthersSame blocks block evens odds (put_blocks evens (place_of block) bytes) odds
others_even blocks block bytes evens odds even on within whole zero other other_on below apart =
    block_at-put_blocks_other (place_of block) (place_of other) bytes evens (apart_places block other even (other_on ∙ sym on) apart) within whole
others_even blocks block bytes evens odds even on within whole (suc _) other other_on below apart = refl

put_even : (blocks block : ℕ) (bytes evens odds : List ℕ) → block % 2 ≡ 0 → suc (suc block) ≤ blocks → HasBlocks blocks evens odds
    → length bytes ≡ 1024 → device_of block ≡ 0
    → put_blocks (first_blocks blocks evens odds) block bytes ≡ first_blocks blocks (put_blocks evens (place_of block) bytes) odds
put_even blocks block bytes evens odds even within has whole on =
    let inside : 512 * place_of block + 1024 ≤ length evens = page_within blocks block 0 evens odds even within has on in
    put_of_pair blocks block bytes evens odds (put_blocks evens (place_of block) bytes) odds even within has
    (others_even blocks block bytes evens odds even on inside whole)
    (ap (λ (device : ℕ). blocks_at (of_device device (put_blocks evens (place_of block) bytes) odds) (place_of block)) on
    ∙ blocks_at-put_blocks_same evens bytes (place_of block) inside whole)

-- and one of an odd unit on device 1
odd_same : (a b c d : ℕ) → device_of a ≡ suc c → device_of b ≡ suc d → device_of a ≡ device_of b
unfolding device_of
odd_same a b c d on_one on_one' = omega arith

others_odd : (blocks block unit : ℕ) (bytes evens odds : List ℕ) → block % 2 ≡ 0 → device_of block ≡ suc unit
    → 512 * place_of block + 1024 ≤ length odds → length bytes ≡ 1024
    → OthersSame blocks block evens odds evens (put_blocks odds (place_of block) bytes)
others_odd blocks block unit bytes evens odds even on within whole zero other other_on below apart = refl
others_odd blocks block unit bytes evens odds even on within whole (suc parity) other other_on below apart =
    block_at-put_blocks_other (place_of block) (place_of other) bytes odds (apart_places block other even (odd_same other block parity unit other_on on) apart) within whole

put_odd : (blocks block unit : ℕ) (bytes evens odds : List ℕ) → block % 2 ≡ 0 → suc (suc block) ≤ blocks → HasBlocks blocks evens odds
    → length bytes ≡ 1024 → device_of block ≡ suc unit
    → put_blocks (first_blocks blocks evens odds) block bytes ≡ first_blocks blocks evens (put_blocks odds (place_of block) bytes)
put_odd blocks block unit bytes evens odds even within has whole on =
    let inside : 512 * place_of block + 1024 ≤ length odds = page_within blocks block (suc unit) evens odds even within has on in
    put_of_pair blocks block bytes evens odds evens (put_blocks odds (place_of block) bytes) even within has
    (others_odd blocks block unit bytes evens odds even on inside whole)
    (ap (λ (device : ℕ). blocks_at (of_device device evens (put_blocks odds (place_of block) bytes)) (place_of block)) on
    ∙ blocks_at-put_blocks_same odds bytes (place_of block) inside whole)

-- a page that was read from a pair
pub holds_even : (blocks block : ℕ) (evens odds : Option SwapImage) (bytes : List ℕ) → block % 2 ≡ 0 → suc (suc block) ≤ blocks
    → TellBlocks blocks evens odds → device_of block ≡ 0 → HoldsPage (bytes_told evens) (place_of block) bytes
    → HoldsPage (bytes_told (pair_image blocks evens odds)) block bytes
holds_even blocks block None odds bytes even within tell on held = tt
holds_even blocks block (Some evens) None bytes even within tell on held = tt
holds_even blocks block (Some evens) (Some odds) bytes even within tell on held =
    held
    ∙ sym (page_of_pair blocks block evens.bytes odds.bytes even within (tell evens odds refl refl)
    ∙ ap (λ (device : ℕ). blocks_at (of_device device evens.bytes odds.bytes) (place_of block)) on)

pub holds_odd : (blocks block unit : ℕ) (evens odds : Option SwapImage) (bytes : List ℕ) → block % 2 ≡ 0 → suc (suc block) ≤ blocks
    → TellBlocks blocks evens odds → device_of block ≡ suc unit → HoldsPage (bytes_told odds) (place_of block) bytes
    → HoldsPage (bytes_told (pair_image blocks evens odds)) block bytes
holds_odd blocks block unit None odds bytes even within tell on held = tt
holds_odd blocks block unit (Some evens) None bytes even within tell on held = tt
holds_odd blocks block unit (Some evens) (Some odds) bytes even within tell on held =
    held
    ∙ sym (page_of_pair blocks block evens.bytes odds.bytes even within (tell evens odds refl refl)
    ∙ ap (λ (device : ℕ). blocks_at (of_device device evens.bytes odds.bytes) (place_of block)) on)

-- What the devices note of a request that is made of their pair.

-- by the device that gets it
abbrev either_noted : SwapImage → SwapImage → StoreRequest → ℕ → List StoreRequest → Noted
either_noted evens odds r device more =
    Both (evens.noted (of_device device (placed r ∷ asked_of_zero more) (asked_of_zero more)))
    (odds.noted (of_device device (asked_of_one more) (placed r ∷ asked_of_one more)))

-- on device 0
noted_even : (evens odds : SwapImage) (r : StoreRequest) → device_of (block_asked r) ≡ 0
    → with_request r (images_paired 0 evens odds) ≡ images_paired 0 (with_request (placed r) evens) odds
noted_even evens odds r on =
    ap (λ (device : ℕ). record (images_paired 0 evens odds) { noted = either_noted evens odds r device }) on

-- on device 1
noted_odd : (evens odds : SwapImage) (r : StoreRequest) (unit : ℕ) → device_of (block_asked r) ≡ suc unit
    → with_request r (images_paired 0 evens odds) ≡ images_paired 0 evens (with_request (placed r) odds)
noted_odd evens odds r unit on =
    ap (λ (device : ℕ). record (images_paired 0 evens odds) { noted = either_noted evens odds r device }) on

-- a page that was asked of a pair
pub asks_even : (blocks block : ℕ) (evens odds new : Option SwapImage) → device_of block ≡ 0 → ReadsPage evens (place_of block) new
    → ReadsPage (pair_image blocks evens odds) block (pair_image blocks new odds)
asks_even blocks block None odds new on asked = ap (λ (image : Option SwapImage). pair_image blocks image odds) asked
asks_even blocks block (Some evens) None new on asked = ap (λ (image : Option SwapImage). pair_image blocks image None) asked
asks_even blocks block (Some evens) (Some odds) new on asked =
    ap (λ (image : Option SwapImage). pair_image blocks image (Some odds)) asked
    ∙ ap (λ (image : SwapImage). Some (record image { bytes = first_blocks blocks evens.bytes odds.bytes })) (sym (noted_even evens odds (SwapRead block) on))

pub asks_odd : (blocks block unit : ℕ) (evens odds new : Option SwapImage) → device_of block ≡ suc unit → ReadsPage odds (place_of block) new
    → ReadsPage (pair_image blocks evens odds) block (pair_image blocks evens new)
asks_odd blocks block unit None odds new on asked = refl
asks_odd blocks block unit (Some evens) None new on asked = ap (λ (image : Option SwapImage). pair_image blocks (Some evens) image) asked
asks_odd blocks block unit (Some evens) (Some odds) new on asked =
    ap (λ (image : Option SwapImage). pair_image blocks (Some evens) image) asked
    ∙ ap (λ (image : SwapImage). Some (record image { bytes = first_blocks blocks evens.bytes odds.bytes })) (sym (noted_odd evens odds (SwapRead block) unit on))

-- a page that was written to a pair
pub writes_even : (blocks block : ℕ) (evens odds new : Option SwapImage) (bytes : List ℕ) → block % 2 ≡ 0 → suc (suc block) ≤ blocks
    → TellBlocks blocks evens odds → length bytes ≡ 1024 → device_of block ≡ 0 → WritesPage evens (place_of block) bytes new
    → WritesPage (pair_image blocks evens odds) block bytes (pair_image blocks new odds)
writes_even blocks block None odds new bytes even within tell whole on written = ap (λ (image : Option SwapImage). pair_image blocks image odds) written
writes_even blocks block (Some evens) None new bytes even within tell whole on written = ap (λ (image : Option SwapImage). pair_image blocks image None) written
writes_even blocks block (Some evens) (Some odds) new bytes even within tell whole on written =
    ap (λ (image : Option SwapImage). pair_image blocks image (Some odds)) written
    ∙ ap (λ (image : SwapImage). Some (record image { bytes = first_blocks blocks (put_blocks evens.bytes (place_of block) bytes) odds.bytes }))
    (sym (noted_even evens odds (SwapWrite block) on))
    ∙ ap (λ (all : List ℕ). Some (with_request (SwapWrite block) (record (images_paired blocks evens odds) { bytes = all })))
    (sym (put_even blocks block bytes evens.bytes odds.bytes even within (tell evens odds refl refl) whole on))

pub writes_odd : (blocks block unit : ℕ) (evens odds new : Option SwapImage) (bytes : List ℕ) → block % 2 ≡ 0 → suc (suc block) ≤ blocks
    → TellBlocks blocks evens odds → length bytes ≡ 1024 → device_of block ≡ suc unit → WritesPage odds (place_of block) bytes new
    → WritesPage (pair_image blocks evens odds) block bytes (pair_image blocks evens new)
writes_odd blocks block unit None odds new bytes even within tell whole on written = refl
writes_odd blocks block unit (Some evens) None new bytes even within tell whole on written = ap (λ (image : Option SwapImage). pair_image blocks (Some evens) image) written
writes_odd blocks block unit (Some evens) (Some odds) new bytes even within tell whole on written =
    ap (λ (image : Option SwapImage). pair_image blocks (Some evens) image) written
    ∙ ap (λ (image : SwapImage). Some (record image { bytes = first_blocks blocks evens.bytes (put_blocks odds.bytes (place_of block) bytes) }))
    (sym (noted_odd evens odds (SwapWrite block) unit on))
    ∙ ap (λ (all : List ℕ). Some (with_request (SwapWrite block) (record (images_paired blocks evens odds) { bytes = all })))
    (sym (put_odd blocks block unit bytes evens.bytes odds.bytes even within (tell evens odds refl refl) whole on))

-- where a page lies
pub not_even : (block : ℕ) → (device_of block ≡ 0 → ⊥) → device_of block ≡ 1
unfolding device_of
not_even block other = omega (arith, other)

pub inside_even : (block even_size odd_size : ℕ) → block % 2 ≡ 0 → block + 2 ≤ pair_blocks even_size odd_size → device_of block ≡ 0
    → place_of block + 2 ≤ even_size
inside_even block even_size odd_size even within on =
    omega (arith, zero_has (suc block) even_size odd_size (omega arith) (device_of-next block even ∙ on), place_of-next block even)

pub inside_odd : (block even_size odd_size : ℕ) → block % 2 ≡ 0 → block + 2 ≤ pair_blocks even_size odd_size → device_of block ≡ 1
    → place_of block + 2 ≤ odd_size
inside_odd block even_size odd_size even within on =
    omega (arith, one_has (suc block) even_size odd_size 0 (omega arith) (device_of-next block even ∙ on), place_of-next block even)
