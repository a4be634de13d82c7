-- A pair of swap devices, striped by units of 1,024 blocks: even units on device 0, odd ones on device 1.
use Rattle.std.specs.Prelude.{◌≡◌, ◌≤◌, ◌<◌, ◌+◌, ◌*◌, ◌/◌, ◌%◌, ◌-◌, min, ℕ, zero, suc, List, [], ◌∷◌, ◌++◌, take, drop, Option, Some, None}
use Rattle.vm_facts.specs.SwapImages.{StoreRequest, SwapRead, SwapWrite, OfFiles, Noted, Both, SwapImage}

-- the number of a device of a pair
abbrev pub IsDevice : ℕ → Type 0
IsDevice device = device < 2

-- the device of a block: 0 or 1
unfoldable pub device_of : ℕ → ℕ
device_of block = block / 1024 % 2

-- the block there
unfoldable pub place_of : ℕ → ℕ
place_of block = block / 1024 / 2 * 1024 + block % 1024

-- the one of two that belongs to a device
abbrev pub of_device : {A : Type 0} → ℕ → A → A → A
of_device zero even odd = even
of_device (suc _) even odd = odd

-- the blocks of device 0 that a swap of so many blocks needs
unfoldable pub zero_needs : ℕ → ℕ
zero_needs blocks = (blocks / 1024 - blocks / 1024 / 2) * 1024 + of_device (device_of blocks) (blocks % 1024) 0

-- the blocks of device 1 that it needs
unfoldable pub one_needs : ℕ → ℕ
one_needs blocks = blocks / 1024 / 2 * 1024 + of_device (device_of blocks) 0 (blocks % 1024)

-- the most blocks that a pair has
abbrev pub most_blocks : ℕ
most_blocks = 131072

-- two devices of these sizes have what a swap of so many blocks needs
abbrev pub MeetsNeeds : ℕ → ℕ → ℕ → Type 0
MeetsNeeds even_size odd_size blocks = (zero_needs blocks ≤ even_size) × (one_needs blocks ≤ odd_size)

-- the largest swap that two devices of these sizes hold
abbrev pub IsLargestSwap : ℕ → ℕ → ℕ → Type 0
IsLargestSwap even_size odd_size blocks =
    (blocks ≤ most_blocks) × MeetsNeeds even_size odd_size blocks
    × ((more : ℕ) → more ≤ most_blocks → MeetsNeeds even_size odd_size more → more ≤ blocks)

-- how many blocks two devices of these sizes make together
unfoldable pub pair_blocks : ℕ → ℕ → ℕ
pair_blocks even_size odd_size = min most_blocks (min (even_size / 1024 * 2048 + even_size % 1024) (1024 + odd_size / 1024 * 2048 + odd_size % 1024))

-- the bytes of a device after so many blocks
abbrev pub bytes_beyond : ℕ → Option SwapImage → Option (List ℕ)
bytes_beyond blocks None = None
bytes_beyond blocks (Some image) = Some (drop (512 * blocks) image.bytes)

-- a device keeps what it has beyond so many blocks
abbrev pub KeepsBeyond : ℕ → Option SwapImage → Option SwapImage → Type 0
KeepsBeyond blocks old new = bytes_beyond blocks new ≡ bytes_beyond blocks old

-- one block of an image
unfoldable pub block_at : List ℕ → ℕ → List ℕ
block_at image block = take 512 (drop (512 * block) image)

-- the first blocks of a pair, each from its device's image
unfoldable pub first_blocks : ℕ → List ℕ → List ℕ → List ℕ
first_blocks zero evens odds = []
first_blocks (suc block) evens odds = first_blocks block evens odds ++ block_at (of_device (device_of block) evens odds) (place_of block)

-- the first block that a request names; one of files names none, and is made of no swap device
abbrev pub block_asked : StoreRequest → ℕ
block_asked (SwapRead block) = block
block_asked (SwapWrite block) = block
block_asked (OfFiles request) = 0

-- the same request of the device that has the block, at its place there
abbrev pub placed : StoreRequest → StoreRequest
placed (SwapRead block) = SwapRead (place_of block)
placed (SwapWrite block) = SwapWrite (place_of block)
placed (OfFiles request) = OfFiles request

-- of the requests made of a pair, those that device 0 gets
abbrev pub asked_of_zero : List StoreRequest → List StoreRequest
asked_of_zero [] = []
asked_of_zero (r ∷ rs) = of_device (device_of (block_asked r)) (placed r ∷ asked_of_zero rs) (asked_of_zero rs)

-- and those that device 1 gets
abbrev pub asked_of_one : List StoreRequest → List StoreRequest
asked_of_one [] = []
asked_of_one (r ∷ rs) = of_device (device_of (block_asked r)) (asked_of_one rs) (placed r ∷ asked_of_one rs)

-- what two devices have noted, once these requests are made of their pair
abbrev pub both_noted : SwapImage → SwapImage → List StoreRequest → Noted
both_noted evens odds more = Both (evens.noted (asked_of_zero more)) (odds.noted (asked_of_one more))

-- the image of a pair of so many blocks
abbrev pub images_paired : ℕ → SwapImage → SwapImage → SwapImage
images_paired blocks evens odds = record { bytes = first_blocks blocks evens.bytes odds.bytes; noted = both_noted evens odds }

-- the same, told where both devices tell theirs
abbrev pub pair_image : ℕ → Option SwapImage → Option SwapImage → Option SwapImage
pair_image blocks None _ = None
pair_image blocks (Some evens) None = None
pair_image blocks (Some evens) (Some odds) = Some (images_paired blocks evens odds)
