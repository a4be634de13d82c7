-- The bytes of a swap file, where they are told, and the device that it makes.
use Rattle.std.specs.Prelude.{◌≡◌, ◌≤◌, ◌+◌, ◌*◌, ℕ, Bool, true, false, List, [], ◌++◌, length, take, drop, Option, Some, None, ⊤}
use Rattle.std.specs.Option.{ForSome}
use Rattle.vm_facts.specs.SwapImages.{SwapImage, unnoted}
use Rattle.io_edge.specs.Zeros.{with_zeros}

-- the file is empty, where its bytes are told, as they may have to be
abbrev pub IsEmptied : Bool → Option (List ℕ) → Type 0
IsEmptied false None = ⊤
IsEmptied false (Some bytes) = bytes ≡ []
IsEmptied true None = ⊥
IsEmptied true (Some bytes) = bytes ≡ []

-- where the bytes are told, they are no more than so many
abbrev pub IsWithin : ℕ → Option (List ℕ) → Type 0
IsWithin size told = ForSome told (λ bytes. length bytes ≤ size)

-- the device of so many blocks that has the bytes of its file and then zeros, where they have to be told
abbrev pub file_image : Bool → ℕ → Option (List ℕ) → Option SwapImage
file_image false blocks bytes = None
file_image true blocks None = None
file_image true blocks (Some bytes) = Some (unnoted (with_zeros (512 * blocks) bytes))

-- the same of a file that may not have been opened so far: then it has no bytes
abbrev pub image_of : {F : Type 0} → (F → Option (List ℕ)) → Bool → ℕ → Option F → Option SwapImage
image_of bytes told blocks None = file_image told blocks (Some [])
image_of bytes told blocks (Some file) = file_image told blocks (bytes file)

-- bytes with a piece over them, which ends within them
abbrev pub put_over : List ℕ → ℕ → List ℕ → List ℕ
put_over bytes offset piece = take offset bytes ++ piece ++ drop (offset + length piece) bytes

-- a piece was written over the device from this block on; it stays told, or untold
abbrev pub OverImage : Option SwapImage → ℕ → List ℕ → Option SwapImage → Type 0
OverImage None block piece new = new ≡ None
OverImage (Some image) block piece new = new ≡ Some (unnoted (put_over image.bytes (512 * block) piece))

-- a first part of a piece was, or nothing
abbrev pub PartOverImage : Option SwapImage → ℕ → List ℕ → Option SwapImage → Type 0
PartOverImage old block piece new = (count : ℕ) × (count ≤ length piece) × OverImage old block (take count piece) new
