-- Bytes that lie together in a memory, and may be read or written at once.
use Rattle.std.specs.Prelude.{◌≡◌, ℕ, ◌+◌, ◌-◌, ◌%◌, ◌^◌, ◌<◌, List, length, slice_index}
use Rattle.vm_facts.specs.Answers.{Answers}
use Rattle.vm_facts.specs.declared.memory.ByteRead.TheVariants.{Is}
use Rattle.vm_facts.specs.declared.memory.MayWrite.TheVariants.{May}

-- each of these bytes is read at its place from an address on
abbrev pub AreAhead : Answers → ℕ → List ℕ → Type 0
AreAhead memory address bytes =
    (i : ℕ) → i < length bytes → memory.read ((address + i) % 2 ^ 32) ≡ Is (slice_index bytes i)

-- so many bytes from the address on may be written
abbrev pub MayAhead : Answers → ℕ → ℕ → Type 0
MayAhead memory address count = (i : ℕ) → i < count → memory.may_write ((address + i) % 2 ^ 32) ≡ May

-- so many bytes just below the address may be written
abbrev pub MayBelow : Answers → ℕ → ℕ → Type 0
MayBelow memory address count = (i : ℕ) → i < count → memory.may_write ((address + (2 ^ 32 - (i + 1))) % 2 ^ 32) ≡ May
