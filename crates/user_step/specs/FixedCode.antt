-- Instructions of a cache that stand in bytes which stay.
use Rattle.std.specs.Prelude.{◌≡◌, ◌≢◌, ℕ, ◌+◌, ◌%◌, ◌^◌, ◌<◌, ◌≤◌, length, Option, Some, slice_get}
use Rattle.vm_facts.specs.Ahead.{AreAhead}
use Rattle.vm_facts.specs.Answers.{Answers}
use Rattle.vm_facts.specs.declared.memory.MayWrite.TheVariants.{May}
use Rattle.user_step.specs.declared.decoding.Decoding.{Decoding}
use Rattle.user_step.specs.declared.decode_cache.DecodeCache.{DecodeCache}
use Rattle.user_step.specs.declared.fixed_code.FixedCode.{FixedCode}

-- none of sixteen bytes from an address on may be written
abbrev pub StayFrom : Answers → ℕ → Type 0
StayFrom memory address = (i : ℕ) → i < 16 → memory.may_write ((address + i) % 2 ^ 32) ≢ May

-- what a place of a cache has is the instruction at an address, by its bytes
abbrev pub StandsAt : Answers → ℕ → Option (Option Decoding) → Type 0
StandsAt memory address (Some (Some decoding)) = AreAhead memory address decoding.bytes × (length decoding.bytes ≤ 16)
StandsAt memory address _ = ⊥

-- an address is remembered
abbrev pub Remembers : FixedCode → ℕ → Type 0
Remembers fixed address = slice_get fixed.at (address % 512) ≡ Some (Some address)

-- at each address that is remembered an instruction of the cache stands, in bytes that stay
abbrev pub AreFixed : Answers → FixedCode → DecodeCache → Type 0
AreFixed memory fixed cache =
    (address : ℕ) → Remembers fixed address → StandsAt memory address (slice_get cache.places (address % 512)) × StayFrom memory address

-- the caches are the same, but in the place of an address
abbrev pub IsSameElsewhere : ℕ → DecodeCache → DecodeCache → Type 0
IsSameElsewhere address old new = (place : ℕ) → place ≢ address % 512 → slice_get new.places place ≡ slice_get old.places place
