-- What a memory answers for each address, and what it answers after bytes were written.
use Rattle.std.specs.Prelude.{ℕ, ◌+◌, ◌-◌, ◌%◌, ◌^◌, Bool, true, false, ◌==◌, List, [], ◌∷◌, ◌++◌}
use Rattle.std.specs.Int.{w32, to_le_bytes}
use Rattle.vm_facts.specs.declared.memory.ByteRead.{ByteRead}
use Rattle.vm_facts.specs.declared.memory.ByteRead.TheVariants.{Is}
use Rattle.vm_facts.specs.declared.memory.MayWrite.{MayWrite}

-- a memory by its answers: what a read at each address gives, and whether the byte there may be written
pub record Answers : Type 0 where
  pub read : ℕ → ByteRead
  pub may_write : ℕ → MayWrite

-- a byte, and the address at which it is written
pub record ByteWrite : Type 0 where
  pub address : ℕ
  pub byte : ℕ

-- these bytes, each at its place from an address on
abbrev pub writes_from : ℕ → List ℕ → List ByteWrite
writes_from address [] = []
writes_from address (byte ∷ bytes) = record { address = address; byte = byte } ∷ writes_from ((address + 1) % 2 ^ 32) bytes

-- the address of the longword just below another address
abbrev pub longword_below : ℕ → ℕ
longword_below address = (address + (2 ^ 32 - 4)) % 2 ^ 32

-- these longwords, the first just below an address and each further one just below the one before
abbrev pub writes_down : ℕ → List ℕ → List ByteWrite
writes_down address [] = []
writes_down address (longword ∷ longwords) =
    writes_from (longword_below address) (to_le_bytes w32 longword) ++ writes_down (longword_below address) longwords

-- what is read at an address after a write: the byte there, and elsewhere what it was
abbrev pub read_by : Bool → ℕ → ByteRead → ByteRead
read_by true byte was = Is byte
read_by false byte was = was

-- a memory after one byte was written
abbrev pub put_byte : Answers → ByteWrite → Answers
put_byte memory w = record memory { read = λ address. read_by (address == w.address) w.byte (memory.read address) }

-- a memory after these bytes were written, in order
abbrev pub written : Answers → List ByteWrite → Answers
written memory [] = memory
written memory (w ∷ ws) = written (put_byte memory w) ws
