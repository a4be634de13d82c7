-- The bytes of an instruction that lie together in a memory.
use Rattle.std.specs.Prelude.{ℕ, zero, suc, List, [], ◌∷◌}
use Rattle.vm_facts.specs.Answers.{Answers}
use Rattle.vm_facts.specs.declared.memory.ByteRead.{ByteRead}
use Rattle.vm_facts.specs.declared.memory.ByteRead.TheVariants as bytes
use Rattle.user_vax.specs.Operands.{past}
use Rattle.user_vax.specs.Program.{Program, Gives, Reads}

-- a byte that is there, and those after it
abbrev pub with_byte : ByteRead → List ℕ → List ℕ
with_byte (bytes.Is byte) more = byte ∷ more
with_byte _ more = []

-- the bytes from an address on, before the first that isn't there, at most so many
unfoldable pub held_from : Answers → ℕ → ℕ → List ℕ
held_from memory address zero = []
held_from memory address (suc room) = with_byte (memory.read address) (held_from memory (past address 1) room)

-- so many bytes are read from an address on
unfoldable pub reads_from : ℕ → ℕ → Program (Unit {0})
reads_from address zero = Gives tt
reads_from address (suc more) = Reads address (λ byte. reads_from (past address 1) more)
