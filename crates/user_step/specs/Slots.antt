-- A memory over another one, in which what is written stays.
use Rattle.std.specs.Prelude.{◌≡◌, ℕ, ◌==◌, Bool, true, false, cond, ◌||◌, List, [], ◌∷◌, map, Option, Some, None}
use Rattle.vm_facts.specs.Answers.{Answers, ByteWrite, written}
use Rattle.vm_facts.specs.declared.memory.ByteRead.{ByteRead}
use Rattle.vm_facts.specs.declared.memory.ByteRead.TheVariants as bytes
use Rattle.vm_facts.specs.declared.memory.MayWrite.{MayWrite}
use Rattle.vm_facts.specs.declared.memory.MayWrite.TheVariants as tests
use Rattle.user_vax.specs.declared.stepped.Stepped.{Stepped}
use Rattle.user_vax.specs.declared.stepped.Stepped.TheVariants as steps
use Rattle.user_step.specs.declared.slots.Slot.{Slot}

-- whether a byte has a slot
abbrev pub has_slot : List Slot → ℕ → Bool
has_slot [] x = false
has_slot (slot ∷ slots) x = slot.address == x || has_slot slots x

-- what was written to a byte, if it was
abbrev pub byte_in : List Slot → ℕ → Option ℕ
byte_in [] x = None
byte_in (slot ∷ slots) x = cond (slot.address == x) slot.byte (byte_in slots x)

-- a slot, once a byte went to it that is for it
abbrev pub stored_by : Bool → ByteWrite → Slot → Slot
stored_by true w slot = record slot { byte = Some w.byte }
stored_by false w slot = slot

-- a slot once this byte was written, which goes to it where it is for that address
abbrev pub stored : ByteWrite → Slot → Slot
stored w slot = stored_by (slot.address == w.address) w slot

-- the slots, once these bytes went to them
abbrev pub all_stored : List Slot → List ByteWrite → List Slot
all_stored slots [] = slots
all_stored slots (w ∷ ws) = all_stored (map (stored w) slots) ws

-- what is read: the byte that was written, or else what it was
abbrev pub read_over : Option ℕ → ByteRead → ByteRead
read_over (Some byte) was = bytes.Is byte
read_over None was = was

-- a byte that might be written misses, unless this is so of it
abbrev pub may_where : Bool → MayWrite → MayWrite
may_where false tests.May = tests.Miss
may_where _ answer = answer

-- what it answers
abbrev pub over : Answers → List Slot → Answers
over memory slots = record {
  read = λ x. read_over (byte_in slots x) (memory.read x);
  may_write = λ x. may_where (has_slot slots x) (memory.may_write x);
}

-- these bytes went to their slots, and the memory below is the same
pub record WroteSlots (memory : Answers) (slots : List Slot) (ws : List ByteWrite) (below : Answers) (after : List Slot) : Type 0 where
  pub same : below ≡ memory
  pub kept : after ≡ all_stored slots ws
  pub answers : over below after ≡ written (over memory slots) ws

-- The byte that an instruction has to be granted.

-- the address, where it may be written
abbrev pub where_may : MayWrite → ℕ → Option ℕ
where_may tests.May x = Some x
where_may _ x = None

-- it was to be written, and missed, and may be written in the memory below
abbrev pub wanted : Answers → Stepped → Option ℕ
wanted memory (steps.Miss x true) = where_may (memory.may_write x) x
wanted memory _ = None
