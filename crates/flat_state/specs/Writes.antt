-- Bytes written into a space, each where it might be.
use Rattle.std.specs.Prelude.{◌≡◌, ℕ, ◌/◌, ◌%◌, ◌<◌, List, [], ◌∷◌, length}
use Rattle.vm_facts.specs.Answers.{ByteWrite}
use Rattle.flat_state.specs.Space.{Space, address_in, may_write_at, put_in_space}
use Rattle.vm_facts.specs.declared.page.Page.{Page}
use Rattle.vm_facts.specs.declared.page.Page.TheVariants as pages
use Rattle.vm_facts.specs.declared.memory.MayWrite.TheVariants as tests
use Rattle.flat_state.specs.declared.spot.Spot.{Spot}
use Rattle.flat_state.specs.declared.spot.Spot.TheVariants.{Text, Data, Stack, Below, Outside}

-- the spot is a byte of its segment
abbrev pub IsWithin : Space → Spot → Type 0
IsWithin s (Text k) = k < length s.text_bytes
IsWithin s (Data k) = k < length s.data_bytes
IsWithin s (Stack k) = k < length s.stack_bytes
IsWithin s Below = Unit {0}
IsWithin s Outside = Unit {0}

-- a byte may be written
pub record MayPut (s : Space) (address : ℕ) : Type 0 where
  pub may : may_write_at (address_in s address) ≡ tests.May
  pub within : IsWithin s (address_in s address)

-- these bytes were written in order, each where it might be
abbrev pub Wrote : Space → List ByteWrite → Space → Type 0
Wrote old [] new = old ≡ new
Wrote old (w ∷ ws) new = MayPut old w.address × Wrote (put_in_space old w) ws new

-- the page of a byte of data or stack, and the byte's place in it
abbrev pub IsByteOf : Space → Spot → Page → ℕ → Type 0
IsByteOf s (Text i) q at = ⊥
IsByteOf s (Data i) q at = (q ≡ pages.Data s.sid (i / 1024)) × (at ≡ i % 1024)
IsByteOf s (Stack i) q at = (q ≡ pages.Stack s.sid (i / 1024)) × (at ≡ i % 1024)
IsByteOf s Below q at = ⊥
IsByteOf s Outside q at = ⊥
