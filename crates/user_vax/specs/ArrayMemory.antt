-- A memory of some bytes from address 0 on, of which those from a place on are missing.
use Rattle.std.specs.Prelude.{◌≡◌, ℕ, Bool, true, false, List, [], ◌∷◌, ◌++◌, length, nat_le, nat_lt, slice_index}
use Rattle.std.proofs.Common.{refl}
use Rattle.vm_facts.specs.Answers.{Answers, ByteWrite, put_byte, written}
use Rattle.vm_facts.specs.declared.memory.ByteRead.{ByteRead}
use Rattle.vm_facts.specs.declared.memory.ByteRead.TheVariants as bytes
use Rattle.vm_facts.specs.declared.memory.MayWrite.{MayWrite}
use Rattle.vm_facts.specs.declared.memory.MayWrite.TheVariants as tests

-- what a read of an address answers, by whether the address is one of the memory and its byte is missing
abbrev pub read_in : Bool → Bool → ℕ → ByteRead
read_in false missing byte = bytes.Outside
read_in true true byte = bytes.Miss
read_in true false byte = bytes.Is byte

-- what a test for a write answers, by whether the address is one of the memory and its byte is missing
abbrev pub test_in : Bool → Bool → MayWrite
test_in false missing = tests.Outside
test_in true true = tests.Miss
test_in true false = tests.May

-- the memory that has these bytes, of which those from a place on are missing
abbrev pub array_answers : List ℕ → ℕ → Answers
array_answers held missing = record {
  read = λ x. read_in (nat_lt x (length held)) (nat_le missing x) (slice_index held x);
  may_write = λ x. test_in (nat_lt x (length held)) (nat_le missing x);
}

-- writes and then further ones are the writes of both in a row
pub written-append : (memory : Answers) (xs ys : List ByteWrite) → written memory (xs ++ ys) ≡ written (written memory xs) ys
written-append memory [] ys = refl
written-append memory (x ∷ xs) ys = written-append (put_byte memory x) xs ys
