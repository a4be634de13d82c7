-- What the memory over an array answers after a byte was written.
use Rattle.std.proofs.Common.{◌≡◌, ℕ, ◌<◌, Bool, true, false, List, length, refl, inl, inr, arith, nat_lt, nat_le, length-set}
use Rattle.std.specs.Prelude.{◌==◌, slice_set}
use Rattle.std.proofs.lemmas.List.{get_or-set_same, get_or-set_other}
use Rattle.std.proofs.lemmas.Bool.Decides.{eqb_tells, nat_tests}
use Rattle.vm_facts.specs.Answers.{put_byte, read_by}
use Rattle.vm_facts.specs.declared.memory.ByteRead.TheVariants as bytes
use Rattle.vm_facts.specs.declared.memory.MayWrite.TheVariants as tests
use Rattle.user_vax.specs.ArrayMemory.{array_answers, read_in, test_in}

read_may : (within missing : Bool) (byte : ℕ) → test_in within missing ≡ tests.May → read_in within missing byte ≡ bytes.Is byte
read_may false missing byte may = absurd (cc)
read_may true true byte may = absurd (cc)
read_may true false byte may = refl

within_may : (within missing : Bool) → test_in within missing ≡ tests.May → within ≡ true
within_may false missing may = absurd (cc)
within_may true missing may = refl

module _ (held : List ℕ) (missing address byte : ℕ) where
  read_set : (x : ℕ) → test_in (nat_lt address (length held)) (nat_le missing address) ≡ tests.May
      → (array_answers (slice_set held address byte) missing).read x ≡ read_by (x == address) byte ((array_answers held missing).read x)
  read_set x may =
      elim (eqb_tells x address) [
        | inl same ↦
            let within : nat_lt address (length held) ≡ true = within_may (nat_lt address (length held)) (nat_le missing address) may in
            let below : address < length held = grind (arith, nat_tests) in
            rw (same.0, same.1, length-set held address byte, get_or-set_same held address byte 0 below) (read_may (nat_lt address (length held)) (nat_le missing address) byte may)
        | inr other ↦ rw (other.0, length-set held address byte, get_or-set_other held address x byte 0 other.1) refl
      ]

  test_set : (x : ℕ) → (array_answers (slice_set held address byte) missing).may_write x ≡ (array_answers held missing).may_write x
  test_set x = rw (length-set held address byte) refl

  pub array_answers_set : (array_answers held missing).may_write address ≡ tests.May
      → array_answers (slice_set held address byte) missing ≡ put_byte (array_answers held missing) (record { address = address; byte = byte })
  array_answers_set may =
      λ i. record { read = λ x. read_set x may i; may_write = λ x. test_set x i }
