-- The bytes of a number, as the code has them.
use Rattle.std.proofs.Common.{◌≡◌, ℕ, ◌%◌, ◌/◌, inl, inr, List, [], ◌∷◌, ◌++◌, get_or, length, take, refl, arith}
use Rattle.byteorder.specs.Endian.{little_bytes}
use Rattle.vm_facts.specs.Answers.{writes_from}
use Rattle.user_vax.specs.Operands.{past}
use Rattle.user_vax.specs.Effects.{bytes_at}
use Rattle.vax_execute.specs.Outcomes.{IsSize}
use Rattle.user_vax.proofs.Numbers.{past-past}

-- ---- one after another

module _ (size address value : ℕ) (bytes : List ℕ) where
  pub bytes_at-two : size ≡ 2 → bytes ≡ little_bytes 4 value ++ []
      → (record { address = address; byte = get_or bytes 0 0 } ∷ record { address = past address 1; byte = get_or bytes 1 0 } ∷ []) ≡ bytes_at size address value
  unfolding bytes_at
  bytes_at-two two is = rw (two, is) refl

  pub bytes_at-four : size ≡ 4 → bytes ≡ little_bytes 4 value ++ []
      → (record { address = address; byte = get_or bytes 0 0 } ∷ record { address = past address 1; byte = get_or bytes 1 0 } ∷ record {
        address = past address 2;
        byte = get_or bytes 2 0;
      } ∷ record { address = past address 3; byte = get_or bytes 3 0 } ∷ []) ≡ bytes_at size address value
  unfolding bytes_at
  bytes_at-four four is =
      let third : value / 256 / 256 % 256 ≡ get_or (little_bytes 4 value) 2 0 = grind arith in
      let fourth : value / 256 / 256 / 256 % 256 ≡ get_or (little_bytes 4 value) 3 0 = grind arith in
      rw (four, is, ← past-past address 2, ← past-past address 1, ← third, ← fourth) refl

  -- ---- at once

  -- the first bytes of a longword are those of the number
  pub writes_from_number : IsSize size → bytes ≡ little_bytes 4 value ++ [] → writes_from address (take size bytes) ≡ bytes_at size address value
  unfolding bytes_at
  writes_from_number (inl one) is = rw (one, is) refl
  writes_from_number (inr (inl two)) is = rw (two, is) refl
  writes_from_number (inr (inr four)) is =
      let third : value / 256 / 256 % 256 ≡ get_or (little_bytes 4 value) 2 0 = grind arith in
      let fourth : value / 256 / 256 / 256 % 256 ≡ get_or (little_bytes 4 value) 3 0 = grind arith in
      rw (four, is, ← third, ← fourth) refl

pub length_number : (size value : ℕ) (bytes : List ℕ) → IsSize size → bytes ≡ little_bytes 4 value ++ [] → length (take size bytes) ≡ size
length_number size value bytes (inl one) is = rw (one, is) refl
length_number size value bytes (inr (inl two)) is = rw (two, is) refl
length_number size value bytes (inr (inr four)) is = rw (four, is) refl
