-- Results of one byte. A value is taken by its low byte, and is stored as a number below 256.
use Rattle.std.specs.Prelude.{ℕ, ◌+◌, ◌-◌, ◌%◌, ℤ, pos, negsuc, ◌+ℤ◌, ◌-ℤ◌, Bool, false, not, nat_lt, nat_le, ◌==◌}
use Rattle.std.specs.Int.{w8, w32, cast_signed, cast_unsigned}
use Rattle.vax_alu.specs.declared.Sum.{Sum}
use Rattle.vax_alu.specs.Words.{signed}

-- the low byte of a value
abbrev pub byte_of : ℕ → ℕ
byte_of value = value % 256

-- the integer that the low byte stands for in two's complement
abbrev pub signed_byte : ℕ → ℤ
signed_byte value = cast_signed w8 (byte_of value)

-- 8 signed bits hold the integer: it is at least -128 and below 128
abbrev pub fits_byte : ℤ → Bool
fits_byte (pos n) = nat_lt n 128
fits_byte (negsuc n) = nat_lt n 128

-- a stored byte, with N set where it is negative and Z where it is 0
abbrev pub coded_byte : ℕ → Bool → Bool → Sum
coded_byte value overflow carry =
    record { value = value; n = nat_le 128 value; z = value == 0; v = overflow; c = carry }

-- INCB: C is the carry out of 8 bits
abbrev pub byte_after : ℕ → Sum
byte_after value =
    coded_byte ((byte_of value + 1) % 256) (not (fits_byte (signed_byte value +ℤ pos 1))) (nat_le 256 (byte_of value + 1))

-- DECB: C is the borrow
abbrev pub byte_before : ℕ → Sum
byte_before value =
    coded_byte ((byte_of value + (256 - 1)) % 256) (not (fits_byte (signed_byte value -ℤ pos 1))) (nat_lt (byte_of value) 1)

-- CVTBL: the byte as a longword of the same integer
abbrev pub widened : ℕ → ℕ
widened value = cast_unsigned w32 (signed_byte value)

-- CVTLB: V is set where 8 signed bits don't hold the longword
abbrev pub narrowed : ℕ → Sum
narrowed value = coded_byte (byte_of value) (not (fits_byte (signed value))) false
