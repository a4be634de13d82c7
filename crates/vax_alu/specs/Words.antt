-- Bytes, words and longwords as numbers without a sign, and the integers that they stand for.
use Rattle.std.specs.Prelude.{ℕ, ◌*◌, ◌^◌, ◌%◌, ℤ, pos, negsuc, Bool, nat_lt, ◌==◌, if◌then◌else◌, unsigned_abs}
use Rattle.std.specs.Int.{Width, w8, w16, w32, cast_signed, int_rem_euclid}

-- the integer that a longword stands for in two's complement
abbrev pub signed : ℕ → ℤ
signed longword = cast_signed w32 longword

-- the low 32 bits of an integer, as a number: its remainder modulo 2 ^ 32, which is never negative
abbrev pub low_longword : ℤ → ℕ
low_longword exact = unsigned_abs (int_rem_euclid exact (pos (2 ^ 32)))

-- 32 signed bits hold the integer: it is at least -2 ^ 31 and below 2 ^ 31
abbrev pub fits_word : ℤ → Bool
fits_word (pos n) = nat_lt n (2 ^ 31)
fits_word (negsuc n) = nat_lt n (2 ^ 31)

-- the low 1, 2 or 4 bytes of a longword
abbrev pub low_bytes : ℕ → ℕ → ℕ
low_bytes bytes longword = longword % 2 ^ (8 * bytes)

-- the width of a number of 1, 2 or 4 bytes
abbrev pub width_of : ℕ → Width
width_of bytes = if bytes == 1 then w8 else (if bytes == 2 then w16 else w32)

-- the integer that the low 1, 2 or 4 bytes of a longword stand for in two's complement
abbrev pub signed_low : ℕ → ℕ → ℤ
signed_low bytes longword = cast_signed (width_of bytes) (low_bytes bytes longword)
