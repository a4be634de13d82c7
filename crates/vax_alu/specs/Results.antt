-- What each arithmetic instruction stores, and the condition codes that it sets. Each is told by the exact integer:
-- the low 32 bits of it are stored, N and Z speak of what is stored, and V says that 32 signed bits don't hold it.
use Rattle.std.specs.Prelude.{ℕ, ◌+◌, ◌^◌, ℤ, pos, negsuc, neg_ℤ, ◌+ℤ◌, ◌-ℤ◌, ◌*ℤ◌, Bool, false, not, nat_lt, nat_le, ◌==◌, int_div, int_lt}
use Rattle.std.specs.Int.{int_div_euclid}
use Rattle.vax_alu.specs.declared.Sum.{Sum}
use Rattle.vax_alu.specs.Words.{signed, low_longword, fits_word, low_bytes, signed_low}

-- a stored longword, with N set where it is negative and Z where it is 0
abbrev pub coded : ℕ → Bool → Bool → Sum
coded value overflow carry =
    record { value = value; n = nat_le (2 ^ 31) value; z = value == 0; v = overflow; c = carry }

-- what is stored of an exact result that sets V where it doesn't fit
abbrev pub stored : ℤ → Bool → Sum
stored exact carry = coded (low_longword exact) (not (fits_word exact)) carry

-- ADD: C is the carry out of 32 bits
abbrev pub sum_of : ℕ → ℕ → Sum
sum_of a b = stored (signed a +ℤ signed b) (nat_le (2 ^ 32) (a + b))

-- SUB: C is the borrow
abbrev pub difference_of : ℕ → ℕ → Sum
difference_of a b = stored (signed a -ℤ signed b) (nat_lt a b)

-- MUL
abbrev pub product_of : ℕ → ℕ → Sum
product_of a b = stored (signed a *ℤ signed b) false

-- DIV of a by b, which isn't 0: the quotient is rounded toward zero. V is set at -2 ^ 31 by -1 alone
abbrev pub quotient_of : ℕ → ℕ → Sum
quotient_of a b = stored (int_div (signed a) (signed b)) false

-- ASHL: by a count that isn't negative to the left, else to the right with copies of the sign,
-- which divides by the power of two and rounds down
abbrev pub shifted : ℕ → ℤ → Sum
shifted a (pos count) = stored (signed a *ℤ pos (2 ^ count)) false
shifted a (negsuc count) = coded (low_longword (int_div_euclid (signed a) (pos (2 ^ (count + 1))))) false false

-- CMP of the low 1, 2 or 4 bytes: N compares them as signed integers and C as numbers without a sign
abbrev pub compared : ℕ → ℕ → ℕ → Sum
compared a b bytes = record {
  value = 0;
  n = int_lt (signed_low bytes a) (signed_low bytes b);
  z = low_bytes bytes a == low_bytes bytes b;
  v = false;
  c = nat_lt (low_bytes bytes a) (low_bytes bytes b);
}

-- MNEG: V is set at -2 ^ 31 alone, and C where the result isn't 0
abbrev pub negated : ℕ → Sum
negated a = stored (neg_ℤ (signed a)) (not (low_longword (neg_ℤ (signed a)) == 0))
