-- The word of a page table entry: the sum of its fields, each times the power of 2 of its lowest bit.
use Rattle.std.specs.Prelude.{◌≡◌, ℕ, ◌+◌, ◌*◌, ◌/◌, ◌%◌, ◌^◌, ◌≤◌, ◌<◌, ◌==◌, nat_le, Bool, true, false, Option, Some, None, if◌then◌else◌}
use Rattle.vax_pte.specs.declared.Place.{Place}
use Rattle.vax_pte.specs.declared.Place.TheVariants.{Zero, Image, Swap, Frame}
use Rattle.vax_pte.specs.declared.Pte.{Pte}

-- a page of an image has a number below 2^24, and a frame one from 1 to 2^21 - 1
abbrev pub IsInRange : Place → Type 0
IsInRange Zero = Unit {0}
IsInRange (Image v) = v < 2 ^ 24
IsInRange Swap = Unit {0}
IsInRange (Frame f valid changed) = (1 ≤ f) × (f < 2 ^ 21)

-- the frame of a place whose page is valid
abbrev pub usable_frame : Place → Option ℕ
usable_frame (Frame f true changed) = Some f
usable_frame _ = None

-- a page that was filled has its bytes in a frame or on swap; another waits to be filled
abbrev pub was_filled : Place → Bool
was_filled Zero = false
was_filled (Image v) = false
was_filled Swap = true
was_filled (Frame f valid changed) = true

-- the page is in a frame
abbrev pub is_in_frame : Place → Bool
is_in_frame (Frame f valid changed) = true
is_in_frame _ = false

-- a flag as a number
abbrev pub one_if : Bool → ℕ
one_if true = 1
one_if false = 0

-- protection 4 lets the user read and write, 15 only read
abbrev pub protection : Bool → ℕ
protection true = 4
protection false = 15

-- a page that is filled on demand has bit 25, and bit 24 where the image has its bytes; one with a frame has bit 31
-- where it is valid and bit 26 where it was changed
abbrev pub place_bits : Place → ℕ
place_bits Zero = 2 ^ 25
place_bits (Image v) = 2 ^ 25 + 2 ^ 24 + v
place_bits Swap = 0
place_bits (Frame f valid changed) = one_if valid * 2 ^ 31 + one_if changed * 2 ^ 26 + f

-- the protection at bit 27, beside the bits of the place
abbrev pub word_of : Pte → ℕ
word_of e = protection e.user_write * 2 ^ 27 + place_bits e.place

-- the entry is in range, and this is its word
abbrev pub PacksTo : Pte → ℕ → Type 0
PacksTo e word = IsInRange e.place × (word_of e ≡ word)

-- the place in the word of an entry
unfoldable pub place_named : ℕ → Place
place_named word =
    let bits = word % 2 ^ 26 in
    if bits == 0 then Swap
    else (if bits == 2 ^ 25 then Zero
    else (if nat_le (2 ^ 25) bits then Image (word % 2 ^ 24)
    else Frame bits (nat_le (2 ^ 31) word) (word / 2 ^ 26 % 2 == 1)))
