-- The listing of an image: a line for each instruction, to the first place without one.
use Rattle.std.specs.Prelude.{◌≡◌, ◌≢◌, ◌≤◌, ◌<◌, ℕ, ◌+◌, ◌-◌, ◌/◌, ◌%◌, Bool, true, false, if◌then◌else◌, nat_lt, List, [], ◌∷◌, ◌++◌, codes, length, take, drop}
use Rattle.vax_code.specs.declared.instr.Instr.{Instr}
use Rattle.vax_code.specs.declared.instr.Decoded.TheVariants as decodings
use Rattle.vax_code.specs.Reading.{decoded}
use Rattle.vax_disasm.specs.Showing.{hexadecimal_digit, IsTextOf}
use Rattle.vax_disasm.specs.declared.disassembly.Shown.{Shown}
use Rattle.vax_disasm.specs.declared.disassembly.Shown.TheVariants as shownings
use Rattle.aout_image.specs.declared.Image.{Image}
use Rattle.aout_image.specs.Image.{data_start_of, offset_of, given_of}

-- an address in 8 hexadecimal digits
unfoldable pub address_text : ℕ → List ℕ
address_text at =
    hexadecimal_digit (at / 0x1000_0000 % 16) ∷ hexadecimal_digit (at / 0x100_0000 % 16) ∷ hexadecimal_digit (at / 0x10_0000 % 16)
    ∷ hexadecimal_digit (at / 0x1_0000 % 16) ∷ hexadecimal_digit (at / 0x1000 % 16) ∷ hexadecimal_digit (at / 0x100 % 16)
    ∷ hexadecimal_digit (at / 0x10 % 16) ∷ hexadecimal_digit (at / 1 % 16) ∷ []

-- the line of an instruction: its address, a space and its text
abbrev pub line_text : ℕ → List ℕ → List ℕ
line_text at instruction = address_text at ++ codes " " ++ instruction ++ codes "\n"

-- the line of the first place without an instruction
abbrev pub end_text : ℕ → List ℕ
end_text at = codes "end " ++ address_text at ++ codes "\n"

-- an instruction as it is listed: its text, and how many bytes it has
pub record Listed : Type 0 where
  pub text : List ℕ
  pub size : ℕ

-- the bytes at an address begin with these instructions, one after another, and then with none
abbrev pub AreListed : ℕ → List ℕ → List Listed → Type 0
AreListed at bytes [] = (instr : Instr) → decoded bytes ≢ decodings.Is instr
AreListed at bytes (listed ∷ others) = IsTextOf bytes at listed.text listed.size × AreListed (at + listed.size) (drop listed.size bytes) others

-- their lines, and the line of the end
abbrev pub listing_text : ℕ → List Listed → List ℕ
listing_text at [] = end_text at
listing_text at (listed ∷ others) = line_text at listed.text ++ listing_text (at + listed.size) others

-- the listing of the bytes at an address
pub record IsListing (at : ℕ) (bytes output : List ℕ) : Type 0 where
  pub instructions : List Listed
  pub listed : AreListed at bytes instructions
  pub written : output ≡ listing_text at instructions

-- what is shown has at least one byte, and no more than there are
abbrev pub Moves : List ℕ → Shown → Type 0
Moves bytes (shownings.Is text count size) = (0 < size) × (size ≤ length bytes) × (count ≤ 120)
Moves bytes shownings.NoInstruction = Unit {0}

-- what the file gives to a segment, from so many bytes of it on
abbrev pub segment_from : Bool → Image → List ℕ → ℕ → List ℕ
segment_from text image file before = drop before (take (given_of text image) (drop (offset_of text image) file))

-- what the file gives to the segment of an address, from there on: to the text segment below the data segment's start,
-- and else to the data segment, which starts at 0 where the image has no text segment
abbrev pub code_at : Image → List ℕ → ℕ → List ℕ
code_at image file at =
    if nat_lt at (data_start_of image) then segment_from true image file at
    else segment_from false image file (at - data_start_of image)
