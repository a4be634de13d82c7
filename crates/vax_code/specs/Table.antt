-- The instruction table, the row of an opcode, and the rule that each row keeps.
use Rattle.std.specs.Prelude.{ℕ, Option, Bool, ◌==◌, nat_le, nat_lt, not, true, false, find, List, if◌then◌else◌, ◌||◌, ◌&&◌, ◌∷◌, []}
use Rattle.vax_code.specs.declared.table.Row.{Row}
use Rattle.vax_code.specs.declared.table.Slot.{Slot}
use Rattle.vax_code.specs.declared.table.Kind.{Kind}
use Rattle.vax_code.specs.declared.table.Kind.TheVariants.{Ab, Al, Bb, Bw, Mb, Ml, Rb, Rl, Rw, Wb, Wl, Ww}
use Rattle.vax_code.specs.declared.table.Name.{Name}
use Rattle.vax_code.specs.declared.table.Name.TheVariants as names
use Rattle.vax_code.specs.declared.table.Access.TheVariants as accesses

-- ---- the instruction table

-- the row of an opcode, a mnemonic and so many operands in order; the places after them are filled

-- the row of an instruction with three operands
abbrev pub ternary : ℕ → Name → Kind → Kind → Kind → Row
ternary op name a b c = record { op = op; name = name; count = 3; a = a; b = b; c = c }

-- the row of an instruction with two operands
abbrev pub binary : ℕ → Name → Kind → Kind → Row
binary op name a b = record { op = op; name = name; count = 2; a = a; b = b; c = Rl }

-- the row of an instruction with one operand
abbrev pub unary : ℕ → Name → Kind → Row
unary op name a = record { op = op; name = name; count = 1; a = a; b = Rl; c = Rl }

-- the row of an instruction without operands
abbrev pub nullary : ℕ → Name → Row
nullary op name = record { op = op; name = name; count = 0; a = Rl; b = Rl; c = Rl }

-- The opcodes, mnemonics and operands as the VAX Architecture Reference Manual lists them by opcode. An operand is an
-- access (A address, B branch displacement, M modify, R read, W write) and a size (b byte, w word, l longword).
unfoldable pub all_rows : List Row
all_rows =
    nullary 0x01 names.Nop
    ∷ nullary 0x04 names.Ret
    ∷ nullary 0x05 names.Rsb
    ∷ unary 0x10 names.Bsbb Bb
    ∷ unary 0x11 names.Brb Bb
    ∷ unary 0x12 names.Bneq Bb
    ∷ unary 0x13 names.Beql Bb
    ∷ unary 0x14 names.Bgtr Bb
    ∷ unary 0x15 names.Bleq Bb
    ∷ unary 0x16 names.Jsb Ab
    ∷ unary 0x17 names.Jmp Ab
    ∷ unary 0x18 names.Bgeq Bb
    ∷ unary 0x19 names.Blss Bb
    ∷ unary 0x1A names.Bgtru Bb
    ∷ unary 0x1B names.Blequ Bb
    ∷ unary 0x1C names.Bvc Bb
    ∷ unary 0x1D names.Bvs Bb
    ∷ unary 0x1E names.Bcc Bb
    ∷ unary 0x1F names.Bcs Bb
    ∷ unary 0x30 names.Bsbw Bw
    ∷ unary 0x31 names.Brw Bw
    ∷ ternary 0x78 names.Ashl Rb Rl Wl
    ∷ binary 0x90 names.Movb Rb Wb
    ∷ binary 0x91 names.Cmpb Rb Rb
    ∷ unary 0x94 names.Clrb Wb
    ∷ unary 0x95 names.Tstb Rb
    ∷ unary 0x96 names.Incb Mb
    ∷ unary 0x97 names.Decb Mb
    ∷ binary 0x98 names.Cvtbl Rb Wl
    ∷ binary 0x9A names.Movzbl Rb Wl
    ∷ binary 0x9E names.Movab Ab Wl
    ∷ unary 0x9F names.Pushab Ab
    ∷ binary 0xB0 names.Movw Rw Ww
    ∷ binary 0xB1 names.Cmpw Rw Rw
    ∷ unary 0xBC names.Chmk Rw
    ∷ binary 0xC0 names.Addl2 Rl Ml
    ∷ ternary 0xC1 names.Addl3 Rl Rl Wl
    ∷ binary 0xC2 names.Subl2 Rl Ml
    ∷ ternary 0xC3 names.Subl3 Rl Rl Wl
    ∷ binary 0xC4 names.Mull2 Rl Ml
    ∷ ternary 0xC5 names.Mull3 Rl Rl Wl
    ∷ binary 0xC6 names.Divl2 Rl Ml
    ∷ ternary 0xC7 names.Divl3 Rl Rl Wl
    ∷ binary 0xC8 names.Bisl2 Rl Ml
    ∷ ternary 0xC9 names.Bisl3 Rl Rl Wl
    ∷ binary 0xCA names.Bicl2 Rl Ml
    ∷ ternary 0xCB names.Bicl3 Rl Rl Wl
    ∷ binary 0xCC names.Xorl2 Rl Ml
    ∷ ternary 0xCD names.Xorl3 Rl Rl Wl
    ∷ binary 0xCE names.Mnegl Rl Wl
    ∷ binary 0xD0 names.Movl Rl Wl
    ∷ binary 0xD1 names.Cmpl Rl Rl
    ∷ binary 0xD2 names.Mcoml Rl Wl
    ∷ binary 0xD3 names.Bitl Rl Rl
    ∷ unary 0xD4 names.Clrl Wl
    ∷ unary 0xD5 names.Tstl Rl
    ∷ unary 0xD6 names.Incl Ml
    ∷ unary 0xD7 names.Decl Ml
    ∷ unary 0xDD names.Pushl Rl
    ∷ binary 0xDE names.Moval Al Wl
    ∷ unary 0xDF names.Pushal Al
    ∷ binary 0xE8 names.Blbs Rl Bb
    ∷ binary 0xE9 names.Blbc Rl Bb
    ∷ ternary 0xF2 names.Aoblss Rl Ml Bb
    ∷ ternary 0xF3 names.Aobleq Rl Ml Bb
    ∷ binary 0xF4 names.Sobgeq Ml Bb
    ∷ binary 0xF5 names.Sobgtr Ml Bb
    ∷ binary 0xF6 names.Cvtlb Rl Wb
    ∷ binary 0xFA names.Callg Ab Ab
    ∷ binary 0xFB names.Calls Rl Ab
    ∷ []

-- the row of an opcode; none where the opcode is reserved
unfoldable pub row_for : ℕ → Option Row
row_for op = find (λ row. row.op == op) all_rows

-- the access and the size of a kind
abbrev pub slot_of : Kind → Slot
slot_of Ab = record { access = accesses.Address; size = 1 }
slot_of Al = record { access = accesses.Address; size = 4 }
slot_of Bb = record { access = accesses.Branch; size = 1 }
slot_of Bw = record { access = accesses.Branch; size = 2 }
slot_of Mb = record { access = accesses.Modify; size = 1 }
slot_of Ml = record { access = accesses.Modify; size = 4 }
slot_of Rb = record { access = accesses.Read; size = 1 }
slot_of Rl = record { access = accesses.Read; size = 4 }
slot_of Rw = record { access = accesses.Read; size = 2 }
slot_of Wb = record { access = accesses.Write; size = 1 }
slot_of Wl = record { access = accesses.Write; size = 4 }
slot_of Ww = record { access = accesses.Write; size = 2 }

-- the operand in one of the places 0, 1 and 2
abbrev pub slot_in : Row → ℕ → Slot
slot_in row place = slot_of (if place == 0 then row.a else (if place == 1 then row.b else row.c))

-- ---- the rule of the table

-- the kind that fills the places after an instruction's operands
abbrev pub is_filler : Kind → Bool
is_filler Rl = true
is_filler _ = false

-- a branch displacement, of a byte or a word
abbrev pub is_displacement : Kind → Bool
is_displacement Bb = true
is_displacement Bw = true
is_displacement _ = false

-- the places after the operands are filled
abbrev pub is_filled : Row → Bool
is_filled row =
    (nat_lt 0 row.count || is_filler row.a) && (nat_lt 1 row.count || is_filler row.b) && (nat_lt 2 row.count || is_filler row.c)

-- a branch displacement stands in the last place alone
abbrev pub branches_last : Row → Bool
branches_last row = (not (is_displacement row.a) || (row.count == 1)) && (not (is_displacement row.b) || (row.count == 2))

-- a row has at most three operands, fillers after them, and a branch displacement last alone
abbrev pub is_sound : Row → Bool
is_sound row = nat_le row.count 3 && is_filled row && branches_last row

-- each opcode is below the next one
abbrev pub is_rising : List Row → Bool
is_rising [] = true
is_rising (row ∷ []) = true
is_rising (row ∷ next ∷ rows) = nat_lt row.op next.op && is_rising (next ∷ rows)
