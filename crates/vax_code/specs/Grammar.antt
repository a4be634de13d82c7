-- What bytes are an instruction: the modes of operands and the instruction table, as a grammar.
use Rattle.std.specs.Prelude.{◌≡◌, ◌≢◌, ◌↔◌, ℕ, ◌+◌, ◌*◌, ◌<◌, ◌≤◌, ◌⊎◌, List, [], ◌∷◌, ◌++◌, length, Some, Bool, true, false, nat_lt, ℤ, IsTrue, not}
use Rattle.std.specs.Int.{from_le_bytes, cast_signed}
use Rattle.vax_code.specs.declared.instr.Base.{Base}
use Rattle.vax_code.specs.declared.instr.Base.TheVariants as bases
use Rattle.vax_code.specs.declared.instr.Operand.{Operand}
use Rattle.vax_code.specs.declared.instr.Operand.TheVariants as operands
use Rattle.vax_code.specs.declared.instr.Instr.{Instr}
use Rattle.vax_code.specs.declared.instr.Decoded.{Decoded}
use Rattle.vax_code.specs.declared.instr.Decoded.TheVariants as decodings
use Rattle.vax_code.specs.Operands.{Spelled}
use Rattle.vax_code.specs.declared.table.Row.{Row}
use Rattle.vax_code.specs.declared.table.Slot.{Slot}
use Rattle.vax_code.specs.Operands.{width_of, is_read, is_address, is_branch, assembled}
use Rattle.vax_code.specs.Table.{row_for, slot_in}
pub use Rattle.vm_facts.specs.Octets.{AreOctets}

-- ---- numbers of 1, 2 or 4 bytes, the low byte first

-- so many bytes are this number, read without a sign
pub record SpellsNumber (size number : ℕ) (bytes : List ℕ) : Type 0 where
  pub sized : length bytes ≡ size
  pub valued : number ≡ from_le_bytes (width_of size) bytes

-- in two's complement
pub record SpellsSigned (size : ℕ) (by : ℤ) (bytes : List ℕ) : Type 0 where
  pub sized : length bytes ≡ size
  pub valued : by ≡ cast_signed (width_of size) (from_le_bytes (width_of size) bytes)

-- ---- the first byte of a specifier: the mode in its high four bits, the register in its low four

-- the byte of a mode and a register
abbrev pub specifier : ℕ → ℕ → ℕ
specifier mode reg = 16 * mode + reg

-- that byte alone, where the register isn't PC
pub record SpellsPlain (mode reg : ℕ) (bytes : List ℕ) : Type 0 where
  pub register : reg < 15
  pub split : bytes ≡ specifier mode reg ∷ []

-- that byte on PC, then a number
pub record SpellsOnPc (mode size number : ℕ) (bytes : List ℕ) : Type 0 where
  pub digits : List ℕ
  pub split : bytes ≡ specifier mode 15 ∷ digits
  pub spells : SpellsNumber size number digits

-- that byte, then a displacement
pub record SpellsDisplaced (mode size reg : ℕ) (by : ℤ) (bytes : List ℕ) : Type 0 where
  pub register : reg < 16
  pub digits : List ℕ
  pub split : bytes ≡ specifier mode reg ∷ digits
  pub spells : SpellsSigned size by digits

-- ---- operands that have an address: modes 6 to F

-- these bytes spell an operand that has an address, by its mode
abbrev pub SpellsBase : Base → List ℕ → Type 0
SpellsBase (bases.Deferred reg) bytes = SpellsPlain 6 reg bytes
SpellsBase (bases.AutoDec reg) bytes = SpellsPlain 7 reg bytes
SpellsBase (bases.AutoInc reg) bytes = SpellsPlain 8 reg bytes
SpellsBase (bases.AutoIncDef reg) bytes = SpellsPlain 9 reg bytes
SpellsBase (bases.Absolute address) bytes = SpellsOnPc 9 4 address bytes
SpellsBase (bases.Disp reg by false) bytes =
    SpellsDisplaced 10 1 reg by bytes ⊎ SpellsDisplaced 12 2 reg by bytes ⊎ SpellsDisplaced 14 4 reg by bytes
SpellsBase (bases.Disp reg by true) bytes =
    SpellsDisplaced 11 1 reg by bytes ⊎ SpellsDisplaced 13 2 reg by bytes ⊎ SpellsDisplaced 15 4 reg by bytes

-- the base doesn't change the index register
abbrev pub LeavesIndex : ℕ → Base → Type 0
LeavesIndex index (bases.AutoDec reg) = reg ≢ index
LeavesIndex index (bases.AutoInc reg) = reg ≢ index
LeavesIndex index (bases.AutoIncDef reg) = reg ≢ index
LeavesIndex index _ = Unit {0}

-- mode 4, whose register isn't PC, then the base
pub record SpellsIndexed (index : ℕ) (base : Base) (bytes : List ℕ) : Type 0 where
  pub register : index < 15
  pub other : LeavesIndex index base
  pub rest : List ℕ
  pub split : bytes ≡ specifier 4 index ∷ rest
  pub spells : SpellsBase base rest

-- ---- all operands of a slot, an access and a size. A displacement on PC counts from the end of the specifier here

-- modes 0 to 3 are a short literal and mode 8 on PC is an immediate, both only to be read
abbrev pub SpellsSpecifier : Slot → Operand → List ℕ → Type 0
SpellsSpecifier slot (operands.Literal value) bytes = IsTrue (is_read slot.access) × (value < 64) × (bytes ≡ value ∷ [])
SpellsSpecifier slot (operands.Indexed index base) bytes = SpellsIndexed index base bytes
SpellsSpecifier slot (operands.Register reg) bytes = IsTrue (not (is_address slot.access)) × SpellsPlain 5 reg bytes
SpellsSpecifier slot (operands.Immediate number) bytes = IsTrue (is_read slot.access) × SpellsOnPc 8 slot.size number bytes
SpellsSpecifier slot (operands.Deferred reg) bytes = SpellsBase (bases.Deferred reg) bytes
SpellsSpecifier slot (operands.AutoDec reg) bytes = SpellsBase (bases.AutoDec reg) bytes
SpellsSpecifier slot (operands.AutoInc reg) bytes = SpellsBase (bases.AutoInc reg) bytes
SpellsSpecifier slot (operands.AutoIncDef reg) bytes = SpellsBase (bases.AutoIncDef reg) bytes
SpellsSpecifier slot (operands.Absolute address) bytes = SpellsBase (bases.Absolute address) bytes
SpellsSpecifier slot (operands.Disp reg by deferred) bytes = SpellsBase (bases.Disp reg by deferred) bytes
SpellsSpecifier slot (operands.Branch by) bytes = ⊥

-- a branch displacement has no specifier
abbrev pub SpellsBranch : Slot → Operand → List ℕ → Type 0
SpellsBranch slot (operands.Branch by) bytes = SpellsSigned slot.size by bytes
SpellsBranch slot _ bytes = ⊥

-- these bytes spell the operand of a slot: a branch displacement, or a specifier
abbrev pub SpellsOperand : Bool → Slot → Operand → List ℕ → Type 0
SpellsOperand true slot operand bytes = SpellsBranch slot operand bytes
SpellsOperand false slot operand bytes = SpellsSpecifier slot operand bytes

-- what stands in a place of the row: an operand, or no byte and the filler where the instruction has none there
abbrev pub SpellsPlace : Bool → Slot → Operand → List ℕ → Type 0
SpellsPlace true slot operand bytes = SpellsOperand (is_branch slot.access) slot operand bytes
SpellsPlace false slot operand bytes = (operand ≡ operands.Literal 0) × (bytes ≡ [])

-- ---- instructions

-- an operand, and how many bytes spell it
abbrev pub spelled : Operand → List ℕ → Spelled
spelled operand bytes = record { operand = operand; size = length bytes }

-- the bytes are this instruction, from its first byte to its last: an opcode of the table, then its operands
pub record IsInstruction (bytes : List ℕ) (instr : Instr) : Type 0 where
  pub op : ℕ
  pub row : Row
  pub first : Operand
  pub second : Operand
  pub third : Operand
  pub one : List ℕ
  pub two : List ℕ
  pub three : List ℕ
  pub split : bytes ≡ op ∷ (one ++ (two ++ three))
  pub listed : row_for op ≡ Some row
  pub spells_first : SpellsPlace (nat_lt 0 row.count) (slot_in row 0) first one
  pub spells_second : SpellsPlace (nat_lt 1 row.count) (slot_in row 1) second two
  pub spells_third : SpellsPlace (nat_lt 2 row.count) (slot_in row 2) third three
  pub made : instr ≡ assembled op row (spelled first one) (spelled second two) (spelled third three)

-- a front of the bytes is this instruction
pub record BeginsWith (bytes : List ℕ) (instr : Instr) : Type 0 where
  pub front : List ℕ
  pub rest : List ℕ
  pub split : bytes ≡ front ++ rest
  pub whole : IsInstruction front instr

-- some bytes more, one at least, make an instruction of the bytes
pub record IsProperPrefix (bytes : List ℕ) : Type 0 where
  pub more : List ℕ
  pub instr : Instr
  pub octets : AreOctets more
  pub some : more ≢ []
  pub whole : IsInstruction (bytes ++ more) instr

-- what decoding the bytes gives: one of three, each exactly where it is due
pub record DecodesAs (bytes : List ℕ) (result : Decoded) : Type 0 where
  pub is : (instr : Instr) → (result ≡ decodings.Is instr) ↔ BeginsWith bytes instr
  pub need_more : (result ≡ decodings.NeedMore) ↔ IsProperPrefix bytes
  pub reserved : (result ≡ decodings.Reserved) ↔ (((instr : Instr) → ¬ BeginsWith bytes instr) × ¬ IsProperPrefix bytes)

-- an instruction has at most 19 bytes, so 19 bytes are enough to decode one
abbrev pub HasLength : List ℕ → Decoded → Type 0
HasLength bytes (decodings.Is instr) = (0 < instr.length) × (instr.length ≤ 19) × (instr.length ≤ length bytes)
HasLength bytes decodings.NeedMore = length bytes < 19
HasLength bytes decodings.Reserved = Unit {0}
