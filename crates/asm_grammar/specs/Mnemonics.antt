-- The mnemonics of the instruction table, in lower case.
use Rattle.std.specs.Prelude.{ℕ, Bool, nat_eq, find, List, Option, codes}
use Rattle.std.specs.Cmp.Lexicographic.{pointwise}
use Rattle.vax_code.specs.declared.table.Name.{Name}
use Rattle.vax_code.specs.declared.table.Name.TheVariants as names
use Rattle.vax_code.specs.declared.table.Row.{Row}
use Rattle.vax_code.specs.Table.{all_rows}

-- the mnemonic of an instruction, as a source has it
abbrev pub mnemonic : Name → List ℕ
mnemonic names.Nop = codes "nop"
mnemonic names.Ret = codes "ret"
mnemonic names.Rsb = codes "rsb"
mnemonic names.Bsbb = codes "bsbb"
mnemonic names.Brb = codes "brb"
mnemonic names.Bneq = codes "bneq"
mnemonic names.Beql = codes "beql"
mnemonic names.Bgtr = codes "bgtr"
mnemonic names.Bleq = codes "bleq"
mnemonic names.Jsb = codes "jsb"
mnemonic names.Jmp = codes "jmp"
mnemonic names.Bgeq = codes "bgeq"
mnemonic names.Blss = codes "blss"
mnemonic names.Bgtru = codes "bgtru"
mnemonic names.Blequ = codes "blequ"
mnemonic names.Bvc = codes "bvc"
mnemonic names.Bvs = codes "bvs"
mnemonic names.Bcc = codes "bcc"
mnemonic names.Bcs = codes "bcs"
mnemonic names.Bsbw = codes "bsbw"
mnemonic names.Brw = codes "brw"
mnemonic names.Ashl = codes "ashl"
mnemonic names.Movb = codes "movb"
mnemonic names.Cmpb = codes "cmpb"
mnemonic names.Clrb = codes "clrb"
mnemonic names.Tstb = codes "tstb"
mnemonic names.Incb = codes "incb"
mnemonic names.Decb = codes "decb"
mnemonic names.Cvtbl = codes "cvtbl"
mnemonic names.Movzbl = codes "movzbl"
mnemonic names.Movab = codes "movab"
mnemonic names.Pushab = codes "pushab"
mnemonic names.Movw = codes "movw"
mnemonic names.Cmpw = codes "cmpw"
mnemonic names.Chmk = codes "chmk"
mnemonic names.Addl2 = codes "addl2"
mnemonic names.Addl3 = codes "addl3"
mnemonic names.Subl2 = codes "subl2"
mnemonic names.Subl3 = codes "subl3"
mnemonic names.Mull2 = codes "mull2"
mnemonic names.Mull3 = codes "mull3"
mnemonic names.Divl2 = codes "divl2"
mnemonic names.Divl3 = codes "divl3"
mnemonic names.Bisl2 = codes "bisl2"
mnemonic names.Bisl3 = codes "bisl3"
mnemonic names.Bicl2 = codes "bicl2"
mnemonic names.Bicl3 = codes "bicl3"
mnemonic names.Xorl2 = codes "xorl2"
mnemonic names.Xorl3 = codes "xorl3"
mnemonic names.Mnegl = codes "mnegl"
mnemonic names.Movl = codes "movl"
mnemonic names.Cmpl = codes "cmpl"
mnemonic names.Mcoml = codes "mcoml"
mnemonic names.Bitl = codes "bitl"
mnemonic names.Clrl = codes "clrl"
mnemonic names.Tstl = codes "tstl"
mnemonic names.Incl = codes "incl"
mnemonic names.Decl = codes "decl"
mnemonic names.Pushl = codes "pushl"
mnemonic names.Moval = codes "moval"
mnemonic names.Pushal = codes "pushal"
mnemonic names.Blbs = codes "blbs"
mnemonic names.Blbc = codes "blbc"
mnemonic names.Aoblss = codes "aoblss"
mnemonic names.Aobleq = codes "aobleq"
mnemonic names.Sobgeq = codes "sobgeq"
mnemonic names.Sobgtr = codes "sobgtr"
mnemonic names.Cvtlb = codes "cvtlb"
mnemonic names.Callg = codes "callg"
mnemonic names.Calls = codes "calls"

-- two texts have the same bytes
abbrev pub same_text : List ℕ → List ℕ → Bool
same_text one other = pointwise nat_eq one other

-- the row with this mnemonic
unfoldable pub row_named : List ℕ → Option Row
row_named word = find (λ row. same_text (mnemonic row.name) word) all_rows
