-- The instruction that makes a call has one operand.
use Rattle.std.proofs.Common.{◌≡◌, ℕ, ◌==◌, ◌||◌, Bool, true, false, not, cond, List, Option, Some, None, Ok, Err, nat_lt, refl, sym, ap, ◌∙◌}
use Rattle.std.proofs.lemmas.Bool.{eqb-true}
use Rattle.vax_code.specs.declared.reader.Fault.TheVariants.{Short, Bad}
use Rattle.vax_code.specs.Operands.{Spelled}
use Rattle.vax_code.specs.declared.instr.Instr.{Instr}
use Rattle.vax_code.specs.declared.instr.Operand.TheVariants as operands
use Rattle.vax_code.specs.declared.instr.Decoded.TheVariants as decodings
use Rattle.vax_code.specs.declared.table.Name.{Name}
use Rattle.vax_code.specs.declared.table.Name.TheVariants as names
use Rattle.vax_code.specs.declared.table.Row.{Row}
use Rattle.vax_code.specs.Table.{all_rows, row_for, slot_in}
use Rattle.vax_code.specs.Operands.{assembled, from_end}
use Rattle.vax_code.specs.Reading.{Read, next_byte, next_operand, row_or_bad, with_count, operand_in_place, next_operands, instruction_at, decoding_of, decoded}
use Rattle.vax_code.proofs.Rule.{found_passes}
use Rattle.vax_code.proofs.Readers.{bind_ok}

-- the instruction that makes a call
abbrev pub is_chmk : Name → Bool
is_chmk names.Chmk = true
is_chmk _ = false

abbrev has_one : Row → Bool
has_one row = not (is_chmk row.name) || (row.count == 1)

one_operand : (op : ℕ) (row : Row) → row_for op ≡ Some row → is_chmk row.name ≡ true → row.count ≡ 1
unfolding row_for all_rows
one_operand op row h chmk =
    let passed = found_passes (λ r. r.op == op) has_one all_rows row refl h in
    eqb-true row.count 1 (sym (ap (λ (b : Bool). not b || (row.count == 1)) chmk) ∙ passed)

place_filled : (row : Row) (place : ℕ) (bytes : List ℕ) (x : Spelled × List ℕ) → nat_lt place row.count ≡ false → operand_in_place row place bytes ≡ Ok x
    → x.0.operand ≡ operands.Literal 0
unfolding operand_in_place
place_filled row place bytes x none h = go (nat_lt place row.count) none h
  where
    go : (b : Bool) → b ≡ false → cond b (with_count (next_operand (slot_in row place)) bytes) (Ok (record { operand = operands.Literal 0; size = 0 }, bytes)) ≡ Ok x → x.0.operand ≡ operands.Literal 0
    go true e k = absurd cc
    go false e k = let same : (record { operand = operands.Literal 0; size = 0 }, bytes) ≡ x = cc in sym (ap (λ (y : Spelled × List ℕ). y.0.operand) same)

-- what is assembled of an opcode and fillers
made_filled : (op : ℕ) (row : Row) (a b c : Spelled) (rest : List ℕ) (x : Instr × List ℕ)
    → (let read : Read Instr = Ok (assembled op row a b c, rest) in read) ≡ Ok x → b.operand ≡ operands.Literal 0 → c.operand ≡ operands.Literal 0
    → (x.0.b ≡ operands.Literal 0) × (x.0.c ≡ operands.Literal 0)
made_filled op row a b c rest x h second third =
    let same : (assembled op row a b c, rest) ≡ x = cc in
    (sym (ap (λ (y : Instr × List ℕ). y.0.b) same) ∙ ap (from_end c.size) second, sym (ap (λ (y : Instr × List ℕ). y.0.c) same) ∙ third)

made_op : (op : ℕ) (row : Row) (a b c : Spelled) (rest : List ℕ) (x : Instr × List ℕ)
    → (let read : Read Instr = Ok (assembled op row a b c, rest) in read) ≡ Ok x → x.0.op ≡ op
made_op op row a b c rest x h =
    let same : (assembled op row a b c, rest) ≡ x = cc in
    sym (ap (λ (y : Instr × List ℕ). y.0.op) same)

operands_filled : (op : ℕ) (row : Row) (bytes : List ℕ) (x : Instr × List ℕ) → row.count ≡ 1 → next_operands op row bytes ≡ Ok x
    → (x.0.b ≡ operands.Literal 0) × (x.0.c ≡ operands.Literal 0)
unfolding next_operands
operands_filled op row bytes x one h =
    let a = bind_ok (operand_in_place row 0 bytes) _ x h in
    let b = bind_ok (operand_in_place row 1 a.0.1) _ x a.2 in
    let c = bind_ok (operand_in_place row 2 b.0.1) _ x b.2 in
    made_filled op row a.0.0 b.0.0 c.0.0 c.0.1 x c.2 (place_filled row 1 a.0.1 b.0 (ap (nat_lt 1) one) b.1) (place_filled row 2 b.0.1 c.0 (ap (nat_lt 2) one) c.1)

op_of : (op : ℕ) (row : Row) (bytes : List ℕ) (x : Instr × List ℕ) → next_operands op row bytes ≡ Ok x → x.0.op ≡ op
unfolding next_operands
op_of op row bytes x h =
    let a = bind_ok (operand_in_place row 0 bytes) _ x h in
    let b = bind_ok (operand_in_place row 1 a.0.1) _ x a.2 in
    let c = bind_ok (operand_in_place row 2 b.0.1) _ x b.2 in
    made_op op row a.0.0 b.0.0 c.0.0 c.0.1 x c.2

row_is : (o : Option Row) (row : Row) → row_or_bad o ≡ Ok row → o ≡ Some row
row_is None row h = absurd cc
row_is (Some r) row h = let same : r ≡ row = cc in ap (λ (x : Row). Some x) same

read_filled : (bytes : List ℕ) (x : Instr × List ℕ) (row : Row) → instruction_at bytes ≡ Ok x → row_for x.0.op ≡ Some row → is_chmk row.name ≡ true
    → (x.0.b ≡ operands.Literal 0) × (x.0.c ≡ operands.Literal 0)
unfolding instruction_at
read_filled bytes x row h listed chmk =
    let first = bind_ok (next_byte bytes) _ x h in
    let found = bind_ok (row_or_bad (row_for first.0.0)) _ x first.2 in
    let op : x.0.op ≡ first.0.0 = op_of first.0.0 found.0 first.0.1 x found.2 in
    let here : row_for first.0.0 ≡ Some found.0 = row_is (row_for first.0.0) found.0 found.1 in
    let both : Some found.0 ≡ Some row = sym here ∙ ap row_for (sym op) ∙ listed in
    let same : found.0 ≡ row = cc in
    let one : found.0.count ≡ 1 = one_operand first.0.0 found.0 here (ap (λ (r : Row). is_chmk r.name) same ∙ chmk) in
    operands_filled first.0.0 found.0 first.0.1 x one found.2

pub decoding_read : (read : Read Instr) (instr : Instr) → decoding_of read ≡ decodings.Is instr → (rest : List ℕ) × (read ≡ Ok (instr, rest))
decoding_read (Ok x) instr h = let same : x.0 ≡ instr = cc in (x.1, ap (λ (i : Instr). Ok (i, x.1)) same)
decoding_read (Err Short) instr h = absurd cc
decoding_read (Err Bad) instr h = absurd cc

pub call_filled : (bytes : List ℕ) (instr : Instr) (row : Row) → decoded bytes ≡ decodings.Is instr → row_for instr.op ≡ Some row
    → is_chmk row.name ≡ true → (instr.b ≡ operands.Literal 0) × (instr.c ≡ operands.Literal 0)
unfolding decoded
call_filled bytes instr row h listed chmk =
    let read = decoding_read (instruction_at bytes) instr h in
    read_filled bytes (instr, read.0) row read.1 listed chmk
