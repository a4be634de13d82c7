-- Bytes are shown exactly where they are decoded.
use Rattle.std.proofs.Common.{◌≡◌, ◌≢◌, ℕ, ◌+◌, ◌-◌, ◌/◌, ◌%◌, Bool, true, false, List, [], ◌∷◌, length, Option, Some, None, Ok, Err, refl, subst}
use Rattle.std.specs.Prelude.{if◌then◌else◌, nat_lt, ◌==◌, ◌&&◌, ◌||◌}
use Rattle.vax_code.specs.declared.table.Slot.{Slot}
use Rattle.vax_code.specs.declared.table.Row.{Row}
use Rattle.vax_code.specs.declared.instr.Instr.{Instr}
use Rattle.vax_code.specs.declared.instr.Operand.TheVariants as operands
use Rattle.vax_code.specs.declared.instr.Decoded.TheVariants as decodings
use Rattle.vax_code.specs.Table.{row_for, slot_in}
use Rattle.vax_code.specs.Operands.{is_read, is_address, is_branch}
use Rattle.vax_code.specs.Reading
use Rattle.vax_code.specs.Reading.{Read, next_byte, next_number, next_signed, next_displacement, base_at, indexed_at, next_specifier, next_operand, with_count, operand_in_place, next_operands, row_or_bad, instruction_at, decoding_of, decoded}
use Rattle.vax_code.specs.Grammar.{AreOctets}
use Rattle.vax_code.proofs.Law.{begins, begun}
use Rattle.asm_grammar.specs.declared.syntax.Sentence.{Sentence}
use Rattle.asm_grammar.specs.Text.{◌>>=◌}
use Rattle.vax_disasm.specs.Showing.{byte_shown, number_shown, size_of_mode, displacement_shown, absolute_shown, place_shown, indexed_shown, immediate_shown, specifier_shown, branch_shown, operand_shown, row_place_shown, operands_shown, sentence_shown}

-- both read something and leave the same bytes, or neither reads
abbrev Same : {A B : Type 0} → Option (A × List ℕ) → Read B → Type 0
Same (Some x) (Ok y) = x.1 ≡ y.1
Same None (Err e) = Unit {0}
Same (Some x) (Err e) = ⊥
Same None (Ok y) = ⊥

same_bind : {A B C D : Type 0} (d : Option (A × List ℕ)) (r : Read B) (f : A × List ℕ → Option (C × List ℕ)) (g : B × List ℕ → Read D) → Same d r
    → ((x : A) (y : B) (rest : List ℕ) → Same (f (x, rest)) (g (y, rest))) → Same (d >>= f) (Reading.◌>>=◌ r g)
same_bind (Some x) (Ok y) f g h k = subst (λ (l : List ℕ). Same (f (x.0, x.1)) (g (y.0, l))) h (k x.0 y.0 x.1)
same_bind (Some x) (Err e) f g h k = absurd h
same_bind None (Ok y) f g h k = absurd h
same_bind None (Err e) f g h k = tt

-- what is read of the decoder's is turned into something else
same_mapped : {A B C : Type 0} (d : Option (A × List ℕ)) (r : Read B) (g : B → C) → Same d r → Same d (Reading.◌>>=◌ r (λ x. Ok (g x.0, x.1)))
same_mapped (Some x) (Ok y) g h = h
same_mapped (Some x) (Err e) g h = absurd h
same_mapped None (Ok y) g h = absurd h
same_mapped None (Err e) g h = tt

same_whole : {A B C : Type 0} (d : Option (A × List ℕ)) (r : Read B) (g : B × List ℕ → C) → Same d r → Same d (Reading.◌>>=◌ r (λ x. Ok (g x, x.1)))
same_whole (Some x) (Ok y) g h = h
same_whole (Some x) (Err e) g h = absurd h
same_whole None (Ok y) g h = absurd h
same_whole None (Err e) g h = tt

same_if : {A B : Type 0} (t : Bool) (a c : Option (A × List ℕ)) (b d : Read B) → Same a b → Same c d → Same (if t then a else c) (if t then b else d)
same_if true a c b d h k = h
same_if false a c b d h k = k

same_byte : (bytes : List ℕ) → Same (byte_shown bytes) (next_byte bytes)
unfolding byte_shown next_byte
same_byte [] = tt
same_byte (byte ∷ rest) = refl

same_number : (size : ℕ) (bytes : List ℕ) → Same (number_shown size bytes) (next_number size bytes)
unfolding number_shown next_number
same_number size bytes = same_if (nat_lt (length bytes) size) _ _ _ _ tt refl

same_signed : (size : ℕ) (bytes : List ℕ) → Same (number_shown size bytes) (next_signed size bytes)
unfolding next_signed
same_signed size bytes = same_mapped (number_shown size bytes) (next_number size bytes) _ (same_number size bytes)

same_displacement : (mode reg : ℕ) (bytes : List ℕ) → Same (displacement_shown mode reg bytes) (next_displacement mode reg bytes)
unfolding displacement_shown next_displacement
same_displacement mode reg bytes = same_bind (number_shown (size_of_mode mode) bytes) (next_signed (size_of_mode mode) bytes) _ _ (same_signed (size_of_mode mode) bytes) (λ x y rest. refl)

same_absolute : (bytes : List ℕ) → Same (absolute_shown bytes) (base_at 9 15 bytes)
unfolding absolute_shown base_at
same_absolute bytes = same_bind (number_shown 4 bytes) (next_number 4 bytes) _ _ (same_number 4 bytes) (λ x y rest. refl)

same_place : (mode reg : ℕ) (bytes : List ℕ) → Same (place_shown mode reg bytes) (base_at mode reg bytes)
unfolding place_shown base_at
same_place mode reg bytes =
    same_if (nat_lt mode 6) _ _ _ _ tt
    (same_if (nat_lt 9 mode) _ _ _ _ (same_displacement mode reg bytes)
    (same_if ((mode == 9) && (reg == 15)) _ _ _ _ (same_absolute bytes)
    (same_if (reg == 15) _ _ _ _ tt
    (same_if (mode == 6) _ _ _ _ refl
    (same_if (mode == 7) _ _ _ _ refl
    (same_if (mode == 8) _ _ _ _ refl refl))))))

same_indexed : (index : ℕ) (bytes : List ℕ) → Same (indexed_shown index bytes) (indexed_at index bytes)
unfolding indexed_shown indexed_at byte_shown next_byte
same_indexed index [] = tt
same_indexed index (first ∷ rest) =
    same_if (nat_lt 6 (first / 16) && nat_lt (first / 16) 10 && (first % 16 == index)) _ _ _ _ tt
    (same_bind (place_shown (first / 16) (first % 16) rest) (base_at (first / 16) (first % 16) rest) _ _ (same_place (first / 16) (first % 16) rest) (λ x y rest. refl))

same_immediate : (slot : Slot) (bytes : List ℕ)
    → Same (immediate_shown slot bytes) (Reading.◌>>=◌ (next_number slot.size bytes) (λ number. Ok (operands.Immediate number.0, number.1)))
unfolding immediate_shown
same_immediate slot bytes = same_bind (number_shown slot.size bytes) (next_number slot.size bytes) _ _ (same_number slot.size bytes) (λ x y rest. refl)

same_specifier : (slot : Slot) (mode reg : ℕ) (bytes : List ℕ) → Same (specifier_shown slot mode reg bytes) (next_specifier slot mode reg bytes)
unfolding specifier_shown next_specifier
same_specifier slot mode reg bytes =
    same_if (nat_lt mode 4) _ _ _ _ (same_if (is_read slot.access) _ _ _ _ refl tt)
    (same_if (mode == 4) _ _ _ _ (same_if (reg == 15) _ _ _ _ tt (same_indexed reg bytes))
    (same_if (mode == 5) _ _ _ _ (same_if ((reg == 15) || is_address slot.access) _ _ _ _ tt refl)
    (same_if ((mode == 8) && (reg == 15)) _ _ _ _ (same_if (is_read slot.access) _ _ _ _ (same_immediate slot bytes) tt)
    (same_bind (place_shown mode reg bytes) (base_at mode reg bytes) _ _ (same_place mode reg bytes) (λ x y rest. refl)))))

same_branch : (slot : Slot) (from : ℕ) (bytes : List ℕ)
    → Same (branch_shown slot from bytes) (Reading.◌>>=◌ (next_signed slot.size bytes) (λ by. Ok (operands.Branch by.0, by.1)))
unfolding branch_shown
same_branch slot from bytes = same_bind (number_shown slot.size bytes) (next_signed slot.size bytes) _ _ (same_signed slot.size bytes) (λ x y rest. refl)

same_with_specifier : (slot : Slot) (bytes : List ℕ)
    → Same (byte_shown bytes >>= λ first. specifier_shown slot (first.0 / 16) (first.0 % 16) first.1)
    (Reading.◌>>=◌ (next_byte bytes) (λ first. next_specifier slot (first.0 / 16) (first.0 % 16) first.1))
unfolding byte_shown next_byte
same_with_specifier slot [] = tt
same_with_specifier slot (first ∷ rest) = same_specifier slot (first / 16) (first % 16) rest

same_operand : (slot : Slot) (from : ℕ) (bytes : List ℕ) → Same (operand_shown slot from bytes) (next_operand slot bytes)
unfolding operand_shown next_operand
same_operand slot from bytes = same_if (is_branch slot.access) _ _ _ _ (same_branch slot from bytes) (same_with_specifier slot bytes)

same_counted : (slot : Slot) (from : ℕ) (bytes : List ℕ) → Same (operand_shown slot from bytes) (with_count (next_operand slot) bytes)
unfolding with_count
same_counted slot from bytes = same_whole (operand_shown slot from bytes) (next_operand slot bytes) _ (same_operand slot from bytes)

same_row_place : (row : Row) (place from : ℕ) (bytes : List ℕ) → Same (row_place_shown row place from bytes) (operand_in_place row place bytes)
unfolding row_place_shown operand_in_place
same_row_place row place from bytes = same_if (nat_lt place row.count) _ _ _ _ (same_counted (slot_in row place) from bytes) refl

same_operands : (op : ℕ) (row : Row) (from : ℕ) (bytes : List ℕ) → Same (operands_shown row from bytes) (next_operands op row bytes)
unfolding operands_shown next_operands
same_operands op row from bytes =
    same_bind (row_place_shown row 0 from bytes) (operand_in_place row 0 bytes) _ _ (same_row_place row 0 from bytes) (λ x y rest.
    same_bind (row_place_shown row 1 (from + (length bytes - length rest)) rest) (operand_in_place row 1 rest) _ _ (same_row_place row 1 (from + (length bytes - length rest)) rest) (λ v w more.
    same_bind (row_place_shown row 2 (from + (length bytes - length more)) more) (operand_in_place row 2 more) _ _
    (same_row_place row 2 (from + (length bytes - length more)) more) (λ t u last. refl)))

same_row : {A B : Type 0} (o : Option Row) (f : Row → Option (A × List ℕ)) (g : Row → Read B) → ((row : Row) → Same (f row) (g row))
    → Same (o >>= f) (Reading.◌>>=◌ (row_or_bad o) g)
same_row None f g h = tt
same_row (Some row) f g h = h row

same_instruction : (at : ℕ) (bytes : List ℕ) → Same (sentence_shown at bytes) (instruction_at bytes)
unfolding sentence_shown instruction_at byte_shown next_byte
same_instruction at [] = tt
same_instruction at (op ∷ rest) = same_row (row_for op) _ _ (λ row. same_operands op row (at + 1) rest)

pub not_shown : (at : ℕ) (bytes : List ℕ) (instr : Instr) → AreOctets bytes → sentence_shown at bytes ≡ None → decoded bytes ≢ decodings.Is instr
not_shown at bytes instr octets none h =
    let read = begun bytes instr (begins bytes instr octets h) in
    let same : Same (sentence_shown at bytes) (instruction_at bytes) = same_instruction at bytes in
    let other : Same (sentence_shown at bytes) (let o : Read Instr = Ok (instr, read.0) in o) = subst (λ (r : Read Instr). Same (sentence_shown at bytes) r) read.1 same in
    subst (λ (d : Option (Sentence × List ℕ)). Same d (let o : Read Instr = Ok (instr, read.0) in o)) none other
