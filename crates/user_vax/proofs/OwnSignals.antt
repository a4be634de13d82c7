-- The signals of an instruction that no access gives: SIGILL and SIGFPE alone.
use Rattle.std.proofs.Common.{◌≡◌, ℕ, zero, suc, ◌-◌, ◌++◌, ◌∷◌, Bool, true, false, List, [], Option, Some, None, inl, inr, ◌⊎◌, refl}
use Rattle.vm_facts.specs.Answers.{ByteWrite}
use Rattle.vm_facts.specs.declared.regs.Regs.{Regs}
use Rattle.std.specs.Prelude.{nat_le, ◌==◌, ◌^◌, ◌/◌, ◌%◌, if◌then◌else◌}
use Rattle.vax_code.specs.declared.instr.Base.{Base}
use Rattle.vax_code.specs.declared.instr.Base.TheVariants as bases
use Rattle.vax_code.specs.declared.instr.Decoded.{Decoded}
use Rattle.vax_code.specs.declared.instr.Decoded.TheVariants as decodings
use Rattle.vax_code.specs.declared.instr.Instr.{Instr}
use Rattle.vax_code.specs.declared.instr.Operand.{Operand}
use Rattle.vax_code.specs.declared.instr.Operand.TheVariants as operands
use Rattle.vax_code.specs.declared.table.Access.{Access}
use Rattle.vax_code.specs.declared.table.Access.TheVariants as accesses
use Rattle.vax_code.specs.declared.table.Name.{Name}
use Rattle.vax_code.specs.declared.table.Name.TheVariants as names
use Rattle.vax_code.specs.declared.table.Row.{Row}
use Rattle.vax_code.specs.declared.table.Slot.{Slot}
use Rattle.vax_code.specs.Reading.{decoded}
use Rattle.vax_code.specs.Table.{row_for, slot_in}
use Rattle.vax_alu.specs.Results.{quotient_of}
use Rattle.user_vax.specs.declared.operand.Evaluated.{Evaluated}
use Rattle.user_vax.specs.declared.operand.Place.{Place}
use Rattle.user_vax.specs.declared.operand.Place.TheVariants as places
use Rattle.user_vax.specs.Signals.{sigill, sigfpe}
use Rattle.user_vax.specs.Program.{Program, Gives, Refuses, Reads, Tests, ◌>>=◌}
use Rattle.user_vax.specs.Operands.{register, with_register, past, number_at, address_of, evaluation_at, evaluation_through, evaluation}
use Rattle.user_vax.specs.Effects.{Effect, result_effect, division, pop, pop_into, subroutine_return}
use Rattle.user_vax.specs.Frames.{bit, procedure_call, restored, linkage, arguments_dropped, unwound, registers_returned, procedure_return, with_state_codes, procedure_entry, with_frame}
use Rattle.user_vax.specs.Computation.{computation}
use Rattle.user_vax.specs.Instruction.{on_decoded, fetch, evaluations, write_tests, tested_effect, execution, execution_by, instruction}

-- each refusal of the computation's own is one of these
abbrev pub HasOwnSignals : {A : Type 0} → Program A → Type 0
HasOwnSignals (Gives x) = Unit {0}
HasOwnSignals (Refuses signal) = (signal ≡ sigill) ⊎ (signal ≡ sigfpe)
HasOwnSignals (Reads address next) = (byte : ℕ) → HasOwnSignals (next byte)
HasOwnSignals (Tests address next) = HasOwnSignals next

bind : {A B : Type 0} (p : Program A) (f : A → Program B) → HasOwnSignals p → ((x : A) → HasOwnSignals (f x)) → HasOwnSignals (p >>= f)
bind (Gives x) f own next = next x
bind (Refuses signal) f own next = own
bind (Reads address rest) f own next = λ byte. bind (rest byte) f (own byte) next
bind (Tests address rest) f own next = bind rest f own next

number : (size address : ℕ) → HasOwnSignals (number_at size address)
unfolding number_at
number zero address = tt
number (suc size) address = λ byte. bind (number_at size (past address 1)) _ (number size (past address 1)) (λ high. tt)

-- ---- operands

address : (regs : Regs) (size : ℕ) (base : Base) → HasOwnSignals (address_of regs size base)
unfolding address_of
address regs size (bases.Deferred reg) = tt
address regs size (bases.AutoDec reg) = tt
address regs size (bases.AutoInc reg) = tt
address regs size (bases.AutoIncDef reg) = bind (number_at 4 (register regs reg)) _ (number 4 _) (λ found. tt)
address regs size (bases.Absolute place) = tt
address regs size (bases.Disp reg by false) = tt
address regs size (bases.Disp reg by true) = bind (number_at 4 _) _ (number 4 _) (λ found. tt)

-- an operand in memory, by its access
abbrev reached : Slot → Regs → ℕ → Access → Program (Regs × Evaluated)
reached slot regs place accesses.Read = number_at slot.size place >>= λ value. Gives (regs, record { value = value; place = places.Memory place })
reached slot regs place accesses.Modify = number_at slot.size place >>= λ value. Gives (regs, record { value = value; place = places.Memory place })
reached slot regs place accesses.Write = Gives (regs, record { value = 0; place = places.Memory place })
reached slot regs place accesses.Address = Gives (regs, record { value = place; place = places.Memory place })
reached slot regs place accesses.Branch = Gives (regs, record { value = place; place = places.Memory place })

reaching : (slot : Slot) (regs : Regs) (place : ℕ) (access : Access) → HasOwnSignals (reached slot regs place access)
reaching slot regs place accesses.Read = bind (number_at slot.size place) _ (number slot.size place) (λ value. tt)
reaching slot regs place accesses.Modify = bind (number_at slot.size place) _ (number slot.size place) (λ value. tt)
reaching slot regs place accesses.Write = tt
reaching slot regs place accesses.Address = tt
reaching slot regs place accesses.Branch = tt

operand_there : (slot : Slot) (regs : Regs) (place : ℕ) → HasOwnSignals (evaluation_at slot regs place)
unfolding evaluation_at
operand_there slot regs place = reaching slot regs place slot.access

through : (slot : Slot) (regs : Regs) (base : Base) → HasOwnSignals (evaluation_through slot regs base)
unfolding evaluation_through
through slot regs base = bind (address_of regs slot.size base) _ (address regs slot.size base) (λ found. operand_there slot found.0 found.1)

operand : (slot : Slot) (regs : Regs) (which : Operand) → HasOwnSignals (evaluation slot regs which)
unfolding evaluation
operand slot regs (operands.Literal value) = tt
operand slot regs (operands.Immediate value) = tt
operand slot regs (operands.Register reg) = tt
operand slot regs (operands.Branch by) = tt
operand slot regs (operands.Deferred reg) = through slot regs _
operand slot regs (operands.AutoDec reg) = through slot regs _
operand slot regs (operands.AutoInc reg) = through slot regs _
operand slot regs (operands.AutoIncDef reg) = through slot regs _
operand slot regs (operands.Absolute place) = through slot regs _
operand slot regs (operands.Disp reg by deferred) = through slot regs _
operand slot regs (operands.Indexed index base) =
    bind (address_of regs slot.size base) _ (address regs slot.size base) (λ found. operand_there slot found.0 _)

all_operands : (row : Row) (regs : Regs) (instr : Instr) → HasOwnSignals (evaluations row regs instr)
unfolding evaluations
all_operands row regs instr =
    bind (evaluation (slot_in row 0) regs instr.a) _ (operand (slot_in row 0) regs instr.a) (λ a.
    bind (evaluation (slot_in row 1) a.0 instr.b) _ (operand (slot_in row 1) a.0 instr.b) (λ b.
    bind (evaluation (slot_in row 2) b.0 instr.c) _ (operand (slot_in row 2) b.0 instr.c) (λ c. tt)))

-- ---- frames

popped : (regs : Regs) → HasOwnSignals (pop regs)
unfolding pop
popped regs = bind (number_at 4 (register regs 14)) _ (number 4 _) (λ value. tt)

popped_into : (regs : Regs) (reg : ℕ) → HasOwnSignals (pop_into regs reg)
unfolding pop_into
popped_into regs reg = bind (pop regs) _ (popped regs) (λ found. tt)

restore : (more mask : ℕ) (regs : Regs) → HasOwnSignals (restored more mask regs)
unfolding restored
restore zero mask regs = tt
restore (suc more) mask regs =
    bind (if bit mask (11 - more) then pop_into regs (11 - more) else Gives regs) (restored more mask) (one (bit mask (11 - more))) (restore more mask)
  where
    one : (b : Bool) → HasOwnSignals (if b then pop_into regs (11 - more) else Gives regs)
    one true = popped_into regs (11 - more)
    one false = tt

linked : (regs : Regs) → HasOwnSignals (linkage regs)
unfolding linkage
linked regs = bind (pop_into regs 12) _ (popped_into regs 12) (λ ap. bind (pop_into ap 13) _ (popped_into ap 13) (λ fp. popped_into fp 15))

dropped : (counted : Bool) (regs : Regs) → HasOwnSignals (arguments_dropped counted regs)
unfolding arguments_dropped
dropped false regs = tt
dropped true regs = bind (pop regs) _ (popped regs) (λ count. tt)

unwinding : (state : ℕ) (regs : Regs) → HasOwnSignals (unwound state regs)
unfolding unwound
unwinding state regs =
    bind (linkage regs) _ (linked regs) (λ after.
    bind (restored 12 (state / 2 ^ 16) after) _ (restore 12 _ after) (λ saved. dropped (bit state 29) _))

registers : (regs : Regs) → HasOwnSignals (registers_returned regs)
unfolding registers_returned
registers regs = bind (pop (with_register regs 14 (past (register regs 13) 4))) _ (popped _) (λ state. after state.1 state.0 (state.1 / 2 ^ 4 % 2 ^ 12 == 0))
  where
    after : (state : ℕ) (regs : Regs) (b : Bool) → HasOwnSignals (if b then (unwound state regs >>= λ left. Gives (with_state_codes left state)) else Refuses sigill)
    after state regs true = bind (unwound state regs) _ (unwinding state regs) (λ left. tt)
    after state regs false = inl refl

returning : (regs : Regs) → HasOwnSignals (procedure_return regs)
unfolding procedure_return
returning regs = bind (registers_returned regs) _ (registers regs) (λ after. tt)

calling : (before : Effect) (counted : Bool) (ap target : ℕ) → HasOwnSignals (procedure_call before counted ap target)
unfolding procedure_call
calling before counted ap target = bind (number_at 2 target) _ (number 2 target) (λ mask. entered mask (nat_le (2 ^ 12) mask))
  where
    entered : (mask : ℕ) (b : Bool) → HasOwnSignals (if b then Refuses sigill else Gives (procedure_entry (with_frame before counted mask) ap target))
    entered mask true = inl refl
    entered mask false = tt

-- ---- instructions

dividing : (regs : Regs) (place : Place) (dividend divisor : ℕ) → HasOwnSignals (division regs place dividend divisor)
unfolding division
dividing regs place dividend divisor = by (divisor == 0)
  where
    by : (b : Bool) → HasOwnSignals (if b then Refuses sigfpe else Gives (result_effect regs 4 place (quotient_of dividend divisor)))
    by true = inr refl
    by false = tt

subroutine : (regs : Regs) → HasOwnSignals (subroutine_return regs)
unfolding subroutine_return
subroutine regs = bind (pop_into regs 15) _ (popped_into regs 15) (λ after. tt)

computing : (name : Name) (regs : Regs) (a b c : Evaluated) → HasOwnSignals (computation name regs a b c)
unfolding computation
computing names.Ret regs a b c = returning regs
computing names.Rsb regs a b c = subroutine regs
computing names.Divl2 regs a b c = dividing regs b.place b.value a.value
computing names.Divl3 regs a b c = dividing regs c.place b.value a.value
computing names.Callg regs a b c = calling _ false a.value b.value
computing names.Calls regs a b c = calling _ true _ b.value
computing _ regs a b c = tt

testing : (writes : List ByteWrite) → HasOwnSignals (write_tests writes)
unfolding write_tests
testing [] = tt
testing (write ∷ writes) = testing writes

executing : (row : Row) (regs : Regs) (instr : Instr) → HasOwnSignals (execution row regs instr)
unfolding execution tested_effect
executing row regs instr =
    bind (evaluations row regs instr) _ (all_operands row regs instr) (λ all.
    bind (computation row.name all.0 all.1 all.2 all.3) _ (computing row.name all.0 all.1 all.2 all.3) (λ effect.
    bind (write_tests effect.writes) _ (testing effect.writes) (λ done. tt)))

executing_by : (row : Option Row) (regs : Regs) (instr : Instr) → HasOwnSignals (execution_by row regs instr)
unfolding execution_by
executing_by None regs instr = inl refl
executing_by (Some row) regs instr = executing row _ instr

judging : (found : Decoded) (more : Program Instr) → HasOwnSignals more → HasOwnSignals (on_decoded found more)
judging (decodings.Is instr) more own = tt
judging decodings.Reserved more own = inl refl
judging decodings.NeedMore more own = own

fetching : (more pc : ℕ) (bytes : List ℕ) → HasOwnSignals (fetch more pc bytes)
unfolding fetch
fetching zero pc bytes = inl refl
fetching (suc more) pc bytes = judging (decoded bytes) _ (λ byte. fetching more pc (bytes ++ byte ∷ []))

pub instruction_signals : (regs : Regs) → HasOwnSignals (instruction regs)
unfolding instruction
instruction_signals regs = bind (fetch 20 (register regs 15) []) _ (fetching 20 _ []) (λ instr. executing_by (row_for instr.op) regs instr)
