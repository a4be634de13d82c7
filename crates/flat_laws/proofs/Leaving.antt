-- What instructions leave in registers.
use Rattle.std.proofs.Common.{◌≡◌, ℕ, zero, suc, ◌+◌, ◌-◌, ◌*◌, ◌/◌, ◌%◌, ◌<◌, ◌≤◌, ◌^◌, ◌==◌, nat_le, Bool, true, false, List, [], ◌∷◌, ◌++◌, slice_index, Option, Some, None, refl, sym, ap, subst, arith}
use native.Mathlib.Numerals.{unary_clauses}
use Rattle.std.specs.Prelude.{if◌then◌else◌}
use Rattle.vm_facts.specs.Answers.{Answers, ByteWrite}
use Rattle.vm_facts.specs.declared.memory.ByteRead.{ByteRead}
use Rattle.vm_facts.specs.declared.memory.ByteRead.TheVariants as bytes
use Rattle.vm_facts.specs.declared.memory.MayWrite.{MayWrite}
use Rattle.vm_facts.specs.declared.memory.MayWrite.TheVariants as tests
use Rattle.flat_laws.specs.Longwords.{AreWritten, EffectFits, LeavesLongwords}
use Rattle.vm_facts.specs.declared.regs.Regs.{Regs}
use Rattle.user_vax.specs.declared.operand.Place.{Place}
use Rattle.user_vax.specs.declared.operand.Place.TheVariants as places
use Rattle.vax_alu.specs.Results.{quotient_of}
use Rattle.user_vax.specs.Signals.{sigill, sigfpe}
use Rattle.vax_code.specs.declared.table.Name.{Name}
use Rattle.vax_code.specs.declared.table.Name.TheVariants as names
use Rattle.user_vax.specs.declared.operand.Evaluated.{Evaluated}
use Rattle.user_vax.specs.Computation.{computation}
use Rattle.std.specs.Int.{w32, cast_unsigned}
use Rattle.vax_code.specs.declared.instr.Operand.{Operand}
use Rattle.vax_code.specs.declared.instr.Operand.TheVariants as operands
use Rattle.vax_code.specs.declared.instr.Base.{Base}
use Rattle.vax_code.specs.declared.instr.Base.TheVariants as bases
use Rattle.vax_code.specs.declared.table.Slot.{Slot}
use Rattle.vax_code.specs.declared.table.Access.{Access}
use Rattle.vax_code.specs.declared.table.Access.TheVariants as accesses
use Rattle.vax_code.specs.declared.instr.Instr.{Instr}
use Rattle.vax_code.specs.declared.table.Row.{Row}
use Rattle.vax_code.specs.declared.table.Kind.{Kind}
use Rattle.vax_code.specs.declared.table.Kind.TheVariants as kinds
use Rattle.vax_code.specs.Table.{slot_of, slot_in}
use Rattle.user_vax.specs.Instruction.{evaluations, write_tests, tested_effect, execution, execution_by}
use Rattle.user_vax.specs.Program.{Program, Gives, Refuses, Reads, Tests, ◌>>=◌, run, after_read, after_test}
use Rattle.user_vax.specs.Operands.{register, with_register, past, back, number_at, address_of, evaluation, evaluation_at, evaluation_through}
use Rattle.user_vax.specs.Effects.{Effect, bytes_at, registers_only, store_effect, push_onto, division, pop, pop_into, subroutine_return, result_effect, push_effect, with_move_codes}
use Rattle.user_vax.specs.Frames.{push_all, restored, linkage, bit, with_raised_stack, arguments_dropped, unwound, with_state_codes, registers_returned, procedure_return, procedure_call, procedure_entry, with_frame, with_aligned_stack, frame}
use Rattle.kernel_model.specs.UPage.{AllLongwords, AreRegs}
use Rattle.flat_laws.proofs.Registers.{regs_set}

-- all that a computation may give, where the bytes that it reads are bytes; its signals are longwords
abbrev pub AllLeave : {A : Type 0} → (A → Type 0) → Program A → Type 0
AllLeave P (Gives x) = P x
AllLeave P (Refuses signal) = signal < 2 ^ 32
AllLeave P (Reads a next) = (byte : ℕ) → byte < 256 → AllLeave P (next byte)
AllLeave P (Tests a next) = AllLeave P next

pub leave_bind : {A B : Type 0} (Q : A → Type 0) (P : B → Type 0) (p : Program A) (f : A → Program B) → AllLeave Q p
    → ((x : A) → Q x → AllLeave P (f x)) → AllLeave P (p >>= f)
leave_bind Q P (Gives x) f k h = h x k
leave_bind Q P (Refuses signal) f k h = k
leave_bind Q P (Reads a next) f k h = λ byte small. leave_bind Q P (next byte) f (k byte small) h
leave_bind Q P (Tests a next) f k h = leave_bind Q P next f k h

pub index_small : (ws : List ℕ) (i : ℕ) → AllLongwords ws → slice_index ws i < 2 ^ 32
index_small [] i h = omega arith
index_small (w ∷ ws) zero h = h.0
index_small (w ∷ ws) (suc i) h = index_small ws i h.1

two_parts : (low high n : ℕ) → low < 256 → high < n → low + 256 * high < 256 * n
two_parts low high n a b = omega (arith, a, b)

power_step : (size : ℕ) → 256 ^ suc size ≡ 256 * 256 ^ size
power_step size = simp unary_clauses (let e : 256 ^ size * 256 ≡ 256 * 256 ^ size = omega arith in e)

pub number_small : (size address : ℕ) → AllLeave (λ (n : ℕ). n < 256 ^ size) (number_at size address)
unfolding number_at
number_small zero address = omega arith
number_small (suc size) address = λ byte small.
    leave_bind (λ (n : ℕ). n < 256 ^ size) (λ (n : ℕ). n < 256 ^ suc size) (number_at size (past address 1)) (λ high. Gives (byte + 256 * high)) (number_small size (past address 1))
    (λ high k. subst (λ (n : ℕ). byte + 256 * high < n) (sym (power_step size)) (two_parts byte high (256 ^ size) small k))

-- a longword is popped
pub pop_leaves : (regs : Regs) → AreRegs regs → AllLeave (λ (x : Regs × ℕ). AreRegs x.0 × (x.1 < 2 ^ 32)) (pop regs)
unfolding pop
pop_leaves regs h =
    leave_bind (λ (n : ℕ). n < 256 ^ 4) (λ (x : Regs × ℕ). AreRegs x.0 × (x.1 < 2 ^ 32)) (number_at 4 (register regs 14)) (λ value. Gives (with_register regs 14 (past (register regs 14) 4), value))
    (number_small 4 (register regs 14))
    (λ value k. (regs_set regs 14 (past (register regs 14) 4) (omega arith) h, omega (arith, k)))

pub pop_into_leaves : (regs : Regs) (reg : ℕ) → AreRegs regs → AllLeave AreRegs (pop_into regs reg)
unfolding pop_into
pop_into_leaves regs reg h =
    leave_bind (λ (x : Regs × ℕ). AreRegs x.0 × (x.1 < 2 ^ 32)) AreRegs (pop regs) (λ popped. Gives (with_register popped.0 reg popped.1)) (pop_leaves regs h)
    (λ popped k. regs_set popped.0 reg popped.1 k.1 k.0)

pub subroutine_leaves : (regs : Regs) → AreRegs regs → AllLeave EffectFits (subroutine_return regs)
unfolding subroutine_return
subroutine_leaves regs h = leave_bind AreRegs EffectFits (pop_into regs 15) (λ after. Gives (registers_only after)) (pop_into_leaves regs 15 h) (λ after k. (k, tt))

-- a value goes to its place
pub one_fits : (x value : ℕ) → x < 2 ^ 32 → x / 256 ^ 1 * 256 ^ 1 + value % 256 ^ 1 < 2 ^ 32
one_fits x value h = omega (arith, h)

pub two_fits : (x value : ℕ) → x < 2 ^ 32 → x / 256 ^ 2 * 256 ^ 2 + value % 256 ^ 2 < 2 ^ 32
two_fits x value h = omega (arith, h)

pub four_fits : (x value : ℕ) → x < 2 ^ 32 → x / 256 ^ 4 * 256 ^ 4 + value % 256 ^ 4 < 2 ^ 32
four_fits x value h = omega (arith, h)

pub bytes_written : (size address value : ℕ) → AreWritten (bytes_at size address value)
unfolding bytes_at
bytes_written zero address value = tt
bytes_written (suc size) address value = (omega arith, bytes_written size (past address 1) (value / 256))

both_written : (xs ys : List ByteWrite) → AreWritten xs → AreWritten ys → AreWritten (xs ++ ys)
both_written [] ys a b = b
both_written (x ∷ xs) ys a b = (a.0, both_written xs ys a.1 b)

pub store_leaves : (regs : Regs) (size : ℕ) (place : Place) (value : ℕ)
    → ((x v : ℕ) → x < 2 ^ 32 → x / 256 ^ size * 256 ^ size + v % 256 ^ size < 2 ^ 32) → AreRegs regs
    → EffectFits (store_effect regs size place value)
unfolding store_effect
store_leaves regs size places.Nowhere value fits h = (h, tt)
store_leaves regs size (places.Register reg) value fits h = (regs_set regs reg _ (fits (register regs reg) value (index_small regs.r reg h.each)) h, tt)
store_leaves regs size (places.Memory address) value fits h = (h, bytes_written size address value)

pub push_leaves : (effect : Effect) (value : ℕ) → EffectFits effect → EffectFits (push_onto effect value)
unfolding push_onto
push_leaves effect value h = (
  regs_set effect.regs 14 (back (register effect.regs 14) 4) (omega arith) h.0,
  both_written effect.writes (bytes_at 4 (back (register effect.regs 14) 4) value) h.1 (bytes_written 4 (back (register effect.regs 14) 4) value),
)

pub pushes_leave : (effect : Effect) (values : List ℕ) → EffectFits effect → EffectFits (push_all effect values)
unfolding push_all
pushes_leave effect [] h = h
pushes_leave effect (value ∷ values) h = pushes_leave (push_onto effect value) values (push_leaves effect value h)

pub jump_leaves : (test : Bool) (regs : Regs) (target : ℕ) → target < 2 ^ 32 → AreRegs regs → AreRegs (if test then with_register regs 15 target else regs)
jump_leaves true regs target small h = regs_set regs 15 target small h
jump_leaves false regs target small h = h

-- The frame of a procedure.

pub restored_leaves : (more mask : ℕ) (regs : Regs) → AreRegs regs → AllLeave AreRegs (restored more mask regs)
unfolding restored
restored_leaves zero mask regs h = h
restored_leaves (suc more) mask regs h =
    leave_bind AreRegs AreRegs (if bit mask (11 - more) then pop_into regs (11 - more) else Gives regs) (restored more mask) (go (bit mask (11 - more))) (λ after k. restored_leaves more mask after k)
  where
    go : (b : Bool) → AllLeave AreRegs (if b then pop_into regs (11 - more) else Gives regs)
    go true = pop_into_leaves regs (11 - more) h
    go false = h

pub linkage_leaves : (regs : Regs) → AreRegs regs → AllLeave AreRegs (linkage regs)
unfolding linkage
linkage_leaves regs h =
    leave_bind AreRegs AreRegs (pop_into regs 12) (λ with_ap. pop_into with_ap 13 >>= λ with_fp. pop_into with_fp 15) (pop_into_leaves regs 12 h)
    (λ with_ap k. leave_bind AreRegs AreRegs (pop_into with_ap 13) (λ with_fp. pop_into with_fp 15) (pop_into_leaves with_ap 13 k) (λ with_fp m. pop_into_leaves with_fp 15 m))

raised_leaves : (regs : Regs) (by : ℕ) → AreRegs regs → AreRegs (with_raised_stack regs by)
raised_leaves regs by h = regs_set regs 14 (past (register regs 14) by) (omega arith) h

dropped_leaves : (b : Bool) (regs : Regs) → AreRegs regs → AllLeave AreRegs (arguments_dropped b regs)
unfolding arguments_dropped
dropped_leaves false regs h = h
dropped_leaves true regs h =
    leave_bind (λ (x : Regs × ℕ). AreRegs x.0 × (x.1 < 2 ^ 32)) AreRegs (pop regs) (λ count. Gives (with_raised_stack count.0 (4 * (count.1 % 256)))) (pop_leaves regs h)
    (λ count k. raised_leaves count.0 (4 * (count.1 % 256)) k.0)

pub unwound_leaves : (state : ℕ) (regs : Regs) → AreRegs regs → AllLeave AreRegs (unwound state regs)
unfolding unwound
unwound_leaves state regs h =
    leave_bind AreRegs AreRegs (linkage regs)
    (λ linked. restored 12 (state / 2 ^ 16) linked >>= λ with_saved. arguments_dropped (bit state 29) (with_raised_stack with_saved (state / 2 ^ 30))) (linkage_leaves regs h)
    (λ linked k. leave_bind AreRegs AreRegs (restored 12 (state / 2 ^ 16) linked) (λ with_saved. arguments_dropped (bit state 29) (with_raised_stack with_saved (state / 2 ^ 30)))
    (restored_leaves 12 (state / 2 ^ 16) linked k)
    (λ with_saved m. dropped_leaves (bit state 29) (with_raised_stack with_saved (state / 2 ^ 30)) (raised_leaves with_saved (state / 2 ^ 30) m)))

returned_leaves : (regs : Regs) → AreRegs regs → AllLeave AreRegs (registers_returned regs)
unfolding registers_returned
returned_leaves regs h =
    leave_bind (λ (x : Regs × ℕ). AreRegs x.0 × (x.1 < 2 ^ 32)) AreRegs (pop (with_register regs 14 (past (register regs 13) 4)))
    (λ state. if state.1 / 2 ^ 4 % 2 ^ 12 == 0 then (unwound state.1 state.0 >>= λ after. Gives (with_state_codes after state.1)) else Refuses sigill)
    (pop_leaves (with_register regs 14 (past (register regs 13) 4)) (regs_set regs 14 (past (register regs 13) 4) (omega arith) h))
    (λ state k. go state k.0 (state.1 / 2 ^ 4 % 2 ^ 12 == 0))
  where
    go : (state : Regs × ℕ) → AreRegs state.0 → (b : Bool) → AllLeave AreRegs (if b then (unwound state.1 state.0 >>= λ after. Gives (with_state_codes after state.1)) else Refuses sigill)
    go state k true =
        leave_bind AreRegs AreRegs (unwound state.1 state.0) (λ after. Gives (with_state_codes after state.1)) (unwound_leaves state.1 state.0 k) (λ after m. record { count = m.count; each = m.each })
    go state k false = omega arith

pub procedure_return_leaves : (regs : Regs) → AreRegs regs → AllLeave EffectFits (procedure_return regs)
unfolding procedure_return
procedure_return_leaves regs h = leave_bind AreRegs EffectFits (registers_returned regs) (λ after. Gives (registers_only after)) (returned_leaves regs h) (λ after k. (k, tt))

frame_leaves : (before : Effect) (counted : Bool) (mask : ℕ) → EffectFits before → EffectFits (with_frame before counted mask)
unfolding with_frame
frame_leaves before counted mask h =
    pushes_leave (record before { regs = with_aligned_stack before.regs }) (frame before.regs counted mask) (
      regs_set before.regs 14 (register before.regs 14 / 4 * 4) (let each : AllLongwords before.regs.r = (let r : AreRegs before.regs = h.0 in r.each) in
          let k = index_small before.regs.r 14 each in omega (arith, k)) h.0,
      h.1,
    )

entered_leaves : (pushed : Effect) (ap target : ℕ) → ap < 2 ^ 32 → EffectFits pushed → EffectFits (procedure_entry pushed ap target)
entered_leaves pushed ap target small h =
    let r : AreRegs pushed.regs = h.0 in
    let one = regs_set pushed.regs 12 ap small r in
    let two = regs_set (with_register pushed.regs 12 ap) 13 (register pushed.regs 14) (index_small pushed.regs.r 14 r.each) one in
    let three = regs_set (with_register (with_register pushed.regs 12 ap) 13 (register pushed.regs 14)) 15 (past target 2) (omega arith) two in
    (record { count = three.count; each = three.each }, h.1)

pub procedure_call_leaves : (before : Effect) (counted : Bool) (ap target : ℕ) → ap < 2 ^ 32 → EffectFits before
    → AllLeave EffectFits (procedure_call before counted ap target)
unfolding procedure_call
procedure_call_leaves before counted ap target small h =
    leave_bind (λ (n : ℕ). n < 256 ^ 2) EffectFits (number_at 2 target)
    (λ mask. if nat_le (2 ^ 12) mask then Refuses sigill else Gives (procedure_entry (with_frame before counted mask) ap target))
    (number_small 2 target) (λ mask k. go mask (nat_le (2 ^ 12) mask))
  where
    go : (mask : ℕ) (b : Bool) → AllLeave EffectFits (if b then Refuses sigill else Gives (procedure_entry (with_frame before counted mask) ap target))
    go mask true = omega arith
    go mask false = entered_leaves (with_frame before counted mask) ap target small (frame_leaves before counted mask h)

pub division_leaves : (regs : Regs) (place : Place) (dividend divisor : ℕ) → AreRegs regs → AllLeave EffectFits (division regs place dividend divisor)
unfolding division
division_leaves regs place dividend divisor h = go (divisor == 0)
  where
    go : (b : Bool) → AllLeave EffectFits (if b then Refuses sigfpe else Gives (result_effect regs 4 place (quotient_of dividend divisor)))
    go true = omega arith
    go false = store_leaves _ 4 place _ four_fits record { count = h.count; each = h.each }

pub computation_leaves : (name : Name) (regs : Regs) (a b c : Evaluated) → a.value < 2 ^ 32 → b.value < 2 ^ 32 → c.value < 2 ^ 32 → AreRegs regs
    → AllLeave EffectFits (computation name regs a b c)
unfolding computation
computation_leaves names.Nop regs a b c x y z h = (h, tt)
computation_leaves names.Ret regs a b c x y z h = procedure_return_leaves regs h
computation_leaves names.Rsb regs a b c x y z h = subroutine_leaves regs h
computation_leaves names.Bsbb regs a b c x y z h = let k = push_leaves (registers_only regs) (register regs 15) (h, tt) in (regs_set _ 15 a.value x k.0, k.1)
computation_leaves names.Bsbw regs a b c x y z h = let k = push_leaves (registers_only regs) (register regs 15) (h, tt) in (regs_set _ 15 a.value x k.0, k.1)
computation_leaves names.Jsb regs a b c x y z h = let k = push_leaves (registers_only regs) (register regs 15) (h, tt) in (regs_set _ 15 a.value x k.0, k.1)
computation_leaves names.Brb regs a b c x y z h = (regs_set regs 15 a.value x h, tt)
computation_leaves names.Brw regs a b c x y z h = (regs_set regs 15 a.value x h, tt)
computation_leaves names.Jmp regs a b c x y z h = (regs_set regs 15 a.value x h, tt)
computation_leaves names.Bneq regs a b c x y z h = (jump_leaves _ regs a.value x h, tt)
computation_leaves names.Beql regs a b c x y z h = (jump_leaves _ regs a.value x h, tt)
computation_leaves names.Bgtr regs a b c x y z h = (jump_leaves _ regs a.value x h, tt)
computation_leaves names.Bleq regs a b c x y z h = (jump_leaves _ regs a.value x h, tt)
computation_leaves names.Bgeq regs a b c x y z h = (jump_leaves _ regs a.value x h, tt)
computation_leaves names.Blss regs a b c x y z h = (jump_leaves _ regs a.value x h, tt)
computation_leaves names.Bgtru regs a b c x y z h = (jump_leaves _ regs a.value x h, tt)
computation_leaves names.Blequ regs a b c x y z h = (jump_leaves _ regs a.value x h, tt)
computation_leaves names.Bvc regs a b c x y z h = (jump_leaves _ regs a.value x h, tt)
computation_leaves names.Bvs regs a b c x y z h = (jump_leaves _ regs a.value x h, tt)
computation_leaves names.Bcc regs a b c x y z h = (jump_leaves _ regs a.value x h, tt)
computation_leaves names.Bcs regs a b c x y z h = (jump_leaves _ regs a.value x h, tt)
computation_leaves names.Blbs regs a b c x y z h = (jump_leaves _ regs b.value y h, tt)
computation_leaves names.Blbc regs a b c x y z h = (jump_leaves _ regs b.value y h, tt)
computation_leaves names.Aoblss regs a b c x y z h = let k = store_leaves _ 4 b.place _ four_fits record { count = h.count; each = h.each } in (jump_leaves _ _ c.value z k.0, k.1)
computation_leaves names.Aobleq regs a b c x y z h = let k = store_leaves _ 4 b.place _ four_fits record { count = h.count; each = h.each } in (jump_leaves _ _ c.value z k.0, k.1)
computation_leaves names.Sobgeq regs a b c x y z h = let k = store_leaves _ 4 a.place _ four_fits record { count = h.count; each = h.each } in (jump_leaves _ _ b.value y k.0, k.1)
computation_leaves names.Sobgtr regs a b c x y z h = let k = store_leaves _ 4 a.place _ four_fits record { count = h.count; each = h.each } in (jump_leaves _ _ b.value y k.0, k.1)
computation_leaves names.Movb regs a b c x y z h = store_leaves _ 1 b.place _ one_fits record { count = h.count; each = h.each }
computation_leaves names.Movw regs a b c x y z h = store_leaves _ 2 b.place _ two_fits record { count = h.count; each = h.each }
computation_leaves names.Clrb regs a b c x y z h = store_leaves _ 1 a.place _ one_fits record { count = h.count; each = h.each }
computation_leaves names.Clrl regs a b c x y z h = store_leaves _ 4 a.place _ four_fits record { count = h.count; each = h.each }
computation_leaves names.Pushl regs a b c x y z h = push_leaves (registers_only (with_move_codes regs 4 a.value)) a.value (record { count = h.count; each = h.each }, tt)
computation_leaves names.Pushab regs a b c x y z h = push_leaves (registers_only (with_move_codes regs 4 a.value)) a.value (record { count = h.count; each = h.each }, tt)
computation_leaves names.Pushal regs a b c x y z h = push_leaves (registers_only (with_move_codes regs 4 a.value)) a.value (record { count = h.count; each = h.each }, tt)
computation_leaves names.Bisl3 regs a b c x y z h = store_leaves _ 4 c.place _ four_fits record { count = h.count; each = h.each }
computation_leaves names.Bicl3 regs a b c x y z h = store_leaves _ 4 c.place _ four_fits record { count = h.count; each = h.each }
computation_leaves names.Xorl3 regs a b c x y z h = store_leaves _ 4 c.place _ four_fits record { count = h.count; each = h.each }
computation_leaves names.Bitl regs a b c x y z h = (record { count = h.count; each = h.each }, tt)
computation_leaves names.Cmpb regs a b c x y z h = (record { count = h.count; each = h.each }, tt)
computation_leaves names.Cmpw regs a b c x y z h = (record { count = h.count; each = h.each }, tt)
computation_leaves names.Cmpl regs a b c x y z h = (record { count = h.count; each = h.each }, tt)
computation_leaves names.Tstb regs a b c x y z h = (record { count = h.count; each = h.each }, tt)
computation_leaves names.Tstl regs a b c x y z h = (record { count = h.count; each = h.each }, tt)
computation_leaves names.Cvtlb regs a b c x y z h = store_leaves _ 1 b.place _ one_fits record { count = h.count; each = h.each }
computation_leaves names.Addl3 regs a b c x y z h = store_leaves _ 4 c.place _ four_fits record { count = h.count; each = h.each }
computation_leaves names.Incb regs a b c x y z h = store_leaves _ 1 a.place _ one_fits record { count = h.count; each = h.each }
computation_leaves names.Incl regs a b c x y z h = store_leaves _ 4 a.place _ four_fits record { count = h.count; each = h.each }
computation_leaves names.Subl3 regs a b c x y z h = store_leaves _ 4 c.place _ four_fits record { count = h.count; each = h.each }
computation_leaves names.Decb regs a b c x y z h = store_leaves _ 1 a.place _ one_fits record { count = h.count; each = h.each }
computation_leaves names.Decl regs a b c x y z h = store_leaves _ 4 a.place _ four_fits record { count = h.count; each = h.each }
computation_leaves names.Mull3 regs a b c x y z h = store_leaves _ 4 c.place _ four_fits record { count = h.count; each = h.each }
computation_leaves names.Divl2 regs a b c x y z h = division_leaves regs b.place b.value a.value h
computation_leaves names.Divl3 regs a b c x y z h = division_leaves regs c.place b.value a.value h
computation_leaves names.Ashl regs a b c x y z h = store_leaves _ 4 c.place _ four_fits record { count = h.count; each = h.each }
computation_leaves names.Chmk regs a b c x y z h = (h, tt)
computation_leaves names.Callg regs a b c x y z h = procedure_call_leaves (registers_only regs) false a.value b.value x (h, tt)
computation_leaves names.Calls regs a b c x y z h =
    let k = push_leaves (registers_only regs) a.value (h, tt) in
    let r : AreRegs (push_effect regs a.value).regs = k.0 in
    procedure_call_leaves (push_effect regs a.value) true (register (push_effect regs a.value).regs 14) b.value (index_small (push_effect regs a.value).regs.r 14 r.each) k
computation_leaves _ regs a b c x y z h = store_leaves _ 4 b.place _ four_fits record { count = h.count; each = h.each }

-- Operands.

-- the addresses and values that an operand tells are longwords
abbrev pub IsLongBase : Base → Type 0
IsLongBase (bases.Absolute address) = address < 2 ^ 32
IsLongBase _ = Unit {0}

abbrev pub IsLongOperand : Operand → Type 0
IsLongOperand (operands.Literal value) = value < 2 ^ 32
IsLongOperand (operands.Immediate value) = value < 2 ^ 32
IsLongOperand (operands.Absolute address) = address < 2 ^ 32
IsLongOperand (operands.Indexed index base) = IsLongBase base
IsLongOperand _ = Unit {0}

abbrev pub IsFound : Regs × ℕ → Type 0
IsFound x = AreRegs x.0 × (x.1 < 2 ^ 32)

abbrev pub IsEvaluated : Regs × Evaluated → Type 0
IsEvaluated x = AreRegs x.0 × (x.1.value < 2 ^ 32)

long_number : (address : ℕ) → AllLeave (λ (n : ℕ). n < 2 ^ 32) (number_at 4 address)
long_number address = number_small 4 address

pub address_leaves : (regs : Regs) (size : ℕ) (base : Base) → IsLongBase base → AreRegs regs → AllLeave IsFound (address_of regs size base)
unfolding address_of
address_leaves regs size (bases.Deferred reg) long h = (h, index_small regs.r reg h.each)
address_leaves regs size (bases.AutoDec reg) long h = (regs_set regs reg (back (register regs reg) size) (omega arith) h, omega arith)
address_leaves regs size (bases.AutoInc reg) long h = (regs_set regs reg (past (register regs reg) size) (omega arith) h, index_small regs.r reg h.each)
address_leaves regs size (bases.AutoIncDef reg) long h =
    leave_bind (λ (n : ℕ). n < 2 ^ 32) IsFound (number_at 4 (register regs reg)) (λ address. Gives (with_register regs reg (past (register regs reg) 4), address)) (long_number (register regs reg))
    (λ address k. (regs_set regs reg (past (register regs reg) 4) (omega arith) h, k))
address_leaves regs size (bases.Absolute address) long h = (h, long)
address_leaves regs size (bases.Disp reg by false) long h = (h, omega arith)
address_leaves regs size (bases.Disp reg by true) long h =
    leave_bind (λ (n : ℕ). n < 2 ^ 32) IsFound (number_at 4 (past (register regs reg) (cast_unsigned w32 by))) (λ address. Gives (regs, address))
    (long_number (past (register regs reg) (cast_unsigned w32 by)))
    (λ address k. (h, k))

pub at_leaves : (slot : Slot) (regs : Regs) (address : ℕ) → 256 ^ slot.size ≤ 2 ^ 32 → address < 2 ^ 32 → AreRegs regs
    → AllLeave IsEvaluated (evaluation_at slot regs address)
unfolding evaluation_at
at_leaves slot regs address few small h = go slot.access
  where
    read : AllLeave IsEvaluated (number_at slot.size address >>= λ value. Gives (regs, record { value = value; place = places.Memory address }))
    read = leave_bind (λ (n : ℕ). n < 256 ^ slot.size) IsEvaluated (number_at slot.size address) (λ value. Gives (regs, record { value = value; place = places.Memory address }))
        (number_small slot.size address) (λ value k. (h, omega (arith, k, few)))

    go : (access : Access) → AllLeave IsEvaluated (elim access [
      | accesses.Read ↦ (number_at slot.size address >>= λ value. Gives (regs, record { value = value; place = places.Memory address }))
      | accesses.Modify ↦ (number_at slot.size address >>= λ value. Gives (regs, record { value = value; place = places.Memory address }))
      | accesses.Write ↦ Gives (regs, record { value = 0; place = places.Memory address })
      | accesses.Address ↦ Gives (regs, record { value = address; place = places.Memory address })
      | accesses.Branch ↦ Gives (regs, record { value = address; place = places.Memory address })
    ])
    go accesses.Read = read
    go accesses.Modify = read
    go accesses.Write = (h, omega arith)
    go accesses.Address = (h, small)
    go accesses.Branch = (h, small)

pub through_leaves : (slot : Slot) (regs : Regs) (base : Base) → 256 ^ slot.size ≤ 2 ^ 32 → IsLongBase base → AreRegs regs
    → AllLeave IsEvaluated (evaluation_through slot regs base)
unfolding evaluation_through
through_leaves slot regs base few long h =
    leave_bind IsFound IsEvaluated (address_of regs slot.size base) (λ found. evaluation_at slot found.0 found.1) (address_leaves regs slot.size base long h)
    (λ found k. at_leaves slot found.0 found.1 few k.1 k.0)

slot_small : (kind : Kind) → (256 ^ (slot_of kind).size ≤ 2 ^ 32) × ((x : ℕ) → x < 2 ^ 32 → x % 256 ^ (slot_of kind).size < 2 ^ 32)
slot_small kinds.Ab = (omega arith, λ x h. omega (arith, h))
slot_small _ = (omega arith, λ x h. omega (arith, h))

pub row_small : (row : Row) (place : ℕ) → (256 ^ (slot_in row place).size ≤ 2 ^ 32) × ((x : ℕ) → x < 2 ^ 32 → x % 256 ^ (slot_in row place).size < 2 ^ 32)
row_small row place = slot_small (if place == 0 then row.a else (if place == 1 then row.b else row.c))

pub operand_leaves : (slot : Slot) (regs : Regs) (operand : Operand)
    → (256 ^ slot.size ≤ 2 ^ 32) × ((x : ℕ) → x < 2 ^ 32 → x % 256 ^ slot.size < 2 ^ 32) → IsLongOperand operand → AreRegs regs
    → AllLeave IsEvaluated (evaluation slot regs operand)
unfolding evaluation
operand_leaves slot regs (operands.Register reg) few long h = (h, few.1 (register regs reg) (index_small regs.r reg h.each))
operand_leaves slot regs (operands.Branch by) few long h = (h, omega arith)
operand_leaves slot regs (operands.Deferred reg) few long h = through_leaves slot regs (bases.Deferred reg) few.0 tt h
operand_leaves slot regs (operands.AutoDec reg) few long h = through_leaves slot regs (bases.AutoDec reg) few.0 tt h
operand_leaves slot regs (operands.AutoInc reg) few long h = through_leaves slot regs (bases.AutoInc reg) few.0 tt h
operand_leaves slot regs (operands.AutoIncDef reg) few long h = through_leaves slot regs (bases.AutoIncDef reg) few.0 tt h
operand_leaves slot regs (operands.Absolute address) few long h = through_leaves slot regs (bases.Absolute address) few.0 long h
operand_leaves slot regs (operands.Disp reg by deferred) few long h = through_leaves slot regs (bases.Disp reg by deferred) few.0 tt h
operand_leaves slot regs (operands.Indexed index base) few long h =
    leave_bind IsFound IsEvaluated (address_of regs slot.size base) (λ found. evaluation_at slot found.0 (past found.1 (slot.size * register found.0 index)))
    (address_leaves regs slot.size base long h)
    (λ found k. at_leaves slot found.0 (past found.1 (slot.size * register found.0 index)) few.0 (omega arith) k.0)
operand_leaves slot regs _ few long h = (h, long)

-- three operands
abbrev pub AreEvaluated : Regs × Evaluated × Evaluated × Evaluated → Type 0
AreEvaluated x = AreRegs x.0 × (x.1.value < 2 ^ 32) × (x.2.value < 2 ^ 32) × (x.3.value < 2 ^ 32)

pub operands_leave : (row : Row) (regs : Regs) (instr : Instr) → IsLongOperand instr.a → IsLongOperand instr.b → IsLongOperand instr.c → AreRegs regs
    → AllLeave AreEvaluated (evaluations row regs instr)
unfolding evaluations
operands_leave row regs instr la lb lc h =
    leave_bind IsEvaluated AreEvaluated (evaluation (slot_in row 0) regs instr.a)
    (λ a. evaluation (slot_in row 1) a.0 instr.b >>= λ b. evaluation (slot_in row 2) b.0 instr.c >>= λ c. Gives (c.0, a.1, b.1, c.1))
    (operand_leaves (slot_in row 0) regs instr.a (row_small row 0) la h)
    (λ a k. leave_bind IsEvaluated AreEvaluated (evaluation (slot_in row 1) a.0 instr.b) (λ b. evaluation (slot_in row 2) b.0 instr.c >>= λ c. Gives (c.0, a.1, b.1, c.1))
    (operand_leaves (slot_in row 1) a.0 instr.b (row_small row 1) lb k.0)
    (λ b m. leave_bind IsEvaluated AreEvaluated (evaluation (slot_in row 2) b.0 instr.c) (λ c. Gives (c.0, a.1, b.1, c.1)) (operand_leaves (slot_in row 2) b.0 instr.c (row_small row 2) lc m.0)
    (λ c n. (n.0, k.1, m.1, n.1))))

tests_leave : (writes : List ByteWrite) → AllLeave (λ (u : Unit {0}). Unit {0}) (write_tests writes)
unfolding write_tests
tests_leave [] = tt
tests_leave (write ∷ writes) = tests_leave writes

tested_leaves : (effect : Effect) → EffectFits effect → AllLeave EffectFits (tested_effect effect)
unfolding tested_effect
tested_leaves effect h = leave_bind (λ (u : Unit {0}). Unit {0}) EffectFits (write_tests effect.writes) (λ _. Gives effect) (tests_leave effect.writes) (λ u k. h)

pub execution_leaves : (row : Row) (regs : Regs) (instr : Instr) → IsLongOperand instr.a → IsLongOperand instr.b → IsLongOperand instr.c
    → AreRegs regs → AllLeave EffectFits (execution row regs instr)
unfolding execution
execution_leaves row regs instr la lb lc h =
    leave_bind AreEvaluated EffectFits (evaluations row regs instr) (λ all. computation row.name all.0 all.1 all.2 all.3 >>= λ effect. tested_effect effect) (operands_leave row regs instr la lb lc h)
    (λ all k. leave_bind EffectFits EffectFits (computation row.name all.0 all.1 all.2 all.3) (λ effect. tested_effect effect) (computation_leaves row.name all.0 all.1 all.2 all.3 k.1 k.2 k.3 k.0)
    (λ effect m. tested_leaves effect m))

pub execution_by_leaves : (row : Option Row) (regs : Regs) (instr : Instr) → IsLongOperand instr.a → IsLongOperand instr.b → IsLongOperand instr.c
    → AreRegs regs → AllLeave EffectFits (execution_by row regs instr)
unfolding execution_by
execution_by_leaves None regs instr la lb lc h = omega arith
execution_by_leaves (Some row) regs instr la lb lc h =
    execution_leaves row (with_register regs 15 (past (register regs 15) instr.length)) instr la lb lc (regs_set regs 15 (past (register regs 15) instr.length) (omega arith) h)

pub run_leaves : (memory : Answers) (p : Program Effect) → ((a byte : ℕ) → memory.read a ≡ bytes.Is byte → byte < 256) → AllLeave EffectFits p
    → LeavesLongwords (run memory p)
run_leaves memory (Reads a next) small h = go (λ byte low. run_leaves memory (next byte) small (h byte low)) (memory.read a) refl
  where
    go : ((byte : ℕ) → byte < 256 → LeavesLongwords (run memory (next byte))) → (answer : ByteRead) → memory.read a ≡ answer → LeavesLongwords (after_read answer a (λ byte. run memory (next byte)))
    go later (bytes.Is byte) e = later byte (small a byte e)
    go later bytes.Miss e = tt
    go later bytes.Below e = tt
    go later bytes.Outside e = omega arith
run_leaves memory (Tests a next) small h = go (run_leaves memory next small h) (memory.may_write a)
  where
    go : LeavesLongwords (run memory next) → (answer : MayWrite) → LeavesLongwords (after_test answer a (run memory next))
    go later tests.May = later
    go later tests.Miss = tt
    go later tests.Below = tt
    go later tests.Text = omega arith
    go later tests.Outside = omega arith
run_leaves memory _ small h = h
