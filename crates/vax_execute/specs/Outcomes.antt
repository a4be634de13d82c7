-- What operands and a computation come to in the code, and the effect that this stands for.
use Rattle.std.specs.Prelude.{◌≡◌, ℕ, ◌≤◌, ◌⊎◌, Bool, true, false, List, [], ◌∷◌, ◌++◌, take, drop, slice_index, Option, Some, None, Result, Ok, Err}
use Rattle.vm_facts.specs.Answers.{ByteWrite, longword_below, writes_down}
use Rattle.vm_facts.specs.declared.regs.Regs.{Regs}
use Rattle.vax_code.specs.declared.table.Name.{Name}
use Rattle.vax_code.specs.declared.table.Name.TheVariants as names
use Rattle.user_vax.specs.declared.operand.Evaluated.{Evaluated}
use Rattle.user_vax.specs.declared.refused.Refused.{Refused}
use Rattle.vax_execute.specs.declared.ready.Ready.{Ready}
use Rattle.vax_execute.specs.declared.outcome.Write.{Write}
use Rattle.vax_execute.specs.declared.outcome.Outcome.{Outcome}
use Rattle.vax_execute.specs.declared.pushes.Pushes.{Pushes}
use Rattle.user_vax.specs.Operands.{IsPlace, register}
use Rattle.user_vax.specs.Effects.{Effect, bytes_at}

-- ---- Numbers that go to memory.

-- 1, 2 or 4 bytes
abbrev pub IsSize : ℕ → Type 0
IsSize size = (size ≡ 1) ⊎ (size ≡ 2) ⊎ (size ≡ 4)

-- the bytes of a number, in the order of writing
abbrev pub bytes_of : Write → List ByteWrite
bytes_of write = bytes_at write.size write.address write.value

-- ---- The outcome of an instruction that calls no procedure.

-- the bytes that it writes
abbrev pub bytes_in : Option Write → List ByteWrite
bytes_in None = []
bytes_in (Some write) = bytes_of write

-- the effect that registers and an outcome stand for
abbrev pub effect_of : Regs → Outcome → Effect
effect_of regs outcome = record { regs = regs; writes = bytes_in outcome.write; call = outcome.call }

-- a number that is written, if there is one, has 1, 2 or 4 bytes
abbrev pub HasSize : Option Write → Type 0
HasSize None = Unit {0}
HasSize (Some write) = IsSize write.size

-- what it writes is a number of 1, 2 or 4 bytes
abbrev pub IsOutcome : Outcome → Type 0
IsOutcome outcome = HasSize outcome.write

-- nothing is written yet, and nothing called
pub record IsFresh (outcome : Outcome) : Type 0 where
  pub unwritten : outcome.write ≡ None
  pub uncalled : outcome.call ≡ None

-- ---- What a procedure call pushes.

-- the bytes of the count of arguments at its address, where it is pushed
abbrev pub counted_bytes : Option ℕ → ℕ → List ByteWrite
counted_bytes None count = []
counted_bytes (Some address) count = bytes_at 4 address count

-- the longwords of the frame, in order
abbrev pub frame_in : Pushes → List ℕ
frame_in pushes = take pushes.frame_length (drop 1 pushes.longwords)

-- the bytes that are pushed: the count of arguments, where it is pushed, and then the frame
abbrev pub pushed_bytes : Pushes → List ByteWrite
pushed_bytes pushes = counted_bytes pushes.counted_at (slice_index pushes.longwords 0) ++ writes_down pushes.top (frame_in pushes)

-- the address of the last of some longwords, of which the first lies just below an address; the address itself where there are none
abbrev pub lowest : ℕ → List ℕ → ℕ
lowest address [] = address
lowest address (longword ∷ longwords) = lowest (longword_below address) longwords

-- nothing is pushed yet
pub record IsUnpushed (pushes : Pushes) : Type 0 where
  pub uncounted : pushes.counted_at ≡ None
  pub unframed : pushes.frame_length ≡ 0

-- the frame has at most 17 longwords
abbrev pub ArePushes : Pushes → Type 0
ArePushes pushes = pushes.frame_length ≤ 17

-- SP stands at the last longword of the frame
abbrev pub IsAtFrame : Regs → Pushes → Type 0
IsAtFrame regs pushes = register regs 14 ≡ lowest pushes.top (frame_in pushes)

-- the effect so far: the registers, and all that was pushed
abbrev pub pushing : Regs → Pushes → Effect
pushing regs pushes = record { regs = regs; writes = pushed_bytes pushes; call = None }

-- ---- An instruction whose operands are evaluated.

-- its operands have places
pub record HasPlaces (ready : Ready) : Type 0 where
  pub first : IsPlace ready.a.place
  pub second : IsPlace ready.b.place
  pub third : IsPlace ready.c.place

-- the two that call a procedure, and push its frame
abbrev pub calls_procedure : Name → Bool
calls_procedure names.Callg = true
calls_procedure names.Calls = true
calls_procedure _ = false

-- ---- What the code came to. What it changes in place is worth something only where it isn't refused.

-- an effect
abbrev pub ComesTo : Result (Unit {0}) Refused → Effect → Result Effect Refused → Type 0
ComesTo (Ok done) effect wanted = wanted ≡ Ok effect
ComesTo (Err refused) effect wanted = wanted ≡ Err refused

-- an effect, by the registers and what was pushed
abbrev pub CallsTo : Result (Unit {0}) Refused → Regs → Pushes → Result Effect Refused → Type 0
CallsTo (Ok done) regs pushes wanted = wanted ≡ Ok (pushing regs pushes)
CallsTo (Err refused) regs pushes wanted = wanted ≡ Err refused

-- registers
abbrev pub Leaves : Result (Unit {0}) Refused → Regs → Result Regs Refused → Type 0
Leaves (Ok done) regs wanted = wanted ≡ Ok regs
Leaves (Err refused) regs wanted = wanted ≡ Err refused

-- registers and a value
abbrev pub LeavesWith : {A : Type 0} → Result A Refused → Regs → Result (Regs × A) Refused → Type 0
LeavesWith (Ok value) regs wanted = wanted ≡ Ok (regs, value)
LeavesWith (Err refused) regs wanted = wanted ≡ Err refused

-- registers and the three operands
abbrev pub LeavesOperands : Result Ready Refused → Regs → Result (Regs × Evaluated × Evaluated × Evaluated) Refused → Type 0
LeavesOperands (Ok ready) regs wanted = wanted ≡ Ok (regs, ready.a, ready.b, ready.c)
LeavesOperands (Err refused) regs wanted = wanted ≡ Err refused
